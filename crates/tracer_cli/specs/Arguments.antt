-- The command line, as clap's definitions read it: `tracer replay [FILE]`,
-- `tracer run [-f] [--seccomp-bpf] [-w N] [-s N] [-e NAMES] [FILE]`,
-- `tracer explore [--budget N] [--replay K] [--ends] [FILE]`, and `tracer --version`.
use Rattle.std.specs.Borrow.{Bor}
use Rattle.std.specs.Prelude.{◌≡◌, ◌≢◌, ◌≤◌, ◌⊎◌, ◌∷◌, [], ℕ, Bool, true, false, IsTrue, IsFalse, List}
use Rattle.std.specs.Prelude.{Option, Some, None, Result, Ok, Err, codes, option_map, pos, string_bytes}
use Rattle.std.specs.Option.{option_map_or}
use Rattle.std.specs.Str.{bytes_eq}
use Rattle.std.specs.Str.Parse.{digits_value, without_leading_plus}
use Rattle.clap.specs.Simple.{with_rule, with_subcommand}
use Rattle.clap.specs.Values.{IsUnsignedIn}
use Rattle.clap.specs.Walk.{Row, Rule, Text, first_of, one_of}
use Rattle.clap.specs.Words.{App, IsAmong, fault_of, new_app, new_rule, subcommand_of}
use Rattle.clap.specs.declared.error.kind.ErrorKind.{ErrorKind}
use Rattle.clap.specs.declared.error.kind.ErrorKind.TheVariants as kind
use Rattle.clap.specs.declared.builder.ArgAction.TheVariants.{Set, SetTrue}
use Rattle.clap.specs.declared.builder.value_parser.ValueParser.TheVariants.{Signed}
use Rattle.stop_history.specs.declared.limits.TheConstants.{TRACERS}
use Rattle.tracer_cli.specs.declared.arguments.Request.{Request}
use Rattle.tracer_cli.specs.declared.arguments.Request.TheVariants.{Replay, Run, Explore, Help}
use Rattle.tracer_cli.specs.declared.arguments.ExploreOptions.{ExploreOptions}
use Rattle.tracer_cli.specs.declared.arguments.Listing.{Listing}
use Rattle.tracer_cli.specs.declared.arguments.Listing.TheVariants as listing
use Rattle.tracer_cli.specs.declared.arguments.RunOptions.{RunOptions}
use Rattle.tracer_cli.specs.declared.arguments.TheConstants.{MOST_PLACES, MOST_SHOWN}
use Rattle.tracer_cli.specs.declared.failure.Failure.{Failure}
use Rattle.tracer_cli.specs.declared.failure.Failure.TheVariants.{NoMemory, Usage}

-- ---- what clap is told

abbrev pub file_rule : Rule
file_rule = record (new_rule (codes "FILE")) { action = Some Set }

abbrev pub flag_rule : Text → Rule
flag_rule id = record (new_rule id) { action = Some SetTrue }

-- a number from `low` to `most`
abbrev pub number_rule : Text → (short low most : ℕ) → (default : Text) → Rule
number_rule id short low most default = record (new_rule id) {
  short = Some short;
  action = Some Set;
  value_names = 1;
  parser = Some (Signed (pos low) (pos most));
  defaults = default ∷ [];
}

abbrev pub follow_rule : Rule
follow_rule = record (flag_rule (codes "follow")) { short = Some 102 }

abbrev pub seccomp_rule : Rule
seccomp_rule = record (flag_rule (codes "seccomp-bpf")) { long = Some (codes "seccomp-bpf") }

abbrev pub workers_rule : Rule
workers_rule = number_rule (codes "workers") 119 1 TRACERS (codes "4")

abbrev pub limit_rule : Rule
limit_rule = number_rule (codes "limit") 115 0 MOST_SHOWN (codes "32")

abbrev pub names_rule : Rule
names_rule = record (new_rule (codes "names")) { short = Some 101; action = Some Set; value_names = 1 }

-- a number from 1 to `most`, with its name alone
abbrev pub long_rule : Text → (most : ℕ) → Rule
long_rule id most = record (new_rule id) {
  long = Some id;
  action = Some Set;
  value_names = 1;
  parser = Some (Signed (pos 1) (pos most));
}

abbrev pub budget_rule : Rule
budget_rule = record (long_rule (codes "budget") MOST_PLACES) { defaults = codes "1000000" ∷ [] }

abbrev pub outcome_rule : Rule
outcome_rule = long_rule (codes "replay") MOST_PLACES

abbrev pub ends_rule : Rule
ends_rule = record (flag_rule (codes "ends")) { long = Some (codes "ends") }

abbrev pub replay_app : App
replay_app = with_rule (new_app (codes "replay")) file_rule

abbrev pub run_app : App
run_app =
    with_rule
    (with_rule (with_rule (with_rule (with_rule (with_rule (new_app (codes "run")) follow_rule) seccomp_rule)
    workers_rule) limit_rule) names_rule)
    file_rule

abbrev pub explore_app : App
explore_app =
    with_rule (with_rule (with_rule (with_rule (new_app (codes "explore")) budget_rule) outcome_rule) ends_rule)
    file_rule

abbrev pub has_version : App → App
has_version app = record app { top = record app.top { has_version = true } }

abbrev pub wants_subcommand : App → App
wants_subcommand app = record app { top = record app.top { subcommand_required = true } }

abbrev pub tracer_app : App
tracer_app =
    with_subcommand
    (with_subcommand (with_subcommand (wants_subcommand (has_version (new_app (codes "tracer")))) replay_app.top)
    run_app.top)
    explore_app.top

-- ---- what the words name

-- a subcommand's name, and what was found for each of its arguments
abbrev pub FoundSubcommand : Type 0
FoundSubcommand = Option (Text × List Row)

abbrev pub is_run : FoundSubcommand → Bool
is_run found = option_map_or (λ f. bytes_eq f.0 (codes "run")) found false

abbrev pub is_explore : FoundSubcommand → Bool
is_explore found = option_map_or (λ f. bytes_eq f.0 (codes "explore")) found false

abbrev pub rows_in : FoundSubcommand → List Row
rows_in found = option_map_or (λ f. f.1) found []

abbrev pub file_in : FoundSubcommand → Option Text
file_in found = first_of (codes "FILE") (rows_in found)

-- a flag, by the text that clap has for it
abbrev pub IsFlag : Option Text → Bool → Type 0
IsFlag None flag = flag ≡ false
IsFlag (Some text) flag = (text ≡ codes "true" → flag ≡ true) × (text ≡ codes "false" → flag ≡ false)

-- a number in a range, by the text that clap has for it; clap refuses every other text
abbrev pub IsNumber : (low most : ℕ) → Option Text → ℕ → Type 0
IsNumber low most None n = Unit {0}
IsNumber low most (Some text) n = IsUnsignedIn low most text → n ≡ digits_value 10 (without_leading_plus text)

-- the options of a run
pub record AreOptions (rows : List Row) (options : RunOptions) : Type 0 where
  pub follow : IsFlag (one_of (codes "follow") rows) options.follow
  pub seccomp : IsFlag (one_of (codes "seccomp-bpf") rows) options.seccomp
  pub workers : IsNumber 1 TRACERS (one_of (codes "workers") rows) options.workers
  pub some_workers : (1 ≤ options.workers) × (options.workers ≤ TRACERS)
  pub limit : IsNumber 0 MOST_SHOWN (one_of (codes "limit") rows) options.limit
  pub names : option_map (λ list. list.now) options.names ≡ first_of (codes "names") rows

-- a number from 1 that may be left out
abbrev pub IsOptionalNumber : (most : ℕ) → Option Text → Option ℕ → Type 0
IsOptionalNumber most None place = place ≡ None
IsOptionalNumber most (Some text) place =
    IsUnsignedIn 1 most text → place ≡ Some (digits_value 10 (without_leading_plus text))

-- what is printed, by the two options that say it, which do not go together
abbrev pub listing_of : (ends : Bool) → (outcome : Option ℕ) → Option Listing
listing_of false None = Some listing.Outcomes
listing_of true None = Some listing.Ends
listing_of false (Some number) = Some (listing.Replay number)
listing_of true (Some number) = None

-- the two options as they are asked for
pub record AreListings (rows : List Row) (ends : Bool) (outcome : Option ℕ) : Type 0 where
  pub flag : IsFlag (one_of (codes "ends") rows) ends
  pub number : IsOptionalNumber MOST_PLACES (one_of (codes "replay") rows) outcome

-- the options of an exploration
pub record AreExploreOptions (rows : List Row) (options : ExploreOptions) : Type 0 where
  pub budget : IsNumber 1 MOST_PLACES (one_of (codes "budget") rows) options.budget
  pub ends : Bool
  pub outcome : Option ℕ
  pub asked : AreListings rows ends outcome
  pub listing : listing_of ends outcome ≡ Some options.listing

-- both are asked for
pub record AskBoth (rows : List Row) : Type 0 where
  pub ends : Bool
  pub outcome : Option ℕ
  pub asked : AreListings rows ends outcome
  pub clash : listing_of ends outcome ≡ None

abbrev pub AreAskedOptions : List Row → Option ExploreOptions → Type 0
AreAskedOptions rows None = AskBoth rows
AreAskedOptions rows (Some options) = AreExploreOptions rows options

abbrev pub IsNamed : FoundSubcommand → Request → Type 0
IsNamed found (Replay file) =
    (is_run found ≡ false) × (is_explore found ≡ false) × (option_map (λ text. text.now) file ≡ file_in found)
IsNamed found (Explore options file) =
    (is_run found ≡ false) × (is_explore found ≡ true) × AreExploreOptions (rows_in found) options
    × (option_map (λ text. text.now) file ≡ file_in found)
IsNamed found (Run options file) =
    (is_run found ≡ true) × AreOptions (rows_in found) options × (option_map (λ text. text.now) file ≡ file_in found)
IsNamed found (Help text) = ⊥

-- of an exploration, where both are asked for that do not go together
abbrev pub IsContradictory : FoundSubcommand → Type 0
IsContradictory found = (is_run found ≡ false) × (is_explore found ≡ true) × AskBoth (rows_in found)

-- what is said then
abbrev pub ends_or_replay : Text
ends_or_replay =
    codes "error: the argument '--ends' cannot be used with '--replay <K>'\n\nFor more information, try '--help'.\n"

abbrev pub IsNamedBy : FoundSubcommand → Result Request Failure → Type 0
IsNamedBy found (Ok request) = IsNamed found request
IsNamedBy found (Err (Usage text)) = IsContradictory found × (string_bytes text ≡ ends_or_replay)
IsNamedBy found (Err NoMemory) = Unit {0}
IsNamedBy found (Err failure) = ⊥

-- of an exploration, by what was found for its arguments
abbrev pub IsExploreRequest : List Row → (file : Option (Bor Text)) → Result Request Failure → Type 0
IsExploreRequest rows file (Ok (Explore options named)) = AreExploreOptions rows options × (named ≡ file)
IsExploreRequest rows file (Err (Usage text)) = AskBoth rows × (string_bytes text ≡ ends_or_replay)
IsExploreRequest rows file (Err NoMemory) = Unit {0}
IsExploreRequest rows file other = ⊥

-- ---- what the words ask for

-- help and the version are shown on standard output, every other error of the words on standard error
abbrev pub shows_text : ErrorKind → Bool
shows_text kind.DisplayHelp = true
shows_text kind.DisplayVersion = true
shows_text other = false

abbrev pub IsHelp : Request → Type 0
IsHelp (Help text) = Unit {0}
IsHelp other = ⊥

-- the failure at an error of this kind
abbrev pub IsFailureBy : ErrorKind → Failure → Type 0
IsFailureBy of (Usage text) = (of ≢ kind.OutOfMemory) × IsFalse (shows_text of)
IsFailureBy of NoMemory = Unit {0}
IsFailureBy of failure = ⊥

-- words that clap finds no fault in
abbrev pub HaveNoFault : (words : List Text) → Type 0
HaveNoFault words = fault_of tracer_app words ≡ []

-- words with a fault whose text is shown: they ask for help or the version
abbrev pub HaveShownFault : (words : List Text) → Type 0
HaveShownFault words = (of : ErrorKind) × IsAmong of (fault_of tracer_app words) × IsTrue (shows_text of)

-- words with a fault that is reported: they are wrong
abbrev pub HaveReportedFault : (words : List Text) → Type 0
HaveReportedFault words = (of : ErrorKind) × IsAmong of (fault_of tracer_app words) × IsFalse (shows_text of)

-- words without a fault that may ask for two things which do not go together
abbrev pub MayContradict : (words : List Text) → Type 0
MayContradict words = HaveNoFault words × IsContradictory (subcommand_of tracer_app words)

-- what any words ask for, by clap's definitions of when words fail and of what they match: a replay, a run or an
-- exploration, as they name it, only of words that do not fail; help or wrong use by a kind of error that they fail
-- with; wrong use of words that ask for two things which do not go together, with its text; or there is no memory
abbrev pub IsAskedBy : (words : List Text) → Result Request Failure → Type 0
IsAskedBy words (Ok (Help text)) = HaveShownFault words
IsAskedBy words (Ok request) = HaveNoFault words × IsNamed (subcommand_of tracer_app words) request
IsAskedBy words (Err (Usage text)) =
    HaveReportedFault words ⊎ (MayContradict words × (string_bytes text ≡ ends_or_replay))
IsAskedBy words (Err NoMemory) = Unit {0}
IsAskedBy words (Err failure) = ⊥

-- words of a replay, of a run, or of an exploration, of standard input
abbrev pub AskReplay : (words : List Text) → Type 0
AskReplay words = HaveNoFault words × (is_run (subcommand_of tracer_app words) ≡ false)
    × (is_explore (subcommand_of tracer_app words) ≡ false) × (file_in (subcommand_of tracer_app words) ≡ None)

abbrev pub AskExplore : (words : List Text) → Type 0
AskExplore words = HaveNoFault words × (is_run (subcommand_of tracer_app words) ≡ false)
    × (is_explore (subcommand_of tracer_app words) ≡ true) × (¬ AskBoth (rows_in (subcommand_of tracer_app words)))
    × (file_in (subcommand_of tracer_app words) ≡ None)

abbrev pub AskRun : (words : List Text) → Type 0
AskRun words = HaveNoFault words × (is_run (subcommand_of tracer_app words) ≡ true)
    × (file_in (subcommand_of tracer_app words) ≡ None)

-- words of help or the version: they have a fault, and none that is reported
abbrev pub AskText : (words : List Text) → Type 0
AskText words = (¬ HaveNoFault words) × (¬ HaveReportedFault words)

-- words of standard input, whatever is to be done with it
abbrev pub AskInput : (words : List Text) → Type 0
AskInput words = HaveNoFault words × (file_in (subcommand_of tracer_app words) ≡ None)

-- the options that words of a run name
abbrev pub AreOptionsOf : (words : List Text) → RunOptions → Type 0
AreOptionsOf words options = AreOptions (rows_in (subcommand_of tracer_app words)) options

abbrev pub AreExploreOptionsOf : (words : List Text) → ExploreOptions → Type 0
AreExploreOptionsOf words options = AreExploreOptions (rows_in (subcommand_of tracer_app words)) options

-- words of an exploration that ask for two things which do not go together: they name no options
abbrev pub Contradict : (words : List Text) → Type 0
Contradict words = HaveNoFault words × (is_run (subcommand_of tracer_app words) ≡ false)
    × (is_explore (subcommand_of tracer_app words) ≡ true)
    × (¬ ((options : ExploreOptions) × AreExploreOptionsOf words options))

-- what `explore` asks for
pub record IsExploredWhole (options : ExploreOptions) : Type 0 where
  pub budget : options.budget ≡ 1000000
  pub listing : options.listing ≡ listing.Outcomes

-- what `run -f` asks for
pub record IsFollowed (options : RunOptions) : Type 0 where
  pub follow : options.follow ≡ true
  pub seccomp : options.seccomp ≡ false
  pub workers : options.workers ≡ 4
  pub limit : options.limit ≡ 32
  pub names : options.names ≡ None
