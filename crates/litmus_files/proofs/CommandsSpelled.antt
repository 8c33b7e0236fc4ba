-- The words of each command of a thread say that command.
use Rattle.std.proofs.Common.{refl, ◌≡◌, ◌<◌, ◌≤◌, ◌∷◌, [], ℕ, Bool, true, false, List, None}
use Rattle.std.proofs.Common.{Result, Ok, ap, arith, bytes_eq, codes, cond, decimal, drop, length, option_map, sym}
use Rattle.std.proofs.Common.{take, ◌+◌, ◌∙◌, lit<}
use Rattle.std.proofs.lemmas.List.Elements.{All-from_recursion}
use Rattle.std.specs.List.{AllByRecursion, join_with_byte}
use Rattle.std.specs.Option.{ok_or}
use Rattle.trace_record.specs.Death.{IsDeath}
use Rattle.trace_record.specs.Resume.{IsResume}
use Rattle.trace_record.specs.Stop.{IsStop}
use Rattle.trace_record.specs.declared.death.Death.{Death}
use Rattle.trace_record.specs.declared.death.Death.TheVariants as death
use Rattle.trace_record.specs.declared.resume.Kind.{Kind}
use Rattle.trace_record.specs.declared.resume.Kind.TheVariants as kind
use Rattle.trace_record.specs.declared.resume.Resume.{Resume as Restart}
use Rattle.trace_record.specs.declared.stop.Stop.{Stop}
use Rattle.trace_record.specs.declared.stop.Stop.TheVariants as stop
use Rattle.trace_options.specs.declared.signal.TheConstants.{LAST_SIGNAL}
use Rattle.stop_history.proofs.Rosters.{row_of-tid, tid_in_range}
use Rattle.stop_history.specs.declared.limits.TheConstants.{LAST_ID, TRACERS}
use Rattle.stop_history.specs.declared.roster.Row.{Row}
use Rattle.stop_history.specs.Roster.{IsRoster, is_id, row_at}
use Rattle.stop_program.specs.declared.board_call.BoardCall.{BoardCall}
use Rattle.stop_program.specs.declared.board_call.BoardCall.TheVariants as call
use Rattle.stop_program.specs.declared.command.Which.{Which}
use Rattle.stop_program.specs.declared.command.Which.TheVariants as which
use Rattle.text_lines.proofs.Cuts.{first_nowhere}
use Rattle.text_lines.proofs.Decimals.{decimal_between, is_no_word}
use Rattle.text_lines.proofs.Spelled.{AreWords, is_word}
use Rattle.text_lines.specs.declared.fault.LineFault.{LineFault}
use Rattle.text_lines.specs.Numbers.{number_of}
use Rattle.text_lines.specs.Ranges.{◌>>=◌}
use Rattle.text_lines.specs.Words.{split_at}
use Rattle.trace_script.proofs.RowsBack.{ends_id, id_ends, id_read, id_word, up_to_last}
use Rattle.trace_script.specs.RowWords.{id_of}
use Rattle.trace_script.specs.declared.cause.Cause.TheVariants.{NoSuchTracee}
use Rattle.replay_files.proofs.LinesBack.{command_are_words, command_line_read, kind_is_word, kind_read, tracer_read}
use Rattle.replay_files.specs.declared.command.Command.TheVariants as command
use Rattle.replay_files.specs.Grammar.{tracer_number}
use Rattle.replay_files.specs.Spelling.{IsSpelledStop, command_words, death_words, kind_word, stop_words}
use Rattle.litmus_files.specs.declared.keyword.CommandKeyword.{CommandKeyword}
use Rattle.litmus_files.specs.declared.keyword.CommandKeyword.TheVariants.{Publish, Exit, State, Claim, Wait, Look}
use Rattle.litmus_files.specs.declared.keyword.CommandKeyword.TheVariants.{ExitGroup, Kill, Peek, Resume}
use Rattle.litmus_files.specs.declared.keyword.LitmusKeyword.TheVariants as keyword
use Rattle.litmus_files.specs.declared.line.Aim.{Aim}
use Rattle.litmus_files.specs.declared.line.Aim.TheVariants as aim
use Rattle.litmus_files.specs.declared.line.LitmusCommand.{LitmusCommand}
use Rattle.litmus_files.specs.declared.line.Within.TheVariants as within
use Rattle.litmus_files.specs.CommandText.{board_call_words, tracee_word}
use Rattle.litmus_files.specs.LitmusFile.{which_of}
use Rattle.litmus_files.specs.LitmusGrammar.{IsLitmusCall, any_or_tid, as_in_replay, asking, bare_command_of}
use Rattle.litmus_files.specs.LitmusGrammar.{claim_call, claim_command, claim_of_words, command_parted, group_aim}
use Rattle.litmus_files.specs.LitmusGrammar.{it_or_tid, litmus_line_of, litmus_rest_of, resume_of_words}
use Rattle.litmus_files.specs.LitmusLine.{Said}
use Rattle.litmus_files.specs.LitmusLine as line
use Rattle.litmus_files.specs.LitmusSpelling.{IsSpelledCall, IsSpelledWait, IsSpelledWhich, IsTarget}

-- ---- no reply

-- no word is the sign before a reply
abbrev HaveNoSign : List (List ℕ) → Type 0
HaveNoSign words = AllByRecursion (λ word. bytes_eq word (codes "=") ≡ false) words

no_sign : (n : ℕ) → n ≤ LAST_ID → bytes_eq (decimal n) (codes "=") ≡ false
no_sign n most = is_no_word n (codes "=") (omega arith) refl

death_has_none : (d : Death) → IsDeath d → HaveNoSign (death_words d)
death_has_none (death.Exited n) range = (refl, (no_sign n (omega arith), tt))
death_has_none (death.Signaled n core) range = (refl, (no_sign n (omega arith), tt))

stop_has_none : (s : Stop) → IsStop s → IsSpelledStop s → HaveNoSign (stop_words s)
stop_has_none stop.Start range spelled = (refl, tt)
stop_has_none stop.Enter range spelled = (refl, tt)
stop_has_none stop.Exit range spelled = (refl, tt)
stop_has_none (stop.Seccomp n) range spelled = (refl, (no_sign n (omega arith), tt))
stop_has_none (stop.Fork n) range spelled = (refl, (no_sign n (id_ends n spelled).1, tt))
stop_has_none (stop.Clone n) range spelled = (refl, (no_sign n (id_ends n spelled).1, tt))
stop_has_none (stop.Exec n) range spelled = (refl, (no_sign n (id_ends n spelled).1, tt))
stop_has_none (stop.Signal n) range spelled = (refl, (no_sign n (omega arith), tt))
stop_has_none (stop.Ending d) range spelled = (refl, death_has_none d range)

without_sign : (word : CommandKeyword) (words : List (List ℕ)) (said : LitmusCommand) → HaveNoSign words
    → bare_command_of word words ≡ Ok said → litmus_rest_of (keyword.Command word) words ≡ Ok (line.Command said)
without_sign word words said none is =
    let one : split_at (codes "=") words ≡ None =
    ap (option_map (λ i. (take i words, drop (i + 1) words)))
    (first_nowhere (λ w. bytes_eq w (codes "=")) [] words
    (λ k l. All-from_recursion (λ w. bytes_eq w (codes "=") ≡ false) words none k [] l)) in
    ap (λ parts. command_parted word words parts >>= λ command. Ok (line.Command command)) one
    ∙ ap (λ r. r >>= λ command. Ok (line.Command command)) is

-- ---- tracees

known_id : (rows : List Row) (row : ℕ) → IsRoster rows → row < length rows → is_id (row_at rows row).tid ≡ true
known_id rows row roster there =
    let ends = tid_in_range rows roster row there in ends_id (row_at rows row).tid ends.0 ends.1

known_row : (rows : List Row) (row : ℕ) → IsRoster rows → row < length rows
    → which_of rows (aim.Tid (row_at rows row).tid) ≡ Ok (which.Row row)
known_row rows row roster there =
    ap (λ found. ok_or found NoSuchTracee >>= λ row. Ok (which.Row row)) (row_of-tid rows roster row there)

-- a tid is read where another word may be
tid_said : (n : ℕ) (word : List ℕ) (other : Aim) → is_id n ≡ true → number_of word ≡ None
    → cond (bytes_eq (decimal n) word) (Ok other) (id_of (decimal n) >>= λ t. Ok (aim.Tid t)) ≡ Ok (aim.Tid n)
tid_said n word other id none =
    let most = (id_ends n id).1 in
    ap (λ b. cond b (Ok other) (id_of (decimal n) >>= λ t. Ok (aim.Tid t)))
    (is_no_word n word (omega (arith, most)) none)
    ∙ ap (λ r. r >>= λ t. Ok (aim.Tid t)) (id_read n id)

abbrev pub aim_of : List Row → Which → Aim
aim_of rows (which.Row row) = aim.Tid (row_at rows row).tid
aim_of rows which.Any = aim.Any
aim_of rows (which.Group pgid) = aim.Group pgid
aim_of rows which.Last = aim.It

-- ---- a command, and its line

abbrev pub said_of : List Row → Which → (waits : Bool) → BoardCall → LitmusCommand
said_of rows about waits asked = record { aim = aim_of rows about; call = asked; waits = waits; reply = None }

-- the words of a line, what they say, and that its tracee is the one that is meant
pub record IsLineOf (rows : List Row) (about : Which) (text : List ℕ) (said : LitmusCommand) : Type 0 where
  pub words : List (List ℕ)
  pub joined : text ≡ join_with_byte 32 words
  pub are : AreWords words
  pub says : litmus_line_of within.Thread words ≡ Ok (line.Command said)
  pub means : which_of rows said.aim ≡ Ok about

-- a line says whether its command waits
in_time : (read : Result Said LineFault) (said : LitmusCommand) (waits : Bool) → read ≡ Ok (line.Command said)
    → waits ≡ said.waits → read ≡ Ok (line.Command (record said { waits = waits }))
in_time read said waits is same = is ∙ ap (λ w. Ok (line.Command (record said { waits = w }))) (sym same)

-- ---- claims and looks

abbrev target_words : List Row → Which → (tracer : ℕ) → List (List ℕ)
target_words rows (which.Row row) c = decimal (row_at rows row).tid ∷ decimal c ∷ []
target_words rows which.Any c = codes "any" ∷ decimal c ∷ []
target_words rows (which.Group pgid) c = codes "group" ∷ decimal pgid ∷ decimal c ∷ []
target_words rows which.Last c = codes "it" ∷ decimal c ∷ []

record IsTargetSaid (rows : List Row) (about : Which) (word : CommandKeyword) (c : ℕ) : Type 0 where
  are : AreWords (target_words rows about c)
  none : HaveNoSign (target_words rows about c)
  says : claim_of_words word (target_words rows about c) ≡ Ok (asking word (aim_of rows about) (claim_call word c))
  means : which_of rows (aim_of rows about) ≡ Ok about

claim_said : (word : CommandKeyword) (about : Result Aim LineFault) (a : Aim) (c : ℕ) → about ≡ Ok a → c < TRACERS
    → claim_command word about (decimal c) ≡ Ok (asking word a (claim_call word c))
claim_said word about a c is some =
    ap (λ r. r >>= λ a. tracer_number (decimal c) >>= λ c. Ok (asking word a (claim_call word c))) is
    ∙ ap (λ r. r >>= λ c. Ok (asking word a (claim_call word c))) (tracer_read c some)

target_said : (rows : List Row) (about : Which) (word : CommandKeyword) (c : ℕ) → IsRoster rows → IsTarget rows about
    → c < TRACERS → IsTargetSaid rows about word c
target_said rows (which.Row row) word c roster there some =
    let tid : ℕ = (row_at rows row).tid in
    let id = known_id rows row roster there in
    record {
      are = (id_word tid id, (up_to_last c (omega arith), tt));
      none = (no_sign tid (id_ends tid id).1, (no_sign c (omega arith), tt));
      says = claim_said word (any_or_tid (decimal tid)) (aim.Tid tid) c
          (tid_said tid (codes "any") aim.Any id refl) some;
      means = known_row rows row roster there;
    }
target_said rows which.Any word c roster there some = record {
  are = (refl, (up_to_last c (omega arith), tt));
  none = (refl, (no_sign c (omega arith), tt));
  says = claim_said word (any_or_tid (codes "any")) aim.Any c refl some;
  means = refl;
}
target_said rows (which.Group pgid) word c roster there some = record {
  are = (refl, (id_word pgid there, (up_to_last c (omega arith), tt)));
  none = (refl, (no_sign pgid (id_ends pgid there).1, (no_sign c (omega arith), tt)));
  says = claim_said word (group_aim (decimal pgid)) (aim.Group pgid) c
      (ap (λ r. r >>= λ g. Ok (aim.Group g)) (id_read pgid there)) some;
  means = refl;
}
target_said rows which.Last word c roster there some = absurd there

-- `group PGID` is two words
target_joined : (verb : List ℕ) (rows : List Row) (about : Which) (c : ℕ)
    → join_with_byte 32 (verb ∷ tracee_word rows about ∷ decimal c ∷ [])
    ≡ join_with_byte 32 (verb ∷ target_words rows about c)
target_joined verb rows (which.Row row) c = refl
target_joined verb rows which.Any c = refl
target_joined verb rows (which.Group pgid) c = refl
target_joined verb rows which.Last c = refl

claim_line : (verb : List ℕ) (word : CommandKeyword) (rows : List Row) (about : Which) (c : ℕ) → is_word verb ≡ true
    → ((words : List (List ℕ)) → litmus_line_of within.Thread (verb ∷ words)
    ≡ litmus_rest_of (keyword.Command word) words)
    → ((words : List (List ℕ)) → bare_command_of word words ≡ claim_of_words word words)
    → IsRoster rows → IsTarget rows about → c < TRACERS
    → IsLineOf rows about (join_with_byte 32 (verb ∷ tracee_word rows about ∷ decimal c ∷ []))
    (asking word (aim_of rows about) (claim_call word c))
claim_line verb word rows about c is begins claims roster there some =
    let words : List (List ℕ) = target_words rows about c in
    let said = target_said rows about word c roster there some in
    record {
      words = verb ∷ words;
      joined = target_joined verb rows about c;
      are = (is, said.are);
      says = begins words ∙ without_sign word words (asking word (aim_of rows about) (claim_call word c)) said.none
          (claims words ∙ said.says);
      means = said.means;
    }

-- ---- resumes

kind_has_none : (k : Kind) → bytes_eq (kind_word k) (codes "=") ≡ false
kind_has_none kind.Syscall = refl
kind_has_none kind.Cont = refl

resume_said : (named : List ℕ) (a : Aim) (c : ℕ) (how : Restart) → it_or_tid named ≡ Ok a → c < TRACERS → IsResume how
    → resume_of_words (named ∷ decimal c ∷ kind_word how.kind ∷ decimal how.signal ∷ [])
    ≡ Ok (asking Resume a (call.Resume c how))
resume_said named a c how is some range =
    rw (
      kind_read how.kind,
      is,
      tracer_read c some,
      decimal_between 0 LAST_SIGNAL how.signal (omega arith) range (lit< tt),
    ) refl

resume_line : (rows : List Row) (about : Which) (c : ℕ) (how : Restart) (waits : Bool) → c < TRACERS → IsResume how
    → is_word (tracee_word rows about) ≡ true → bytes_eq (tracee_word rows about) (codes "=") ≡ false
    → it_or_tid (tracee_word rows about) ≡ Ok (aim_of rows about) → which_of rows (aim_of rows about) ≡ Ok about
    → waits ≡ false
    → IsLineOf rows about (join_with_byte 32 (board_call_words (tracee_word rows about) waits (call.Resume c how)))
    (said_of rows about waits (call.Resume c how))
resume_line rows about c how waits some range is none says means waiting =
    let named : List ℕ = tracee_word rows about in
    let said : LitmusCommand = asking Resume (aim_of rows about) (call.Resume c how) in
    record {
      words = board_call_words named waits (call.Resume c how);
      joined = refl;
      are = (
        refl,
        (is, (up_to_last c (omega arith), (kind_is_word how.kind, (up_to_last how.signal (omega arith), tt)))),
      );
      says = in_time _ said waits
          (without_sign Resume (named ∷ decimal c ∷ kind_word how.kind ∷ decimal how.signal ∷ []) said
          (none, (no_sign c (omega arith), (kind_has_none how.kind, (no_sign how.signal (omega arith), tt))))
          (resume_said named (aim_of rows about) c how says some range)) waiting;
      means = means;
    }

-- ---- all commands

pub command_line : (rows : List Row) (asked : BoardCall) (about : Which) (waits : Bool) → IsRoster rows
    → IsLitmusCall asked → IsSpelledCall asked → IsSpelledWhich rows asked about → IsSpelledWait asked waits
    → IsLineOf rows about (join_with_byte 32 (board_call_words (tracee_word rows about) waits asked))
    (said_of rows about waits asked)
command_line rows (call.Publish s) (which.Row row) waits roster asks spelled there waiting =
    let tid : ℕ = (row_at rows row).tid in
    let id = known_id rows row roster there in
    let said : LitmusCommand = asking Publish (aim.Tid tid) (call.Publish s) in
    record {
      words = command_words tid (command.Publish s);
      joined = refl;
      are = command_are_words tid (command.Publish s) id asks.0 spelled;
      says = in_time _ said waits
          (without_sign Publish (decimal tid ∷ stop_words s) said
          (no_sign tid (id_ends tid id).1, stop_has_none s asks.0 spelled)
          (ap (λ r. r >>= as_in_replay Publish) (command_line_read true tid (command.Publish s) id asks.0 spelled)))
          waiting;
      means = known_row rows row roster there;
    }
command_line rows (call.Exit d) (which.Row row) waits roster asks spelled there waiting =
    let tid : ℕ = (row_at rows row).tid in
    let id = known_id rows row roster there in
    let said : LitmusCommand = asking Exit (aim.Tid tid) (call.Exit d) in
    record {
      words = command_words tid (command.Exit d);
      joined = refl;
      are = command_are_words tid (command.Exit d) id asks.0 spelled;
      says = in_time _ said waits
          (without_sign Exit (decimal tid ∷ death_words d) said
          (no_sign tid (id_ends tid id).1, death_has_none d asks.0)
          (ap (λ r. r >>= as_in_replay Exit) (command_line_read true tid (command.Exit d) id asks.0 spelled))) waiting;
      means = known_row rows row roster there;
    }
command_line rows call.State (which.Row row) waits roster asks spelled there waiting =
    let tid : ℕ = (row_at rows row).tid in
    let id = known_id rows row roster there in
    let said : LitmusCommand = asking State (aim.Tid tid) call.State in
    record {
      words = command_words tid command.State;
      joined = refl;
      are = command_are_words tid command.State id tt tt;
      says = in_time _ said waits
          (without_sign State (decimal tid ∷ []) said (no_sign tid (id_ends tid id).1, tt)
          (ap (λ r. r >>= as_in_replay State) (command_line_read true tid command.State id tt tt))) waiting;
      means = known_row rows row roster there;
    }
command_line rows (call.Resume c how) (which.Row row) waits roster asks spelled there waiting =
    let tid : ℕ = (row_at rows row).tid in
    let id = known_id rows row roster there in
    resume_line rows (which.Row row) c how waits asks.1 asks.0 (id_word tid id) (no_sign tid (id_ends tid id).1)
    (tid_said tid (codes "it") aim.It id refl) (known_row rows row roster there) waiting
command_line rows (call.Resume c how) which.Last waits roster asks spelled there waiting =
    resume_line rows which.Last c how waits asks.1 asks.0 refl refl refl refl waiting
command_line rows call.Kill (which.Row row) waits roster asks spelled there waiting =
    let tid : ℕ = (row_at rows row).tid in
    let id = known_id rows row roster there in
    let said : LitmusCommand = asking Kill (aim.Tid tid) call.Kill in
    record {
      words = codes "kill" ∷ decimal tid ∷ [];
      joined = refl;
      are = (refl, (id_word tid id, tt));
      says = in_time _ said waits
          (without_sign Kill (decimal tid ∷ []) said (no_sign tid (id_ends tid id).1, tt)
          (ap (λ r. r >>= λ t. Ok (asking Kill (aim.Tid t) call.Kill)) (id_read tid id))) waiting;
      means = known_row rows row roster there;
    }
command_line rows (call.ExitGroup code) (which.Row row) waits roster asks spelled there waiting =
    let tid : ℕ = (row_at rows row).tid in
    let id = known_id rows row roster there in
    let said : LitmusCommand = asking ExitGroup (aim.Tid tid) (call.ExitGroup code) in
    record {
      words = codes "exit_group" ∷ decimal tid ∷ decimal code ∷ [];
      joined = refl;
      are = (refl, (id_word tid id, (up_to_last code (omega arith), tt)));
      says = in_time _ said waits
          (without_sign ExitGroup (decimal tid ∷ decimal code ∷ []) said
          (no_sign tid (id_ends tid id).1, (no_sign code (omega arith), tt))
          (rw (id_read tid id, decimal_between 0 255 code (omega arith) (omega (arith, asks)) (lit< tt)) refl)) waiting;
      means = known_row rows row roster there;
    }
command_line rows (call.Look c) about true roster asks spelled there waiting =
    claim_line (codes "look") Look rows about c refl (λ words. refl) (λ words. refl) roster there asks.1
command_line rows (call.Look c) about false roster asks spelled there waiting =
    claim_line (codes "peek") Peek rows about c refl (λ words. refl) (λ words. refl) roster there asks.1
command_line rows (call.Claim c) about true roster asks spelled there waiting =
    claim_line (codes "wait") Wait rows about c refl (λ words. refl) (λ words. refl) roster there asks.1
command_line rows (call.Claim c) about false roster asks spelled there waiting =
    claim_line (codes "claim") Claim rows about c refl (λ words. refl) (λ words. refl) roster there asks.1
command_line rows asked about waits roster asks spelled there waiting = absurd there
