-- Clap's getters and builders: what was found for a subcommand's arguments, and arguments that are not global.
use Rattle.std.proofs.Common.{refl, ◌≡◌, ◌∙◌, ◌||◌, ap, ap₂, sym, true, false, Bool, codes, List, Option, Some, None, Bor}
use Rattle.std.proofs.Common.{Result, Ok, Err}
use Rattle.std.specs.Prelude.{Box, option_map}
use Rattle.std.specs.Box.{box_value}
use Rattle.clap.specs.Simple.{subcommand_rows}
use Rattle.clap.specs.Words.{AddsArg, Row, Text, found_of, rows_of}
use Rattle.clap.specs.declared.builder.arg.Arg.{Arg}
use Rattle.clap.specs.declared.builder.command.Command.{Command}
use Rattle.clap.specs.declared.builder.command.Command.TheViews.{out-Command}
use Rattle.clap.specs.declared.parser.matches.ArgMatches.TheViews.{out-SubCommand}
use Rattle.clap.specs.declared.parser.matches.SubCommand.{SubCommand}
use Rattle.clap.specs.Walk.{first_of}
use Rattle.tracer_cli.specs.declared.arguments.Request.{Request}
use Rattle.tracer_cli.specs.declared.arguments.Request.TheVariants.{Replay, Run, Explore, Help}
use Rattle.tracer_cli.specs.declared.failure.Failure.{Failure}
use Rattle.tracer_cli.specs.declared.failure.Failure.TheVariants.{NoMemory, Usage}
use Rattle.tracer_cli.specs.Arguments.{IsExploreRequest, IsFlag, IsNamedBy, is_explore, is_run}

pub flag_is : (read : Option Text) (flag : Bool) → (read ≡ None → flag ≡ false)
    → (read ≡ Some (codes "true") → flag ≡ true) → (read ≡ Some (codes "false") → flag ≡ false) → IsFlag read flag
flag_is None flag none set unset = none refl
flag_is (Some text) flag none set unset = (λ same. set (ap Some same), λ same. unset (ap Some same))

-- the name and the rows of a subcommand
pub found_is : {Z : Type 0} (sub : Option (Box SubCommand Z)) (name : Text) (rows : List Row)
    → Some name ≡ option_map (λ b. (out-SubCommand (box_value b)).name.now) sub
    → Some rows ≡ option_map (λ p. p.1) (subcommand_rows sub) → subcommand_rows sub ≡ Some (name, rows)
found_is None name rows named found = cc
found_is (Some b) name rows named found =
    let same_name : name ≡ (out-SubCommand (box_value b)).name.now = cc in
    let same_rows : rows ≡ rows_of (found_of (out-SubCommand (box_value b)).matches) = cc in
    ap₂ (λ (n : Text) (r : List Row). Some (n, r)) (sym same_name) (sym same_rows)

-- a command with one more argument that is not global
pub not_global : (old : Command) (arg : Arg) (new : Command) → AddsArg old arg new
    → (out-Command old).has_globals ≡ false → arg.global ≡ false → (out-Command new).has_globals ≡ false
not_global old arg new adds none own = adds.globals ∙ ap₂ (λ (a b : Bool). a || b) none own

-- the request of the subcommand `explore`
pub explore_is_named : (name : Text) (rows : List Row) (file : Option (Bor Text)) (asked : Result Request Failure)
    → is_run (Some (name, rows)) ≡ false → is_explore (Some (name, rows)) ≡ true
    → option_map (λ text. text.now) file ≡ first_of (codes "FILE") rows → IsExploreRequest rows file asked
    → IsNamedBy (Some (name, rows)) asked
explore_is_named name rows file (Ok (Replay other)) run explore file_is is = absurd is
explore_is_named name rows file (Ok (Run options other)) run explore file_is is = absurd is
explore_is_named name rows file (Ok (Help text)) run explore file_is is = absurd is
explore_is_named name rows file (Ok (Explore options named)) run explore file_is is =
    (run, explore, is.0, ap (option_map (λ (text : Bor Text). text.now)) is.1 ∙ file_is)
explore_is_named name rows file (Err (Usage text)) run explore file_is is = ((run, explore, is.0), is.1)
explore_is_named name rows file (Err NoMemory) run explore file_is is = tt
explore_is_named name rows file (Err failure) run explore file_is is = absurd is
