-- What clap's definitions say of these words.
use Rattle.std.proofs.Common.{◌∙◌, ap, map, subst, sym, List, ℕ}
use Rattle.clap.specs.Words.{App, HasKind, fault_of, is_simple, is_simple_and_free, subcommand_of}
use Rattle.tracer_cli.specs.Arguments.{FoundSubcommand, IsNamedBy}
use Rattle.tracer_cli.proofs.Commands.{failed, is_free, is_known, named}
use Rattle.tracer_cli.proofs.arguments.read_arguments.Goals as goal

pub returns-in-Ok : goal.returns-in-Ok
returns-in-Ok c =
    let words : List (List ℕ) = map (λ word. word.now) c.args.words.now in
    let entered = (c.in-Ok.ensures.matches (ap is_simple c.in_ok-command.ensures ∙ is_known)).1
    ∙ ap (λ (a : App). subcommand_of a words) c.in_ok-command.ensures in
    let fits = c.in-Ok.ensures.kinds (ap is_simple_and_free c.in_ok-command.ensures ∙ is_free) in
    named words c.named_request.result (sym (ap (λ (a : App). fault_of a words) c.in_ok-command.ensures) ∙ fits)
    (subst (λ (found : FoundSubcommand). IsNamedBy found c.named_request.result) entered c.named_request.ensures)

pub returns-in-Err : goal.returns-in-Err
returns-in-Err c =
    let words : List (List ℕ) = map (λ word. word.now) c.args.words.now in
    let P : App → Type 0 = λ a. HasKind (fault_of a words) c.in-Err.error in
    let has =
    subst P c.in_ok-command.ensures
    (c.in-Err.ensures.kinds (ap is_simple_and_free c.in_ok-command.ensures ∙ is_free)) in
    failed words c.in-Err.error c.without_matches.result has c.without_matches.ensures.memory
    c.without_matches.ensures.help
    c.without_matches.ensures.usage
