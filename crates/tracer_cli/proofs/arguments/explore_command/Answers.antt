-- What clap's definitions say of this command, one argument after the other.
use Rattle.std.proofs.Common.{◌≡◌, ◌∙◌, ap, ap₂, codes, false}
use Rattle.std.proofs.lemmas.Result.{IfOk-weaker}
use Rattle.clap.specs.Simple.{app_of_fields}
use Rattle.clap.specs.Words.{app_of, new_app, with_rule}
use Rattle.clap.specs.declared.builder.command.Command.TheViews.{out-Command}
use Rattle.tracer_cli.proofs.Matches.{not_global}
use Rattle.tracer_cli.proofs.arguments.explore_command.Goals as goal

pub returns-clause-own : goal.returns-clause-own
returns-clause-own c =
    let none : (out-Command c.after_help.result).has_globals ≡ false = ap (λ f. f.has_globals) c.after_help.ensures
    ∙ ap (λ f. f.has_globals) c.about.ensures ∙ c.new.ensures.local in
    let with_budget = not_global _ _ _ c.in_ok-arg.ensures none c.budget.ensures.own in
    let with_outcome = not_global _ _ _ c.in_ok-arg-2.ensures with_budget c.outcome.ensures.own in
    let with_ends = not_global _ _ _ c.in_ok-arg-3.ensures with_outcome c.ends.ensures.own in
    IfOk-weaker c.arg-4.result _ _ (λ command h. not_global _ _ command h with_ends c.file.ensures.own) c.arg-4.ensures

pub returns-clause-app : goal.returns-clause-app
returns-clause-app c =
    let plain_is : app_of c.after_help.result ≡ new_app (codes "explore") = ap app_of_fields c.after_help.ensures
    ∙ ap app_of_fields c.about.ensures ∙ c.new.ensures.app in
    let with_budget = c.in_ok-arg.ensures.shape c.budget.ensures.own
    ∙ ap₂ with_rule plain_is c.budget.ensures.rule in
    let with_outcome = c.in_ok-arg-2.ensures.shape c.outcome.ensures.own
    ∙ ap₂ with_rule with_budget c.outcome.ensures.rule in
    let with_ends = c.in_ok-arg-3.ensures.shape c.ends.ensures.own
    ∙ ap₂ with_rule with_outcome c.ends.ensures.rule in
    IfOk-weaker c.arg-4.result _ _
    (λ command h. h.shape c.file.ensures.own ∙ ap₂ with_rule with_ends c.file.ensures.rule) c.arg-4.ensures
