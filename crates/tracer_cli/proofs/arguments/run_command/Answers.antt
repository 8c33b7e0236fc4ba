-- What clap's definitions say of this command, one argument after the other.
use Rattle.std.proofs.Common.{◌≡◌, ◌∙◌, ap, ap₂, codes, false}
use Rattle.std.proofs.lemmas.Result.{IfOk-weaker}
use Rattle.clap.specs.Simple.{app_of_fields}
use Rattle.clap.specs.Words.{app_of, new_app, with_rule}
use Rattle.clap.specs.declared.builder.command.Command.TheViews.{out-Command}
use Rattle.tracer_cli.proofs.Matches.{not_global}
use Rattle.tracer_cli.proofs.arguments.run_command.Goals as goal

pub returns-clause-own : goal.returns-clause-own
returns-clause-own c =
    let none : (out-Command c.after_help.result).has_globals ≡ false = ap (λ f. f.has_globals) c.after_help.ensures
    ∙ ap (λ f. f.has_globals) c.about.ensures ∙ c.new.ensures.local in
    let with_follow = not_global _ _ _ c.in_ok-arg.ensures none c.follow.ensures.own in
    let with_seccomp = not_global _ _ _ c.in_ok-arg-2.ensures with_follow c.seccomp.ensures.own in
    let with_workers = not_global _ _ _ c.in_ok-arg-3.ensures with_seccomp c.workers.ensures.own in
    let with_limit = not_global _ _ _ c.in_ok-arg-4.ensures with_workers c.limit.ensures.own in
    let with_names = not_global _ _ _ c.in_ok-arg-5.ensures with_limit c.names.ensures.own in
    IfOk-weaker c.arg-6.result _ _ (λ command h. not_global _ _ command h with_names c.file.ensures.own) c.arg-6.ensures

pub returns-clause-app : goal.returns-clause-app
returns-clause-app c =
    let plain_is : app_of c.after_help.result ≡ new_app (codes "run") = ap app_of_fields c.after_help.ensures
    ∙ ap app_of_fields c.about.ensures ∙ c.new.ensures.app in
    let with_follow = c.in_ok-arg.ensures.shape c.follow.ensures.own
    ∙ ap₂ with_rule plain_is c.follow.ensures.rule in
    let with_seccomp = c.in_ok-arg-2.ensures.shape c.seccomp.ensures.own
    ∙ ap₂ with_rule with_follow c.seccomp.ensures.rule in
    let with_workers = c.in_ok-arg-3.ensures.shape c.workers.ensures.own
    ∙ ap₂ with_rule with_seccomp c.workers.ensures.rule in
    let with_limit = c.in_ok-arg-4.ensures.shape c.limit.ensures.own
    ∙ ap₂ with_rule with_workers c.limit.ensures.rule in
    let with_names = c.in_ok-arg-5.ensures.shape c.names.ensures.own
    ∙ ap₂ with_rule with_limit c.names.ensures.rule in
    IfOk-weaker c.arg-6.result _ _
    (λ command h. h.shape c.file.ensures.own ∙ ap₂ with_rule with_names c.file.ensures.rule) c.arg-6.ensures
