-- What clap's definitions say of this command.
use Rattle.std.proofs.Common.{◌≡◌, ◌∙◌, ap, ap₂, codes}
use Rattle.std.proofs.lemmas.Result.{IfOk-weaker}
use Rattle.clap.specs.Simple.{app_of_fields}
use Rattle.clap.specs.Words.{App, app_of, new_app, with_subcommand}
use Rattle.tracer_cli.specs.Arguments.{has_version, wants_subcommand}
use Rattle.tracer_cli.proofs.arguments.tracer.Goals as goal

pub returns : goal.returns
returns c =
    let named_is : app_of c.after_help.result ≡ new_app (codes "tracer") = ap app_of_fields c.after_help.ensures
    ∙ ap app_of_fields c.about.ensures ∙ c.new.ensures.app in
    let above_is : app_of c.subcommand_required.result ≡ wants_subcommand (has_version (new_app (codes "tracer"))) =
    ap app_of_fields c.subcommand_required.ensures
    ∙ ap wants_subcommand (ap app_of_fields c.version.ensures ∙ ap has_version named_is) in
    let with_replay = c.in_ok-subcommand.ensures.shape c.in_ok-replay.ensures.own
    ∙ ap₂ with_subcommand above_is (ap (λ (app : App). app.top) c.in_ok-replay.ensures.app) in
    let with_run = c.in_ok-subcommand-2.ensures.shape c.in_ok-run.ensures.own
    ∙ ap₂ with_subcommand with_replay (ap (λ (app : App). app.top) c.in_ok-run.ensures.app) in
    IfOk-weaker c.subcommand-3.result _ _
    (λ command h. h.shape c.in_ok-explore.ensures.own
    ∙ ap₂ with_subcommand with_run (ap (λ (app : App). app.top) c.in_ok-explore.ensures.app))
    c.subcommand-3.ensures
