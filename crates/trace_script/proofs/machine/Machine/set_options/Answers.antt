-- The options decide neither what is left nor how many stops may be.
use Rattle.std.proofs.Common.{ap, refl, ◌∙◌}
use Rattle.stop_history.specs.declared.limits.TheConstants.{LAST_NUMBER}
use Rattle.trace_script.specs.Births.{children_left}
use Rattle.trace_script.specs.StopTrace.{Position, position}
use Rattle.trace_script.specs.declared.setting.Setting.{Setting}
use Rattle.trace_script.proofs.ChildrenLeft.{reported_left}
use Rattle.trace_script.proofs.Settings.{left_same, within_under}
use Rattle.trace_script.proofs.machine.Machine.set_options.Goals as goal

pub invariant_of-self : goal.invariant_of-self
invariant_of-self g c =
    let x = c.self.inside in
    let s : Setting = record { tid = x.setting.tid; options = c.args.options; filter = x.setting.filter } in
    within_under LAST_NUMBER x.number x.setting s refl x.progress x.image x.filled.items x.steps.items c.self.invariant

pub returns-clause-position : goal.returns-clause-position
returns-clause-position g c =
    let x = c.self.inside in
    let s : Setting = record { tid = x.setting.tid; options = c.args.options; filter = x.setting.filter } in
    rw (← c.self.view_is)
    (ap (position s x.number) (left_same x.setting s refl refl x.progress x.image x.filled.items x.steps.items))

pub returns-clause-births : goal.returns-clause-births
returns-clause-births g c =
    let x = c.self.inside in
    let s : Setting = record { tid = x.setting.tid; options = c.args.options; filter = x.setting.filter } in
    λ tells. reported_left s x.progress x.image x.filled.items x.steps.items tells
    ∙ ap children_left (left_same x.setting s refl refl x.progress x.image x.filled.items x.steps.items)
    ∙ ap (λ (p : Position). children_left p.left) c.self.view_is
