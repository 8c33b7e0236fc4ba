-- What is left is that by the other filter, and makes as many stops.
use Rattle.std.proofs.Common.{ap, refl}
use Rattle.stop_history.specs.declared.limits.TheConstants.{LAST_NUMBER}
use Rattle.trace_script.specs.StopTrace.{position}
use Rattle.trace_script.specs.declared.setting.Setting.{Setting}
use Rattle.trace_script.proofs.Settings.{left_under, within_under}
use Rattle.trace_script.proofs.machine.Machine.set_filter.Goals as goal

pub invariant_of-self : goal.invariant_of-self
invariant_of-self g c =
    let x = c.self.inside in
    let s : Setting = record { tid = x.setting.tid; options = x.setting.options; filter = c.args.filter.now } in
    within_under LAST_NUMBER x.number x.setting s refl x.progress x.image x.filled.items x.steps.items c.self.invariant

pub returns : goal.returns
returns g c =
    let x = c.self.inside in
    let s : Setting = record { tid = x.setting.tid; options = x.setting.options; filter = c.args.filter.now } in
    rw (← c.self.view_is)
    (ap (position s x.number) (left_under x.setting s refl x.progress x.image x.filled.items x.steps.items))
