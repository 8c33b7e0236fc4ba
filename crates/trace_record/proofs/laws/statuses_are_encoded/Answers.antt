-- The law is a lemma on raw statuses.
use Rattle.std.proofs.Common.{ℕ, refl}
use Rattle.trace_options.specs.declared.event.Event.TheVariants as event
use Rattle.trace_status.specs.WaitStatus.{Encodes}
use Rattle.trace_record.specs.Stop.{IsStop, stop_status, stop_wait_status}
use Rattle.trace_record.specs.declared.stop.Stop.{Stop}
use Rattle.trace_record.specs.declared.stop.Stop.TheVariants.{Start, Enter, Exit, Seccomp, Fork, Clone, Exec, Signal}
use Rattle.trace_record.specs.declared.stop.Stop.TheVariants.{Ending}
use Rattle.trace_record.proofs.laws.statuses_are_encoded.Goals as goal

-- each event stop is reported by its event
stop_is_encoded : (pid : ℕ) (stop : Stop) → IsStop stop → Encodes (stop_wait_status pid stop) (stop_status stop)
stop_is_encoded pid Start is = (refl, (event.Stop, refl), refl)
stop_is_encoded pid Enter is = refl
stop_is_encoded pid Exit is = refl
stop_is_encoded pid (Seccomp ret_data) is = (refl, (event.Seccomp, refl), refl)
stop_is_encoded pid (Fork child) is = (refl, (event.Fork, refl), refl)
stop_is_encoded pid (Clone child) is = (refl, (event.Clone, refl), refl)
stop_is_encoded pid (Exec former) is = (refl, (event.Exec, refl), refl)
stop_is_encoded pid (Signal signal) is = (is, refl)
stop_is_encoded pid (Ending death) is = (refl, (event.Exit, refl), refl)

pub returns-clause-stops : goal.returns-clause-stops
returns-clause-stops c = stop_is_encoded
