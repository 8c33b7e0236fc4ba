-- A raw status is decoded, and of what it reports only deaths are kept.
use Rattle.std.proofs.Common.{◌≡◌, ℕ, Some, refl, sym}
use Rattle.trace_status.specs.WaitStatus.{Encodes, pid_of}
use Rattle.trace_record.specs.Death.{IsDeath, death_status, death_wait_status}
use Rattle.trace_record.specs.declared.death.Death.{Death}
use Rattle.trace_record.specs.declared.death.Death.TheVariants.{Exited, Signaled}
use Rattle.trace_record.proofs.death.Death.from_status.Goals as goal

-- a death's raw value encodes its status, of any tracee
encodes_death : (pid raw : ℕ) (death : Death) → IsDeath death → death_status death ≡ raw
    → Encodes (death_wait_status pid death) raw
encodes_death pid raw (Exited code) is same = (is, sym same)
encodes_death pid raw (Signaled signal core) is same = (is, sym same)

pid_of_death : (pid : ℕ) (death : Death) → pid_of (death_wait_status pid death) ≡ Some pid
pid_of_death pid (Exited code) = refl
pid_of_death pid (Signaled signal core) = refl

-- no status is decoded, so no death has this value
pub returns-in_default-2-clause-each : goal.returns-in_default-2-clause-each
returns-in_default-2-clause-each c = λ death is same.
    let found = c.decode.ensures.each (death_wait_status 0 death) (pid_of_death 0 death)
    (encodes_death 0 c.args.status death is same) in
    let none = c.in_default.is in
    cc
