-- What a wait reports of a row (wait(2), WIFEXITED and WIFSIGNALED).
use Rattle.std.specs.Prelude.{◌≡◌, ◌≢◌, ℕ, Option, Some, None}
use Rattle.trace_record.specs.Death.{IsDeath, death_status}
use Rattle.trace_record.specs.declared.death.Death.{Death}

-- the death that a raw status reports, if it reports one
abbrev pub ReportsDeath : (raw : ℕ) → Option Death → Type 0
ReportsDeath raw None = (death : Death) → IsDeath death → death_status death ≢ raw
ReportsDeath raw (Some death) = IsDeath death × (death_status death ≡ raw)
