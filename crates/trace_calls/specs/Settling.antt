-- How what a scan found is answered and kept.
use Rattle.std.specs.Prelude.{◌≡◌, ◌⊎◌, ◌<◌, ℕ, List, Option, Some, None, Result, Ok, Err, length, slice_get, slice_set}
use Rattle.trace_options.specs.declared.errno.Errno.{Errno}
use Rattle.trace_options.specs.declared.errno.Errno.TheVariants as errno
use Rattle.trace_record.specs.Death.{IsDeath, death_status}
use Rattle.trace_record.specs.Stop.{IsStop, stop_status}
use Rattle.trace_record.specs.declared.death.Death.{Death}
use Rattle.trace_record.specs.declared.stop.Stop.{Stop}
use Rattle.trace_status.specs.declared.wait_status.WaitStatus.{WaitStatus}
use Rattle.stop_history.specs.declared.roster.Row.{Row}
use Rattle.stop_table.specs.declared.claim.Claim.{Claim}
use Rattle.trace_calls.specs.declared.row_status.RowStatus.{RowStatus}
use Rattle.trace_calls.specs.declared.scan.Finding.{Finding}
use Rattle.trace_calls.specs.declared.scan.Finding.TheVariants as finding
use Rattle.trace_calls.specs.Answer.{IsStatusOf}
use Rattle.trace_calls.specs.RowStatus.{ReportsDeath}

-- the raw status of a stop or a death that a tracee can have
abbrev pub IsReportable : ℕ → Type 0
IsReportable raw =
    ((stop : Stop) × IsStop stop × (stop_status stop ≡ raw))
    ⊎ ((death : Death) × IsDeath death × (death_status death ≡ raw))

-- the row is there and its status one that can be; the place of a claim is free
abbrev pub CanSettle : {A : Type 0} → List Row → List (Option (Claim A)) → Finding A → Type 0
CanSettle rows held (finding.Stop claim) =
    (claim.row < length rows) × IsReportable (stop_status claim.stop.stop) × (slice_get held claim.row ≡ Some None)
CanSettle rows held (finding.Ended row death number) = (row < length rows) × IsReportable (death_status death)
CanSettle rows held (finding.Shows row number status) = (row < length rows) × IsReportable status
CanSettle rows held finding.NothingYet = Unit {0}
CanSettle rows held finding.NoChild = Unit {0}

-- the status of a row is answered, with this death, and counted
abbrev pub AnswersStatus : List Row → (counts counts' : List ℕ) → (row number raw : ℕ) → Option Death
    → Result (Option RowStatus) Errno → Type 0
AnswersStatus rows counts counts' row number raw death result =
    ((status : WaitStatus)
    × (result ≡ Ok (Some (record { row = row; number = number; status = status; death = death })))
    × IsStatusOf rows row raw status)
    × (counts' ≡ slice_set counts row number)

abbrev pub Settles : {A : Type 0} → List Row → (held held' : List (Option (Claim A))) → (counts counts' : List ℕ)
    → Finding A → Result (Option RowStatus) Errno → Type 0
Settles rows held held' counts counts' (finding.Stop claim) result =
    AnswersStatus rows counts counts' claim.row claim.stop.number (stop_status claim.stop.stop) None result
    × (held' ≡ slice_set held claim.row (Some claim))
Settles rows held held' counts counts' (finding.Ended row death number) result =
    AnswersStatus rows counts counts' row number (death_status death) (Some death) result × (held' ≡ held)
Settles rows held held' counts counts' (finding.Shows row number status) result =
    ((death : Option Death) × ReportsDeath status death
    × AnswersStatus rows counts counts' row number status death result)
    × (held' ≡ held)
Settles rows held held' counts counts' finding.NothingYet result =
    (result ≡ Ok None) × (held' ≡ held) × (counts' ≡ counts)
Settles rows held held' counts counts' finding.NoChild result =
    (result ≡ Err errno.ECHILD) × (held' ≡ held) × (counts' ≡ counts)
