-- What a scan of the rows finds, before it is answered.
use Rattle.std.specs.Prelude.{◌≡◌, ◌⊎◌, ◌<◌, ℕ, Bool, true, false, Option, Some, None}
use Rattle.trace_record.specs.Death.{IsDeath, death_status}
use Rattle.trace_record.specs.Stop.{stop_status}
use Rattle.stop_history.specs.Over.{IsOver, is_gone}
use Rattle.stop_table.specs.declared.shown.Shown.{Shown}
use Rattle.stop_table.specs.declared.shown.Shown.TheVariants as shows
use Rattle.stop_table.specs.Entry.{content_after, history_of}
use Rattle.stop_table.specs.Handle.{IsHolding, Looked}
use Rattle.stop_table.specs.Tracer.{is_held}
use Rattle.stop_table.specs.View.{View}
use Rattle.stop_history.specs.declared.wait_request.WaitRequest.{WaitRequest}
use Rattle.stop_history.specs.State.{is_pending, is_waitable_for}
use Rattle.trace_calls.specs.declared.scan.Finding.{Finding}
use Rattle.trace_calls.specs.declared.scan.Finding.TheVariants as finding
use Rattle.trace_calls.specs.declared.scan.Try.{Try}
use Rattle.trace_calls.specs.declared.scan.Try.TheVariants as tried
use Rattle.stop_history.specs.Selection.{IsSelected, has_parents}
use Rattle.trace_calls.specs.Waiting.{Claimed, Found, NoChild, NothingYet, SawState, Showed, WasPassed}

-- what is shown, if it is waitable for the wait: the number and the raw status
abbrev pub report_in : (deaths : Bool) → Shown → Option (ℕ × ℕ)
report_in deaths (shows.Stopped number status) = Some (number, status)
report_in true (shows.Dead number status) = Some (number, status)
report_in deaths other = None

abbrev pub is_pending_shown : Shown → Bool
is_pending_shown shows.Running = true
is_pending_shown (shows.Claimed number) = true
is_pending_shown other = false

-- ---- one row

-- an attempt at a selected row
abbrev pub IsTried : {A : Type 0} → WaitRequest → View → View → ℕ → Try A → Type 0
IsTried request v w row (tried.Stop claim) =
    (request.keeps ≡ false) × Claimed request.deaths v w row claim.stop.number (stop_status claim.stop.stop)
    × IsHolding w row claim.word claim.stop × (claim.row ≡ row) × (claim.stop ≡ content_after w.roster w.seen row)
IsTried request v w row (tried.Ended death number) =
    (request.keeps ≡ false) × Claimed request.deaths v w row number (death_status death)
    × (is_held w row ≡ false) × IsDeath death
IsTried request v w row (tried.Shows number status) =
    (request.keeps ≡ true) × Showed request.deaths v w row number status
IsTried request v w row (tried.Passes pending) =
    Looked v w
    × SawState v w row (λ at. (is_waitable_for request.deaths at ≡ false) × (is_pending at ≡ pending))

-- a row that is not selected is not looked at
abbrev pub IsTurn : {A : Type 0} → WaitRequest → View → View → ℕ → Try A → Type 0
IsTurn request v w row turn =
    (IsSelected v.roster request.selection row × IsTried request v w row turn)
    ⊎ ((IsSelected v.roster request.selection row → ⊥) × (w ≡ v) × (turn ≡ tried.Passes false))

-- ---- all rows

-- the selected rows below k were passed; `pending`: one of them was pending
pub record Scanned (request : WaitRequest) (v w : View) (k : ℕ) (pending : Bool) : Type 0 where
  pub looked : Looked v w
  pub passed : (row : ℕ) → row < k → IsSelected v.roster request.selection row → WasPassed request.deaths v w row
  pub pends : pending ≡ true
      → (row : ℕ) × IsSelected v.roster request.selection row × SawState v w row (λ at. is_pending at ≡ true)
  pub gone : pending ≡ false → (row : ℕ) → row < k → IsSelected v.roster request.selection row
      → SawState v w row (λ at. is_gone request.deaths at ≡ true)
  pub over : pending ≡ false → has_parents request.selection ≡ true → (row : ℕ) → row < k
      → IsSelected v.roster request.selection row → IsOver v.roster request.deaths (history_of w.seen) row

-- what the scan found
abbrev pub IsFinding : {A : Type 0} → WaitRequest → View → View → Finding A → Type 0
IsFinding request v w (finding.Stop claim) =
    (request.keeps ≡ false) × Found request v w claim.row claim.stop.number (stop_status claim.stop.stop)
    × IsHolding w claim.row claim.word claim.stop × (claim.stop ≡ content_after w.roster w.seen claim.row)
IsFinding request v w (finding.Ended row death number) =
    (request.keeps ≡ false) × Found request v w row number (death_status death) × (is_held w row ≡ false)
    × IsDeath death
IsFinding request v w (finding.Shows row number status) =
    (request.keeps ≡ true) × Found request v w row number status
IsFinding request v w finding.NothingYet = NothingYet request v w
IsFinding request v w finding.NoChild = NoChild request v w
