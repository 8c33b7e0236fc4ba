-- What a contract sees of a `Calls`, and what is kept of it.
use Rattle.std.specs.Prelude.{◌≡◌, ◌<◌, ℕ, true, false, List, Option, Some, None, length, map, slice_get, slice_index_or}
use Rattle.std.specs.Option.{option_map, unwrap_or}
use Rattle.atomic_table.specs.Seated.{TableId}
use Rattle.trace_record.specs.Content.{Content, empty_content}
use Rattle.stop_history.specs.declared.roster.Row.{Row}
use Rattle.stop_table.specs.declared.claim.Claim.{Claim}
use Rattle.stop_table.specs.Entry.{content_after}
use Rattle.stop_table.specs.Handle.{IsHolding}
use Rattle.stop_table.specs.Tracer.{TracerHandle, is_held}
use Rattle.stop_table.specs.View.{View}
use Rattle.stop_table.specs.Written.{IsWrittenOver}

-- its tracer's handle; of each row the number that it counts; and of each row that it has claimed the record as it is
-- now, with what it has written. What it has claimed is read off the history that it has seen.
pub record CallsHandle : Type 0 where
  pub table_id : TableId
  pub view : View
  pub counts : List ℕ
  pub records : List (Option Content)

-- the claim of a row that the tracer has claimed, and of no other row
abbrev pub KeepsClaim : {A : Type 0} → View → ℕ → Option (Claim A) → Type 0
KeepsClaim v row None = is_held v row ≡ false
KeepsClaim v row (Some claim) = (claim.row ≡ row) × IsHolding v row claim.word claim.stop

abbrev pub KeepsClaims : {A : Type 0} → View → List (Option (Claim A)) → Type 0
KeepsClaims {A} v held =
    (row : ℕ) (claim : Option (Claim A)) → slice_get held row ≡ Some claim → KeepsClaim v row claim

pub record IsCalls {A : Type 0} (tracer : TracerHandle) (rows : List Row) (held : List (Option (Claim A)))
    (counts : List ℕ) : Type 0 where
  pub roster : rows ≡ tracer.view.roster
  pub held_long : length held ≡ length rows
  pub counts_long : length counts ≡ length rows
  pub claims : KeepsClaims tracer.view held

-- the record of a claim
abbrev pub record_of : {A : Type 0} → Option (Claim A) → Option Content
record_of held = option_map (λ claim. claim.stop) held

abbrev pub records_of : {A : Type 0} → List (Option (Claim A)) → List (Option Content)
records_of held = map record_of held

abbrev pub handle_of : TracerHandle → List ℕ → List (Option Content) → CallsHandle
handle_of tracer counts records =
    record { table_id = tracer.table_id; view = tracer.view; counts = counts; records = records }

-- the handle of its tracer
abbrev pub tracer_of : CallsHandle → TracerHandle
tracer_of a = record { table_id = a.table_id; view = a.view }

-- the record of a row that it has claimed
abbrev pub claimed_record : CallsHandle → ℕ → Content
claimed_record a row = unwrap_or (slice_index_or a.records row None) (empty_content 0)

-- what a caller knows of every `Calls`: a claimed record is the one that was published, with what has been written
pub record HasRecords (a : CallsHandle) : Type 0 where
  pub long : length a.records ≡ length a.view.roster
  pub written : (row : ℕ) → row < length a.view.roster → is_held a.view row ≡ true
      → IsWrittenOver (content_after a.view.roster a.view.seen row) (claimed_record a row)

-- what it keeps of each row is as it was
abbrev pub KeepsRows : CallsHandle → CallsHandle → Type 0
KeepsRows a b = (b.counts ≡ a.counts) × (b.records ≡ a.records)

-- a call leaves the table as it is
abbrev pub KeepsTable : CallsHandle → CallsHandle → Type 0
KeepsTable a b = b.table_id ≡ a.table_id
