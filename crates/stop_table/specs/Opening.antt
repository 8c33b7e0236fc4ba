-- The handles of new cells.
use Rattle.std.specs.Prelude.{◌≡◌, ◌∷◌, ◌++◌, ◌-◌, [], ℕ, false, List, Option, Some, None, slice_get, length, replicate}
use Rattle.std.specs.List.{range_with_len}
use Rattle.atomic_table.specs.Seated.{TableId}
use Rattle.atomic_table.specs.declared.shared.Seat.{Seat}
use Rattle.trace_record.specs.Content.{Content, empty_content}
use Rattle.stop_history.specs.declared.limits.TheConstants.{TRACERS}
use Rattle.stop_history.specs.declared.roster.Row.{Row}
use Rattle.stop_history.specs.Roster.{IsRoster}
use Rattle.stop_table.specs.declared.cells.Cells.{Cells}
use Rattle.stop_table.specs.declared.cells.TheConstants.{PLACES}
use Rattle.stop_table.specs.Tracee.{TraceeHandle}
use Rattle.stop_table.specs.Tracer.{TracerHandle}
use Rattle.stop_table.specs.View.{View}

-- a view that has seen nothing
abbrev pub new_view : List Row → (tracees : List ℕ) → (number : ℕ) → (tracers : List ℕ) → View
new_view roster tracees number tracers = record {
  roster = roster;
  tracees = tracees;
  number = number;
  tracers = tracers;
  taken = false;
  seen = [];
  observations = [];
  told = [];
}

-- the view of the first seat, which acts for all
abbrev pub everyone : List Row → View
everyone rows = new_view rows (range_with_len 0 (length rows)) 0 (range_with_len 0 TRACERS)

-- the slots of rows before any event: each row's empty record at its place, and nothing elsewhere
abbrev pub slots_with : Content → List (Option Content)
slots_with content = Some content ∷ replicate (PLACES - 1) None

abbrev pub empty_slots : List Row → List (Option Content)
empty_slots [] = []
empty_slots (row ∷ rows) = slots_with (empty_content row.tid) ++ empty_slots rows

-- the handle of a row, and that of a tracer: each has seen nothing and acts for one actor
abbrev pub new_tracee : TableId → List Row → ℕ → TraceeHandle
new_tracee id rows row = record { table_id = id; row = row; view = new_view rows (row ∷ []) 0 [] }

abbrev pub new_tracer : TableId → List Row → ℕ → TracerHandle
new_tracer id rows number = record { table_id = id; view = new_view rows [] number (number ∷ []) }

abbrev pub AreTracees : TableId → List Row → List TraceeHandle → Type 0
AreTracees id rows handles = (k : ℕ) (e : TraceeHandle) → slice_get handles k ≡ Some e → e ≡ new_tracee id rows k

abbrev pub AreTracers : TableId → List Row → List TracerHandle → Type 0
AreTracers id rows handles = (k : ℕ) (e : TracerHandle) → slice_get handles k ≡ Some e → e ≡ new_tracer id rows k

-- ---- while the handles are made

-- how a seat that acts for several rows gives the first of them away
abbrev pub first_number : List ℕ → ℕ
first_number [] = 0
first_number (x ∷ xs) = x

abbrev pub others_of : List ℕ → List ℕ
others_of [] = []
others_of (x ∷ xs) = xs

abbrev pub only : List ℕ → List ℕ
only [] = []
only (x ∷ xs) = x ∷ []

abbrev pub first_row : View → View
first_row v = record {
  roster = v.roster;
  tracees = only v.tracees;
  number = 0;
  tracers = [];
  taken = v.taken;
  seen = v.seen;
  observations = [];
  told = [];
}

abbrev pub later_rows : View → View
later_rows v = record {
  roster = v.roster;
  tracees = others_of v.tracees;
  number = v.number;
  tracers = v.tracers;
  taken = v.taken;
  seen = v.seen;
  observations = v.observations;
  told = [];
}

abbrev pub first_tracer : View → View
first_tracer v = record {
  roster = v.roster;
  tracees = [];
  number = first_number v.tracers;
  tracers = only v.tracers;
  taken = v.taken;
  seen = v.seen;
  observations = [];
  told = [];
}

abbrev pub later_tracers : View → View
later_tracers v = record {
  roster = v.roster;
  tracees = v.tracees;
  number = v.number;
  tracers = others_of v.tracers;
  taken = v.taken;
  seen = v.seen;
  observations = v.observations;
  told = [];
}

-- the first seat still acts for the rows from k on, and for all tracers
abbrev pub DealsRows : {A : Type 0} → Cells A → Seat (Option Content) View → ℕ → Type 0
DealsRows cells seat k =
    IsRoster cells.table.shared.key × (seat.table_id ≡ cells.table.shared.table_id)
    × (seat.me
    ≡ (
      new_view cells.table.shared.key (range_with_len k (length cells.table.shared.key - k)) 0
          (range_with_len 0 TRACERS),
      [],
    ))

-- the first seat still acts for the tracers from k on
abbrev pub DealsTracers : {A : Type 0} → Cells A → Seat (Option Content) View → ℕ → Type 0
DealsTracers cells seat k =
    IsRoster cells.table.shared.key × (seat.table_id ≡ cells.table.shared.table_id)
    × (seat.me ≡ (new_view cells.table.shared.key [] 0 (range_with_len k (TRACERS - k)), []))
