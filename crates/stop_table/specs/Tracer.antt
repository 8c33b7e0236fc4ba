-- A tracer's handle. The rows that it has claimed are read off the history that it has seen.
use Rattle.std.specs.Prelude.{◌≡◌, ◌==◌, ◌∷◌, ◌<◌, [], ℕ, Bool, true, false, List, None, Option, length, map, filter}
use Rattle.std.specs.List.{range_with_len}
use Rattle.atomic_table.specs.Seated.{TableId}
use Rattle.trace_record.specs.Content.{Content}
use Rattle.stop_history.specs.declared.limits.TheConstants.{TRACERS}
use Rattle.stop_history.specs.declared.phase.Phase.{Phase}
use Rattle.stop_history.specs.declared.phase.Phase.TheVariants as phase
use Rattle.stop_history.specs.declared.roster.Row.{Row}
use Rattle.stop_history.specs.Roster.{IsRoster}
use Rattle.stop_table.specs.Entry.{AreLegal, cell_after}
use Rattle.stop_table.specs.Place.{place}
use Rattle.stop_table.specs.Steps.{Seated}
use Rattle.stop_table.specs.View.{View, is_among}

-- what a contract sees of it; its number is that of its view
pub record TracerHandle : Type 0 where
  pub table_id : TableId
  pub view : View

-- what a caller knows of every tracer's handle: it acts for its own tracer, and what it has seen is legal
pub record IsTracerHandle (e : TracerHandle) : Type 0 where
  pub few : e.view.number < TRACERS
  pub placed : IsRoster e.view.roster
  pub mine : is_among e.view.number e.view.tracers ≡ true
  pub legal : AreLegal e.view.roster e.view.seen

abbrev pub is_claimed_by : ℕ → Phase → Bool
is_claimed_by tracer (phase.Claimed holder) = holder == tracer
is_claimed_by tracer phase.Fresh = false
is_claimed_by tracer (phase.Resumed how) = false
is_claimed_by tracer phase.Active = false
is_claimed_by tracer (phase.Stopped status) = false
is_claimed_by tracer (phase.Dead status) = false
is_claimed_by tracer phase.Reaped = false

-- the handle's tracer has claimed the row and not resumed it
abbrev pub is_held : View → ℕ → Bool
is_held v row = is_claimed_by v.number (cell_after v.roster v.seen row).phase

-- the rows that it has claimed
abbrev pub held_rows : View → List ℕ
held_rows v = filter (is_held v) (range_with_len 0 (length v.roster))

abbrev pub emptied : List ℕ → List (ℕ × Option Content)
emptied rows = map (λ row. (place row, None)) rows

-- no number stands twice
abbrev pub AreApart : List ℕ → Type 0
AreApart [] = Unit {0}
AreApart (x ∷ xs) = (is_among x xs ≡ false) × AreApart xs

-- what is kept of it: the slots of the rows that it has claimed are out with it, empty, in the order of `held`
pub record IsTracer (rows : List Row) (me : Seated) (number : ℕ) (held : List ℕ) : Type 0 where
  pub roster_is : me.0.roster ≡ rows
  pub placed : IsRoster rows
  pub number_is : me.0.number ≡ number
  pub few : number < TRACERS
  pub mine : is_among number me.0.tracers ≡ true
  pub idle : me.0.taken ≡ false
  pub legal : AreLegal rows me.0.seen
  pub slots : me.1 ≡ emptied held
  pub apart : AreApart held
  pub claimed : (row : ℕ) → is_among row held ≡ true → (row < length rows)
      × ((cell_after rows me.0.seen row).phase ≡ phase.Claimed number)
  pub all : (row : ℕ) → (cell_after rows me.0.seen row).phase ≡ phase.Claimed number → is_among row held ≡ true

abbrev pub KeepsHandle : TracerHandle → TracerHandle → Type 0
KeepsHandle a b = b.table_id ≡ a.table_id
