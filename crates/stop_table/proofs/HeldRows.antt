-- The rows that a tracer holds are those that its history says it has claimed: as many, and none where there are none.
use Rattle.std.proofs.Common.{◌≡◌, ◌≤◌, [], ℕ, true, List, Option, length, ◌∙◌, sym, ap, arith, eq-eqb}
use Rattle.std.proofs.lemmas.List.{nil_from_length}
use Rattle.trace_record.specs.Content.{Content}
use Rattle.stop_history.specs.declared.limits.TheConstants.{MOST_ROWS}
use Rattle.stop_history.specs.declared.phase.Phase.TheVariants as phase
use Rattle.stop_history.specs.declared.roster.Row.{Row}
use Rattle.stop_history.proofs.Rosters.{few_rows}
use Rattle.stop_table.specs.Entry.{cell_after}
use Rattle.stop_table.specs.Steps.{Seated}
use Rattle.stop_table.specs.Tracer.{IsTracer, emptied, held_rows, is_claimed_by, is_held}
use Rattle.stop_table.specs.View.{View, is_among}
use Rattle.stop_table.proofs.Own.{claimed_by_is}
use Rattle.stop_table.proofs.Numbers.{as_many, few_below}

-- where a row is held, the history says that its tracer has claimed it
pub held_by_history : (rows : List Row) (m : Seated) (number : ℕ) (held : List ℕ) → IsTracer rows m number held
    → (row : ℕ) → is_among row held ≡ true → is_held m.0 row ≡ true
held_by_history rows m number held t row among =
    ap (λ r. is_claimed_by m.0.number (cell_after r m.0.seen row).phase) t.roster_is
    ∙ ap (is_claimed_by m.0.number) (t.claimed row among).1 ∙ eq-eqb number m.0.number (sym t.number_is)

-- and the other way round
pub history_held : (rows : List Row) (m : Seated) (number : ℕ) (held : List ℕ) → IsTracer rows m number held
    → (row : ℕ) → is_held m.0 row ≡ true → is_among row held ≡ true
history_held rows m number held t row claimed =
    t.all row
    (ap (λ r. (cell_after r m.0.seen row).phase) (sym t.roster_is)
    ∙ claimed_by_is m.0.number (cell_after m.0.roster m.0.seen row).phase claimed ∙ ap phase.Claimed t.number_is)

-- it holds as many
pub held_count : (rows : List Row) (m : Seated) (number : ℕ) (held : List ℕ) → IsTracer rows m number held
    → length held ≡ length (held_rows m.0)
held_count rows m number held t =
    as_many held (is_held m.0) (length m.0.roster) t.apart
    (λ row among. let low = (t.claimed row among).0 in let long = ap length t.roster_is in
    (omega arith, held_by_history rows m number held t row among))
    (history_held rows m number held t)

-- where the history says that no row is claimed, no slot is out
pub none_held : (rows : List Row) (m : Seated) (number : ℕ) (held : List ℕ) → IsTracer rows m number held
    → held_rows m.0 ≡ [] → m.1 ≡ []
none_held rows m number held t none =
    let empty : held ≡ [] = nil_from_length held (held_count rows m number held t ∙ ap length none) in
    t.slots ∙ ap emptied empty

-- a tracer holds at most as many rows as a roster has
pub held_few : (rows : List Row) (m : Seated) (number : ℕ) (held : List ℕ) → IsTracer rows m number held
    → length held ≤ MOST_ROWS
held_few rows m number held t =
    let few = few_below held (length rows) t.apart (λ row among. (t.claimed row among).0) in
    omega (arith, few_rows rows t.placed)

-- a seat with no slot out
pub is_seated : (m : Seated) (v : View) → m.0 ≡ v → m.1 ≡ [] → m ≡ (v, [])
is_seated m v same empty =
    ap (λ (w : View). (w, m.1)) same ∙ ap (λ (slots : List (ℕ × Option Content)). (v, slots)) empty
