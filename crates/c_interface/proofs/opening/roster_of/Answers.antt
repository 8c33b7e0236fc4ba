-- So far the roster has the rows in front of the one that is added. A refusal other than out of memory is a fault of
-- that row.
use Rattle.std.proofs.Common.{refl, ◌≡◌, ◌<◌, ◌∙◌, ◌∷◌, ◌++◌, [], ℕ, List, Option, Some, None, length, map, take}
use Rattle.std.proofs.Common.{get_or, arith, ap, subst, sym, rules}
use Rattle.std.proofs.lemmas.List.{get_or-map, length-map, take_more}
use Rattle.stop_history.specs.Roster.{IsRoster, nobody, push_fault, row_at}
use Rattle.stop_history.specs.declared.roster.Row.{Row}
use Rattle.stop_history.specs.declared.roster.RosterError.{RosterError}
use Rattle.stop_history.specs.declared.roster.RosterError.TheVariants as refused
use Rattle.c_interface.specs.Opening.{IsFaulty, row_of_ids}
use Rattle.c_interface.specs.declared.opening.CRow.{CRow}
use Rattle.c_interface.proofs.opening.roster_of.Goals as goal

abbrev no_ids : CRow
no_ids = record { tid = 0; tgid = 0; pgid = 0; parent = 0 }

is_row_at : (rows : List CRow) (at : ℕ) (row : Row) → at < length rows → row ≡ row_of_ids (get_or rows at no_ids)
    → row ≡ row_at (map row_of_ids rows) at
is_row_at rows at row low is = is ∙ sym (get_or-map row_of_ids rows at no_ids nobody low)

is_faulty : (rows before : List Row) (at : ℕ) (row : Row) → at < length rows → before ≡ take at rows
    → IsRoster before → row ≡ row_at rows at → (push_fault before row ≡ None → ⊥) → IsFaulty rows at
is_faulty rows before at row low front placed is refuses =
    let same = ap (λ rs. push_fault rs row) front ∙ ap (push_fault (take at rows)) is in
    faulty (push_fault (take at rows) (row_at rows at)) refl (λ none. refuses (same ∙ none))
  where
    faulty : (o : Option RosterError) → push_fault (take at rows) (row_at rows at) ≡ o → (o ≡ None → ⊥)
        → IsFaulty rows at
    faulty None found some = absurd (some refl)
    faulty (Some fault) found some = record { within = low; before = subst IsRoster front placed; fault = fault; is_fault = found }

pub loop-at-preserved : goal.loop-at-preserved
loop-at-preserved c =
    let rows = map row_of_ids c.args.rows.now in
    let low : c.loop-at.at < length c.args.rows.now = omega (arith, c.loop-at-test.true) in
    let within : c.loop-at.at < length rows = omega (arith, low, length-map c.args.rows.now row_of_ids) in
    c.in-Ok.ensures.ok
    ∙ ap (λ before. before ++ c.row.result ∷ []) c.loop-at.invariant
    ∙ ap (λ row. take c.loop-at.at rows ++ row ∷ [])
    (is_row_at c.args.rows.now c.loop-at.at c.row.result low c.row.ensures)
    ∙ sym (take_more rows c.loop-at.at nobody within)

pub returns-in-Err : goal.returns-in-Err
returns-in-Err c =
    let rows = map row_of_ids c.args.rows.now in
    let long = length-map c.args.rows.now row_of_ids in
    let low : c.loop-at.at < length c.args.rows.now = omega (arith, c.loop-at-test.true) in
    let with_memory : c.in-Err.field-0 ≡ refused.NoMemory → ⊥ = search rules in (
      omega (arith, long, c.if-rows-gt-MOST_ROWS.false),
      is_faulty rows c.loop-at.roster c.loop-at.at c.row.result (omega (arith, low, long)) c.loop-at.invariant
          c.rows.ensures.roster
          (is_row_at c.args.rows.now c.loop-at.at c.row.result low c.row.ensures)
          (λ none. with_memory (c.in-Err.ensures.accepted none)),
    )
