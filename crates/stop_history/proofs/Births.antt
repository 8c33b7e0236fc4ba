-- A child is born exactly where its rank is below its parent's births.
use Rattle.std.proofs.Common.{refl, ◌≡◌, ◌≢◌, ◌+◌, ◌<◌, ◌∷◌, [], ℕ, Bool, true, false, ◌||◌, Some, None, Option, List}
use Rattle.std.proofs.Common.{length, is_some, arith, ◌∙◌, sym, ap, inl, inr, eqb, eqb-true, eq-eqb, ne_eqb, nat_lt}
use Rattle.std.proofs.Common.{lt-ltb, le-ltb, if◌then◌else◌}
use Rattle.std.specs.List.{list_any}
use Rattle.std.proofs.lemmas.Bool.{and_parts, cases_eq}
use Rattle.std.proofs.lemmas.Bool.Decides.{eqb_tells, nat_tests}
use Rattle.trace_record.specs.Stop.{child_of}
use Rattle.stop_history.specs.declared.roster.Row.{Row}
use Rattle.stop_history.specs.Event as event
use Rattle.stop_history.specs.Event.{Event, History, events_of, subject}
use Rattle.stop_history.specs.Roster.{IsRoster, parent_of, rank_of, row_at, row_of}
use Rattle.stop_history.specs.State.{creates, is_birth}
use Rattle.stop_history.specs.History.{IsLegal, births_after, is_next_child, names_next}
use Rattle.stop_history.proofs.Events.{claim_births, exit_births, resume_births}
use Rattle.stop_history.proofs.Rosters.{parent_of-Some, row_of-Some, row_of-tid, same_rank}

-- the child that is born next is of the rank that is not born yet
next_is_born : (rows : List Row) → IsRoster rows → (row parent births tid : ℕ) (was : Bool) → row < length rows
    → parent_of rows row ≡ Some parent
    → was ≡ nat_lt (rank_of rows row) births
    → (child : Option ℕ) → row_of rows tid ≡ child → is_next_child rows parent births child ≡ true
    → (eqb tid (row_at rows row).tid || was) ≡ nat_lt (rank_of rows row) (births + 1)
next_is_born rows roster row parent births tid was within of_parent so_far None found next = cc
next_is_born rows roster row parent births tid was within of_parent so_far (Some child) found next =
    let parts = and_parts (eqb (row_at rows child).parent (row_at rows parent).tid)
    (eqb (rank_of rows child) births) next in
    let rank : rank_of rows child ≡ births = eqb-true _ _ parts.1 in
    let there = row_of-Some rows tid child found in
    elim (cases_eq child row) [
      | inl same ↦
          let named : eqb tid (row_at rows row).tid
          ≡ true = eq-eqb _ _ (sym there.1 ∙ ap (λ k. (row_at rows k).tid) same) in
          let here : rank_of rows row ≡ births = ap (rank_of rows) (sym same) ∙ rank in
          rw named (sym (lt-ltb _ _ (omega arith)))
      | inr other ↦
          let unnamed : eqb tid (row_at rows row).tid ≡ false = ne_eqb _ _ (λ e.
          other (let twice : Some child ≡ Some row = sym found ∙ ap (row_of rows) e
          ∙ row_of-tid rows roster row within in cc)) in
          let elsewhere : rank_of rows row ≢ births = λ e.
          other (same_rank rows child row there.0 within
          (eqb-true _ _ parts.0 ∙ (parent_of-Some rows roster row parent within of_parent).tid) (rank ∙ sym e)) in
          rw unnamed (so_far ∙ grind (arith, nat_tests))
    ]

born_by_stop : (rows : List Row) → IsRoster rows → (row parent births : ℕ) (was : Bool) → row < length rows
    → parent_of rows row ≡ Some parent
    → was ≡ nat_lt (rank_of rows row) births
    → (child : Option ℕ) → names_next rows parent births child ≡ true
    → (creates (row_at rows row).tid child || was)
    ≡ nat_lt (rank_of rows row) (if is_some child then births + 1 else births)
born_by_stop rows roster row parent births was within of_parent so_far None next = so_far
born_by_stop rows roster row parent births was within of_parent so_far (Some tid) next =
    next_is_born rows roster row parent births tid was within of_parent so_far (row_of rows tid) refl next

-- whether some publish of the parent named a child's tid, and whether the child's rank is below the births
pub born_by_rank : (rows : List Row) → IsRoster rows → (h : History) → IsLegal rows h → (row parent : ℕ)
    → row < length rows → parent_of rows row ≡ Some parent
    → list_any (is_birth parent (row_at rows row).tid) h ≡ nat_lt (rank_of rows row) (births_after h parent)
born_by_rank rows roster [] legal row parent within of_parent = sym (le-ltb _ _ (omega arith))
born_by_rank rows roster (event.Publish at number stop ∷ h) legal row parent within of_parent =
    elim (eqb_tells at parent) [
      | inl same ↦
          rw same.0 (born_by_stop rows roster row parent (births_after h parent) _ within of_parent
          (born_by_rank rows roster h legal.1 row parent within of_parent) (child_of stop)
          (ap (λ p. names_next rows p (births_after h p) (child_of stop)) (sym same.1) ∙ legal.0.3))
      | inr other ↦ rw other.0 (born_by_rank rows roster h legal.1 row parent within of_parent)
    ]
born_by_rank rows roster (event.Claim at number tracer ∷ h) legal row parent within of_parent =
    born_by_rank rows roster h legal.1 row parent within of_parent
    ∙ ap (nat_lt (rank_of rows row)) (sym (claim_births at number tracer parent h))
born_by_rank rows roster (event.Resume at number how tracer ∷ h) legal row parent within of_parent =
    born_by_rank rows roster h legal.1 row parent within of_parent
    ∙ ap (nat_lt (rank_of rows row)) (sym (resume_births at number how tracer parent h))
born_by_rank rows roster (event.Exit at death ∷ h) legal row parent within of_parent =
    born_by_rank rows roster h legal.1 row parent within of_parent
    ∙ ap (nat_lt (rank_of rows row)) (sym (exit_births at death parent h))
