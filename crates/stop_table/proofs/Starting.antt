-- Whether a row is born, from the root of its path down.
use Rattle.std.proofs.Common.{refl, ◌≡◌, ◌≢◌, ◌<◌, ◌∷◌, ◌++◌, [], ℕ, true, false, Some, None, List, length}
use Rattle.std.proofs.Common.{◌∙◌, sym, ap, inl, inr, subst, arith}
use Rattle.std.specs.Prelude.{nat_lt}
use Rattle.std.proofs.lemmas.Bool.{le-ltb}
use Rattle.stop_history.specs.declared.phase.Phase.{Phase}
use Rattle.stop_history.specs.declared.phase.Phase.TheVariants as phase
use Rattle.stop_history.specs.declared.roster.Row.{Row}
use Rattle.stop_history.specs.declared.state.State.TheVariants as state
use Rattle.stop_history.specs.Event.{events_of}
use Rattle.stop_history.specs.History.{births_in}
use Rattle.stop_history.specs.Roster.{IsRoster, parent_of, rank_of}
use Rattle.stop_history.specs.State.{is_alive, is_born, is_ended, state_after}
use Rattle.stop_history.specs.Word.{Word, shown}
use Rattle.stop_history.proofs.Longer.{born_stays, unborn_is_silent}
use Rattle.stop_history.proofs.Rosters.{placed}
use Rattle.stop_history.proofs.Settled.{ended_stays, unborn_is, unborn_stays}
use Rattle.stop_history.proofs.States.{state_within}
use Rattle.stop_table.specs.declared.start.Start.{Start}
use Rattle.stop_table.specs.declared.start.Start.TheVariants as start
use Rattle.stop_table.specs.Entry.{AreLegal, Entry, cell_after, history_of}
use Rattle.stop_table.specs.Handle.{IsUnborn, Looked, LooksOnce}
use Rattle.stop_table.specs.Seat.{Saw}
use Rattle.stop_table.specs.Start.{IsAncestor, IsFinal, IsStartOf, StartsAt, above, further, itself, parent}
use Rattle.stop_table.specs.Steps.{Seated}
use Rattle.stop_table.specs.View.{View, actors_of, a_look}
use Rattle.stop_table.proofs.Counting.{looks_both, looks_wider, saw_once}
use Rattle.stop_table.proofs.Entries.{born_on, history_append, legal_back, legal_history}
use Rattle.stop_table.proofs.Walking.{born_by_births, look_step, looked_on, one_look, parent_there, root_is_born, state_seen}
use Rattle.stop_table.proofs.Walking.{step_from, unborn_now, word_now}

-- ---- rows that are never born

-- a row whose parent is unborn is unborn
pub unborn_below : (rows : List Row) (h : List Entry) (row mother : ℕ) → IsRoster rows → AreLegal rows h
    → row < length rows → parent_of rows row ≡ Some mother → is_born rows (history_of h) mother ≡ false
    → is_born rows (history_of h) row ≡ false
unborn_below rows h row mother roster legal there of_parent unborn =
    let births : (cell_after rows h mother).births ≡ 0 =
    ap births_in (unborn_is_silent rows (history_of h) (legal_history rows h legal) mother unborn) in
    born_by_births rows h row mother roster legal there of_parent
    ∙ ap (nat_lt (rank_of rows row)) births ∙ le-ltb _ _ (omega arith)

-- a row that is unborn while its parent has ended stays so
still_unborn : (rows : List Row) (more h : List Entry) (row mother : ℕ) → AreLegal rows (more ++ h)
    → is_ended (state_after rows (history_of h) mother) ≡ true → IsUnborn rows row h
    → parent_of rows row ≡ Some mother
    → (is_ended (state_after rows (history_of (more ++ h)) mother) ≡ true) × IsUnborn rows row (more ++ h)
still_unborn rows [] h row mother legal over unborn of_parent = (over, unborn)
still_unborn rows (x ∷ more) h row mother legal over unborn of_parent =
    let before = still_unborn rows more h row mother legal.1 over unborn of_parent in (
      ended_stays rows (history_of (more ++ h)) x.event mother legal.0.0 before.0,
      unborn_stays rows (history_of (more ++ h)) x.event row mother legal.0.0 before.1 of_parent
          (inr (λ runs. let clash : is_ended state.Running ≡ true = ap is_ended (sym runs) ∙ before.0 in cc)),
    )

never_born : (rows : List Row) (h : List Entry) (row mother : ℕ) → row < length rows
    → is_ended (state_after rows (history_of h) mother) ≡ true → IsUnborn rows row h
    → parent_of rows row ≡ Some mother → IsFinal rows h row start.Never
never_born rows h row mother there over unborn of_parent more legal =
    let later = still_unborn rows more h row mother legal over unborn of_parent in
    (unborn_is (is_born rows (history_of (more ++ h)) row) (events_of row (history_of (more ++ h)))
    (sym (state_within rows (history_of (more ++ h)) row there) ∙ later.1)).0

pub born_for_good : (rows : List Row) (h : List Entry) (row : ℕ) → is_born rows (history_of h) row ≡ true
    → IsFinal rows h row start.Born
born_for_good rows h row born more =
    ap (λ x. is_born rows x row) (history_append more h) ∙ born_stays rows (history_of more) (history_of h) row born

-- ---- a root

pub root_starts : (v : View) (row : ℕ) → parent_of v.roster row ≡ None → StartsAt v v row start.Born
root_starts v row none = record {
  point = v.seen;
  sooner = ([], refl, tt);
  later = ([], refl);
  step = inr (none, refl);
  answers = root_is_born v.roster v.seen row none;
}

-- ---- an answer that a row has from its parent

answers_below : (rows : List Row) (h : List Entry) (row mother : ℕ) (a : Start) → IsRoster rows → AreLegal rows h
    → row < length rows → parent_of rows row ≡ Some mother → a ≢ start.Born
    → IsStartOf rows h mother a → IsStartOf rows h row a
answers_below rows h row mother start.Born roster legal there of_parent other answers = absurd (other refl)
answers_below rows h row mother start.NotYet roster legal there of_parent other answers =
    let unborn = unborn_below rows h row mother roster legal there of_parent answers.0 in
    (unborn, (answers.1.0, above row mother answers.1.0 unborn of_parent answers.1.1, answers.1.2))
answers_below rows h row mother start.Never roster legal there of_parent other answers =
    let unborn = unborn_below rows h row mother roster legal there of_parent answers.0 in
    (unborn, (answers.1.0, above row mother answers.1.0 unborn of_parent answers.1.1, answers.1.2))

unborn_answer : (rows : List Row) (h : List Entry) (row : ℕ) (a : Start) → a ≢ start.Born → IsStartOf rows h row a
    → is_born rows (history_of h) row ≡ false
unborn_answer rows h row start.Born other answers = absurd (other refl)
unborn_answer rows h row start.NotYet other answers = answers.0
unborn_answer rows h row start.Never other answers = answers.0

pub starts_below : (v w : View) (row mother : ℕ) (a : Start) → IsRoster v.roster → AreLegal v.roster w.seen
    → row < length v.roster → parent_of v.roster row ≡ Some mother → a ≢ start.Born
    → StartsAt v w mother a → StartsAt v w row a
starts_below v w row mother a roster legal there of_parent other s = record {
  point = s.point;
  sooner = s.sooner;
  later = s.later;
  step = elim s.step [
    | inl looked ↦ inl (looked.0, further row mother looked.0 of_parent looked.1, looked.2)
    | inr root ↦
        (let clash : false ≡ true =
        sym (unborn_answer v.roster s.point mother a other s.answers) ∙ root_is_born v.roster s.point mother root.0 in cc)
  ];
  answers = answers_below v.roster s.point row mother a roster
      (legal_back v.roster s.later.0 s.point (subst (AreLegal v.roster) s.later.1 legal)) there of_parent other s.answers;
}

pub final_below : (rows : List Row) (h : List Entry) (row mother : ℕ) (a : Start) → IsRoster rows → row < length rows
    → parent_of rows row ≡ Some mother → a ≢ start.Born → IsFinal rows h mother a → IsFinal rows h row a
final_below rows h row mother start.Born roster there of_parent other final = absurd (other refl)
final_below rows h row mother start.NotYet roster there of_parent other final = tt
final_below rows h row mother start.Never roster there of_parent other final =
    λ more legal. unborn_below rows (more ++ h) row mother roster legal there of_parent (final more legal)

-- ---- looks at ancestors

ancestor_before : (rows : List Row) → IsRoster rows → (row ancestor : ℕ) → row < length rows
    → IsAncestor rows row ancestor → ancestor < row
ancestor_before rows roster _ _ there (parent row ancestor of_parent) =
    ((placed rows roster row there).child ancestor of_parent).0
ancestor_before rows roster _ _ there (further row mother ancestor of_parent higher) =
    let before = ((placed rows roster row there).child mother of_parent).0 in
    let far = ancestor_before rows roster mother ancestor (omega (arith, before, there)) higher in
    omega (arith, before, far)

-- the parent's ancestors are the row's
pub looked_above : (v w : View) (row mother : ℕ) → parent_of v.roster row ≡ Some mother
    → LooksOnce (IsAncestor v.roster mother) v w → LooksOnce (IsAncestor v.roster row) v w
looked_above v w row mother of_parent once =
    looks_wider v w (λ at higher. further row mother at of_parent higher) once

-- and one more look, at the parent
pub looked_at_mother : (u : View) (m n : Seated) (row mother : ℕ) (word : Word) → IsRoster u.roster
    → row < length u.roster → parent_of u.roster row ≡ Some mother → LooksOnce (IsAncestor u.roster mother) u m.0
    → Saw m n mother word → LooksOnce (IsAncestor u.roster row) u n.0
looked_at_mother u m n row mother word roster there of_parent first s =
    looks_both u m.0 n.0 (λ at higher. further row mother at of_parent higher)
    (λ at same. subst (IsAncestor u.roster row) (sym same) (parent row mother of_parent))
    (λ at higher same.
    let before = ancestor_before u.roster roster mother at (parent_there u.roster roster row mother there of_parent) higher in
    omega (arith, before, same))
    first (saw_once m n mother word s)

-- ---- a look at the parent

pub not_alive : (n : ℕ) (p : Phase) → is_alive (shown true n p) ≡ false → is_ended (shown true n p) ≡ true
not_alive n phase.Fresh is = cc
not_alive n (phase.Resumed how) is = cc
not_alive n phase.Active is = cc
not_alive n (phase.Stopped status) is = cc
not_alive n (phase.Claimed tracer) is = cc
not_alive n (phase.Dead status) is = refl
not_alive n phase.Reaped is = refl

-- the last look was at the parent, which is born
module _ (u : View) (m n : Seated) (row mother : ℕ) (word : Word) (first : Looked u m.0) (s : Saw m n mother word)
    (roster : IsRoster u.roster) (there : row < length u.roster) (parent_here : mother < length u.roster)
    (of_parent : parent_of u.roster row ≡ Some mother)
    (born : is_born u.roster (history_of m.0.seen) mother ≡ true) where
  abbrev looked : Looked m.0 n.0
  looked = one_look m n mother word s

  pub whole : Looked u n.0
  whole = looked_on u m.0 n.0 first looked

  legal : AreLegal u.roster n.0.seen
  legal = subst (λ rows. AreLegal rows n.0.seen) whole.grows.same.roster whole.grows.legal

  born_now : is_born u.roster (history_of n.0.seen) mother ≡ true
  born_now = born_on u.roster (actors_of m.0) mother m.0.seen n.0.seen looked.grows.goes_on born

  state_is : shown true word.number word.phase ≡ state_after u.roster (history_of n.0.seen) mother
  state_is =
      state_seen m n mother word (subst (λ rows. mother < length rows) (sym first.grows.same.roster) parent_here) s
      (ap (λ rows. is_born rows (history_of n.0.seen) mother) first.grows.same.roster ∙ born_now)
      ∙ ap (λ rows. state_after rows (history_of n.0.seen) mother) first.grows.same.roster

  births : is_born u.roster (history_of n.0.seen) row ≡ nat_lt (rank_of u.roster row) word.births
  births =
      born_by_births u.roster n.0.seen row mother roster legal there of_parent
      ∙ ap (λ rows. nat_lt (rank_of u.roster row) (cell_after rows n.0.seen mother).births) (sym first.grows.same.roster)
      ∙ ap (λ (w : Word). nat_lt (rank_of u.roster row) w.births) (sym (word_now m n mother word s))

  starts : (a : Start) → IsStartOf u.roster n.0.seen row a → StartsAt u n.0 row a
  starts a answers = record {
    point = n.0.seen;
    sooner = whole.grows.goes_on;
    later = ([], refl);
    step = inl (
      mother,
      parent row mother of_parent,
      step_from u m.0 n.0 (a_look mother n.0.seen) first.grows.steps (look_step m n mother word s),
    );
    answers = answers;
  }

  pub starts_born : nat_lt (rank_of u.roster row) word.births ≡ true
      → StartsAt u n.0 row start.Born × IsFinal u.roster n.0.seen row start.Born
  starts_born is =
      (starts start.Born (births ∙ is), born_for_good u.roster n.0.seen row (births ∙ is))

  pub starts_not_yet : nat_lt (rank_of u.roster row) word.births ≡ false
      → is_alive (shown true word.number word.phase) ≡ true → StartsAt u n.0 row start.NotYet
  starts_not_yet is alive =
      let unborn = births ∙ is in
      starts start.NotYet
      (unborn, (mother, above row mother mother unborn of_parent (itself mother born_now), ap is_alive (sym state_is) ∙ alive))

  pub starts_never : nat_lt (rank_of u.roster row) word.births ≡ false
      → is_alive (shown true word.number word.phase) ≡ false
      → StartsAt u n.0 row start.Never × IsFinal u.roster n.0.seen row start.Never
  starts_never is dead =
      let unborn = births ∙ is in
      let over = ap is_ended (sym state_is) ∙ not_alive word.number word.phase dead in (
        starts start.Never
            (unborn, (mother, above row mother mother unborn of_parent (itself mother born_now), over)),
        never_born u.roster n.0.seen row mother there over (unborn_now u.roster n.0.seen row there legal unborn) of_parent,
      )
