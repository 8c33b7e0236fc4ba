-- A leader's looks at its thread group, row by row.
use Rattle.std.proofs.Common.{refl, ◌≡◌, ◌≢◌, ◌<◌, ◌∷◌, ◌+◌, [], ℕ, Bool, true, false, Some, None, List}
use Rattle.std.proofs.Common.{length, set, ◌∙◌, sym, ap, inl, inr, subst, arith}
use Rattle.std.specs.Prelude.{MatchBool, nat_lt, slice_index}
use Rattle.std.proofs.lemmas.Bool.{cases_eq, eqb-true}
use Rattle.std.proofs.lemmas.List.{get_or-set_other, get_or-set_same}
use Rattle.stop_history.specs.declared.actor.Actor.TheVariants.{Tracee}
use Rattle.stop_history.specs.declared.roster.Row.{Row}
use Rattle.stop_history.specs.Actor.{is_moved_by, mover_of}
use Rattle.stop_history.specs.History.{IsSettled, births_in, ended, unborn_beside, unborn_below}
use Rattle.stop_history.specs.Roster.{IsRoster, is_leader, parent_of, rank_of, row_at, row_of}
use Rattle.stop_history.specs.State.{is_alive, is_born, is_ended, state_after}
use Rattle.stop_history.specs.Word.{Word, shown}
use Rattle.stop_history.proofs.Longer.{unborn_is_silent}
use Rattle.stop_history.proofs.Rosters.{placed}
use Rattle.stop_table.specs.Entry.{AreLegal, Cell, Entry, GoesOn, cell_after, history_of}
use Rattle.stop_table.specs.Group.{AreCounted, AreSettled, IsBeside, IsResting, SawAlive, SawHeldBack}
use Rattle.stop_table.specs.Handle.{Looked, LooksOnce}
use Rattle.stop_table.specs.Seat.{Saw}
use Rattle.stop_table.specs.Steps.{Seated}
use Rattle.stop_table.specs.View.{View, actors_of, a_look}
use Rattle.stop_table.proofs.Allowed.{acts_for}
use Rattle.stop_table.proofs.Counting.{looks_both, looks_wider}
use Rattle.stop_table.proofs.Entries.{born_on, legal_history, stays_on}
use Rattle.stop_table.proofs.Groups.{counted_on, settled_on, somebody_holds}
use Rattle.stop_table.proofs.Own.{same_actors}
use Rattle.stop_table.proofs.Starting.{not_alive}
use Rattle.stop_table.proofs.Walking.{born_by_births, legal_after, look_step, looked_on, one_look, state_seen, step_from}
use Rattle.stop_table.proofs.Walking.{unborn_now, word_now}

-- ---- one row

told : (u w : View) (row : ℕ) (word : Word) (b : Bool) → b ≡ is_alive (shown true word.number word.phase)
    → (is_alive (shown true word.number word.phase) ≡ true → SawAlive u w row)
    → (is_alive (shown true word.number word.phase) ≡ false → IsResting u.roster row w.seen)
    → MatchBool b (SawAlive u w row) (IsResting u.roster row w.seen)
told u w row word true is alive rests = alive (sym is)
told u w row word false is alive rests = rests (sym is)

-- at a look at the row, which is born
pub alive_or_rests : (m n : Seated) (row : ℕ) (word : Word) → row < length m.0.roster
    → is_born m.0.roster (history_of m.0.seen) row ≡ true → Saw m n row word
    → (b : Bool) → b ≡ is_alive (shown true word.number word.phase)
    → MatchBool b (SawAlive m.0 n.0 row) (IsResting m.0.roster row n.0.seen)
alive_or_rests m n row word there born s b is =
    let now = born_on m.0.roster (actors_of m.0) row m.0.seen n.0.seen (one_look m n row word s).grows.goes_on born in
    let shows = state_seen m n row word there s now in
    told m.0 n.0 row word b is (λ alive. (look_step m n row word s, ap is_alive (sym shows) ∙ alive))
    (λ dead. inl (ap is_ended (sym shows) ∙ not_alive word.number word.phase dead))

-- a look tells how many children the row has
pub births_seen : (m n : Seated) (row : ℕ) (word : Word) → Saw m n row word
    → word.births ≡ (cell_after m.0.roster n.0.seen row).births
births_seen m n row word s = ap (λ (w : Word). w.births) (word_now m n row word s)

-- ---- a row of the group, by its parent

same_row : (rows : List Row) → IsRoster rows → (a b : ℕ) → a < length rows → b < length rows
    → (row_at rows a).tid ≡ (row_at rows b).tid → a ≡ b
same_row rows roster a b there here same =
    let found : Some a ≡ Some b =
    sym (placed rows roster a there).found ∙ ap (row_of rows) same ∙ (placed rows roster b here).found in cc

module _ (rows : List Row) (roster : IsRoster rows) (leader row : ℕ) (here : leader < length rows)
    (there : row < length rows) (beside : IsBeside rows leader row) where
  -- only the leader has the group's id
  no_leader : (row_at rows row).tgid ≢ (row_at rows row).tid
  no_leader own =
      beside.1 (same_row rows roster row leader there here
      (sym own ∙ beside.2 ∙ eqb-true (row_at rows leader).tgid (row_at rows leader).tid beside.0))

  pub has_mother : parent_of rows row ≢ None
  has_mother none = no_leader ((placed rows roster row there).root none).1

  -- the parent of a row of the group is one too, and comes first
  pub mother_before : (mother : ℕ) → parent_of rows row ≡ Some mother
      → (mother < row) × ((row_at rows mother).tgid ≡ (row_at rows leader).tgid)
  mother_before mother of_parent =
      let place = (placed rows roster row there).child mother of_parent in
      (place.0, elim place.1.group [ inl own ↦ absurd (no_leader own) | inr parents ↦ sym parents ∙ beside.2 ])

  -- so what was counted of it tells whether the row is born
  pub born_as_counted : (h : List Entry) (births : List ℕ) (mother : ℕ) → AreLegal rows h
      → AreCounted rows leader row births h → parent_of rows row ≡ Some mother
      → is_born rows (history_of h) row ≡ nat_lt (rank_of rows row) (slice_index births mother)
  born_as_counted h births mother legal counted of_parent =
      let before = mother_before mother of_parent in
      born_by_births rows h row mother roster legal there of_parent
      ∙ ap (nat_lt (rank_of rows row)) (sym (counted mother before.0 before.1))

  -- a row that is not born rests, and has no children
  pub unborn_rests : (h : List Entry) (births : List ℕ) (mother : ℕ) → AreLegal rows h
      → AreCounted rows leader row births h → parent_of rows row ≡ Some mother
      → nat_lt (rank_of rows row) (slice_index births mother) ≡ false
      → IsResting rows row h × (0 ≡ (cell_after rows h row).births)
  unborn_rests h births mother legal counted of_parent low =
      let unborn = born_as_counted h births mother legal counted of_parent ∙ low in (
        inr (unborn_now rows h row there legal unborn, (mother, of_parent)),
        sym (ap births_in (unborn_is_silent rows (history_of h) (legal_history rows h legal) row unborn)),
      )

-- ---- row by row

-- the leader runs on while it looks
leads_on : (v w : View) (leader : ℕ) → v.tracees ≡ leader ∷ []
    → mover_of leader (cell_after v.roster v.seen leader).phase ≡ Some (Tracee leader) → Looked v w
    → (k : ℕ) → AreSettled v.roster leader k v.seen → AreSettled v.roster leader k w.seen
leads_on v w leader own moved l k settled =
    settled_on v.roster (actors_of v) leader k v.seen w.seen (legal_after v w l) l.grows.goes_on
    (acts_for leader v.tracees own) moved settled

pub leader_stays : (u v : View) (leader : ℕ) → u.tracees ≡ leader ∷ []
    → mover_of leader (cell_after u.roster u.seen leader).phase ≡ Some (Tracee leader) → Looked u v
    → cell_after u.roster v.seen leader ≡ cell_after u.roster u.seen leader
leader_stays u v leader own moved first =
    stays_on u.roster (actors_of u) u.seen v.seen (legal_after u v first) first.grows.goes_on leader
    (ap (is_moved_by (actors_of u)) moved ∙ acts_for leader u.tracees own)

-- the same from a view on the way
pub settled_from : (u v w : View) (leader : ℕ) → u.tracees ≡ leader ∷ []
    → mover_of leader (cell_after u.roster u.seen leader).phase ≡ Some (Tracee leader) → Looked u v → Looked v w
    → (k : ℕ) → AreSettled u.roster leader k v.seen → AreSettled u.roster leader k w.seen
settled_from u v w leader own moved first second k settled =
    let same = first.grows.same.roster in
    let cell = leader_stays u v leader own moved first in
    subst (λ rows. AreSettled rows leader k w.seen) same
    (leads_on v w leader (first.grows.same.tracees ∙ own)
    (ap (λ rows. mover_of leader (cell_after rows v.seen leader).phase) same
    ∙ ap (λ (c : Cell). mover_of leader c.phase) cell ∙ moved)
    second k (subst (λ rows. AreSettled rows leader k v.seen) (sym same) settled))

-- a row of the group that rests is settled beside the leader, where the rows of the group before it are
row_settled : (rows : List Row) → IsRoster rows → (leader k : ℕ) (h : List Entry) → k < length rows
    → leader < length rows → is_leader (row_at rows leader) ≡ true → AreSettled rows leader k h → k ≢ leader
    → (row_at rows k).tgid ≡ (row_at rows leader).tgid → IsResting rows k h
    → IsSettled rows (Some leader) (history_of h) k
row_settled rows roster leader k h there here leads settled apart together (inl over) = ended k over
row_settled rows roster leader k h there here leads settled apart together (inr unborn) =
    let parent = unborn.1.0 in
    let of_parent = unborn.1.1 in
    let before = mother_before rows roster leader k here there (leads, apart, together) parent of_parent in
    elim (cases_eq parent leader) [
      | inl beside ↦ unborn_beside k parent unborn.0 of_parent (ap Some (sym beside))
      | inr other ↦ unborn_below k parent unborn.0 of_parent (settled parent before.0 other before.1)
    ]

-- one more row of the group rests, or is none of the group
pub one_more_settled : (rows : List Row) → IsRoster rows → (leader k : ℕ) (h : List Entry) → k < length rows
    → leader < length rows → is_leader (row_at rows leader) ≡ true → AreSettled rows leader k h
    → (k ≢ leader → (row_at rows k).tgid ≡ (row_at rows leader).tgid → IsResting rows k h)
    → AreSettled rows leader (k + 1) h
one_more_settled rows roster leader k h there here leads settled rests row low apart together =
    elim (cases_eq row k) [
      | inr before ↦ settled row (omega (arith, low, before)) apart together
      | inl same ↦
          subst (IsSettled rows (Some leader) (history_of h)) (sym same)
          (row_settled rows roster leader k h there here leads settled (λ e. apart (same ∙ e))
          (ap (λ r. (row_at rows r).tgid) (sym same) ∙ together)
          (rests (λ e. apart (same ∙ e)) (ap (λ r. (row_at rows r).tgid) (sym same) ∙ together)))
    ]

-- ---- how many children

pub counted_from : (u v w : View) (leader k : ℕ) (births : List ℕ) → u.tracees ≡ leader ∷ []
    → mover_of leader (cell_after u.roster u.seen leader).phase ≡ Some (Tracee leader) → Looked u v → Looked v w
    → AreSettled u.roster leader k v.seen → AreCounted u.roster leader k births v.seen
    → AreCounted u.roster leader k births w.seen
counted_from u v w leader k births own moved first second settled counted =
    let mine = acts_for leader u.tracees own in
    let cell = leader_stays u v leader own moved first in
    counted_on u.roster (actors_of u) leader k births v.seen w.seen (legal_after u w (looked_on u v w first second))
    (subst (λ actors. GoesOn actors v.seen w.seen) (same_actors u v first.grows.same) second.grows.goes_on) mine
    (ap (λ (c : Cell). mover_of leader c.phase) cell ∙ moved) settled counted

-- one more row of the group is counted, or is none of the group
pub one_more_counted : (rows : List Row) (leader k count : ℕ) (births : List ℕ) (h : List Entry) → k < length births
    → AreCounted rows leader k births h → count ≡ (cell_after rows h k).births
    → AreCounted rows leader (k + 1) (set births k count) h
one_more_counted rows leader k count births h there counted is row low together =
    elim (cases_eq row k) [
      | inr before ↦
          get_or-set_other births k row count 0 before ∙ counted row (omega (arith, low, before)) together
      | inl same ↦
          subst (λ r. slice_index (set births k count) r ≡ (cell_after rows h r).births) (sym same)
          (get_or-set_same births k count 0 there ∙ is)
    ]

pub none_more_counted : (rows : List Row) (leader k : ℕ) (births : List ℕ) (h : List Entry)
    → (row_at rows k).tgid ≢ (row_at rows leader).tgid → AreCounted rows leader k births h
    → AreCounted rows leader (k + 1) births h
none_more_counted rows leader k births h strange counted row low together =
    elim (cases_eq row k) [
      | inr before ↦ counted row (omega (arith, low, before)) together
      | inl same ↦ absurd (strange (ap (λ r. (row_at rows r).tgid) (sym same) ∙ together))
    ]

-- ---- looks at the rows so far

pub no_more_looked : (rows : List Row) (v w : View) (leader k : ℕ)
    → LooksOnce (λ at. (at < k) × IsBeside rows leader at) v w
    → LooksOnce (λ at. (at < k + 1) × IsBeside rows leader at) v w
no_more_looked rows v w leader k once = looks_wider v w (λ at looked. (omega (arith, looked.0), looked.1)) once

pub one_more_looked : (rows : List Row) (u v w : View) (leader k : ℕ) → IsBeside rows leader k
    → LooksOnce (λ at. (at < k) × IsBeside rows leader at) u v → LooksOnce (λ at. at ≡ k) v w
    → LooksOnce (λ at. (at < k + 1) × IsBeside rows leader at) u w
one_more_looked rows u v w leader k beside first second =
    looks_both u v w (λ at looked. (omega (arith, looked.0), looked.1))
    (λ at same. (omega (arith, same), subst (IsBeside rows leader) (sym same) beside))
    (λ at looked same. let low = looked.0 in omega (arith, low, same)) first second

pub beside_looked : (rows : List Row) (v w : View) (leader k : ℕ)
    → LooksOnce (λ at. (at < k) × IsBeside rows leader at) v w → LooksOnce (IsBeside rows leader) v w
beside_looked rows v w leader k once = looks_wider v w (λ at looked. looked.1) once

-- the row that holds the leader back, at a look that was the last one
pub held_back : (u v w : View) (leader other : ℕ) → IsRoster u.roster → u.tracees ≡ leader ∷ []
    → mover_of leader (cell_after u.roster u.seen leader).phase ≡ Some (Tracee leader)
    → is_leader (row_at u.roster leader) ≡ true → Looked u v → AreSettled u.roster leader other v.seen → Looked v w
    → SawAlive v w other → other < length u.roster → other ≢ leader
    → (row_at u.roster other).tgid ≡ (row_at u.roster leader).tgid → SawHeldBack u w leader other
held_back u v w leader other roster own moved leads first settled second alive there apart together =
    let whole = looked_on u v w first second in
    let same = first.grows.same.roster in
    record {
      point = w.seen;
      sooner = whole.grows.goes_on;
      later = ([], refl);
      step = step_from u v w (a_look other w.seen) first.grows.steps alive.0;
      first = somebody_holds u.roster w.seen leader other leads
          (settled_from u v w leader own moved first second other settled) there apart together
          (ap (λ rows. is_alive (state_after rows (history_of w.seen) other)) (sym same) ∙ alive.1);
    }
