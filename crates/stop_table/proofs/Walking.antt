-- Looks one after the other: what a later part of a call tells holds of the whole call.
use Rattle.std.proofs.Common.{refl, ◌≢◌, ◌≡◌, ◌<◌, ◌∷◌, ◌++◌, [], ℕ, Bool, true, false, Some, None, List, length}
use Rattle.std.proofs.Common.{◌∙◌, sym, ap, inl, inr, subst, arith}
use Rattle.std.specs.Prelude.{MatchBool, nat_lt}
use Rattle.std.proofs.lemmas.Bool.{cases_Bool}
use Rattle.std.proofs.lemmas.List.{append_assoc}
use Rattle.stop_history.specs.declared.phase.Phase.{Phase}
use Rattle.stop_history.specs.declared.phase.Phase.TheVariants as phase
use Rattle.stop_history.specs.declared.roster.Row.{Row}
use Rattle.stop_history.specs.Roster.{IsRoster, parent_of, rank_of}
use Rattle.stop_history.specs.State.{is_born, is_waitable, state_after, state_in}
use Rattle.stop_history.specs.Word.{Word, shown}
use Rattle.stop_history.proofs.Births.{born_by_rank}
use Rattle.stop_history.proofs.Longer.{unborn_is_silent}
use Rattle.stop_history.proofs.Rosters.{placed}
use Rattle.stop_history.proofs.States.{state_within}
use Rattle.stop_table.specs.declared.shown.Shown.{Shown}
use Rattle.stop_table.specs.Entry.{AreLegal, Begins, Entry, GoesOn, cell_after, history_of, word_of}
use Rattle.stop_table.specs.Handle.{EndsWith, Grows, HasObservation, HasSteps, IsLostSince, IsPoint, IsSame, IsStepOf}
use Rattle.stop_table.specs.Handle.{IsLost, IsUnborn, Looked, LooksAt, SawUnborn, SeenAt, shown_of}
use Rattle.stop_table.specs.Seat.{FoundBy, Saw}
use Rattle.stop_table.specs.Steps.{Seated, Sees}
use Rattle.stop_table.specs.View.{Observation, View, actors_of, an_exchange, a_look}
use Rattle.stop_table.proofs.Entries.{goes_nowhere, goes_on, legal_history, shown_state}
use Rattle.stop_table.proofs.Allowed.{not_taken}
use Rattle.stop_table.proofs.Own.{same_actors}

-- ---- the same handle

pub itself : (v : View) → IsSame v v
itself v = record { roster = refl; tracees = refl; tracers = refl; number = refl }

pub same_trans : (u v w : View) → IsSame u v → IsSame v w → IsSame u w
same_trans u v w first second = record {
  roster = second.roster ∙ first.roster;
  tracees = second.tracees ∙ first.tracees;
  tracers = second.tracers ∙ first.tracers;
  number = second.number ∙ first.number;
}

pub sees_same : (v w : View) {step : List Entry → Observation} (h new : List Entry) (taken : Bool)
    → Sees v step h new taken w → IsSame v w
sees_same v w h new taken s = record {
  roster = ap (λ (x : View). x.roster) s.view;
  tracees = ap (λ (x : View). x.tracees) s.view;
  tracers = ap (λ (x : View). x.tracers) s.view;
  number = ap (λ (x : View). x.number) s.view;
}

pub goes_from : (u v : View) (h : List Entry) → GoesOn (actors_of u) u.seen v.seen → IsSame u v
    → GoesOn (actors_of v) v.seen h → GoesOn (actors_of u) u.seen h
goes_from u v h first same second =
    goes_on (actors_of u) u.seen v.seen h first
    (subst (λ actors. GoesOn actors v.seen h) (same_actors u v same) second)

-- ---- steps

pub steps_trans : (u v w : View) → HasSteps u v → HasSteps v w → HasSteps u w
steps_trans u v w first second = (
  second.0 ++ first.0,
  second.1 ∙ ap (λ os. second.0 ++ os) first.1 ∙ sym (append_assoc second.0 first.0 u.observations),
)

has_front : (a b : List Observation) (o : Observation) → HasObservation a o → HasObservation (a ++ b) o
has_front [] b o has = absurd has
has_front (x ∷ a) b o has = elim has [ inl here ↦ inl here | inr later ↦ inr (has_front a b o later) ]

has_back : (a b : List Observation) (o : Observation) → HasObservation b o → HasObservation (a ++ b) o
has_back [] b o has = has
has_back (x ∷ a) b o has = inr (has_back a b o has)

-- a step of a part of a call is one of the whole
pub step_from : (u v w : View) (o : Observation) → HasSteps u v → IsStepOf v w o → IsStepOf u w o
step_from u v w o first step = (
  step.0 ++ first.0,
  step.1 ∙ ap (λ os. step.0 ++ os) first.1 ∙ sym (append_assoc step.0 first.0 u.observations),
  has_front step.0 first.0 o step.2,
)

pub step_on : (u v w : View) (o : Observation) → IsStepOf u v o → HasSteps v w → IsStepOf u w o
step_on u v w o step later = (
  later.0 ++ step.0,
  later.1 ∙ ap (λ os. later.0 ++ os) step.1 ∙ sym (append_assoc later.0 step.0 u.observations),
  has_back later.0 step.0 o step.2,
)

pub point_from : (u v w : View) (row : ℕ) (h : List Entry) → v.roster ≡ u.roster → HasSteps u v → IsPoint v w row h
    → IsPoint u w row h
point_from u v w row h same first point =
    elim point [
      | inl own ↦ inl (step_from u v w (a_look row h) first own)
      | inr parents ↦
          inr (
            subst (λ rows. IsUnborn rows row h) same parents.0,
            (
              parents.1.0,
              step_from u v w (a_look parents.1.0 h) first parents.1.1,
              subst (λ rows. parent_of rows row ≡ Some parents.1.0) same parents.1.2,
            ),
          )
    ]

-- what a part of a call lost to another, the whole call lost
pub lost_since_from : (look : List Entry) (u v w : View) (row : ℕ) (h : List Entry) → v.roster ≡ u.roster → HasSteps u v
    → IsLostSince look v w row h → IsLostSince look u w row h
lost_since_from look u v w row h same first lost = record {
  waited = subst (λ rows. is_waitable (state_after rows (history_of look) row) ≡ true) same lost.waited;
  before = lost.before;
  later = lost.later;
  untouched = lost.untouched;
  claim = lost.claim;
  number = lost.number;
  tracer = lost.tracer;
  is_claim = lost.is_claim;
  point = lost.point;
  found = lost.found;
  on = lost.on;
  exchange = step_from u v w (an_exchange row lost.found) first lost.exchange;
}

pub lost_from : (u v w : View) (row : ℕ) (h : List Entry) → v.roster ≡ u.roster → HasSteps u v → IsLost v w row h
    → IsLost u w row h
lost_from u v w row h same first lost = (
  lost.0,
  step_from u v w (a_look row lost.0) first lost.1,
  lost_since_from lost.0 u v w row h same first lost.2,
)

pub lost_on : (u v w : View) (row : ℕ) (h : List Entry) → IsLost u v row h → HasSteps v w → IsLost u w row h
lost_on u v w row h lost later = (
  lost.0,
  step_on u v w (a_look row lost.0) lost.1 later,
  record {
    waited = lost.2.waited;
    before = lost.2.before;
    later = lost.2.later;
    untouched = lost.2.untouched;
    claim = lost.2.claim;
    number = lost.2.number;
    tracer = lost.2.tracer;
    is_claim = lost.2.is_claim;
    point = lost.2.point;
    found = lost.2.found;
    on = lost.2.on;
    exchange = step_on u v w (an_exchange row lost.2.found) lost.2.exchange later;
  },
)

-- ---- a call that goes on

pub grows_on : (u v w : View) → Grows u v → Grows v w → Grows u w
grows_on u v w first second = record {
  goes_on = goes_from u v w.seen first.goes_on first.same second.goes_on;
  legal = second.legal;
  same = same_trans u v w first.same second.same;
  steps = steps_trans u v w first.steps second.steps;
}

pub looked_on : (u v w : View) → Looked u v → Looked v w → Looked u w
looked_on u v w first second =
    record { grows = grows_on u v w first.grows second.grows; taken = second.taken ∙ first.taken }

pub stands_still : (v : View) → AreLegal v.roster v.seen → Looked v v
stands_still v legal = record {
  grows = record {
    goes_on = goes_nowhere (actors_of v) v.seen;
    legal = legal;
    same = itself v;
    steps = ([], refl);
  };
  taken = refl;
}

pub begins_of : (v w : View) → Grows v w → Begins v.seen w.seen
begins_of v w g = (g.goes_on.0, g.goes_on.1)

pub seen_from : (u v w : View) (first : Grows u v) (row : ℕ) (a : Shown) → SeenAt v w (IsPoint v w row) row a
    → SeenAt u w (IsPoint u w row) row a
seen_from u v w first row a s = record {
  point = s.point;
  sooner = goes_from u v s.point first.goes_on first.same s.sooner;
  later = s.later;
  step = point_from u v w row s.point first.same.roster first.steps s.step;
  shown = s.shown ∙ ap (λ rows. shown_of (state_after rows (history_of s.point) row)) first.same.roster;
}

pub looks_from : (u v w : View) (row : ℕ) (a : Shown) → Looked u v → LooksAt v w row a → LooksAt u w row a
looks_from u v w row a first l = (looked_on u v w first l.0, seen_from u v w first.grows row a l.1)

-- ---- one look

pub seen_is : (m n : Seated) {step : List Entry → Observation} (row : ℕ) (word : Word)
    → (s : FoundBy step m n row word) → n.0.seen ≡ s.1
seen_is m n row word s = ap (λ (x : View). x.seen) s.2.view

pub one_look : (m n : Seated) {step : List Entry → Observation} (row : ℕ) (word : Word) → FoundBy step m n row word
    → Looked m.0 n.0
one_look m n {step} row word s =
    let at = seen_is m n row word s in
    let same = sees_same m.0 n.0 s.1 [] m.0.taken s.2 in
    record {
      grows = record {
        goes_on = subst (GoesOn (actors_of m.0) m.0.seen) (sym at) s.2.goes_on;
        legal = subst (λ rows. AreLegal rows n.0.seen) (sym same.roster)
            (subst (AreLegal m.0.roster) (sym at) s.2.legal);
        same = same;
        steps = (step s.1 ∷ [], ap (λ (x : View). x.observations) s.2.view);
      };
      taken = ap (λ (x : View). x.taken) s.2.view;
    }

-- the step, and the history directly after it, which is what is seen now
pub look_step : (m n : Seated) {step : List Entry → Observation} (row : ℕ) (word : Word) → FoundBy step m n row word
    → IsStepOf m.0 n.0 (step n.0.seen)
look_step m n {step} row word s = (
  step s.1 ∷ [],
  ap (λ (x : View). x.observations) s.2.view,
  inl (ap step (sym (seen_is m n row word s))),
)

-- the word seen is that of the row now
pub word_now : (m n : Seated) (row : ℕ) (word : Word) → (s : Saw m n row word)
    → word ≡ word_of s.3 (cell_after m.0.roster n.0.seen row)
word_now m n row word s =
    s.4 ∙ ap (λ h. word_of s.3 (cell_after m.0.roster h row)) (sym (seen_is m n row word s))

-- a word shows the state of a born row
pub state_seen : (m n : Seated) (row : ℕ) (word : Word) → row < length m.0.roster → (s : Saw m n row word)
    → is_born m.0.roster (history_of n.0.seen) row ≡ true
    → shown true word.number word.phase ≡ state_after m.0.roster (history_of n.0.seen) row
state_seen m n row word there s born =
    let at = seen_is m n row word s in
    let now = word_now m n row word s in
    let state_is : state_after m.0.roster (history_of n.0.seen) row
    ≡ shown true (cell_after m.0.roster n.0.seen row).number (cell_after m.0.roster n.0.seen row).phase =
    shown_state m.0.roster n.0.seen row there
    ∙ ap (λ b. shown b (cell_after m.0.roster n.0.seen row).number (cell_after m.0.roster n.0.seen row).phase) born in
    ap (λ (w : Word). shown true w.number w.phase) now
    ∙ elim (cases_Bool s.3) [
      | inl up ↦
          ap (λ b. shown true (cell_after m.0.roster n.0.seen row).number (word_of b (cell_after m.0.roster n.0.seen row)).phase) up
          ∙ sym (s.5 up) ∙ ap (λ h. state_after m.0.roster (history_of h) row) (sym at)
      | inr low ↦
          ap (λ b. shown true (cell_after m.0.roster n.0.seen row).number (word_of b (cell_after m.0.roster n.0.seen row)).phase) low
          ∙ sym state_is
    ]

-- ---- births

pub root_is_born : (rows : List Row) (h : List Entry) (row : ℕ) → parent_of rows row ≡ None
    → is_born rows (history_of h) row ≡ true
root_is_born rows h row none = rw none refl

-- whether a row is born, by its parent's births
pub born_by_births : (rows : List Row) (h : List Entry) (row parent : ℕ) → IsRoster rows → AreLegal rows h
    → row < length rows → parent_of rows row ≡ Some parent
    → is_born rows (history_of h) row ≡ nat_lt (rank_of rows row) (cell_after rows h parent).births
born_by_births rows h row parent roster legal there of_parent =
    rw of_parent
    (born_by_rank rows roster (history_of h) (legal_history rows h legal) row parent there of_parent)

pub unborn_now : (rows : List Row) (h : List Entry) (row : ℕ) → row < length rows → AreLegal rows h
    → is_born rows (history_of h) row ≡ false → IsUnborn rows row h
unborn_now rows h row there legal unborn =
    state_within rows (history_of h) row there
    ∙ (λ k. state_in (unborn k) (unborn_is_silent rows (history_of h) (legal_history rows h legal) row unborn k))

tells : (v w : View) (row : ℕ) (b : Bool) → is_born v.roster (history_of w.seen) row ≡ b
    → (is_born v.roster (history_of w.seen) row ≡ false → SawUnborn v w row)
    → MatchBool b (is_born v.roster (history_of w.seen) row ≡ true) (SawUnborn v w row)
tells v w row true born unborn = born
tells v w row false born unborn = unborn born

pub parent_says : (m n : Seated) (row parent : ℕ) (word : Word) (b : Bool) → row < length m.0.roster
    → parent_of m.0.roster row ≡ Some parent → Saw m n parent word
    → b ≡ nat_lt (rank_of m.0.roster row) word.births
    → MatchBool b (is_born m.0.roster (history_of n.0.seen) row ≡ true) (SawUnborn m.0 n.0 row)
parent_says m n row parent word b there of_parent s is =
    let look = one_look m n parent word s in
    let legal : AreLegal m.0.roster n.0.seen =
    subst (λ rows. AreLegal rows n.0.seen) look.grows.same.roster look.grows.legal in
    let born : is_born m.0.roster (history_of n.0.seen) row ≡ b =
    born_by_births m.0.roster n.0.seen row parent s.2.placed legal there of_parent
    ∙ ap (λ (w : Word). nat_lt (rank_of m.0.roster row) w.births) (sym (word_now m n parent word s)) ∙ sym is in
    tells m.0 n.0 row b born
    (λ unborn. (
      unborn_now m.0.roster n.0.seen row there legal unborn,
      (parent, look_step m n parent word s, of_parent),
    ))

-- a row's parent is there
pub parent_there : (rows : List Row) → IsRoster rows → (row parent : ℕ) → row < length rows
    → parent_of rows row ≡ Some parent → parent < length rows
parent_there rows roster row parent there of_parent =
    let before = ((placed rows roster row there).child parent of_parent).0 in omega arith

-- what is seen after looks is legal for the rows of the handle
pub legal_after : (v w : View) → Looked v w → AreLegal v.roster w.seen
legal_after v w l = subst (λ rows. AreLegal rows w.seen) l.grows.same.roster l.grows.legal

-- a step with an event of the handle's own
pub ended_with : (v w : View) {step : List Entry → Observation} (h : List Entry) (x : Entry) (taken : Bool)
    → Sees v step h (x ∷ []) taken w → EndsWith v w h x
ended_with v w {step} h x taken s =
    let same = sees_same v w h (x ∷ []) taken s in
    let seen = ap (λ (u : View). u.seen) s.view in
    record {
      goes_on = s.goes_on;
      seen = seen;
      legal = subst (λ rows. AreLegal rows w.seen) (sym same.roster) (subst (AreLegal v.roster) (sym seen) s.legal);
      same = same;
      steps = (step (x ∷ h) ∷ [], ap (λ (u : View). u.observations) s.view);
    }

-- looks before an event of the handle's own
pub ends_from : (u v w : View) (h : List Entry) (x : Entry) → Looked u v → EndsWith v w h x → EndsWith u w h x
ends_from u v w h x first e = record {
  goes_on = goes_from u v h first.grows.goes_on first.grows.same e.goes_on;
  seen = e.seen;
  legal = e.legal;
  same = same_trans u v w first.grows.same e.same;
  steps = steps_trans u v w first.grows.steps e.steps;
}

-- a word that was just seen and is not active is that of a row that is not taken up
pub idle_word : (m n : Seated) (row : ℕ) (word : Word) (p : Phase) → Saw m n row word → word.phase ≡ p → p ≢ phase.Active
    → word ≡ word_of false (cell_after n.0.roster n.0.seen row)
idle_word m n row word p s is other =
    let now = word_now m n row word s in
    let low = (not_taken s.3 (cell_after m.0.roster n.0.seen row) p (ap (λ (w : Word). w.phase) (sym now) ∙ is) other).0 in
    now ∙ ap (λ b. word_of b (cell_after m.0.roster n.0.seen row)) low
    ∙ ap (λ rows. word_of false (cell_after rows n.0.seen row)) (sym (one_look m n row word s).grows.same.roster)
