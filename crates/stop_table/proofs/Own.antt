-- A handle's own events, and the rows that it has claimed, as it goes on.
use Rattle.std.proofs.Common.{refl, ◌≡◌, ◌≢◌, ◌∷◌, ◌++◌, [], ℕ, Bool, true, List, filter, ◌∙◌, ap, subst}
use Rattle.std.proofs.Common.{cond, ◌||◌}
use Rattle.std.proofs.lemmas.Bool.{eqb-true}
use Rattle.stop_history.specs.declared.actor.Actor.{Actor}
use Rattle.stop_history.specs.declared.phase.Phase.{Phase}
use Rattle.stop_history.specs.declared.phase.Phase.TheVariants as phase
use Rattle.stop_history.specs.Actor.{IsQuiet, actor_of, is_moved_by, mover_of}
use Rattle.stop_history.specs.Event.{subject}
use Rattle.stop_table.specs.Entry.{AreLegal, Entry, cell_after, history_of}
use Rattle.stop_table.specs.Handle.{EndsWith, Grows, IsSame, Meets, own_events}
use Rattle.stop_table.specs.Tracer.{is_claimed_by, is_held}
use Rattle.stop_table.specs.View.{View, actors_of, actors_in, is_among}
use Rattle.stop_table.proofs.Entries.{other_cell, stays_on}
use Rattle.stop_table.proofs.Meets.{acts_of_both}

pub same_actors : (v w : View) → IsSame v w → actors_of w ≡ actors_of v
same_actors v w same = λ k. actors_in (same.tracees k) (same.tracers k)

-- of the entries, those of the actors of a set
abbrev own_of : (Actor → Bool) → List Entry → List Entry
own_of actors h = filter (λ x. actors (actor_of x.event)) h

none_of_quiet : (actors : Actor → Bool) (more h : List Entry) → IsQuiet actors (history_of more)
    → own_of actors (more ++ h) ≡ own_of actors h
none_of_quiet actors [] h quiet = refl
none_of_quiet actors (x ∷ more) h quiet = rw quiet.0 (none_of_quiet actors more h quiet.1)

pub own_stays : (v w : View) → Grows v w → own_events w ≡ own_events v
own_stays v w g =
    ap (λ actors. own_of actors w.seen) (same_actors v w g.same)
    ∙ ap (own_of (actors_of v)) g.goes_on.1
    ∙ none_of_quiet (actors_of v) g.goes_on.0 v.seen g.goes_on.2

pub own_grows : (v w : View) (before : List Entry) (x : Entry) → EndsWith v w before x
    → actors_of v (actor_of x.event) ≡ true → own_events w ≡ x ∷ own_events v
own_grows v w before x e mine =
    ap (λ actors. own_of actors w.seen) (same_actors v w e.same)
    ∙ ap (own_of (actors_of v)) e.seen
    ∙ ap (λ b. cond b (x ∷ own_of (actors_of v) before) (own_of (actors_of v) before)) mine
    ∙ ap (λ h. x ∷ h)
    (ap (own_of (actors_of v)) e.goes_on.1 ∙ none_of_quiet (actors_of v) e.goes_on.0 v.seen e.goes_on.2)

-- ---- claimed rows

pub claimed_by_is : (tracer : ℕ) (p : Phase) → is_claimed_by tracer p ≡ true → p ≡ phase.Claimed tracer
claimed_by_is tracer (phase.Claimed holder) is = ap phase.Claimed (eqb-true _ _ is)
claimed_by_is tracer phase.Fresh is = cc
claimed_by_is tracer (phase.Resumed how) is = cc
claimed_by_is tracer phase.Active is = cc
claimed_by_is tracer (phase.Stopped status) is = cc
claimed_by_is tracer (phase.Dead status) is = cc
claimed_by_is tracer phase.Reaped is = cc

-- a row that a tracer has claimed is that tracer's to move
pub held_moved : (v : View) (row : ℕ) → is_among v.number v.tracers ≡ true → is_held v row ≡ true
    → is_moved_by (actors_of v) (mover_of row (cell_after v.roster v.seen row).phase) ≡ true
held_moved v row mine held =
    ap (λ p. is_moved_by (actors_of v) (mover_of row p)) (claimed_by_is v.number (cell_after v.roster v.seen row).phase held)
    ∙ mine

pub claim_stays : (v w : View) → is_among v.number v.tracers ≡ true → Grows v w → (row : ℕ) → is_held v row ≡ true
    → cell_after w.roster w.seen row ≡ cell_after v.roster v.seen row
claim_stays v w mine g row held =
    ap (λ rows. cell_after rows w.seen row) g.same.roster
    ∙ stays_on v.roster (actors_of v) v.seen w.seen (subst (λ rows. AreLegal rows w.seen) g.same.roster g.legal) g.goes_on
    row (held_moved v row mine held)

pub claim_stays_beside : (v w : View) (before : List Entry) (x : Entry) → is_among v.number v.tracers ≡ true
    → EndsWith v w before x → (row : ℕ) → row ≢ subject x.event → is_held v row ≡ true
    → cell_after w.roster w.seen row ≡ cell_after v.roster v.seen row
claim_stays_beside v w before x mine e row other held =
    let legal : AreLegal v.roster (x ∷ before) =
    subst (λ rows. AreLegal rows (x ∷ before)) e.same.roster (subst (AreLegal w.roster) e.seen e.legal) in
    ap (λ rows. cell_after rows w.seen row) e.same.roster ∙ ap (λ h. cell_after v.roster h row) e.seen
    ∙ other_cell v.roster row x before other
    ∙ stays_on v.roster (actors_of v) v.seen before legal.1 e.goes_on row (held_moved v row mine held)

-- ---- meetings

pub left_events : (v w u : View) → Meets v w u → own_of (actors_of v) u.seen ≡ own_events v
left_events v w u m = ap (own_of (actors_of v)) m.left.1 ∙ none_of_quiet (actors_of v) m.left.0 v.seen m.left.2

pub right_events : (v w u : View) → Meets v w u → own_of (actors_of w) u.seen ≡ own_events w
right_events v w u m = ap (own_of (actors_of w)) m.right.1 ∙ none_of_quiet (actors_of w) m.right.0 w.seen m.right.2

pub actors_of_both : (v w u : View) → Meets v w u → (a : Actor) → actors_of u a ≡ (actors_of v a || actors_of w a)
actors_of_both v w u m a =
    (λ k. actors_in (m.tracees k) (m.tracers k) a) ∙ acts_of_both v w a

-- the rows that a handle has claimed are those of its left side
pub claims_kept : (v w u : View) → is_among v.number v.tracers ≡ true → Meets v w u → AreLegal u.roster u.seen
    → (row : ℕ) → is_held v row ≡ true → cell_after u.roster u.seen row ≡ cell_after v.roster v.seen row
claims_kept v w u mine m legal row held =
    ap (λ rows. cell_after rows u.seen row) m.roster
    ∙ stays_on v.roster (actors_of v) v.seen u.seen (subst (λ rows. AreLegal rows u.seen) m.roster legal) m.left row
    (held_moved v row mine held)
