-- Each kind of step is one that the rule allows, and tells its handle what `Steps` says.
use Rattle.std.proofs.Common.{refl, ◌≡◌, ◌≢◌, ◌<◌, ◌∷◌, ◌⊎◌, [], ℕ, Bool, true, false, Some, Ok, List}
use Rattle.std.proofs.Common.{Option, length, ◌∙◌, sym, ap, inl, inr, subst, slice_set, slice_index}
use Rattle.std.proofs.Common.{eq-eqb, ne_eqb}
use Rattle.std.proofs.lemmas.Bool.{cases_eq}
use mathlib.Core.Option as maybe
use mathlib.Core.Option.{none, some}
use lib.ListN.{get_elem?}
use Rattle.atomic_table.specs.Table.{Allows, keeps, step}
use Rattle.trace_record.specs.Content.{Content}
use Rattle.trace_record.specs.declared.resume.Resume.{Resume as Restart}
use Rattle.stop_history.specs.declared.actor.Actor.TheVariants.{Tracee}
use Rattle.stop_history.specs.declared.phase.Phase.{Phase}
use Rattle.stop_history.specs.declared.phase.Phase.TheVariants as phase
use Rattle.stop_history.specs.declared.state.State.TheVariants as state
use Rattle.stop_history.specs.Actor.{actor_of, is_moved_by, mover_of}
use Rattle.stop_history.specs.Change.{Happened, restart_in, taken_with, word_after_event}
use Rattle.stop_history.specs.Event.{subject}
use Rattle.stop_history.specs.History.{Fits}
use Rattle.stop_history.specs.Layout.{raw_of}
use Rattle.stop_history.specs.Ranges.{IsInRange}
use Rattle.stop_history.specs.Word.{shown, word_after}
use Rattle.stop_history.proofs.AtomicSteps.{kept, lowered, own_word}
use Rattle.stop_history.proofs.States.{runs_on}
use Rattle.stop_table.specs.Entry.{Cell, Entry, GoesOn, IsCarried, cell_after, content_after, history_of, word_of}
use Rattle.stop_table.specs.Rule.{IsHome, IsViewOf, KeepsRule, Lies}
use Rattle.stop_table.specs.Place.{place}
use Rattle.stop_table.specs.Steps.{Seated, Sees, at_seen, found_by, looked, looked_on}
use Rattle.stop_table.specs.View.{Observation, View, actors_of, an_exchange, is_among, a_look}
use Rattle.stop_table.proofs.Entries.{other_cell, stays_on}
use Rattle.stop_table.proofs.Moves.{Homes, St, at_place, moves}

-- ---- what is common to all kinds

module _ (me : Seated) (s : St) (k : KeepsRule me.0.roster s) (id t : ℕ) (at : get_elem? s.views id ≡ some me.0)
    (there : t < length me.0.roster) where
  abbrev pub followed : IsViewOf k.history k.taken me.0
  followed = k.follows id me.0 at

  pub on : GoesOn (actors_of me.0) me.0.seen k.history
  on = (followed.more, followed.goes_on, followed.quiet)

  -- a row that only the handle's own actors can move is as it was seen
  pub still : is_moved_by (actors_of me.0) (mover_of t (cell_after me.0.roster me.0.seen t).phase) ≡ true
      → cell_after me.0.roster k.history t ≡ cell_after me.0.roster me.0.seen t
  still moved = stays_on me.0.roster (actors_of me.0) me.0.seen k.history k.legal on t moved

  -- what a step that changes nothing leaves
  abbrev pub look_view : (List Entry → Observation) → View
  look_view by = at_seen me.0 by k.history me.0.taken

  pub look_kept : (by : List Entry → Observation) → KeepsRule me.0.roster
      (record { words = slice_set s.words (place t) (slice_index s.words (place t)); homes = s.homes; views = slice_set s.views id (look_view by) })
  look_kept by =
      moves me.0.roster s k id t (slice_index s.words (place t)) me.0 (look_view by) [] k.taken s.homes there at
      (record {
        legal = k.legal;
        cells = λ u other. refl;
        others = λ u other. refl;
        word = (k.rows t there).word;
        home = (k.rows t there).home;
        up = k.up;
        as_long = refl;
        other_homes = λ u other. refl;
      })
      (record {
        tracees = refl;
        tracers = refl;
        seen = refl;
        told = refl;
        knows = followed.knows;
        mine = λ u apart. tt;
        flag = inl refl;
      })

  pub look_told : (by : List Entry → Observation) → found_by by t me (slice_index s.words (place t)) (look_view by, me.1)
  look_told by = (
    k.history,
    refl,
    record { goes_on = on; placed = k.placed; legal = k.legal; view = refl },
    (k.taken t, (k.rows t there).word, k.up t, followed.knows t),
  )

  -- what a step with an event of the row leaves, after which the row is not taken up
  pub record Makes (n : ℕ) (x : Entry) (taken : Bool) (homes : Homes) : Type 0 where
    pub own : subject x.event ≡ t
    pub fits : Fits me.0.roster (history_of k.history) x.event
    pub ranged : IsInRange x.event
    pub carried : IsCarried me.0.roster (content_after me.0.roster k.history (subject x.event)) x.event x.content
    pub word : n ≡ raw_of (word_after_event (word_of (k.taken t) (cell_after me.0.roster k.history t)) x.event)
    pub home : IsHome false (cell_after me.0.roster (x ∷ k.history) t) (get_elem? homes (place t))
    pub as_long : length homes ≡ length s.homes
    pub other_homes : (u : ℕ) → u ≢ t → get_elem? homes (place u) ≡ get_elem? s.homes (place u)
    pub acts : actors_of me.0 (actor_of x.event) ≡ true
    pub knows : (u : ℕ) → is_among u me.0.tracees ≡ true → taken_with (Happened x.event) k.taken u ≡ taken
    pub flag : (taken_with (Happened x.event) k.taken t ≡ k.taken t) ⊎ (is_among t me.0.tracees ≡ true)

  abbrev pub made_view : Entry → Bool → View
  made_view x taken = at_seen me.0 (an_exchange t) (x ∷ k.history) taken

  pub made_kept : (n : ℕ) (x : Entry) (taken : Bool) (homes : Homes) → Makes n x taken homes → KeepsRule me.0.roster
      (record { words = slice_set s.words (place t) n; homes = homes; views = slice_set s.views id (made_view x taken) })
  made_kept n x taken homes m =
      let next = taken_with (Happened x.event) k.taken in
      let low : next t ≡ false =
      ap next (sym m.own) ∙ lowered me.0.roster (history_of k.history) k.taken k.up x.event m.fits in
      moves me.0.roster s k id t n me.0 (made_view x taken) (x ∷ []) next homes there at
      (record {
        legal = ((m.fits, m.ranged, m.carried), k.legal);
        cells = λ u other. other_cell me.0.roster u x k.history (λ same. other (same ∙ m.own));
        others = λ u other. kept k.taken x.event u (λ same. other (same ∙ m.own));
        word = m.word
            ∙ ap raw_of
            (sym (subst (λ r. word_after next (history_of (x ∷ k.history)) r
            ≡ word_after_event (word_after k.taken (history_of k.history) r) x.event) m.own
            (own_word me.0.roster (history_of k.history) k.taken k.up x.event m.fits)));
        home = subst (λ b. IsHome b (cell_after me.0.roster (x ∷ k.history) t) (get_elem? homes (place t))) (sym low) m.home;
        up = λ u is_up. elim (cases_eq u t) [
          | inl same ↦ (let clash : false ≡ true = sym low ∙ ap next (sym same) ∙ is_up in cc)
          | inr other ↦
              runs_on me.0.roster (history_of k.history) x.event u (λ same. other (same ∙ m.own))
              (k.up u (sym (kept k.taken x.event u (λ same. other (same ∙ m.own))) ∙ is_up))
        ];
        as_long = m.as_long;
        other_homes = m.other_homes;
      })
      (record {
        tracees = refl;
        tracers = refl;
        seen = refl;
        told = refl;
        knows = m.knows;
        mine = λ u apart. (apart (actor_of x.event) m.acts, tt);
        flag = m.flag;
      })

  pub made_told : (n : ℕ) (x : Entry) (taken : Bool) (homes : Homes) → Makes n x taken homes
      → Sees me.0 (an_exchange t) k.history (x ∷ []) taken (made_view x taken)
  made_told n x taken homes m =
      record { goes_on = on; placed = k.placed; legal = ((m.fits, m.ranged, m.carried), k.legal); view = refl }

-- ---- looks

pub loads : (me : Seated) (slots id t : ℕ) → t < length me.0.roster
    → Allows (KeepsRule me.0.roster) slots id me (place t) (λ n. n) (looked (step slots (place t) 0 0 none) me)
loads me slots id t there s k sized at bounded = (
  look_view me s k id t at there (a_look t),
  keeps,
  tt,
  look_kept me s k id t at there (a_look t),
  at_place (λ row. looked_on row me (slice_index s.words (place t)) (look_view me s k id t at there (a_look t), me.1)) t
      (look_told me s k id t at there (a_look t)),
)

-- ---- words and phases

pub acts_for : (row : ℕ) (rows : List ℕ) → rows ≡ row ∷ [] → is_among row rows ≡ true
acts_for row rows is = ap (is_among row) is ∙ rw (eq-eqb row row refl) refl

pub only_one : (row other : ℕ) (rows : List ℕ) → rows ≡ row ∷ [] → is_among other rows ≡ true → other ≡ row
only_one row other rows is among =
    elim (cases_eq other row) [
      | inl same ↦ same
      | inr apart ↦
          (let clash : false ≡ true =
          (let none : is_among other (row ∷ []) ≡ false = rw (ne_eqb _ _ apart) refl in
          sym none ∙ ap (is_among other) (sym is) ∙ among) in cc)
    ]

-- a row of a phase that has a restart runs once it is born
pub restart_runs : (number : ℕ) (p : Phase) (how : Restart) → restart_in p ≡ Ok how → shown true number p ≡ state.Running
restart_runs number phase.Fresh how is = refl
restart_runs number (phase.Resumed other) how is = refl
restart_runs number phase.Active how is = cc
restart_runs number (phase.Stopped status) how is = cc
restart_runs number (phase.Claimed tracer) how is = cc
restart_runs number (phase.Dead status) how is = cc
restart_runs number phase.Reaped how is = cc

pub restart_mover : (row : ℕ) (p : Phase) (how : Restart) → restart_in p ≡ Ok how → mover_of row p ≡ Some (Tracee row)
restart_mover row phase.Fresh how is = refl
restart_mover row (phase.Resumed other) how is = refl
restart_mover row phase.Active how is = cc
restart_mover row (phase.Stopped status) how is = cc
restart_mover row (phase.Claimed tracer) how is = cc
restart_mover row (phase.Dead status) how is = cc
restart_mover row phase.Reaped how is = cc

-- the slot of such a row has its record
pub restart_lies : (p : Phase) (how : Restart) (content : Content) (slot : maybe.Option (Option Content))
    → restart_in p ≡ Ok how → Lies p content slot → slot ≡ some (Some content)
restart_lies phase.Fresh how content slot is lies = lies
restart_lies (phase.Resumed other) how content slot is lies = lies
restart_lies phase.Active how content slot is lies = cc
restart_lies (phase.Stopped status) how content slot is lies = cc
restart_lies (phase.Claimed tracer) how content slot is lies = cc
restart_lies (phase.Dead status) how content slot is lies = cc
restart_lies phase.Reaped how content slot is lies = cc

-- a word that shows another phase than Active is that of a row that is not taken up
pub not_taken : (taken : Bool) (cell : Cell) (p : Phase) → (word_of taken cell).phase ≡ p → p ≢ phase.Active
    → (taken ≡ false) × (cell.phase ≡ p)
not_taken true cell p is other = absurd (other (sym is))
not_taken false cell p is other = (refl, is)

-- what is in the slot that was taken last is what is known to be there
pub slot_is : (c : List (ℕ × Option Content)) (i j : ℕ) (x y : Option Content) (d e : List (ℕ × Option Content))
    → c ≡ (i, x) ∷ d → c ≡ (j, y) ∷ e → x ≡ y
slot_is c i j x y d e first second = ap (λ l. last_taken l x) (sym first ∙ second)
  where
    last_taken : List (ℕ × Option Content) → Option Content → Option Content
    last_taken [] other = other
    last_taken (x ∷ xs) other = x.1

pub hand_is : (c : List (ℕ × Option Content)) (t : ℕ) (r q : Content) (d e : List (ℕ × Option Content))
    → c ≡ (t, Some r) ∷ d → c ≡ (t, Some q) ∷ e → r ≡ q
hand_is c t r q d e first second =
    let both : Some r ≡ Some q = slot_is c t t (Some r) (Some q) d e first second in cc
