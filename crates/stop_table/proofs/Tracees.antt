-- A tracee's handle, from call to call.
use Rattle.std.proofs.Common.{refl, ◌≡◌, ◌≢◌, ◌<◌, ◌∷◌, [], ℕ, Bool, true, false, Some, None, Ok, Err, List}
use Rattle.std.proofs.Common.{length, ◌∙◌, sym, ap, inl, inr, subst, arith}
use Rattle.std.proofs.lemmas.Bool.{cases_Bool}
use Rattle.atomic_table.specs.Table.{rest}
use Rattle.trace_record.specs.Content.{Content}
use Rattle.trace_record.specs.Resume.{IsResume}
use Rattle.trace_record.specs.declared.resume.Kind.TheVariants.{Cont}
use Rattle.trace_record.specs.declared.death.Death.{Death}
use Rattle.trace_record.specs.declared.resume.Resume.{Resume as Restart}
use Rattle.stop_history.specs.declared.actor.Actor.TheVariants.{Tracee}
use Rattle.stop_history.specs.declared.phase.Phase.{Phase}
use Rattle.stop_history.specs.declared.phase.Phase.TheVariants as phase
use Rattle.stop_history.specs.declared.refused.Refused.{Refused}
use Rattle.stop_history.specs.declared.roster.Row.{Row}
use Rattle.stop_history.specs.declared.state.State.TheVariants as state
use Rattle.stop_history.specs.Actor.{is_moved_by, mover_of}
use Rattle.stop_history.specs.Change.{restart_in, taken_up}
use Rattle.stop_history.specs.Event as event
use Rattle.stop_history.specs.Event.{Event, events_of}
use Rattle.stop_history.specs.Roster.{parent_of}
use Rattle.stop_history.specs.State.{is_born, state_after}
use Rattle.stop_history.specs.Word.{IsPhase, IsWord, Word, claimed_phase, phase_in, shown}
use Rattle.stop_history.proofs.Longer.{unborn_is_silent}
use Rattle.stop_table.specs.declared.shown.Shown.{Shown}
use Rattle.stop_table.specs.declared.shown.Shown.TheVariants as shows
use Rattle.stop_table.specs.Entry.{AreLegal, Cell, Entry, GoesOn, bare, cell_after, history_of, publish_of, word_of}
use Rattle.stop_table.specs.Handle.{EndsWith, Grows, IsUnborn, Looked, LooksAt, SawUnborn, TakesUp, shown_of}
use Rattle.stop_table.specs.Seat.{HasEnded, Published, Saw, TookUp}
use Rattle.stop_table.specs.Place.{place}
use Rattle.stop_table.specs.Steps.{Seated, Sees}
use Rattle.stop_table.specs.Tracee.{IsTracee}
use Rattle.stop_table.specs.View.{View, actors_of, an_exchange, a_look}
use Rattle.stop_table.proofs.Allowed.{acts_for, restart_mover, restart_runs}
use Rattle.stop_table.proofs.Entries.{born_on, legal_history, shown_state, stays_on}
use Rattle.stop_table.proofs.Walking.{ended_with, grows_on, legal_after, look_step, looked_on, one_look, sees_same}
use Rattle.stop_table.proofs.Walking.{state_seen, step_from, word_now}

-- the tracee alone can move a row that it has taken up, or that is to run
own_stays : (rows : List Row) (m : Seated) (n : View) (row : ℕ) (word : Word) (holds : Bool)
    → IsTracee rows m row word holds → Looked m.0 n
    → mover_of row (cell_after rows m.0.seen row).phase ≡ Some (Tracee row)
    → cell_after rows n.seen row ≡ cell_after rows m.0.seen row
own_stays rows m n row word holds t l moved =
    stays_on rows (actors_of m.0) m.0.seen n.seen
    (subst (λ rs. AreLegal rs n.seen) t.roster_is (legal_after m.0 n l)) l.grows.goes_on row
    (ap (is_moved_by (actors_of m.0)) moved ∙ acts_for row m.0.tracees t.tracees)

pub tracee_looked : (rows : List Row) (m n : Seated) (row : ℕ) (word : Word) (holds : Bool)
    → IsTracee rows m row word holds → Looked m.0 n.0 → n.1 ≡ m.1 → IsTracee rows n row word holds
tracee_looked rows m n row word holds t l slots = record {
  low = t.low;
  roster_is = l.grows.same.roster ∙ t.roster_is;
  placed = t.placed;
  tracees = l.grows.same.tracees ∙ t.tracees;
  tracers = l.grows.same.tracers ∙ t.tracers;
  taken = l.taken ∙ t.taken;
  legal = subst (λ rs. AreLegal rs n.0.seen) t.roster_is (legal_after m.0 n.0 l);
  holding = λ is.
      (let h = t.holding is in
      let same = own_stays rows m n.0 row word holds t l h.1 in
      (slots ∙ h.0, ap (λ (c : Cell). mover_of row c.phase) same ∙ h.1, h.2 ∙ ap (word_of true) (sym same)));
  idle = λ is. slots ∙ t.idle is;
}

-- what an event of its own leaves of the handle: it has its row taken up no more
idle_after : (rows : List Row) (m n : Seated) (row : ℕ) (word : Word) (h new : List Entry)
    → IsTracee rows m row word true → Sees m.0 (an_exchange row) h new false n.0 → n.1 ≡ rest m.1 → IsTracee rows n row word false
idle_after rows m n row word h new t s slots =
    let same = sees_same m.0 n.0 h new false s in
    record {
      low = t.low;
      roster_is = same.roster ∙ t.roster_is;
      placed = t.placed;
      tracees = same.tracees ∙ t.tracees;
      tracers = same.tracers ∙ t.tracers;
      taken = ap (λ (x : View). x.taken) s.view;
      legal = subst (λ rs. AreLegal rs n.0.seen) t.roster_is
          (subst (AreLegal m.0.roster) (sym (ap (λ (x : View). x.seen) s.view)) s.legal);
      holding = λ is. cc;
      idle = λ is. slots ∙ ap rest (t.holding refl).0;
    }

pub published_tracee : (rows : List Row) (m n : Seated) (row : ℕ) (word : Word) (content : Content)
    → IsTracee rows m row word true → Published m n row content
    → ((before : List Entry) × EndsWith m.0 n.0 before (publish_of row content)) × IsTracee rows n row word false
published_tracee rows m n row word content t p = (
  (p.1, ended_with m.0 n.0 p.1 (publish_of row content) false p.2),
  idle_after rows m n row word p.1 (publish_of row content ∷ []) t p.2 p.0,
)

pub exited_tracee : (rows : List Row) (m n : Seated) (row : ℕ) (word : Word) (death : Death)
    → IsTracee rows m row word true → HasEnded m n row death
    → ((before : List Entry) × EndsWith m.0 n.0 before (bare (event.Exit row death))) × IsTracee rows n row word false
exited_tracee rows m n row word death t e = (
  (e.1, ended_with m.0 n.0 e.1 (bare (event.Exit row death)) false e.2),
  idle_after rows m n row word e.1 (bare (event.Exit row death) ∷ []) t e.2 e.0,
)

-- ---- take-ups

claimed_not_active : (tracer : ℕ) (es : List Event) → claimed_phase tracer es ≢ phase.Active
claimed_not_active tracer [] is = cc
claimed_not_active tracer (event.Publish row number stop ∷ es) is = cc
claimed_not_active tracer (event.Claim row number other ∷ es) is = cc
claimed_not_active tracer (event.Resume row number how other ∷ es) is = cc
claimed_not_active tracer (event.Exit row death ∷ es) is = cc

never_active : (es : List Event) → phase_in es ≢ phase.Active
never_active [] is = cc
never_active (event.Publish row number stop ∷ es) is = cc
never_active (event.Claim row number tracer ∷ es) is = claimed_not_active tracer es is
never_active (event.Resume row number how tracer ∷ es) is = cc
never_active (event.Exit row death ∷ es) is = cc

-- a phase without a restart shows that the row does not run
rests_by : (number : ℕ) (p : Phase) (why : Refused) → p ≢ phase.Active → restart_in p ≡ Err why
    → shown_of (shown true number p) ≢ shows.Running
rests_by number phase.Fresh why other none is = cc
rests_by number (phase.Resumed how) why other none is = cc
rests_by number phase.Active why other none is = other refl
rests_by number (phase.Stopped status) why other none is = cc
rests_by number (phase.Claimed tracer) why other none is = cc
rests_by number (phase.Dead status) why other none is = cc
rests_by number phase.Reaped why other none is = cc

pub born_if_not_fresh : (rows : List Row) (h : List Entry) (row : ℕ) → AreLegal rows h
    → (cell_after rows h row).phase ≢ phase.Fresh → is_born rows (history_of h) row ≡ true
born_if_not_fresh rows h row legal other =
    elim (cases_Bool (is_born rows (history_of h) row)) [
      | inl born ↦ born
      | inr unborn ↦
          absurd (other (ap phase_in (unborn_is_silent rows (history_of h) (legal_history rows h legal) row unborn)))
    ]

-- one look at its own row, which the handle does not have taken up
module _ (rows : List Row) (m n : Seated) (row : ℕ) (word w : Word) (t : IsTracee rows m row word false)
    (s : Saw m n row w) where
  pub own_word_seen : w ≡ word_of false (cell_after rows n.0.seen row)
  own_word_seen =
      word_now m n row w s
      ∙ ap (λ b. word_of b (cell_after m.0.roster n.0.seen row))
      (s.6 (acts_for row m.0.tracees t.tracees) ∙ t.taken)
      ∙ ap (λ rs. word_of false (cell_after rs n.0.seen row)) t.roster_is

  own_phase_seen : w.phase ≡ (cell_after rows n.0.seen row).phase
  own_phase_seen = ap (λ (x : Word). x.phase) own_word_seen

  pub does_not_run : (why : Refused) → restart_in w.phase ≡ Err why
      → (a : Shown) × LooksAt m.0 n.0 row a × (a ≢ shows.Running)
  does_not_run why none =
      let looked = one_look m n row w s in
      let not_active : w.phase ≢ phase.Active =
      (λ is. never_active (events_of row (history_of n.0.seen)) (sym own_phase_seen ∙ is)) in
      let not_fresh : (cell_after rows n.0.seen row).phase ≢ phase.Fresh =
      (λ is. let clash : restart_in phase.Fresh ≡ Err why =
      ap restart_in (sym (own_phase_seen ∙ is)) ∙ none in cc) in
      let born : is_born m.0.roster (history_of n.0.seen) row ≡ true =
      ap (λ rs. is_born rs (history_of n.0.seen) row) t.roster_is
      ∙ born_if_not_fresh rows n.0.seen row
      (subst (λ rs. AreLegal rs n.0.seen) t.roster_is (legal_after m.0 n.0 looked)) not_fresh in (
        shown_of (shown true w.number w.phase),
        (
          looked,
          record {
            point = n.0.seen;
            sooner = looked.grows.goes_on;
            later = ([], refl);
            step = inl (look_step m n row w s);
            shown = ap shown_of
                (state_seen m n row w (subst (λ rs. row < length rs) (sym t.roster_is) t.low) s born);
          },
        ),
        rests_by w.number w.phase why not_active none,
      )

  -- and the word is still the row's after more looks
  pub word_stays : (o : Seated) (how : Restart) → restart_in w.phase ≡ Ok how → Looked n.0 o.0
      → w ≡ word_of false (cell_after o.0.roster o.0.seen row)
  word_stays o how is second =
      let looked = one_look m n row w s in
      let at_n = tracee_looked rows m n row word false t looked s.0 in
      let moved : mover_of row (cell_after rows n.0.seen row).phase ≡ Some (Tracee row) =
      ap (mover_of row) (sym own_phase_seen) ∙ restart_mover row w.phase how is in
      own_word_seen ∙ ap (word_of false) (sym (own_stays rows n o.0 row word false at_n second moved))
      ∙ ap (λ rs. word_of false (cell_after rs o.0.seen row)) (sym (second.grows.same.roster ∙ at_n.roster_is))

-- after a look u to v, the row was seen to be unborn
pub looks_unborn : (u v w : View) (row : ℕ) → Looked u v → Looked v w → SawUnborn v w row → LooksAt u w row shows.Unborn
looks_unborn u v w row first second unborn =
    let whole = looked_on u v w first second in
    let same = first.grows.same.roster in
    let none : IsUnborn u.roster row w.seen = subst (λ rs. IsUnborn rs row w.seen) same unborn.0 in (
      whole,
      record {
        point = w.seen;
        sooner = whole.grows.goes_on;
        later = ([], refl);
        step = inr (
          none,
          (
            unborn.1.0,
            step_from u v w (a_look unborn.1.0 w.seen) first.grows.steps unborn.1.1,
            subst (λ rs. parent_of rs row ≡ Some unborn.1.0) same unborn.1.2,
          ),
        );
        shown = ap shown_of (sym none);
      },
    )

restart_ranged : (p : Phase) (how : Restart) → IsPhase p → restart_in p ≡ Ok how → IsResume how
restart_ranged phase.Fresh how ranged is = subst IsResume (let same : record { kind = Cont; signal = 0 } ≡ how = cc in same) (omega arith)
restart_ranged (phase.Resumed other) how ranged is = subst IsResume (let same : other ≡ how = cc in same) ranged
restart_ranged phase.Active how ranged is = cc
restart_ranged (phase.Stopped status) how ranged is = cc
restart_ranged (phase.Claimed tracer) how ranged is = cc
restart_ranged (phase.Dead status) how ranged is = cc
restart_ranged phase.Reaped how ranged is = cc

-- the look at its own row (m to n), another at the parent or none (n to o), and the take-up (o to p)
pub takes_row_up : (rows : List Row) (m n o p : Seated) (row : ℕ) (word w : Word) (how : Restart) (content : Content)
    → (t : IsTracee rows m row word false) → (s : Saw m n row w) → IsWord w → restart_in w.phase ≡ Ok how → Looked n.0 o.0
    → is_born n.0.roster (history_of o.0.seen) row ≡ true → o.1 ≡ n.1 → TookUp o p row content
    → TakesUp m.0 p.0 row how content × IsTracee rows p row w true
takes_row_up rows m n o p row word w how content t s ranged is second born slots took =
    let looked = one_look m n row w s in
    let whole = looked_on m.0 n.0 o.0 looked second in
    let at_n = tracee_looked rows m n row word false t looked s.0 in
    let seen : (cell_after rows n.0.seen row).phase ≡ w.phase =
    sym (ap (λ (x : Word). x.phase) (own_word_seen rows m n row word w t s)) in
    let moved_n : mover_of row (cell_after rows n.0.seen row).phase ≡ Some (Tracee row) =
    ap (mover_of row) seen ∙ restart_mover row w.phase how is in
    let at_o : cell_after rows o.0.seen row ≡ cell_after rows n.0.seen row =
    own_stays rows n o.0 row word false at_n second moved_n in
    let roster_o : o.0.roster ≡ rows = whole.grows.same.roster ∙ t.roster_is in
    let seen_p : p.0.seen ≡ took.1 = ap (λ (x : View). x.seen) took.2.view in
    let at_p : cell_after rows p.0.seen row ≡ cell_after rows o.0.seen row =
    ap (λ h. cell_after rows h row) seen_p
    ∙ subst (λ rs. cell_after rs took.1 row ≡ cell_after rs o.0.seen row) roster_o took.4 in
    let same_p = sees_same o.0 p.0 took.1 [] true took.2 in
    let to_n : cell_after rows p.0.seen row ≡ cell_after rows n.0.seen row = at_p ∙ at_o in
    let phase_p : (cell_after rows p.0.seen row).phase ≡ w.phase = ap (λ (c : Cell). c.phase) to_n ∙ seen in
    let legal_p : AreLegal rows p.0.seen =
    subst (λ h. AreLegal rows h) (sym seen_p) (subst (λ rs. AreLegal rs took.1) roster_o took.2.legal) in
    let born_p : is_born rows (history_of p.0.seen) row ≡ true =
    ap (λ h. is_born rows (history_of h) row) seen_p
    ∙ born_on rows (actors_of o.0) row o.0.seen took.1 took.2.goes_on
    (ap (λ rs. is_born rs (history_of o.0.seen) row) (sym at_n.roster_is) ∙ born) in
    let runs : state_after rows (history_of p.0.seen) row ≡ state.Running =
    shown_state rows p.0.seen row t.low
    ∙ ap (λ b. shown b (cell_after rows p.0.seen row).number (cell_after rows p.0.seen row).phase) born_p
    ∙ ap (shown true (cell_after rows p.0.seen row).number) phase_p
    ∙ restart_runs (cell_after rows p.0.seen row).number w.phase how is in
    let roster_m : rows ≡ m.0.roster = sym t.roster_is in
    let grows_p : Grows o.0 p.0 = record {
      goes_on = subst (GoesOn (actors_of o.0) o.0.seen) (sym seen_p) took.2.goes_on;
      legal = subst (λ rs. AreLegal rs p.0.seen) (sym (same_p.roster ∙ roster_o)) legal_p;
      same = same_p;
      steps = (an_exchange row took.1 ∷ [], ap (λ (x : View). x.observations) took.2.view);
    } in (
      record {
        grows = grows_on m.0 o.0 p.0 whole.grows grows_p;
        step = step_from m.0 o.0 p.0 (an_exchange row p.0.seen) whole.grows.steps (
          an_exchange row took.1 ∷ [],
          ap (λ (x : View). x.observations) took.2.view,
          inl (ap (an_exchange row) (sym seen_p)),
        );
        running = subst (λ rs. state_after rs (history_of p.0.seen) row ≡ state.Running) roster_m runs;
        restart = subst (λ rs. restart_in (cell_after rs p.0.seen row).phase ≡ Ok how) roster_m
            (ap restart_in phase_p ∙ is);
        in_range = restart_ranged w.phase how ranged.of_phase is;
        is_content = subst (λ rs. content ≡ (cell_after rs p.0.seen row).content) roster_m
            (took.3 ∙ ap (λ rs. (cell_after rs took.1 row).content) roster_o
            ∙ ap (λ h. (cell_after rows h row).content) (sym seen_p));
      },
      record {
        low = t.low;
        roster_is = same_p.roster ∙ roster_o;
        placed = t.placed;
        tracees = same_p.tracees ∙ whole.grows.same.tracees ∙ t.tracees;
        tracers = same_p.tracers ∙ whole.grows.same.tracers ∙ t.tracers;
        taken = ap (λ (x : View). x.taken) took.2.view;
        legal = legal_p;
        holding = λ up. (
          took.0 ∙ ap (λ d. (place row, None) ∷ d) (slots ∙ at_n.idle refl),
          ap (mover_of row) phase_p ∙ restart_mover row w.phase how is,
          ap taken_up (own_word_seen rows m n row word w t s) ∙ ap (λ c. taken_up (word_of false c)) (sym to_n),
        );
        idle = λ down. cc;
      },
    )

-- ---- a handle that has its row taken up, or not

pub idle_tracee : (rows : List Row) (m : Seated) (row : ℕ) (word : Word) (holds : Bool) → IsTracee rows m row word holds
    → m.0.taken ≡ false → IsTracee rows m row word false
idle_tracee rows m row word holds t is = subst (IsTracee rows m row word) (sym t.taken ∙ is) t

pub held_tracee : (rows : List Row) (m : Seated) (row : ℕ) (word : Word) (holds : Bool) → IsTracee rows m row word holds
    → m.0.taken ≡ true → IsTracee rows m row word true
held_tracee rows m row word holds t is = subst (IsTracee rows m row word) (sym t.taken ∙ is) t

-- what a handle that has its row taken up knows of it, in terms of its own view
pub holds_row : (rows : List Row) (m : Seated) (row : ℕ) (word : Word) → IsTracee rows m row word true
    → (m.1 ≡ (place row, None) ∷ rest m.1) × (mover_of row (cell_after m.0.roster m.0.seen row).phase ≡ Some (Tracee row))
    × (taken_up word ≡ word_of true (cell_after m.0.roster m.0.seen row))
holds_row rows m row word t =
    let h = t.holding refl in (
      h.0 ∙ ap (λ d. (place row, None) ∷ d) (ap rest (sym h.0)),
      ap (λ rs. mover_of row (cell_after rs m.0.seen row).phase) t.roster_is ∙ h.1,
      h.2 ∙ ap (λ rs. word_of true (cell_after rs m.0.seen row)) (sym t.roster_is),
    )
