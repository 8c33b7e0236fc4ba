-- A tracee's thread: its machine and its handle go on together.
use Rattle.std.proofs.Common.{refl, ◌≡◌, ◌==◌, ◌<◌, ◌∷◌, [], ℕ, true, false, List, Some, length, inl, inr}
use Rattle.std.proofs.Common.{◌∙◌, sym, ap, subst, arith, eq-eqb}
use Rattle.std.proofs.lemmas.Bool.{or_left}
use Rattle.trace_record.specs.Content.{Content}
use Rattle.trace_record.specs.Death.{IsDeath}
use Rattle.trace_record.specs.Resume.{IsResume}
use Rattle.trace_record.specs.declared.death.Death.{Death}
use Rattle.trace_record.specs.declared.resume.Resume.{Resume as Restart}
use Rattle.stop_history.specs.Change.{restart_in}
use Rattle.std.proofs.Common.{Ok}
use Rattle.stop_history.specs.declared.actor.Actor.TheVariants.{Tracee}
use Rattle.stop_history.specs.declared.phase.Phase.{Phase}
use Rattle.stop_history.specs.declared.phase.Phase.TheVariants as phase
use Rattle.stop_history.specs.declared.state.State.TheVariants as state
use Rattle.stop_history.specs.declared.roster.Row.{Row}
use Rattle.stop_history.specs.Event as event
use Rattle.stop_history.specs.Event.{events_of}
use Rattle.stop_history.specs.Roster.{IsRoster}
use Rattle.stop_history.specs.Word.{phase_in}
use Rattle.stop_table.specs.declared.start.Start.TheVariants as start
use Rattle.stop_table.specs.Start.{IsFinal}
use Rattle.stop_history.specs.State.{state_after}
use Rattle.stop_table.specs.Entry.{AreLegal, Entry, GoesOn, bare, content_after, history_of, publish_of}
use Rattle.stop_table.specs.Handle.{EndsWith, Grows, IsSame, Looked, TakesUp, own_events}
use Rattle.stop_table.specs.Tracee.{IsTraceeHandle, TraceeHandle}
use Rattle.stop_table.specs.View.{actors_of, is_among}
use Rattle.stop_table.proofs.Own.{own_stays, same_actors}
use Rattle.stop_table.proofs.Walking.{looked_on}
use Rattle.trace_script.specs.Machine.{IsAnswer}
use Rattle.trace_script.specs.StopTrace.{DeathIs, Element, FaultIs, Position, StopIs, context_of, next_element}
use Rattle.trace_script.specs.StopTrace.{next_position, position_after}
use Rattle.trace_script.specs.declared.machine.next.Next.{Next}
use Rattle.trace_script.specs.declared.machine.next.Next.TheVariants as next
use Rattle.tracer_workers.specs.CaseText.{death_after}
use Rattle.tracer_workers.specs.Driven.{IsDeathOf, element_after, position_at, restart_after, restart_at}
use Rattle.tracer_workers.specs.DrivenBy.{AreDrivenBy}
use Rattle.tracer_workers.specs.Plan.{Plan, opening_of}
use Rattle.tracer_workers.specs.TraceeThread.{HasLooked, HasTaken, IsDue, IsOnScript, IsSameTracee, IsThrough, IsToStart}
use Rattle.tracer_workers.specs.Turn.{onward}
use Rattle.tracer_workers.proofs.Fitting.{IsFit, IsNextStop, next_death, next_stop}
use Rattle.tracer_workers.proofs.FittingCases.{fitting_plan}
use Rattle.tracer_workers.proofs.Left.{Left, left_of, own_left}
use Rattle.tracer_workers.proofs.OwnEntries.{driven_ends, driven_on, element_stays, none_own, onward_stays, row_fits, turns_on}

-- a tracee's handle acts for its row
pub acts_for_row : (e : TraceeHandle) → IsTraceeHandle e → actors_of e.view (Tracee e.row) ≡ true
acts_for_row e is = ap (is_among e.row) is.tracees ∙ or_left (e.row == e.row) false (eq-eqb e.row e.row refl)

-- it stays one as others act
pub handle_on : (e f : TraceeHandle) → IsTraceeHandle e → f.row ≡ e.row → IsSame e.view f.view
    → AreLegal f.view.roster f.view.seen → IsTraceeHandle f
handle_on e f is row same legal =
    let low = is.low in
    let long = ap length same.roster in
    record {
      low = omega (arith, row, low, long);
      placed = subst IsRoster (sym same.roster) is.placed;
      tracees = same.tracees ∙ is.tracees ∙ ap (λ r. r ∷ []) (sym row);
      tracers = same.tracers ∙ is.tracers;
      legal = legal;
    }

-- ---- the script

pub script_on : (plan : Plan) (e f : TraceeHandle) (p : Position) → IsTraceeHandle e
    → f.row ≡ e.row → IsSame e.view f.view → GoesOn (actors_of e.view) e.view.seen f.view.seen
    → IsOnScript plan e p → IsOnScript plan f p
script_on plan e f p is row same on s =
    let turns = turns_on plan.rows (actors_of e.view) e.row (acts_for_row e is) e.view.seen f.view.seen on in
    record {
      known = s.known;
      rows = same.roster ∙ s.rows;
      driven = subst (λ actors. AreDrivenBy actors plan f.view.seen) (sym (same_actors e.view f.view same))
          (driven_on (actors_of e.view) plan e.view.seen f.view.seen on s.driven);
      position = s.position ∙ ap (position_after (opening_of plan e.row)) (sym turns)
          ∙ ap (position_at plan f.view.seen) (sym row);
    }

-- before any event
pub script_begins : (plan : Plan) (e : TraceeHandle) (p : Position) → IsTraceeHandle e → IsToStart plan e p
    → IsOnScript plan e p
script_begins plan e p is s =
    let on = none_own (actors_of e.view) e.view.seen s.silent in
    let turns = turns_on plan.rows (actors_of e.view) e.row (acts_for_row e is) [] e.view.seen on in
    record {
      known = s.known;
      rows = s.rows;
      driven = driven_on (actors_of e.view) plan [] e.view.seen on tt;
      position = s.opening ∙ ap (position_after (opening_of plan e.row)) (sym turns);
    }

-- ---- a row that is taken up

restart_taken : (p : Phase) (how : Restart) → restart_in p ≡ Ok how → how ≡ restart_at p
restart_taken phase.Fresh how is = cc
restart_taken (phase.Resumed own) how is = cc
restart_taken phase.Active how is = cc
restart_taken (phase.Stopped status) how is = cc
restart_taken (phase.Claimed tracer) how is = cc
restart_taken (phase.Dead status) how is = cc
restart_taken phase.Reaped how is = cc

pub takes : (e f : TraceeHandle) (how : Restart) (content : Content) → f.row ≡ e.row
    → TakesUp e.view f.view e.row how content → f.view.taken ≡ true → HasTaken f how content
takes e f how content row t taken =
    let roster = t.grows.same.roster in
    record {
      taken = taken;
      runs = (λ i. state_after (roster i) (history_of f.view.seen) (row i)) ∙ t.running;
      restart = restart_taken (phase_in (events_of e.row (history_of f.view.seen))) how t.restart
          ∙ ap (restart_after f.view.seen) (sym row);
      in_range = t.in_range;
      is_content = t.is_content ∙ sym (λ i. content_after (roster i) f.view.seen (row i));
    }

-- ---- what a machine answers

stop_of_answer : (e : Element) (old new : Content) → IsAnswer e next.Stop old new → e ≡ StopIs new
stop_of_answer (StopIs c) old new is = ap StopIs (sym is.1)
stop_of_answer (DeathIs d) old new is = cc
stop_of_answer (FaultIs a) old new is = cc

pub stop_due : (e : Element) (r : Next) (old new : Content) → IsAnswer e r old new → r ≡ next.Stop → e ≡ StopIs new
stop_due e r old new answer is = stop_of_answer e old new (subst (λ n. IsAnswer e n old new) is answer)

death_of_answer : (e : Element) (old new : Content) (d : Death) → IsAnswer e (next.Death d) old new → e ≡ DeathIs d
death_of_answer (StopIs c) old new d is = cc
death_of_answer (DeathIs own) old new d is = let same : d ≡ own = cc in ap DeathIs (sym same)
death_of_answer (FaultIs a) old new d is = cc

pub death_due : (e : Element) (r : Next) (old new : Content) (d : Death) → IsAnswer e r old new → r ≡ next.Death d
    → e ≡ DeathIs d
death_due e r old new d answer is = death_of_answer e old new d (subst (λ n. IsAnswer e n old new) is answer)

-- ---- what comes next

module _ (plan : Plan) (e : TraceeHandle) (p : Position) (how : Restart) (stop : Content)
    (is : IsTraceeHandle e) (taken : HasTaken e how stop) (on : IsOnScript plan e p) where
  abbrev seen : List Entry
  seen = e.view.seen

  within : e.row < length plan.rows
  within = subst (λ rows. e.row < length rows) on.rows is.low

  legal : AreLegal plan.rows seen
  legal = subst (λ rows. AreLegal rows seen) on.rows is.legal

  runs : state_after plan.rows (history_of seen) e.row ≡ state.Running
  runs = subst (λ rows. state_after rows (history_of seen) e.row ≡ state.Running) on.rows taken.runs

  held : stop ≡ content_after plan.rows seen e.row
  held = taken.is_content ∙ ap (λ rows. content_after rows seen e.row) on.rows

  element_is : next_element p how (context_of stop) ≡ element_after plan seen e.row
  element_is = λ i. next_element (on.position i) (taken.restart i) (context_of (held i))

  onward_is : next_position p how (context_of stop) ≡ onward plan seen e.row
  onward_is = λ i. next_position (on.position i) (taken.restart i) (context_of (held i))

  fits : IsFit plan e.row (left_of plan.rows seen e.row)
  fits =
      row_fits plan (fitting_plan plan on.known) (actors_of e.view) e.row within (acts_for_row e is) seen legal
      on.driven

  range : IsResume (restart_after seen e.row)
  range = subst IsResume taken.restart taken.in_range

  -- a stop is one that the row may make
  pub next_is_stop : (c : Content) → next_element p how (context_of stop) ≡ StopIs c
      → IsNextStop plan e.row (left_of plan.rows seen e.row) (onward plan seen e.row) c
  next_is_stop c due =
      next_stop plan e.row (left_of plan.rows seen e.row) fits (restart_after seen e.row)
      (context_of (content_after plan.rows seen e.row)) c range (sym element_is ∙ due)

  pub next_is_death : (d : Death) → next_element p how (context_of stop) ≡ DeathIs d → IsDeath d × IsDue plan e d
  next_is_death d due =
      let now = sym element_is ∙ due in (
        next_death plan e.row (left_of plan.rows seen e.row) fits (restart_after seen e.row)
            (context_of (content_after plan.rows seen e.row)) d range now,
        subst (λ x. IsDeathOf x d) (sym now) refl,
      )

  -- the script goes on by the stop
  pub publishes : (f : TraceeHandle) (before : List Entry) (c : Content) (q : Position)
      → next_element p how (context_of stop) ≡ StopIs c → q ≡ next_position p how (context_of stop) → f.row ≡ e.row
      → EndsWith e.view f.view before (publish_of e.row c) → IsOnScript plan f q
  publishes f before c q due to row made =
      let x = publish_of e.row c in
      let now : AreLegal plan.rows (x ∷ before) =
      subst (AreLegal plan.rows) made.seen
      (subst (λ rows. AreLegal rows f.view.seen) (made.same.roster ∙ on.rows) made.legal) in
      let element = element_stays plan (actors_of e.view) seen before e.row (acts_for_row e is) now.1 made.goes_on within
      runs in
      let went = onward_stays plan (actors_of e.view) seen before e.row (acts_for_row e is) now.1 made.goes_on within runs in
      record {
        known = on.known;
        rows = made.same.roster ∙ on.rows;
        driven = driven_ends plan e.view f.view before x made (element ∙ sym element_is ∙ due, tt) on.driven;
        position = to ∙ onward_is ∙ sym went
            ∙ sym (ap (λ (a : Left). position_after (opening_of plan e.row) a.turns) (own_left plan.rows x before e.row refl))
            ∙ sym (λ i. position_at plan (made.seen i) (row i));
      }

-- ---- the end

-- the death that came next is the row's
pub ends_driven : (plan : Plan) (e f : TraceeHandle) (p : Position) (how : Restart) (stop : Content)
    (before : List Entry) (d : Death) → IsTraceeHandle e → HasTaken e how stop → IsOnScript plan e p
    → IsDue plan e d → EndsWith e.view f.view before (bare (event.Exit e.row d))
    → AreDrivenBy (actors_of f.view) plan f.view.seen
ends_driven plan e f p how stop before d is taken on due made =
    let x = bare (event.Exit e.row d) in
    let now : AreLegal plan.rows (x ∷ before) =
    subst (AreLegal plan.rows) made.seen
    (subst (λ rows. AreLegal rows f.view.seen) (made.same.roster ∙ on.rows) made.legal) in
    let within = subst (λ rows. e.row < length rows) on.rows is.low in
    let runs = subst (λ rows. state_after rows (history_of e.view.seen) e.row ≡ state.Running) on.rows taken.runs in
    let element = element_stays plan (actors_of e.view) e.view.seen before e.row (acts_for_row e is) now.1 made.goes_on
    within runs in
    driven_ends plan e.view f.view before x made (subst (λ y. IsDeathOf y d) (sym element) due, tt) on.driven

pub has_died : (e f : TraceeHandle) (before : List Entry) (d : Death) → f.row ≡ e.row
    → EndsWith e.view f.view before (bare (event.Exit e.row d)) → IsThrough f
has_died e f before d row made =
    let x = bare (event.Exit e.row d) in
    let here : death_after (x ∷ before) e.row ≡ Some d = rw (eq-eqb e.row e.row refl) refl in
    inl (d, (λ i. death_after (made.seen i) (row i)) ∙ here)

pub never_ran : (e f : TraceeHandle) → own_events e.view ≡ [] → f.row ≡ e.row → Looked e.view f.view
    → IsFinal e.view.roster f.view.seen e.row start.Never → IsThrough f
never_ran e f silent row looked final =
    let roster = looked.grows.same.roster in
    inr (
      own_stays e.view f.view looked.grows ∙ silent,
      subst (λ (k : List Row × ℕ). IsFinal k.0 f.view.seen k.1 start.Never) (sym (λ i. (roster i, row i))) final,
    )

-- ---- loops

pub looked_again : (a b c : TraceeHandle) → HasLooked a b → HasLooked b c → HasLooked a c
looked_again a b c first second =
    (second.0 ∙ first.0, second.1 ∙ first.1, looked_on a.view b.view c.view first.2 second.2)

-- the row has run on by stops of its own, from one handle and one position to another
pub record RunsOn (e f : TraceeHandle) (p q : Position) : Type 0 where
  pub handle : IsTraceeHandle f
  pub idle : f.view.taken ≡ false
  pub same : IsSameTracee e f
  pub script : (plan : Plan) → IsOnScript plan e p → IsOnScript plan f q

-- a row that is taken up is where it was in its script
module _ (e f : TraceeHandle) (is : IsTraceeHandle e) (row : f.row ≡ e.row) (grows : Grows e.view f.view) where
  pub taken_handle : IsTraceeHandle f
  taken_handle = handle_on e f is row grows.same grows.legal

  pub taken_script : (plan : Plan) (p : Position) → IsOnScript plan e p → IsOnScript plan f p
  taken_script plan p on = script_on plan e f p is row grows.same grows.goes_on on
