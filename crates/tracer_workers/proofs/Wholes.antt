-- In a driven run each row stands at a place of its trace, and a row that has been reaped has made its whole trace.
use Rattle.std.proofs.Common.{refl, ◌≡◌, ◌<◌, ◌∷◌, ◌++◌, [], ℕ, List, Option, Some, length, ◌∙◌, sym, ap, subst}
use Rattle.std.proofs.Common.{inl, inr, append_assoc, append-nil}
use Rattle.std.proofs.lemmas.Bool.{cases_eq}
use Rattle.trace_record.specs.Content.{Content, empty_content}
use Rattle.trace_record.specs.declared.death.Death.{Death}
use Rattle.stop_history.specs.declared.state.State.TheVariants as state
use Rattle.stop_history.specs.Event as event
use Rattle.stop_history.specs.Event.{Event, events_of, subject}
use Rattle.stop_history.specs.History.{Fits}
use Rattle.stop_history.specs.Roster.{row_at}
use Rattle.stop_history.specs.State.{is_born, is_waitable, state_after}
use Rattle.stop_history.specs.Word.{phase_in}
use Rattle.stop_history.proofs.States.{fits_within, state_within}
use Rattle.stop_table.specs.Entry.{AreLegal, Entry, content_after, history_of}
use Rattle.trace_script.specs.StopTrace.{Dead, Broken, DeathIs, Element, Ending, FaultIs, FollowsTrace, Obeys, Policy}
use Rattle.trace_script.specs.StopTrace.{StopIs, Trace, Turn, context_after, context_of, ended_trace, first_restart}
use Rattle.trace_script.specs.StopTrace.{how_after, next_element, position_after, trace_at, with_stop, with_stops}
use Rattle.trace_script.proofs.Traces.{beginning, from_opening, the_death, the_fault}
use Rattle.tracer_workers.specs.CaseText.{death_after, death_of, published_contents}
use Rattle.tracer_workers.specs.Driven.{AreDriven, IsDeathOf, IsRestarted, IsTraced, element_after, restart_after}
use Rattle.tracer_workers.specs.Driven.{turns_of}
use Rattle.tracer_workers.specs.Plan.{Plan, opening_of, row_trace}
use Rattle.tracer_workers.proofs.Due.{IsDueAt, IsMade, claimed_due, holds_made, reaped_whole, runs_due}
use Rattle.tracer_workers.proofs.Left.{Left, left_of, left_with, other_left, own_left}

-- stops and a death are a row's whole trace
pub record IsWhole (plan : Plan) (row : ℕ) (stops : List Content) (death : Option Death) : Type 0 where
  pub ending : Ending
  pub trace : row_trace plan row ≡ record { stops = stops; ending = ending }
  pub died : death ≡ Some (death_of ending)

abbrev pub empty_of : Plan → ℕ → Content
empty_of plan row = empty_content (row_at plan.rows row).tid

abbrev pub newest : Content → List Turn → Content
newest content [] = content
newest content (turn ∷ turns) = turn.content

-- where a row stands, by what a history leaves of it
pub record Stands (plan : Plan) (row : ℕ) (a : Left) : Type 0 where
  pub follows : FollowsTrace (opening_of plan row) a.turns
  pub obeys : Obeys plan.policy first_restart (context_of (empty_of plan row)) a.turns
  pub content : a.content ≡ newest (empty_of plan row) a.turns
  pub stops : (t : Trace) → with_stops a.turns t ≡ record { stops = a.stops ++ t.stops; ending = t.ending }
  pub due : IsDueAt plan.policy (IsWhole plan row a.stops a.death) a.turns (phase_in a.events)

newest_context : (content : Content) (turns : List Turn)
    → context_of (newest content turns) ≡ context_after (context_of content) turns
newest_context content [] = refl
newest_context content (turn ∷ turns) = refl

newest_restart : (policy : Policy) (content : Content) (turns : List Turn) → IsMade turns
    → policy (newest content turns) ≡ how_after policy first_restart turns
newest_restart policy content [] made = absurd made
newest_restart policy content (turn ∷ turns) made = refl

-- ---- one entry of the row's own

-- the trace goes on from where the row stands
whole_from : (plan : Plan) (row : ℕ) (a : Left) → Stands plan row a
    → row_trace plan row
    ≡ with_stops a.turns
    (trace_at plan.policy (position_after (opening_of plan row) a.turns) (how_after plan.policy first_restart a.turns)
    (context_after (context_of (empty_of plan row)) a.turns))
whole_from plan row a s =
    from_opening plan.policy (plan.setting row) (plan.script row) first_restart (context_of (empty_of plan row))
    ∙ beginning plan.policy (opening_of plan row) first_restart (context_of (empty_of plan row)) a.turns s.follows s.obeys

died_whole : (plan : Plan) (row : ℕ) (a : Left) (e : Element) (death : Death) → Stands plan row a
    → next_element (position_after (opening_of plan row) a.turns) (how_after plan.policy first_restart a.turns)
    (context_after (context_of (empty_of plan row)) a.turns)
    ≡ e → IsDeathOf e death → IsWhole plan row a.stops (Some death)
died_whole plan row a (StopIs content) death s next dies = absurd dies
died_whole plan row a (DeathIs own) death s next dies = record {
  ending = Dead own;
  trace = whole_from plan row a s
      ∙ ap (with_stops a.turns) (the_death plan.policy _ _ _ own next)
      ∙ s.stops (ended_trace (Dead own))
      ∙ ap (λ (xs : List Content). record { stops = xs; ending = Dead own }) (append-nil a.stops);
  died = ap Some (sym dies);
}
died_whole plan row a (FaultIs address) death s next dies = record {
  ending = Broken address;
  trace = whole_from plan row a s
      ∙ ap (with_stops a.turns) (the_fault plan.policy _ _ _ address next)
      ∙ s.stops (ended_trace (Broken address))
      ∙ ap (λ (xs : List Content). record { stops = xs; ending = Broken address }) (append-nil a.stops);
  died = ap Some (sym dies);
}

-- what the tracee of a running row takes up
record TakenUp (plan : Plan) (h : List Entry) (row : ℕ) : Type 0 where
  how : restart_after h row ≡ how_after plan.policy first_restart (turns_of plan.rows h row)
  context : context_of (content_after plan.rows h row)
      ≡ context_after (context_of (empty_of plan row)) (turns_of plan.rows h row)

taken_up : (plan : Plan) (h : List Entry) (row : ℕ) → row < length plan.rows
    → state_after plan.rows (history_of h) row ≡ state.Running
    → Stands plan row (left_of plan.rows h row) → TakenUp plan h row
taken_up plan h row within runs s = record {
  how = runs_due plan.policy (IsWhole plan row (published_contents h row) (death_after h row))
      (turns_of plan.rows h row)
      (is_born plan.rows (history_of h) row) (events_of row (history_of h))
      (sym (state_within plan.rows (history_of h) row within) ∙ runs) s.due;
  context = ap context_of s.content ∙ newest_context (empty_of plan row) (turns_of plan.rows h row);
}

own_stands : (plan : Plan) (h : List Entry) (e : Event) (content : Content) → Fits plan.rows (history_of h) e
    → IsTraced plan h e content
    → IsRestarted plan h e content → Stands plan (subject e) (left_of plan.rows h (subject e))
    → Stands plan (subject e) (left_with plan.rows h (subject e) e content)
own_stands plan h (event.Publish row number stop) content fits traced restarted s =
    let up = taken_up plan h row (fits_within plan.rows (history_of h) (event.Publish row number stop) fits) fits.0 s in
    record {
      follows = (traced, s.follows);
      obeys = (up.how, up.context, s.obeys);
      content = refl;
      stops = λ t. s.stops (with_stop content t)
          ∙ ap (λ (xs : List Content). record { stops = xs; ending = t.ending })
          (sym (append_assoc (published_contents h row) (content ∷ []) t.stops));
      due = tt;
    }
own_stands plan h (event.Claim row number tracer) content fits traced restarted s = record {
  follows = s.follows;
  obeys = s.obeys;
  content = s.content;
  stops = s.stops;
  due = claimed_due plan.policy (IsWhole plan row (published_contents h row) (death_after h row))
      (turns_of plan.rows h row)
      (is_born plan.rows (history_of h) row) tracer (events_of row (history_of h))
      (sym (ap is_waitable (state_within plan.rows (history_of h) row
      (fits_within plan.rows (history_of h) (event.Claim row number tracer) fits))) ∙ fits.0) s.due;
}
own_stands plan h (event.Resume row number how tracer) content fits traced restarted s =
    let within = fits_within plan.rows (history_of h) (event.Resume row number how tracer) fits in
    let made = holds_made plan.policy (IsWhole plan row (published_contents h row) (death_after h row))
    (turns_of plan.rows h row) (is_born plan.rows (history_of h) row) number tracer (events_of row (history_of h))
    (sym (state_within plan.rows (history_of h) row within) ∙ fits) s.due in
    record {
      follows = s.follows;
      obeys = s.obeys;
      content = restarted.1 ∙ s.content;
      stops = s.stops;
      due = restarted.0 ∙ ap plan.policy s.content
          ∙ newest_restart plan.policy (empty_of plan row) (turns_of plan.rows h row) made;
    }
own_stands plan h (event.Exit row death) content fits traced restarted s =
    let up = taken_up plan h row (fits_within plan.rows (history_of h) (event.Exit row death) fits) fits.0 s in
    let next : next_element (position_after (opening_of plan row) (turns_of plan.rows h row))
    (how_after plan.policy first_restart (turns_of plan.rows h row))
    (context_after (context_of (empty_of plan row)) (turns_of plan.rows h row))
    ≡ element_after plan h row =
    ap (λ r. next_element (position_after (opening_of plan row) (turns_of plan.rows h row)) r
    (context_after (context_of (empty_of plan row)) (turns_of plan.rows h row))) (sym up.how)
    ∙ ap (next_element (position_after (opening_of plan row) (turns_of plan.rows h row)) (restart_after h row))
    (sym up.context) in
    record {
      follows = s.follows;
      obeys = s.obeys;
      content = s.content;
      stops = s.stops;
      due = died_whole plan row (left_of plan.rows h row) (element_after plan h row) death s next traced;
    }

pub stands : (plan : Plan) (h : List Entry) → AreLegal plan.rows h → AreDriven plan h → (row : ℕ)
    → Stands plan row (left_of plan.rows h row)
stands plan [] legal driven row = record {
  follows = tt;
  obeys = tt;
  content = refl;
  stops = λ t. refl;
  due = refl;
}
stands plan (x ∷ h) legal driven row =
    elim (cases_eq (subject x.event) row) [
      | inl same ↦
          (let before = stands plan h legal.1 driven.1 (subject x.event) in
          let own : Stands plan (subject x.event) (left_of plan.rows (x ∷ h) (subject x.event)) =
          subst (Stands plan (subject x.event)) (sym (own_left plan.rows x h (subject x.event) refl))
          (own_stands plan h x.event x.content legal.0.0 driven.0.0 driven.0.1 before) in
          subst (λ r. Stands plan r (left_of plan.rows (x ∷ h) r)) same own)
      | inr other ↦
          subst (Stands plan row) (sym (other_left plan.rows x h row other)) (stands plan h legal.1 driven.1 row)
    ]

-- a row that has been reaped has made its whole trace
pub whole_trace : (plan : Plan) (h : List Entry) → AreLegal plan.rows h → AreDriven plan h → (row : ℕ)
    → row < length plan.rows
    → state_after plan.rows (history_of h) row ≡ state.Reaped
    → IsWhole plan row (published_contents h row) (death_after h row)
whole_trace plan h legal driven row within reaped =
    let s = stands plan h legal driven row in
    reaped_whole plan.policy (IsWhole plan row (published_contents h row) (death_after h row))
    (turns_of plan.rows h row)
    (is_born plan.rows (history_of h) row) (events_of row (history_of h))
    (sym (state_within plan.rows (history_of h) row within) ∙ reaped) s.due
