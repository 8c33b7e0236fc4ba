-- A run goes on by one entry: what is kept of the other rows stays, and what the World, the folder and the row of the
-- entry came to is its part of the longer history.
use Rattle.std.proofs.Common.{refl, ◌≡◌, ◌≢◌, ◌∷◌, ℕ, false, List, Some, length, inl, inr, ◌∙◌, sym, ap, subst, slice_get}
use Rattle.std.proofs.lemmas.Bool.{cases_eq}
use Rattle.record_printer.specs.Represents.{Represents}
use Rattle.tracer_workers.specs.Scheduled.{CameTo}
use Rattle.stop_history.specs.declared.phase.Phase.{Phase}
use Rattle.stop_history.specs.declared.phase.Phase.TheVariants as phase
use Rattle.stop_history.specs.declared.roster.Row.{Row}
use Rattle.stop_history.specs.Event.{events_of, subject}
use Rattle.stop_history.specs.History.{Fits}
use Rattle.stop_history.specs.Ranges.{IsInRange}
use Rattle.stop_history.specs.State.{number_in}
use Rattle.stop_history.specs.Word.{phase_in}
use Rattle.stop_table.specs.Entry.{Entry, IsCarried, content_after, history_of}
use Rattle.trace_script.specs.CaseFile.{CaseContent}
use Rattle.trace_script.specs.StopTrace.{context_of, next_element, position_after}
use Rattle.tracer_workers.specs.Config.{plan_of, show_of}
use Rattle.tracer_workers.specs.Driven.{IsRestarted, IsTraced, element_after, restart_at}
use Rattle.tracer_workers.specs.HistoryPieces.{pieces_of}
use Rattle.tracer_workers.specs.Plan.{Plan, opening_of}
use Rattle.tracer_workers.specs.Scheduled.{AreFree, HasMade, IsAtRest, IsDying, IsKeptAfter, IsKeptAt, IsReady, KeptRow}
use Rattle.tracer_workers.specs.Scheduled.{RunState, is_claimed}
use Rattle.tracer_workers.proofs.Left.{Left, left_of, other_left, own_left}

-- ---- a row that the history leaves alike

module _ (plan : Plan) (h later : List Entry) (row : ℕ) (k : KeptRow)
    (same : left_of plan.rows later row ≡ left_of plan.rows h row) where
  rest_over : IsAtRest plan h row k → IsAtRest plan later row k
  rest_over rest = record {
    content = rest.content ∙ sym (ap (λ (a : Left). a.content) same);
    position = rest.position ∙ sym (ap (λ (a : Left). position_after (opening_of plan row) a.turns) same);
  }

  element_same : element_after plan later row ≡ element_after plan h row
  element_same = ap (λ (a : Left). next_element (position_after (opening_of plan row) a.turns)
      (restart_at (phase_in a.events)) (context_of a.content)) same

  dying_over : IsDying plan h row k → IsDying plan later row k
  dying_over dying = record { death = dying.death; due = element_same ∙ dying.due; again = dying.again }

  ready_over : IsReady plan h row k → IsReady plan later row k
  ready_over (inl rest) = inl (rest_over rest)
  ready_over (inr dying) = inr (dying_over dying)

  kept_at_over : (p : Phase) → IsKeptAt p plan h row k → IsKeptAt p plan later row k
  kept_at_over phase.Fresh kept = (kept.0, ready_over kept.1)
  kept_at_over (phase.Resumed how) kept = (kept.0, ready_over kept.1)
  kept_at_over (phase.Stopped status) kept = rest_over kept
  kept_at_over (phase.Claimed tracer) kept = rest_over kept
  kept_at_over (phase.Dead status) kept = tt
  kept_at_over phase.Reaped kept = tt
  kept_at_over phase.Active kept = tt

  pub kept_over : IsKeptAfter plan h row k → IsKeptAfter plan later row k
  kept_over kept = record {
    tid = kept.tid;
    number = kept.number ∙ sym (ap (λ (a : Left). number_in a.events) same);
    kept = subst (λ (a : Left). IsKeptAt (phase_in a.events) plan later row k) (sym same)
        (kept_at_over (phase_in (events_of row (history_of h))) kept.kept);
  }

-- ---- one entry more

-- what an entry of a run comes to
pub record GoesOnBy (content : CaseContent) (run new : RunState) (h : List Entry) (x : Entry) : Type 0 where
  pub config : new.config ≡ run.config
  pub world : CameTo new.world (x.event ∷ history_of h)
  pub world_rows : new.world.rows ≡ run.world.rows
  pub folder : Represents new.folder (pieces_of (show_of run.config) content.rows (x ∷ h))
  pub folder_rows : new.folder.rows ≡ run.folder.rows
  pub fits : Fits content.rows (history_of h) x.event
  pub in_range : IsInRange x.event
  pub carried : IsCarried content.rows (content_after content.rows h (subject x.event)) x.event x.content
  pub traced : IsTraced (plan_of run.config content) h x.event x.content
  pub restarted : IsRestarted (plan_of run.config content) h x.event x.content
  pub long : length new.rows ≡ length run.rows
  pub others : (row : ℕ) (k : KeptRow) → row ≢ subject x.event → slice_get new.rows row ≡ Some k
      → slice_get run.rows row ≡ Some k
  pub own : (k : KeptRow) → slice_get new.rows (subject x.event) ≡ Some k
      → IsKeptAfter (plan_of run.config content) (x ∷ h) (subject x.event) k

-- of runs with one configuration
made_with : (content : CaseContent) (run new : RunState) (h : List Entry) (x : Entry) → HasMade content run h
    → GoesOnBy content run new h x
    → HasMade content (record new { config = run.config }) (x ∷ h)
made_with content run new h x made on = record {
  known = made.known;
  world = on.world;
  world_rows = on.world_rows ∙ made.world_rows;
  folder = on.folder;
  folder_rows = on.folder_rows ∙ made.folder_rows;
  legal = ((on.fits, on.in_range, on.carried), made.legal);
  driven = ((on.traced, on.restarted), made.driven);
  long = on.long ∙ made.long;
  each = λ row k at.
      elim (cases_eq (subject x.event) row) [
        | inl same ↦
            subst (λ r. IsKeptAfter (plan_of run.config content) (x ∷ h) r k) same
            (on.own k (subst (λ r. slice_get new.rows r ≡ Some k) (sym same) at))
        | inr other ↦
            kept_over (plan_of run.config content) h (x ∷ h) row k (other_left content.rows x h row other)
            (made.each row k (on.others row k (λ is. other (sym is)) at))
      ];
}

pub made_on : (content : CaseContent) (run new : RunState) (h : List Entry) (x : Entry) → HasMade content run h
    → GoesOnBy content run new h x → HasMade content new (x ∷ h)
made_on content run new h x made on =
    subst (λ c. HasMade content (record new { config = c }) (x ∷ h)) (sym on.config) (made_with content run new h x made on)

-- ---- no stop is claimed

pub free_but : (rows : List Row) (h : List Entry) (x : Entry)
    → ((other : ℕ) → other ≢ subject x.event → is_claimed (phase_in (events_of other (history_of h))) ≡ false)
    → is_claimed (phase_in (x.event ∷ events_of (subject x.event) (history_of h))) ≡ false
    → AreFree (x ∷ h)
free_but rows h x others own row =
    elim (cases_eq (subject x.event) row) [
      | inl same ↦
          (let here : is_claimed (phase_in (events_of (subject x.event) (history_of (x ∷ h)))) ≡ false =
          ap (λ (a : Left). is_claimed (phase_in a.events)) (own_left rows x h (subject x.event) refl) ∙ own in
          subst (λ r. is_claimed (phase_in (events_of r (history_of (x ∷ h)))) ≡ false) same here)
      | inr other ↦
          ap (λ (a : Left). is_claimed (phase_in a.events)) (other_left rows x h row other)
          ∙ others row (λ is. other (sym is))
    ]

pub free_on : (rows : List Row) (h : List Entry) (x : Entry) → AreFree h
    → is_claimed (phase_in (x.event ∷ events_of (subject x.event) (history_of h))) ≡ false
    → AreFree (x ∷ h)
free_on rows h x free own = free_but rows h x (λ other apart. free other) own
