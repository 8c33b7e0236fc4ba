-- A tracee's turn begins: its machine runs on from where the history has left the row, to a stop, a death or a fault.
use Rattle.std.proofs.Common.{refl, ◌≡◌, ◌<◌, ◌∷◌, [], ℕ, zero, suc, Bool, List, Some}
use Rattle.std.proofs.Common.{length, inl, inr, ◌∙◌, sym, ap, subst, arith, slice_get}
use Rattle.trace_record.specs.Content.{Content}
use Rattle.trace_record.specs.declared.death.Death.{Death}
use Rattle.stop_history.specs.declared.state.State.TheVariants as state
use Rattle.stop_history.specs.Event as event
use Rattle.stop_history.specs.Event.{Event, events_of}
use Rattle.stop_history.specs.State.{is_born, number_in, state_after, state_in}
use Rattle.stop_history.specs.Word.{phase_in}
use Rattle.stop_history.proofs.States.{state_within}
use Rattle.stop_table.specs.Entry.{Entry, history_of}
use Rattle.trace_script.specs.CaseFile.{CaseContent}
use Rattle.trace_script.specs.Machine.{IsAnswer}
use Rattle.trace_script.specs.StopTrace.{Element, Position, context_of, next_element, next_position}
use Rattle.trace_script.specs.declared.machine.next.Next.{Next}
use Rattle.trace_script.specs.declared.machine.next.Next.TheVariants as next
use Rattle.tracer_workers.specs.Config.{plan_of}
use Rattle.tracer_workers.specs.Driven.{IsDeathOf, fault_death, restart_after, restart_at}
use Rattle.tracer_workers.specs.Plan.{Plan}
use Rattle.tracer_workers.specs.Scheduled.{IsKeptAfter, IsKeptAt, IsReady, KeptRow, RunState, Stands}
use Rattle.tracer_workers.specs.Turn.{HasDied, HasRunOn, HasStopped, IsToRun, with_next, with_row}
use Rattle.tracer_workers.proofs.AfterClaim.{not_by_claim}
use Rattle.tracer_workers.proofs.Fitting.{fits_at, next_death, restart_in_range}
use Rattle.tracer_workers.proofs.FittingCases.{fitting_case}
use Rattle.tracer_workers.proofs.Left.{left_of}
use Rattle.tracer_workers.proofs.Turns.{came_death, came_fault, came_stop}

-- a running row takes up the restart that is kept of it
ready_by : (plan : Plan) (h : List Entry) (row : ℕ) (k : KeptRow) (born : Bool) (es : List Event)
    → state_in born es ≡ state.Running → IsKeptAt (phase_in es) plan h row k
    → (k.how ≡ restart_at (phase_in es)) × IsReady plan h row k
ready_by plan h row k born [] runs kept = (kept.0, kept.1)
ready_by plan h row k born (event.Publish r n stop ∷ es) runs kept = cc
ready_by plan h row k born (event.Claim r n tracer ∷ es) runs kept =
    not_by_claim (number_in es) tracer es state.Running runs refl
ready_by plan h row k born (event.Resume r n how tracer ∷ es) runs kept = (kept.0, kept.1)
ready_by plan h row k born (event.Exit r death ∷ es) runs kept = cc

-- and any row that is ready is kept of it
kept_by : (plan : Plan) (h : List Entry) (row : ℕ) (k later : KeptRow) (born : Bool) (es : List Event)
    → state_in born es ≡ state.Running → IsKeptAt (phase_in es) plan h row k → later.how ≡ k.how
    → IsReady plan h row later → IsKeptAt (phase_in es) plan h row later
kept_by plan h row k later born [] runs kept same ready = (same ∙ kept.0, ready)
kept_by plan h row k later born (event.Publish r n stop ∷ es) runs kept same ready = cc
kept_by plan h row k later born (event.Claim r n tracer ∷ es) runs kept same ready =
    not_by_claim (number_in es) tracer es state.Running runs refl
kept_by plan h row k later born (event.Resume r n how tracer ∷ es) runs kept same ready = (same ∙ kept.0, ready)
kept_by plan h row k later born (event.Exit r death ∷ es) runs kept same ready = cc

module _ (content : CaseContent) (run : RunState) (h : List Entry) (row : ℕ) (stands : Stands content run h)
    (within : row < length content.rows) (runs : state_after content.rows (history_of h) row ≡ state.Running)
    (k : KeptRow) (there : slice_get run.rows row ≡ Some k) where
  abbrev plan : Plan
  plan = plan_of run.config content

  runs_in : state_in (is_born content.rows (history_of h) row) (events_of row (history_of h)) ≡ state.Running
  runs_in = sym (state_within content.rows (history_of h) row within) ∙ runs

  ready : (k.how ≡ restart_after h row) × IsReady plan h row k
  ready =
      ready_by plan h row k (is_born content.rows (history_of h) row) (events_of row (history_of h)) runs_in
      (stands.0.each row k there).kept

  pub kept_ready : (later : KeptRow) → later.tid ≡ k.tid → later.number ≡ k.number → later.how ≡ k.how
      → IsReady plan h row later → IsKeptAfter plan h row later
  kept_ready later tid number how is_ready =
      let old = stands.0.each row k there in
      record {
        tid = tid ∙ old.tid;
        number = number ∙ old.number;
        kept = kept_by plan h row k later (is_born content.rows (history_of h) row) (events_of row (history_of h)) runs_in
            old.kept how is_ready;
      }

  pub has_stopped : (mid : RunState) (new : Content) (at : Position)
      → IsAnswer (next_element k.position k.how (context_of k.content)) next.Stop k.content new
      → at ≡ next_position k.position k.how (context_of k.content)
      → mid ≡ with_row run row (with_next k new at) → HasStopped content mid h row new
  has_stopped mid new at answer to is =
      let came = came_stop plan h row k ready.0 ready.1 new at answer to in
      record {
        before = run;
        stands = stands;
        within = within;
        runs = runs;
        due = came.0;
        k = k;
        there = there;
        is = is ∙ ap (λ p. with_row run row (with_next k new p)) came.1;
      }

  pub has_died : (mid : RunState) (new : Content) (at : Position) (d : Death)
      → IsAnswer (next_element k.position k.how (context_of k.content)) (next.Death d) k.content new
      → at ≡ next_position k.position k.how (context_of k.content)
      → mid ≡ with_row run row (with_next k new at) → HasDied content mid h row d
  has_died mid new at d answer to is =
      let came = came_death plan h row k ready.0 ready.1 new at d answer to in
      record {
        before = run;
        stands = stands;
        within = within;
        runs = runs;
        due = subst (λ e. IsDeathOf e d) (sym came.0) refl;
        range = next_death plan row (left_of content.rows h row)
            (fits_at plan h (fitting_case run.config content stands.0.known) stands.0.legal stands.0.driven row within)
            (restart_after h row) _ d (restart_in_range content.rows h stands.0.legal row) came.0;
        k = k;
        there = there;
        new_content = new;
        at = at;
        ready = inr came.1;
        is = is;
      }

  pub has_faulted : (mid : RunState) (new : Content) (at : Position) (a : ℕ)
      → IsAnswer (next_element k.position k.how (context_of k.content)) (next.Fault a) k.content new
      → at ≡ next_position k.position k.how (context_of k.content)
      → mid ≡ with_row run row (with_next k new at) → HasDied content mid h row fault_death
  has_faulted mid new at a answer to is =
      let came = came_fault plan h row k ready.0 ready.1 new at a answer to in
      record {
        before = run;
        stands = stands;
        within = within;
        runs = runs;
        due = subst (λ e. IsDeathOf e fault_death) (sym came.0) refl;
        range = omega arith;
        k = k;
        there = there;
        new_content = new;
        at = at;
        ready = inl came.1;
        is = is;
      }

-- ---- the same of a run that is told

kept_there : (rows : List KeptRow) (row : ℕ) → row < length rows → (k : KeptRow) × (slice_get rows row ≡ Some k)
kept_there [] row within = absurd (omega (arith, within))
kept_there (k ∷ rows) zero within = (k, refl)
kept_there (k ∷ rows) (suc row) within = kept_there rows row (omega (arith, within))

module _ (content : CaseContent) (run mid : RunState) (h : List Entry) (row : ℕ) (told : Next)
    (s : IsToRun content run h row) (ran : HasRunOn run mid row told) where
  abbrev there : (k : KeptRow) × (slice_get run.rows row ≡ Some k)
  there = kept_there run.rows row (let within = s.within in let long = s.stands.0.long in omega (arith, within, long))

  abbrev element : Element
  element = next_element there.0.position there.0.how (context_of there.0.content)

  pub ran_world : mid.world ≡ run.world
  ran_world = let made = ran there.0 there.1 in ap (λ (r : RunState). r.world) made.4

  pub ran_config : mid.config ≡ run.config
  ran_config = let made = ran there.0 there.1 in ap (λ (r : RunState). r.config) made.4

  pub ran_to_stop : told ≡ next.Stop → (c : Content) × HasStopped content mid h row c
  ran_to_stop is =
      let made = ran there.0 there.1 in (
        made.0,
        has_stopped content run h row s.stands s.within s.runs there.0 there.1 mid made.0 made.1
            (subst (λ n. IsAnswer element n there.0.content made.0) is made.2) made.3 made.4,
      )

  pub ran_to_death : (d : Death) → told ≡ next.Death d → HasDied content mid h row d
  ran_to_death d is =
      let made = ran there.0 there.1 in
      has_died content run h row s.stands s.within s.runs there.0 there.1 mid made.0 made.1 d
      (subst (λ n. IsAnswer element n there.0.content made.0) is made.2) made.3 made.4

  pub ran_to_fault : (a : ℕ) → told ≡ next.Fault a → HasDied content mid h row fault_death
  ran_to_fault a is =
      let made = ran there.0 there.1 in
      has_faulted content run h row s.stands s.within s.runs there.0 there.1 mid made.0 made.1 a
      (subst (λ n. IsAnswer element n there.0.content made.0) is made.2) made.3 made.4
