-- A worker's turn: a death is reaped, a stop is claimed and its row restarted, or nothing waits.
use Rattle.std.proofs.Common.{refl, ◌≡◌, ◌<◌, ◌≤◌, ◌∷◌, [], ℕ, Bool, true, false, List, Some, length, inl, inr}
use Rattle.std.proofs.Common.{Result, Ok, Err, lt-ltb, eq-eqb, ◌∙◌, sym, ap, subst, arith, slice_get, if◌then◌else◌}
use Rattle.std.proofs.lemmas.Bool.{cases_eq}
use Rattle.trace_options.specs.Calls.{Calls}
use Rattle.trace_options.specs.declared.signal.TheConstants.{LAST_SIGNAL}
use Rattle.trace_record.specs.Content.{Content}
use Rattle.trace_record.specs.Resume.{IsResume}
use Rattle.trace_record.specs.Stop.{IsStop}
use Rattle.trace_record.specs.declared.resume.Resume.{Resume as Restart}
use Rattle.trace_record.specs.declared.stop.Stop.{Stop}
use Rattle.trace_record.specs.declared.stop.Stop.TheVariants as stop
use Rattle.stop_history.specs.declared.actor.Actor.TheVariants.{Tracer}
use Rattle.stop_history.specs.declared.limits.TheConstants.{TRACERS}
use Rattle.stop_history.specs.declared.roster.Row.{Row}
use Rattle.stop_history.specs.declared.state.State.{State}
use Rattle.stop_history.specs.declared.state.State.TheVariants as state
use Rattle.stop_history.specs.declared.got.Got.{Got}
use Rattle.stop_history.specs.declared.got.Got.TheVariants as got
use Rattle.stop_history.specs.declared.refused.Refused.{Refused}
use Rattle.stop_history.specs.Sequential.{claim_answer, claim_by, claim_state, goes_on, resume_answer, resume_by}
use Rattle.tracer_workers.specs.Scheduled.{CameTo}
use Rattle.stop_history.specs.Event as event
use Rattle.stop_history.specs.Event.{Event, events_of, subject}
use Rattle.stop_history.specs.Ranges.{IsInRange}
use Rattle.stop_history.specs.State.{is_born, is_waitable, last_number, state_after}
use Rattle.stop_history.specs.Word.{phase_in}
use Rattle.stop_history.proofs.States.{state_within}
use Rattle.stop_table.specs.Entry.{AreLegal, Entry, IsCarried, content_after, content_with, history_of}
use Rattle.trace_script.specs.CaseFile.{CaseContent}
use Rattle.tracer_workers.specs.Config.{plan_of, policy_of}
use Rattle.tracer_workers.specs.Policy.{passed, plain_policy, seccomp_policy}
use Rattle.tracer_workers.specs.Scheduled.{IsAtRest, IsKeptAt, KeptRow, MovedBy, RunState, Stands, is_claimed, run_left}
use Rattle.tracer_workers.specs.Turn.{HasHeld}
use Rattle.tracer_workers.proofs.Fewer.{fewer_left}
use Rattle.tracer_workers.proofs.Left.{Left, other_left, own_left}
use Rattle.tracer_workers.proofs.Made.{free_but, free_on, made_on}
use Rattle.tracer_workers.proofs.OneActor.{by_one}
use Rattle.tracer_workers.proofs.RunSteps.{Claimed, Resumed, claim_entry, claim_goes, claimed_next, dead_phase, last_most}
use Rattle.tracer_workers.proofs.RunSteps.{reap_goes, resume_entry, resume_goes}

-- ---- a restart is in range

stop_with : (rows : List Row) (e : Event) (carried before : Content) → IsInRange e → IsCarried rows before e carried
    → IsStop before.stop → IsStop (content_with e carried before).stop
stop_with rows (event.Publish row number stop) carried before range is old = subst IsStop (sym is.2) range
stop_with rows (event.Claim row number tracer) carried before range is old = old
stop_with rows (event.Resume row number how tracer) carried before range is old = subst IsStop (sym is.stop) old
stop_with rows (event.Exit row death) carried before range is old = old

pub last_stop : (rows : List Row) (h : List Entry) → AreLegal rows h → (row : ℕ) → IsStop (content_after rows h row).stop
last_stop rows [] legal row = tt
last_stop rows (x ∷ h) legal row =
    let old = last_stop rows h legal.1 row in
    elim (cases_eq (subject x.event) row) [
      | inl same ↦
          subst (λ (a : Left). IsStop a.content.stop) (sym (own_left rows x h row same))
          (stop_with rows x.event x.content (content_after rows h row) legal.0.1
          (subst (λ r. IsCarried rows (content_after rows h r) x.event x.content) same legal.0.2) old)
      | inr other ↦
          subst (λ (a : Left). IsStop a.content.stop) (sym (other_left rows x h row other)) old
    ]

passed_in_range : (s : Stop) → IsStop s → passed s ≤ LAST_SIGNAL
passed_in_range (stop.Signal signal) is = omega (arith, is)
passed_in_range stop.Start is = omega arith
passed_in_range stop.Enter is = omega arith
passed_in_range stop.Exit is = omega arith
passed_in_range (stop.Seccomp ret_data) is = omega arith
passed_in_range (stop.Fork child) is = omega arith
passed_in_range (stop.Clone child) is = omega arith
passed_in_range (stop.Exec former) is = omega arith
passed_in_range (stop.Ending death) is = omega arith

pub mode_in_range : (b : Bool) (calls : Calls) (c : Content) → IsStop c.stop
    → IsResume ((if b then seccomp_policy calls else plain_policy) c)
mode_in_range true calls c is = passed_in_range c.stop is
mode_in_range false calls c is = passed_in_range c.stop is

-- ---- a tracer's claim

module _ (content : CaseContent) (run new : RunState) (h : List Entry) (row tracer number status : ℕ)
    (stands : Stands content run h) (within : row < length content.rows) (low : tracer < TRACERS)
    (p : Claimed content run new h row tracer) where
  abbrev x : Entry
  x = claim_entry h row tracer

  pub claim_reaps : state_after content.rows (history_of h) row ≡ state.Dead number status
      → MovedBy (Tracer tracer) content run new h
  claim_reaps dead =
      let goes = reap_goes content run new h row tracer number status stands.0 within dead low p in
      let reaped = dead_phase (is_born content.rows (history_of h) row) number status tracer (events_of row (history_of h))
      (sym (state_within content.rows (history_of h) row within) ∙ dead) in (
        x ∷ h,
        (made_on content run new h x stands.0 goes, free_on content.rows h x stands.1 (ap is_claimed reaped)),
        fewer_left content run new h x stands.0 goes (last_most content run h row stands.0 within),
        by_one (Tracer tracer) x h refl,
      )

  pub claim_holds : state_after content.rows (history_of h) row ≡ state.Stopped number status
      → HasHeld content new (x ∷ h) row tracer × (run_left new < run_left run)
  claim_holds stopped =
      let goes = claim_goes content run new h row tracer number status stands.0 within stopped low p in
      let next = claimed_next content h row tracer number status within stopped in (
        record {
          made = made_on content run new h x stands.0 goes;
          within = within;
          low = low;
          held = next.0;
          phase = next.1;
          others = λ other apart.
              ap (λ (a : Left). is_claimed (phase_in a.events)) (other_left content.rows x h other (λ is. apart (sym is)))
              ∙ stands.1 other;
        },
        fewer_left content run new h x stands.0 goes (last_most content run h row stands.0 within),
      )

-- ---- what the World answers to a claim

waits_as_stop : (at : State) (number status : ℕ) → claim_state at ≡ Ok (got.Stop number status)
    → at ≡ state.Stopped number status
waits_as_stop (state.Stopped own shown) number status is =
    let first : own ≡ number = cc in let second : shown ≡ status = cc in λ i. state.Stopped (first i) (second i)
waits_as_stop (state.Dead own shown) number status is = cc
waits_as_stop state.Absent number status is = cc
waits_as_stop state.Unborn number status is = cc
waits_as_stop state.Running number status is = cc
waits_as_stop (state.Claimed own holder) number status is = cc
waits_as_stop state.Reaped number status is = cc

waits_as_death : (at : State) (number status : ℕ) → claim_state at ≡ Ok (got.Ended number status)
    → at ≡ state.Dead number status
waits_as_death (state.Dead own shown) number status is =
    let first : own ≡ number = cc in let second : shown ≡ status = cc in λ i. state.Dead (first i) (second i)
waits_as_death (state.Stopped own shown) number status is = cc
waits_as_death state.Absent number status is = cc
waits_as_death state.Unborn number status is = cc
waits_as_death state.Running number status is = cc
waits_as_death (state.Claimed own holder) number status is = cc
waits_as_death state.Reaped number status is = cc

no_wait : (at : State) (refusal : Refused) → claim_state at ≡ Err refusal → is_waitable at ≡ false
no_wait (state.Stopped own shown) refusal is = cc
no_wait (state.Dead own shown) refusal is = cc
no_wait state.Absent refusal is = refl
no_wait state.Unborn refusal is = refl
no_wait state.Running refusal is = refl
no_wait (state.Claimed own holder) refusal is = refl
no_wait state.Reaped refusal is = refl

-- a stop is held, and a death is over
abbrev pub GotLeaves : CaseContent → RunState → RunState → List Entry → (row tracer : ℕ) → Got → Type 0
GotLeaves content run new h row tracer (got.Stop number status) =
    HasHeld content new (claim_entry h row tracer ∷ h) row tracer × (run_left new < run_left run)
GotLeaves content run new h row tracer (got.Ended number status) = MovedBy (Tracer tracer) content run new h

module _ (content : CaseContent) (run new : RunState) (h : List Entry) (row tracer : ℕ)
    (stands : Stands content run h) (within : row < length content.rows) (low : tracer < TRACERS)
    (result : Result Got Refused) (answer : result ≡ claim_answer run.world.rows (history_of h) row tracer) where
  told : claim_state (state_after content.rows (history_of h) row) ≡ result
  told =
      let by_state : claim_by tracer (state_after content.rows (history_of h) row)
      ≡ claim_state (state_after content.rows (history_of h) row) = rw (lt-ltb tracer TRACERS low) refl in
      sym by_state ∙ ap (λ rows. claim_answer rows (history_of h) row tracer) (sym stands.0.world_rows) ∙ sym answer

  pub claim_finds_none : (refusal : Refused) → result ≡ Err refusal
      → is_waitable (state_after content.rows (history_of h) row) ≡ false
  claim_finds_none refusal is = no_wait (state_after content.rows (history_of h) row) refusal (told ∙ is)

  got_leaves : (got : Got) → result ≡ Ok got → Claimed content run new h row tracer → GotLeaves content run new h row tracer got
  got_leaves (got.Stop number status) is p =
      claim_holds content run new h row tracer number status stands within low p
      (waits_as_stop (state_after content.rows (history_of h) row) number status (told ∙ is))
  got_leaves (got.Ended number status) is p =
      claim_reaps content run new h row tracer number status stands within low p
      (waits_as_death (state_after content.rows (history_of h) row) number status (told ∙ is))

  pub claim_gets : new.config ≡ run.config
      → CameTo new.world (goes_on result (event.Claim row (last_number (history_of h) row) tracer) (history_of h))
      → new.world.rows ≡ run.world.rows → new.folder ≡ run.folder → new.rows ≡ run.rows
      → (got : Got) → result ≡ Ok got → GotLeaves content run new h row tracer got
  claim_gets config world world_rows folder rows got is =
      let p : Claimed content run new h row tracer = record {
        config = config;
        world = subst (λ r. CameTo new.world
            (goes_on r (event.Claim row (last_number (history_of h) row) tracer) (history_of h))) is world;
        world_rows = world_rows;
        folder = folder;
        rows = rows;
      } in
      got_leaves got is p

-- ---- the restart

resume_by_ok : (tracer : ℕ) (at : State) (number : ℕ) → tracer < TRACERS → at ≡ state.Claimed number tracer
    → resume_by tracer at ≡ Ok tt
resume_by_ok tracer at number low is = rw (is, lt-ltb tracer TRACERS low, eq-eqb tracer tracer refl) refl

module _ (content : CaseContent) (run : RunState) (h : List Entry) (row tracer : ℕ)
    (s : HasHeld content run h row tracer) where
  -- the policy's restart for the row that is kept
  pub restart_range : (k : KeptRow) → slice_get run.rows row ≡ Some k → IsResume (policy_of run.config k.content)
  restart_range k there =
      let plan = plan_of run.config content in
      let rest : IsAtRest plan h row k = subst (λ q. IsKeptAt q plan h row k) s.phase (s.made.each row k there).kept in
      mode_in_range run.config.seccomp run.config.shown k.content
      (subst (λ (c : Content). IsStop c.stop) (sym rest.content) (last_stop content.rows h s.made.legal row))

  -- and the World takes it
  pub restart_taken : resume_answer run.world.rows (history_of h) row tracer ≡ Ok tt
  restart_taken =
      ap (λ rows. resume_answer rows (history_of h) row tracer) s.made.world_rows
      ∙ resume_by_ok tracer (state_after content.rows (history_of h) row) (last_number (history_of h) row) s.low s.held

  pub restart_moves : (new : RunState) (how : Restart) (k : KeptRow) → slice_get run.rows row ≡ Some k
      → how ≡ policy_of run.config k.content → Resumed content run new h row tracer how
      → MovedBy (Tracer tracer) content run new h
  restart_moves new how k there due p =
      let x = resume_entry content.rows h row tracer how in
      let goes = resume_goes content run new h row tracer how s.made s.within s.held s.phase s.low
      (subst IsResume (sym due) (restart_range k there)) k there due p in (
        x ∷ h,
        (made_on content run new h x s.made goes, free_but content.rows h x s.others refl),
        fewer_left content run new h x s.made goes (last_most content run h row s.made s.within),
        by_one (Tracer tracer) x h refl,
      )
