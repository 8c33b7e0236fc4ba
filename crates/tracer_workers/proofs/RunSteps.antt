-- The events of a run's turns: a stop is published, a tracee dies, a tracer claims a stop and resumes it, or reaps a
-- death.
use Rattle.std.proofs.Common.{refl, ◌≡◌, ◌≢◌, ◌<◌, ◌≤◌, ◌+◌, ◌∷◌, [], ℕ, Bool, true, false, List, Option, Some, None}
use Rattle.std.proofs.Common.{Ok, length, inl, ◌∙◌, sym, ap, subst, arith, slice_get, lt-ltb}
use Rattle.trace_record.specs.Content.{Content}
use Rattle.trace_record.specs.Death.{IsDeath}
use Rattle.trace_record.specs.Resume.{IsResume}
use Rattle.trace_record.specs.declared.death.Death.{Death}
use Rattle.trace_record.specs.declared.resume.Resume.{Resume as Restart}
use Rattle.record_printer.specs.Piece.{Died, Stopped}
use Rattle.record_printer.specs.Represents.{Represents}
use Rattle.record_printer.specs.StopNote.{stop_note}
use Rattle.tracer_workers.specs.Scheduled.{CameTo}
use Rattle.stop_history.specs.declared.limits.TheConstants.{LAST_NUMBER, TRACERS}
use Rattle.stop_history.specs.declared.roster.Row.{Row}
use Rattle.stop_history.specs.declared.state.State.{State}
use Rattle.stop_history.specs.declared.state.State.TheVariants as state
use Rattle.stop_history.specs.Event as event
use Rattle.stop_history.specs.Event.{Event, events_of, subject}
use Rattle.stop_history.specs.History.{Fits, holding_back}
use Rattle.stop_history.specs.Roster.{row_at}
use Rattle.stop_history.specs.Sequential.{exit_by, publish_by, unless_held}
use Rattle.stop_history.specs.State.{claimed_state, is_born, is_waitable, last_number, number_in, state_after}
use Rattle.stop_history.specs.State.{state_in}
use Rattle.stop_history.specs.Word.{claimed_phase, phase_in}
use Rattle.stop_history.specs.declared.phase.Phase.TheVariants as phase
use Rattle.stop_history.proofs.States.{state_within}
use Rattle.trace_record.specs.Stop.{stop_status}
use Rattle.stop_history.proofs.Events.{own_events}
use Rattle.stop_table.specs.Entry.{Entry, bare, content_after, history_of, publish_of, resume_of}
use Rattle.stop_table.proofs.Written.{unwritten}
use Rattle.trace_script.specs.CaseFile.{CaseContent}
use Rattle.trace_script.specs.StopTrace.{StopIs, position_after}
use Rattle.tracer_workers.proofs.AfterClaim.{not_by_claim}
use Rattle.tracer_workers.specs.Config.{plan_of, show_of}
use Rattle.tracer_workers.specs.Driven.{IsDeathOf, element_after, restart_after}
use Rattle.tracer_workers.specs.HistoryPieces.{pieces_of}
use Rattle.tracer_workers.specs.Plan.{opening_of}
use Rattle.tracer_workers.specs.Scheduled.{HasMade, IsAtRest, IsKeptAfter, IsKeptAt, KeptRow, RunState, most_stops}
use Rattle.tracer_workers.proofs.Fitting.{IsNextStop, fits_at, next_stop, restart_in_range}
use Rattle.tracer_workers.proofs.FittingCases.{fitting_case}
use Rattle.tracer_workers.proofs.Left.{Left, left_of, own_left}
use Rattle.tracer_workers.proofs.Made.{GoesOnBy}
use Rattle.tracer_workers.specs.Turn.{onward}

-- no script has more stops
pub last_most : (content : CaseContent) (run : RunState) (h : List Entry) (row : ℕ) → HasMade content run h
    → row < length content.rows → last_number (history_of h) row ≤ most_stops
last_most content run h row made within =
    let fit = fits_at (plan_of run.config content) h (fitting_case run.config content made.known) made.legal made.driven row
    within in
    omega (arith, fit.number, fit.within)

-- ---- a stop is published

-- the next stop of a running row
pub stop_due : (content : CaseContent) (run : RunState) (h : List Entry) (row : ℕ) (c : Content)
    → HasMade content run h → row < length content.rows
    → element_after (plan_of run.config content) h row ≡ StopIs c
    → IsNextStop (plan_of run.config content) row (left_of content.rows h row) (onward (plan_of run.config content) h row) c
stop_due content run h row c made within due =
    let plan = plan_of run.config content in
    next_stop plan row (left_of content.rows h row)
    (fits_at plan h (fitting_case run.config content made.known) made.legal made.driven row within) (restart_after h row) _ c
    (restart_in_range content.rows h made.legal row) due

pub publish_by_ok : (at : State) (next : Bool) (number : ℕ) → at ≡ state.Running → next ≡ true → number + 1 ≤ most_stops
    → publish_by at next number ≡ Ok (number + 1)
publish_by_ok at next number runs is few =
    let less : number < LAST_NUMBER = omega (arith, few) in
    rw (runs, is, lt-ltb number LAST_NUMBER less) refl

-- what a tracee's turn has come to, where it is a stop
pub record Published (content : CaseContent) (run new : RunState) (h : List Entry) (row : ℕ) (c : Content) : Type 0 where
  pub config : new.config ≡ run.config
  pub world : CameTo new.world (event.Publish row (last_number (history_of h) row + 1) c.stop ∷ history_of h)
  pub world_rows : new.world.rows ≡ run.world.rows
  pub folder : Represents new.folder
      (Stopped c.tid c.number (stop_note (show_of run.config) c) ∷ pieces_of (show_of run.config) content.rows h)
  pub folder_rows : new.folder.rows ≡ run.folder.rows
  pub long : length new.rows ≡ length run.rows
  pub others : (other : ℕ) (k : KeptRow) → other ≢ row → slice_get new.rows other ≡ Some k
      → slice_get run.rows other ≡ Some k
  pub own : (k : KeptRow) → slice_get new.rows row ≡ Some k
      → (k.tid ≡ (row_at content.rows row).tid) × (k.number ≡ last_number (history_of h) row + 1) × (k.content ≡ c)
      × (k.position ≡ onward (plan_of run.config content) h row)

pub publish_goes : (content : CaseContent) (run new : RunState) (h : List Entry) (row : ℕ) (c : Content)
    → HasMade content run h
    → row < length content.rows → state_after content.rows (history_of h) row ≡ state.Running
    → element_after (plan_of run.config content) h row ≡ StopIs c → Published content run new h row c
    → GoesOnBy content run new h (publish_of row c)
publish_goes content run new h row c made within runs due p =
    let plan = plan_of run.config content in
    let next = stop_due content run h row c made within due in
    let own = own_left content.rows (publish_of row c) h row refl in
    record {
      config = p.config;
      world = subst (λ n. CameTo new.world (event.Publish row n c.stop ∷ history_of h)) (sym next.number) p.world;
      world_rows = p.world_rows;
      folder = subst (λ t. Represents new.folder
          (Stopped t c.number (stop_note (show_of run.config) c) ∷ pieces_of (show_of run.config) content.rows h))
          next.tid p.folder;
      folder_rows = p.folder_rows;
      fits = (runs, next.number, omega (arith, next.few), next.next);
      in_range = next.stop;
      carried = (next.tid, refl, refl);
      traced = due;
      restarted = tt;
      long = p.long;
      others = p.others;
      own = λ k at.
          let is = p.own k at in
          record {
            tid = is.0;
            number = is.1 ∙ sym next.number ∙ sym (ap (λ (a : Left). number_in a.events) own);
            kept = subst (λ (a : Left). IsKeptAt (phase_in a.events) plan (publish_of row c ∷ h) row k) (sym own)
                (record {
                  content = is.2 ∙ sym (ap (λ (a : Left). a.content) own);
                  position = is.3 ∙ sym (ap (λ (a : Left). position_after (opening_of plan row) a.turns) own);
                });
          };
    }

-- ---- a tracee dies

pub record Ended (content : CaseContent) (run new : RunState) (h : List Entry) (row : ℕ) (d : Death) : Type 0 where
  pub config : new.config ≡ run.config
  pub world : CameTo new.world (event.Exit row d ∷ history_of h)
  pub world_rows : new.world.rows ≡ run.world.rows
  pub folder : Represents new.folder
      (Died (row_at content.rows row).tid (last_number (history_of h) row) d
      ∷ pieces_of (show_of run.config) content.rows h)
  pub folder_rows : new.folder.rows ≡ run.folder.rows
  pub long : length new.rows ≡ length run.rows
  pub others : (other : ℕ) (k : KeptRow) → other ≢ row → slice_get new.rows other ≡ Some k
      → slice_get run.rows other ≡ Some k
  pub own : (k : KeptRow) → slice_get new.rows row ≡ Some k
      → (k.tid ≡ (row_at content.rows row).tid) × (k.number ≡ last_number (history_of h) row)

held_by_none : (holding : Option ℕ) → unless_held holding ≡ Ok tt → holding ≡ None
held_by_none None is = refl
held_by_none (Some other) is = cc

pub not_held : (holding : Option ℕ) (at : State) → at ≡ state.Running → exit_by holding at ≡ Ok tt → holding ≡ None
not_held holding at runs is = held_by_none holding (ap (exit_by holding) (sym runs) ∙ is)

pub exit_goes : (content : CaseContent) (run new : RunState) (h : List Entry) (row : ℕ) (d : Death)
    → HasMade content run h
    → row < length content.rows → state_after content.rows (history_of h) row ≡ state.Running
    → holding_back content.rows (state_after content.rows (history_of h)) row ≡ None
    → IsDeath d → IsDeathOf (element_after (plan_of run.config content) h row) d → Ended content run new h row d
    → GoesOnBy content run new h (bare (event.Exit row d))
exit_goes content run new h row d made within runs free range dies p =
    let plan = plan_of run.config content in
    let own = own_left content.rows (bare (event.Exit row d)) h row refl in
    record {
      config = p.config;
      world = p.world;
      world_rows = p.world_rows;
      folder = p.folder;
      folder_rows = p.folder_rows;
      fits = (runs, free);
      in_range = range;
      carried = tt;
      traced = dies;
      restarted = tt;
      long = p.long;
      others = p.others;
      own = λ k at.
          let is = p.own k at in
          record {
            tid = is.0;
            number = is.1 ∙ sym (ap (λ (a : Left). number_in a.events) own);
            kept = subst (λ (a : Left). IsKeptAt (phase_in a.events) plan (bare (event.Exit row d) ∷ h) row k) (sym own) tt;
          };
    }

-- ---- a death is reaped, and a stop is claimed

pub dead_phase : (born : Bool) (number status tracer : ℕ) (es : List Event) → state_in born es ≡ state.Dead number status
    → claimed_phase tracer es ≡ phase.Reaped
dead_phase true number status tracer [] is = cc
dead_phase false number status tracer [] is = cc
dead_phase born number status tracer (event.Publish row n stop ∷ es) is = cc
dead_phase born number status tracer (event.Claim row n other ∷ es) is = not_by_claim (number_in es) other es (state.Dead number status) is refl
dead_phase born number status tracer (event.Resume row n how other ∷ es) is = cc
dead_phase born number status tracer (event.Exit row d ∷ es) is = refl

-- what a stopped row's own events are
record IsStopped (tracer : ℕ) (es : List Event) : Type 0 where
  status : ℕ
  stands : phase_in es ≡ phase.Stopped status
  later : claimed_phase tracer es ≡ phase.Claimed tracer
  holds : claimed_state (number_in es) tracer es ≡ state.Claimed (number_in es) tracer

stopped_phase : (born : Bool) (number status tracer : ℕ) (es : List Event)
    → state_in born es ≡ state.Stopped number status → IsStopped tracer es
stopped_phase true number status tracer [] is = cc
stopped_phase false number status tracer [] is = cc
stopped_phase born number status tracer (event.Publish row n stop ∷ es) is =
    record { status = stop_status stop; stands = refl; later = refl; holds = refl }
stopped_phase born number status tracer (event.Claim row n other ∷ es) is = not_by_claim (number_in es) other es (state.Stopped number status) is refl
stopped_phase born number status tracer (event.Resume row n how other ∷ es) is = cc
stopped_phase born number status tracer (event.Exit row d ∷ es) is = cc

-- a claim changes the World alone
pub record Claimed (content : CaseContent) (run new : RunState) (h : List Entry) (row tracer : ℕ) : Type 0 where
  pub config : new.config ≡ run.config
  pub world : CameTo new.world (event.Claim row (last_number (history_of h) row) tracer ∷ history_of h)
  pub world_rows : new.world.rows ≡ run.world.rows
  pub folder : new.folder ≡ run.folder
  pub rows : new.rows ≡ run.rows

abbrev pub claim_entry : List Entry → (row tracer : ℕ) → Entry
claim_entry h row tracer = bare (event.Claim row (last_number (history_of h) row) tracer)

claim_made : (content : CaseContent) (run new : RunState) (h : List Entry) (row tracer : ℕ) → HasMade content run h
    → Fits content.rows (history_of h) (event.Claim row (last_number (history_of h) row) tracer)
    → tracer < TRACERS → Claimed content run new h row tracer
    → ((k : KeptRow) → slice_get run.rows row ≡ Some k
    → IsKeptAt (claimed_phase tracer (events_of row (history_of h))) (plan_of run.config content)
    (claim_entry h row tracer ∷ h) row k)
    → GoesOnBy content run new h (claim_entry h row tracer)
claim_made content run new h row tracer made fits low p kept =
    let plan = plan_of run.config content in
    let own = own_left content.rows (claim_entry h row tracer) h row refl in
    record {
      config = p.config;
      world = p.world;
      world_rows = p.world_rows;
      folder = subst (λ f. Represents f (pieces_of (show_of run.config) content.rows h)) (sym p.folder) made.folder;
      folder_rows = ap (λ f. f.rows) p.folder;
      fits = fits;
      in_range = low;
      carried = tt;
      traced = tt;
      restarted = tt;
      long = ap length p.rows;
      others = λ other k apart at. ap (λ ks. slice_get ks other) (sym p.rows) ∙ at;
      own = λ k at.
          let before : slice_get run.rows row ≡ Some k = ap (λ ks. slice_get ks row) (sym p.rows) ∙ at in
          let is = made.each row k before in
          record {
            tid = is.tid;
            number = is.number ∙ sym (ap (λ (a : Left). number_in a.events) own);
            kept = subst (λ (a : Left). IsKeptAt (phase_in a.events) plan (claim_entry h row tracer ∷ h) row k) (sym own)
                (kept k before);
          };
    }

pub reap_goes : (content : CaseContent) (run new : RunState) (h : List Entry) (row tracer number status : ℕ)
    → HasMade content run h → row < length content.rows
    → state_after content.rows (history_of h) row ≡ state.Dead number status
    → tracer < TRACERS → Claimed content run new h row tracer → GoesOnBy content run new h (claim_entry h row tracer)
reap_goes content run new h row tracer number status made within dead low p =
    let reaped = dead_phase (is_born content.rows (history_of h) row) number status tracer (events_of row (history_of h))
    (sym (state_within content.rows (history_of h) row within) ∙ dead) in
    claim_made content run new h row tracer made (ap is_waitable dead, refl) low p
    (λ k at. subst (λ q. IsKeptAt q (plan_of run.config content) (claim_entry h row tracer ∷ h) row k) (sym reaped) tt)

pub claim_goes : (content : CaseContent) (run new : RunState) (h : List Entry) (row tracer number status : ℕ)
    → HasMade content run h → row < length content.rows
    → state_after content.rows (history_of h) row ≡ state.Stopped number status
    → tracer < TRACERS → Claimed content run new h row tracer → GoesOnBy content run new h (claim_entry h row tracer)
claim_goes content run new h row tracer number status made within stopped low p =
    let plan = plan_of run.config content in
    let es = events_of row (history_of h) in
    let is = stopped_phase (is_born content.rows (history_of h) row) number status tracer es
    (sym (state_within content.rows (history_of h) row within) ∙ stopped) in
    let own = own_left content.rows (claim_entry h row tracer) h row refl in
    claim_made content run new h row tracer made (ap is_waitable stopped, refl) low p
    (λ k at.
    let rest : IsAtRest plan h row k = subst (λ q. IsKeptAt q plan h row k) is.stands (made.each row k at).kept in
    subst (λ q. IsKeptAt q plan (claim_entry h row tracer ∷ h) row k) (sym is.later)
    (record {
      content = rest.content ∙ sym (ap (λ (a : Left). a.content) own);
      position = rest.position ∙ sym (ap (λ (a : Left). position_after (opening_of plan row) a.turns) own);
    }))

-- ---- a claimed stop is resumed

pub record Resumed (content : CaseContent) (run new : RunState) (h : List Entry) (row tracer : ℕ) (how : Restart)
    : Type 0 where
  pub config : new.config ≡ run.config
  pub world : CameTo new.world (event.Resume row (last_number (history_of h) row) how tracer ∷ history_of h)
  pub world_rows : new.world.rows ≡ run.world.rows
  pub folder : new.folder ≡ run.folder
  pub long : length new.rows ≡ length run.rows
  pub others : (other : ℕ) (k : KeptRow) → other ≢ row → slice_get new.rows other ≡ Some k
      → slice_get run.rows other ≡ Some k
  pub own : (k : KeptRow) → slice_get new.rows row ≡ Some k
      → (before : KeptRow) × (slice_get run.rows row ≡ Some before) × (k ≡ record before { how = how })
      × (how ≡ (plan_of run.config content).policy before.content)

abbrev pub resume_entry : List Row → List Entry → (row tracer : ℕ) → Restart → Entry
resume_entry rows h row tracer how =
    resume_of row (last_number (history_of h) row) how tracer (content_after rows h row)

pub resume_goes : (content : CaseContent) (run new : RunState) (h : List Entry) (row tracer : ℕ) (how : Restart)
    → HasMade content run h → row < length content.rows
    → state_after content.rows (history_of h) row ≡ state.Claimed (last_number (history_of h) row) tracer
    → phase_in (events_of row (history_of h)) ≡ phase.Claimed tracer
    → tracer < TRACERS → IsResume how
    → (k : KeptRow) → slice_get run.rows row ≡ Some k → how ≡ (plan_of run.config content).policy k.content
    → Resumed content run new h row tracer how → GoesOnBy content run new h (resume_entry content.rows h row tracer how)
resume_goes content run new h row tracer how made within held claimed low range now there due p =
    let plan = plan_of run.config content in
    let x = resume_entry content.rows h row tracer how in
    let own = own_left content.rows x h row refl in
    let rested : (k : KeptRow) → slice_get run.rows row ≡ Some k → IsAtRest plan h row k =
    λ k at. subst (λ q. IsKeptAt q plan h row k) claimed (made.each row k at).kept in
    record {
      config = p.config;
      world = p.world;
      world_rows = p.world_rows;
      folder = subst (λ f. Represents f (pieces_of (show_of run.config) content.rows h)) (sym p.folder) made.folder;
      folder_rows = ap (λ f. f.rows) p.folder;
      fits = held;
      in_range = (range, low);
      carried = unwritten _ _ refl;
      traced = tt;
      restarted = (due ∙ ap plan.policy (rested now there).content, refl);
      long = p.long;
      others = p.others;
      own = λ k at.
          let it = p.own k at in
          let old = made.each row it.0 it.1 in
          let rest = rested it.0 it.1 in
          subst (IsKeptAfter plan (x ∷ h) row) (sym it.2)
          (record {
            tid = old.tid;
            number = old.number ∙ sym (ap (λ (a : Left). number_in a.events) own);
            kept = subst (λ (a : Left). IsKeptAt (phase_in a.events) plan (x ∷ h) row
                (record it.0 { how = how })) (sym own) (
                  refl,
                  inl (record {
                    content = rest.content ∙ sym (ap (λ (a : Left). a.content) own);
                    position = rest.position ∙ sym (ap (λ (a : Left). position_after (opening_of plan row) a.turns) own);
                  }),
                );
          });
    }

-- the state of a row that was stopped, once it is claimed
pub claimed_next : (content : CaseContent) (h : List Entry) (row tracer number status : ℕ) → row < length content.rows
    → state_after content.rows (history_of h) row ≡ state.Stopped number status
    → (state_after content.rows (history_of (claim_entry h row tracer ∷ h)) row
    ≡ state.Claimed (last_number (history_of (claim_entry h row tracer ∷ h)) row) tracer)
    × (phase_in (events_of row (history_of (claim_entry h row tracer ∷ h))) ≡ phase.Claimed tracer)
claimed_next content h row tracer number status within stopped =
    let es = events_of row (history_of h) in
    let is = stopped_phase (is_born content.rows (history_of h) row) number status tracer es
    (sym (state_within content.rows (history_of h) row within) ∙ stopped) in
    let later = claim_entry h row tracer ∷ h in
    let own = own_events row (claim_entry h row tracer).event (history_of h) refl in (
      state_within content.rows (history_of later) row within
          ∙ ap (state_in (is_born content.rows (history_of later) row)) own
          ∙ is.holds
          ∙ sym (ap (λ n. state.Claimed n tracer) (ap number_in own)),
      ap phase_in own ∙ is.later,
    )
