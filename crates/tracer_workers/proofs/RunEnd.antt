-- A round of turns of which no event came ends a run: each row has been reaped, or will never be born. Then the pieces
-- are whole, and have the text of the case.
use Rattle.std.proofs.Common.{refl, ◌≡◌, ◌⊎◌, ◌<◌, ◌+◌, ◌==◌, ◌∷◌, [], ℕ, zero, suc, Bool, true, false, not, List}
use Rattle.std.proofs.Common.{Option, Some, None, length, inl, inr, ◌∙◌, sym, ap, subst, arith, find, cond, eqb-true, eq-eqb, ◌≤◌}
use Rattle.std.specs.List.{range_with_len}
use Rattle.std.proofs.lemmas.Bool.{and_parts}
use Rattle.record_printer.specs.FolderAnswers.{lost, pieces_text}
use Rattle.stop_history.specs.declared.roster.Row.{Row}
use Rattle.stop_history.specs.declared.state.State.{State}
use Rattle.stop_history.specs.declared.state.State.TheVariants as state
use Rattle.stop_history.specs.Event as event
use Rattle.stop_history.specs.Event.{Event, events_of}
use Rattle.stop_history.specs.History.{holding_back, holds_back}
use Rattle.stop_history.specs.Roster.{IsRoster, is_leader, row_at}
use Rattle.stop_history.specs.State.{claimed_state, is_alive, is_born, is_waitable, number_in, state_after, state_in}
use Rattle.stop_history.specs.Word.{claimed_phase, phase_in}
use Rattle.stop_history.proofs.States.{state_within}
use Rattle.stop_table.specs.Entry.{AreLegal, Entry, history_of}
use Rattle.trace_script.specs.CaseFile.{CaseContent}
use Rattle.tracer_workers.proofs.AfterClaim.{not_by_claim}
use Rattle.tracer_workers.specs.CaseText.{death_of}
use Rattle.tracer_workers.specs.Config.{plan_of, show_of, text_of}
use Rattle.tracer_workers.specs.Driven.{AreDriven, AreReaped}
use Rattle.tracer_workers.specs.Plan.{Plan}
use Rattle.tracer_workers.specs.HistoryPieces.{pieces_of}
use Rattle.tracer_workers.specs.Printing.{printed_lines}
use Rattle.tracer_workers.specs.Scheduled.{AreFree, HasMade, HasNothingToReport, IsHeldOrIdle, IsRunOver, RunState}
use Rattle.tracer_workers.specs.Scheduled.{is_claimed}
use Rattle.tracer_workers.proofs.BornRows.{same_texts}
use Rattle.tracer_workers.proofs.RowPieces.{same_row}
use Rattle.tracer_workers.proofs.WholePieces.{AreDead, nothing_is_lost, text_of_pieces}
use Rattle.tracer_workers.proofs.Wholes.{whole_trace}

-- ---- who holds a leader back

found_by : (b : Bool) (test : ℕ → Bool) (first most x : ℕ) (o : Option ℕ) → test first ≡ b → first < most
    → cond b (Some first) o ≡ Some x
    → (o ≡ Some x → (test x ≡ true) × (x < most)) → (test x ≡ true) × (x < most)
found_by true test first most x o is low found later =
    let same : first ≡ x = cc in (subst (λ n. test n ≡ true) same is, subst (λ n. n < most) same low)
found_by false test first most x o is low found later = later found

found_at : (test : ℕ → Bool) (most first count x : ℕ) → first + count ≤ most
    → find test (range_with_len first count) ≡ Some x → (test x ≡ true) × (x < most)
found_at test most first zero x within is = cc
found_at test most first (suc count) x within is =
    found_by (test first) test first most x (find test (range_with_len (first + 1) count)) refl (omega (arith, within)) is
    (found_at test most (first + 1) count x (omega (arith, within)))

-- a leader that is held back, by an alive row of its group that is no leader
record IsHeldBy (rows : List Row) (states : ℕ → State) (row other : ℕ) : Type 0 where
  leader : is_leader (row_at rows row) ≡ true
  apart : (other == row) ≡ false
  group : (row_at rows other).tgid ≡ (row_at rows row).tgid
  alive : is_alive (states other) ≡ true
  there : other < length rows

not_true : (b : Bool) → not b ≡ true → b ≡ false
not_true true is = cc
not_true false is = refl

leads_by : (b : Bool) (o : Option ℕ) (x : ℕ) → cond b o None ≡ Some x → (b ≡ true) × (o ≡ Some x)
leads_by true o x is = (refl, is)
leads_by false o x is = cc

held_by : (rows : List Row) (states : ℕ → State) (row other : ℕ) → holding_back rows states row ≡ Some other
    → IsHeldBy rows states row other
held_by rows states row other is =
    let leads = leads_by (is_leader (row_at rows row)) _ other is in
    let found = found_at (holds_back rows states row) (length rows) 0 (length rows) other (omega arith) leads.1 in
    let first = and_parts _ _ found.0 in
    let second = and_parts _ _ first.1 in
    record {
      leader = leads.0;
      apart = not_true _ first.0;
      group = eqb-true _ _ second.0;
      alive = second.1;
      there = found.1;
    }

-- ---- the states of rows at the end

held_is_claimed : (held other number tracer : ℕ) (es : List Event)
    → claimed_state held other es ≡ state.Claimed number tracer → is_claimed (claimed_phase other es) ≡ true
held_is_claimed held other number tracer [] is = refl
held_is_claimed held other number tracer (event.Publish row n stop ∷ es) is = refl
held_is_claimed held other number tracer (event.Claim row n third ∷ es) is = refl
held_is_claimed held other number tracer (event.Resume row n how third ∷ es) is = refl
held_is_claimed held other number tracer (event.Exit row death ∷ es) is = cc

claimed_shows : (born : Bool) (number tracer : ℕ) (es : List Event) → state_in born es ≡ state.Claimed number tracer
    → is_claimed (phase_in es) ≡ true
claimed_shows true number tracer [] is = cc
claimed_shows false number tracer [] is = cc
claimed_shows born number tracer (event.Publish row n stop ∷ es) is = cc
claimed_shows born number tracer (event.Claim row n other ∷ es) is = held_is_claimed (number_in es) other number tracer es is
claimed_shows born number tracer (event.Resume row n how other ∷ es) is = cc
claimed_shows born number tracer (event.Exit row death ∷ es) is = cc

pub is_there : {P : Type 0} (born : Bool) (es : List Event) → state_in born es ≡ state.Absent → P
is_there true [] is = cc
is_there false [] is = cc
is_there born (event.Publish row n stop ∷ es) is = cc
is_there born (event.Claim row n other ∷ es) is = not_by_claim (number_in es) other es state.Absent is refl
is_there born (event.Resume row n how other ∷ es) is = cc
is_there born (event.Exit row death ∷ es) is = cc

unborn_not : {P : Type 0} (es : List Event) → state_in true es ≡ state.Unborn → P
unborn_not [] is = cc
unborn_not (event.Publish row n stop ∷ es) is = cc
unborn_not (event.Claim row n other ∷ es) is = not_by_claim (number_in es) other es state.Unborn is refl
unborn_not (event.Resume row n how other ∷ es) is = cc
unborn_not (event.Exit row death ∷ es) is = cc

leader_tid : (rows : List Row) (row : ℕ) → is_leader (row_at rows row) ≡ true
    → (row_at rows row).tid ≡ (row_at rows row).tgid
leader_tid rows row is = sym (eqb-true _ _ is)

module _ (content : CaseContent) (h : List Entry) (roster : IsRoster content.rows) (free : AreFree h)
    (quiet : HasNothingToReport content h) where
  state_of : ℕ → State
  state_of row = state_after content.rows (history_of h) row

  no_claim : {P : Type 0} (row number tracer : ℕ) → row < length content.rows
      → state_after content.rows (history_of h) row ≡ state.Claimed number tracer → P
  no_claim row number tracer within is =
      let shows = claimed_shows (is_born content.rows (history_of h) row) number tracer (events_of row (history_of h))
      (sym (state_within content.rows (history_of h) row within) ∙ is) in
      let clash : true ≡ false = sym shows ∙ free row in cc

  no_report : {P : Type 0} (row : ℕ) (at : State) → row < length content.rows
      → state_after content.rows (history_of h) row ≡ at → is_waitable at ≡ true → P
  no_report row at within is waits =
      let clash : true ≡ false = sym (ap is_waitable is ∙ waits) ∙ quiet row within in cc

  -- a thread that runs is not held back
  thread_runs : {P : Type 0} (row other : ℕ) → row < length content.rows
      → IsHeldBy content.rows (state_after content.rows (history_of h)) row other
      → state_after content.rows (history_of h) other ≡ state.Running
      → IsHeldOrIdle content h other → P
  thread_runs row other within held runs (inl idle) = absurd (idle runs)
  thread_runs row other within held runs (inr more) =
      let next = held_by content.rows (state_after content.rows (history_of h)) other more.0 more.1 in
      let tids : (row_at content.rows other).tid ≡ (row_at content.rows row).tid =
      leader_tid content.rows other next.leader ∙ held.group ∙ sym (leader_tid content.rows row held.leader) in
      let same = same_row content.rows roster other row held.there within tids in
      let clash : true ≡ false = sym (eq-eqb other row same) ∙ held.apart in cc

  no_holder : {P : Type 0} (row other : ℕ) → row < length content.rows
      → IsHeldBy content.rows (state_after content.rows (history_of h)) row other
      → ((r : ℕ) → r < length content.rows → IsHeldOrIdle content h r)
      → (at : State) → state_after content.rows (history_of h) other ≡ at → P
  no_holder row other within held each state.Running is = thread_runs row other within held is (each other held.there)
  no_holder row other within held each (state.Stopped number status) is =
      no_report other (state.Stopped number status) held.there is refl
  no_holder row other within held each (state.Claimed number tracer) is = no_claim other number tracer held.there is
  no_holder row other within held each state.Absent is = let clash : false ≡ true = sym (ap is_alive is) ∙ held.alive in cc
  no_holder row other within held each state.Unborn is = let clash : false ≡ true = sym (ap is_alive is) ∙ held.alive in cc
  no_holder row other within held each (state.Dead number status) is =
      let clash : false ≡ true = sym (ap is_alive is) ∙ held.alive in cc
  no_holder row other within held each state.Reaped is = let clash : false ≡ true = sym (ap is_alive is) ∙ held.alive in cc

  no_runner : {P : Type 0} (row : ℕ) → row < length content.rows
      → ((r : ℕ) → r < length content.rows → IsHeldOrIdle content h r)
      → state_after content.rows (history_of h) row ≡ state.Running → IsHeldOrIdle content h row → P
  no_runner row within each runs (inl idle) = absurd (idle runs)
  no_runner row within each runs (inr held) =
      no_holder row held.0 within (held_by content.rows (state_after content.rows (history_of h)) row held.0 held.1) each
      (state_after content.rows (history_of h) held.0) refl

  over_by : (row : ℕ) → row < length content.rows → ((r : ℕ) → r < length content.rows → IsHeldOrIdle content h r)
      → (at : State) → state_after content.rows (history_of h) row ≡ at
      → (at ≡ state.Unborn) ⊎ (at ≡ state.Reaped)
  over_by row within each state.Unborn is = inl refl
  over_by row within each state.Reaped is = inr refl
  over_by row within each state.Running is = no_runner row within each is (each row within)
  over_by row within each (state.Stopped number status) is = no_report row (state.Stopped number status) within is refl
  over_by row within each (state.Dead number status) is = no_report row (state.Dead number status) within is refl
  over_by row within each (state.Claimed number tracer) is = no_claim row number tracer within is
  over_by row within each state.Absent is =
      is_there (is_born content.rows (history_of h) row) (events_of row (history_of h))
      (sym (state_within content.rows (history_of h) row within) ∙ is)

  pub run_over : ((row : ℕ) → row < length content.rows → IsHeldOrIdle content h row) → IsRunOver content h
  run_over each row within = over_by row within each (state_after content.rows (history_of h) row) refl

-- ---- the text

pub over_is_reaped : (content : CaseContent) (h : List Entry) → IsRunOver content h → AreReaped content.rows h
over_is_reaped content h over row within born =
    elim (over row within) [
      | inl unborn ↦
          unborn_not (events_of row (history_of h))
          (ap (λ b. state_in b (events_of row (history_of h))) (sym born)
          ∙ sym (state_within content.rows (history_of h) row within) ∙ unborn)
      | inr reaped ↦ reaped
    ]

-- in a driven run, a row that has been reaped has died
pub reaped_is_dead : (plan : Plan) (h : List Entry) → AreLegal plan.rows h → AreDriven plan h → AreReaped plan.rows h
    → AreDead plan.rows h
reaped_is_dead plan h legal driven reaped row within born =
    let whole = whole_trace plan h legal driven row within (reaped row within born) in (death_of whole.ending, whole.died)

pub over_is_dead : (content : CaseContent) (run : RunState) (h : List Entry) → HasMade content run h
    → IsRunOver content h
    → AreDead content.rows h
over_is_dead content run h made over =
    reaped_is_dead (plan_of run.config content) h made.legal made.driven (over_is_reaped content h over)

-- nothing is lost, and the text of the pieces is that of the case
pub record IsWholeText (content : CaseContent) (run : RunState) (h : List Entry) : Type 0 where
  pub none_lost : lost content.rows (pieces_of (show_of run.config) content.rows h) ≡ None
  pub text : pieces_text content.rows (pieces_of (show_of run.config) content.rows h) ≡ text_of run.config content

pub whole_text : (content : CaseContent) (run : RunState) (h : List Entry) → IsRoster content.rows
    → HasMade content run h → IsRunOver content h → IsWholeText content run h
whole_text content run h roster made over =
    let dead = over_is_dead content run h made over in
    record {
      none_lost = nothing_is_lost (show_of run.config) content.rows roster h made.legal dead;
      text = text_of_pieces (show_of run.config) content.rows roster h made.legal dead
          ∙ same_texts (printed_lines (show_of run.config)) (plan_of run.config content) h roster made.legal made.driven
          (over_is_reaped content h over);
    }
