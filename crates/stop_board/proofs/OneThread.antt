-- One thread on a World: a tracee's call after a take-up, and a claim after a look, are answered as on the board.
use Rattle.std.proofs.Common.{refl, ◌≡◌, ◌≢◌, ◌+◌, ◌-◌, ◌<◌, ◌≤◌, ◌∷◌, ◌&&◌, ◌⊎◌, [], ℕ, Bool, true, false, Some}
use Rattle.std.proofs.Common.{None, Option, Ok, Err, Result, List, length, arith, ◌∙◌, sym, ap, subst, inl, inr, cond}
use Rattle.std.proofs.Common.{eqb, eq-eqb, lt-ltb, le-ltb}
use Rattle.std.proofs.lemmas.Bool.{cases_lt}
use Rattle.trace_record.specs.declared.stop.Stop.{Stop}
use Rattle.trace_record.specs.declared.death.Death.{Death}
use Rattle.trace_record.specs.declared.resume.Resume.{Resume as Restart}
use Rattle.trace_record.specs.declared.resume.Kind.TheVariants.{Cont}
use Rattle.stop_board.specs.declared.world.action.Action.{Action}
use Rattle.stop_board.specs.declared.world.action.Action.TheVariants as action
use Rattle.stop_board.specs.declared.world.action.Reply.{Reply}
use Rattle.stop_board.specs.declared.world.action.Reply.TheVariants as reply
use Rattle.stop_history.specs.declared.actor.Actor.{Actor}
use Rattle.stop_history.specs.declared.actor.Actor.TheVariants.{Tracee, Tracer}
use Rattle.stop_history.specs.declared.got.Got.{Got}
use Rattle.stop_history.specs.declared.got.Got.TheVariants as got
use Rattle.stop_history.specs.declared.phase.Phase.{Phase}
use Rattle.stop_history.specs.declared.phase.Phase.TheVariants as phase
use Rattle.stop_history.specs.declared.refused.Refused.{Refused}
use Rattle.stop_history.specs.declared.refused.Refused.TheVariants as refused
use Rattle.stop_history.specs.declared.roster.Row.{Row}
use Rattle.stop_history.specs.declared.state.State.{State}
use Rattle.stop_history.specs.declared.state.State.TheVariants as state
use Rattle.stop_board.specs.Action.{ClaimReplies, Exchanges, done, look_reply, numbered, row_seen}
use Rattle.stop_board.specs.Action.{taken_by, took, tracee_change, tracer_change, waits}
use Rattle.stop_history.specs.Actor.{numbered_actor}
use Rattle.stop_history.specs.Change.{history_with, restart_in, taken_with}
use Rattle.stop_history.specs.Event as event
use Rattle.stop_history.specs.Event.{Event, History, events_of}
use Rattle.stop_history.specs.Sequential.{and_then, claim_answer, claim_state, exit_answer, goes_on, publish_answer}
use Rattle.stop_history.specs.Sequential.{resume_answer, running_by}
use Rattle.stop_history.specs.declared.limits.TheConstants.{TRACERS}
use Rattle.stop_history.specs.State.{claimed_state, is_born, last_number, number_in, state_after, state_in}
use Rattle.stop_history.specs.Word.{Word, phase_in, raised, shown, word_after}
use Rattle.stop_board.specs.World.{ActorReplies, Moment, Replies, actor_change, change_of, moment_after_step, seen_by}
use Rattle.stop_board.specs.World.{seen_with, sight_at}
use Rattle.stop_history.proofs.Going.{publish_fits}
use Rattle.stop_history.proofs.States.{past_or_within, present, state_within}
use Rattle.stop_board.proofs.Worlds.{born_either, shows_after}
use Rattle.stop_board.specs.OneThread.{done_in, got_in, got_of, published_in}

-- ---- taking up

claim_does_not_run : (number tracer : ℕ) (es : List Event) → claimed_state number tracer es ≢ state.Running
claim_does_not_run number tracer [] runs = cc
claim_does_not_run number tracer (event.Publish row n stop ∷ es) runs = cc
claim_does_not_run number tracer (event.Claim row n other ∷ es) runs = cc
claim_does_not_run number tracer (event.Resume row n how other ∷ es) runs = cc
claim_does_not_run number tracer (event.Exit row death ∷ es) runs = cc

-- a running row has a restart to take up
restarts : (born : Bool) (es : List Event) → state_in born es ≡ state.Running → (how : Restart)
    × (restart_in (phase_in es) ≡ Ok how)
restarts born [] runs = (record { kind = Cont; signal = 0 }, refl)
restarts born (event.Publish row number stop ∷ es) runs = cc
restarts born (event.Claim row number tracer ∷ es) runs = absurd (claim_does_not_run (number_in es) tracer es runs)
restarts born (event.Resume row number how tracer ∷ es) runs = (how, refl)
restarts born (event.Exit row death ∷ es) runs = cc

up_later : (row : ℕ) (taken : ℕ → Bool) (was : Bool) → taken row ≡ was → (es : List Event) (how : Restart)
    → restart_in (phase_in es) ≡ Ok how
    → (r : Reply) → r ≡ took (restart_in (raised was (phase_in es)))
    → taken_with (tracee_change row action.TakeUp r) taken row ≡ true
up_later row taken true is es how has r told = rw told is
up_later row taken false is es how has r told = rw (told, has, eq-eqb row row refl) refl

same_history : (words : ℕ → Word) (who : Option Actor) (r : Reply) (h : History)
    → history_with (actor_change words who action.TakeUp r) h ≡ h
same_history words None r h = refl
same_history words (Some (Tracer tracer)) r h = refl
same_history words (Some (Tracee row)) (reply.Took how) h = refl
same_history words (Some (Tracee row)) (reply.Refused refusal) h = refl
same_history words (Some (Tracee row)) (reply.Word word) h = refl
same_history words (Some (Tracee row)) (reply.Number number) h = refl
same_history words (Some (Tracee row)) (reply.Got word) h = refl
same_history words (Some (Tracee row)) (reply.Missed word) h = refl
same_history words (Some (Tracee row)) reply.Done h = refl

-- after its take-up a running row is taken up, and nothing has happened
pub record TookUp (rows : List Row) (m later : Moment) (row : ℕ) : Type 0 where
  pub history : later.history ≡ m.history
  pub up : state_after rows m.history row ≡ state.Running → later.taken row ≡ true

pub took_up : (rows : List Row) (tracers : ℕ) (m : Moment) (row : ℕ) (r : Reply)
    → Replies rows tracers m row action.TakeUp r
    → TookUp rows m (moment_after_step rows tracers m row action.TakeUp r) row
took_up rows tracers m row r is = record {
  history = same_history (word_after m.taken m.history) (numbered_actor (length rows) tracers row) r m.history;
  up = λ runs. elim (past_or_within rows m.history row) [
    | inl within ↦
        let who : numbered_actor (length rows) tracers row ≡ Some (Tracee row) = rw (lt-ltb _ _ within) refl in
        let told = subst (λ w. ActorReplies rows (sight_at rows m) m.seen w action.TakeUp r) who is in
        let has = restarts (is_born rows m.history row) (events_of row m.history)
        (sym (state_within rows m.history row within) ∙ runs) in
        ap (λ w. taken_with (actor_change (word_after m.taken m.history) w action.TakeUp r) m.taken row) who
        ∙ up_later row m.taken (m.taken row) refl (events_of row m.history) has.0 has.1 r (rw runs at told)
    | inr gone ↦ let clash : state.Absent ≡ state.Running = sym gone ∙ runs in cc
  ];
}

-- ---- a tracee's call

-- an actor that is not a tracee has no row
no_tracee : (rows tracers row : ℕ) → rows ≤ row → (numbered_actor rows tracers row ≡ None)
    ⊎ ((tracer : ℕ) × (numbered_actor rows tracers row ≡ Some (Tracer tracer)))
no_tracee rows tracers row past =
    elim (cases_lt row (rows + tracers)) [
      | inl there ↦ inr (row - rows, rw (le-ltb _ _ past, lt-ltb _ _ there) refl)
      | inr none ↦ inl (rw (le-ltb _ _ past, le-ltb _ _ none) refl)
    ]

-- a row that is taken up where it runs answers as on the board
passes : {A : Type 0} (at : State) (taken : Bool) (next : Result A Refused) → (at ≡ state.Running → taken ≡ true)
    → and_then (taken_by at taken) next ≡ and_then (running_by at) next
passes state.Running true next up = refl
passes state.Running false next up = let clash = up refl in cc
passes at taken next up = refl

number_told : (row : ℕ) (stop : Stop) (h : History) (ans : Result ℕ Refused)
    → ((n : ℕ) → ans ≡ Ok n → n ≡ last_number h row + 1) → (r : Reply) → r ≡ numbered ans
    → (published_in r ≡ ans)
    × (history_with (tracee_change row (action.Publish stop) r) h
    ≡ goes_on ans (event.Publish row (last_number h row + 1) stop) h)
number_told row stop h (Ok n) next r told = rw told (refl, ap (λ k. event.Publish row k stop ∷ h) (next n refl))
number_told row stop h (Err refusal) next r told = rw told (refl, refl)

exit_told_by : (row : ℕ) (death : Death) (h : History) (ans : Result (Unit {0}) Refused) → (r : Reply) → r ≡ done ans
    → (done_in r ≡ ans) × (history_with (tracee_change row (action.Exit death) r) h
    ≡ goes_on ans (event.Exit row death) h)
exit_told_by row death h (Ok tt) r told = rw told (refl, refl)
exit_told_by row death h (Err refusal) r told = rw told (refl, refl)

-- what a call is answered on the board, and the history that it comes to there
abbrev pub Told : {A : Type 0} → (in_reply : Reply → Result A Refused) → List Row → (tracers : ℕ) → Moment
    → (actor : ℕ) → Action → Reply → Result A Refused → Event → Type 0
Told in_reply rows tracers m actor a r answer e =
    (in_reply r ≡ answer) × ((moment_after_step rows tracers m actor a r).history ≡ goes_on answer e m.history)

-- the same, of an actor that is known
abbrev ToldBy : {A : Type 0} → (in_reply : Reply → Result A Refused) → Moment → Option Actor → Action → Reply
    → Result A Refused → Event → Type 0
ToldBy in_reply m who a r answer e =
    (in_reply r ≡ answer) ×
    (history_with (actor_change (word_after m.taken m.history) who a r) m.history ≡ goes_on answer e m.history)

-- a refusal for want of the row
none_told : {A : Type 0} (in_reply : Reply → Result A Refused) (m : Moment) (who : Option Actor) (a : Action)
    (r : Reply) (answer : Result A Refused) (e : Event)
    → in_reply (reply.Refused refused.NoRow) ≡ Err refused.NoRow
    → history_with (actor_change (word_after m.taken m.history) who a (reply.Refused refused.NoRow)) m.history
    ≡ m.history
    → r ≡ reply.Refused refused.NoRow → answer ≡ Err refused.NoRow → ToldBy in_reply m who a r answer e
none_told in_reply m who a r answer e refused_so nothing told answered = rw (told, answered) (refused_so, nothing)

pub publish_told : (rows : List Row) (tracers : ℕ) (m : Moment) (row : ℕ) (stop : Stop)
    → (state_after rows m.history row ≡ state.Running → m.taken row ≡ true)
    → (r : Reply) → Replies rows tracers m row (action.Publish stop) r
    → Told published_in rows tracers m row (action.Publish stop) r (publish_answer rows m.history row stop)
    (event.Publish row (last_number m.history row + 1) stop)
publish_told rows tracers m row stop up r is =
    let a : Action = action.Publish stop in
    let answer = publish_answer rows m.history row stop in
    let e : Event = event.Publish row (last_number m.history row + 1) stop in
    let told : (w : Option Actor) → numbered_actor (length rows) tracers row ≡ w
    → ActorReplies rows (sight_at rows m) m.seen w a r =
    λ w who. subst (λ w. ActorReplies rows (sight_at rows m) m.seen w a r) who is in
    elim (cases_lt row (length rows)) [
      | inl within ↦
          let who : numbered_actor (length rows) tracers row ≡ Some (Tracee row) = rw (lt-ltb _ _ within) refl in
          subst (λ w. ToldBy published_in m w a r answer e) (sym who)
          (number_told row stop m.history answer (λ n done. (publish_fits rows m.history row stop n done).1) r
          (told _ who ∙ ap numbered (passes (state_after rows m.history row) (m.taken row) _ up)))
      | inr past ↦
          let refusal : answer ≡ Err refused.NoRow = rw (le-ltb _ _ past) refl in
          elim (no_tracee (length rows) tracers row past) [
            | inl who ↦ subst (λ w. ToldBy published_in m w a r answer e) (sym who)
                (none_told published_in m None a r answer e refl refl (told _ who) refusal)
            | inr other ↦ subst (λ w. ToldBy published_in m w a r answer e) (sym other.1)
                (none_told published_in m (Some (Tracer other.0)) a r answer e refl refl (told _ other.1) refusal)
          ]
    ]

pub exit_told : (rows : List Row) (tracers : ℕ) (m : Moment) (row : ℕ) (death : Death)
    → (state_after rows m.history row ≡ state.Running → m.taken row ≡ true)
    → (r : Reply) → Replies rows tracers m row (action.Exit death) r
    → Told done_in rows tracers m row (action.Exit death) r (exit_answer rows m.history row) (event.Exit row death)
exit_told rows tracers m row death up r is =
    let a : Action = action.Exit death in
    let answer = exit_answer rows m.history row in
    let e : Event = event.Exit row death in
    let told : (w : Option Actor) → numbered_actor (length rows) tracers row ≡ w
    → ActorReplies rows (sight_at rows m) m.seen w a r =
    λ w who. subst (λ w. ActorReplies rows (sight_at rows m) m.seen w a r) who is in
    elim (cases_lt row (length rows)) [
      | inl within ↦
          let who : numbered_actor (length rows) tracers row ≡ Some (Tracee row) = rw (lt-ltb _ _ within) refl in
          subst (λ w. ToldBy done_in m w a r answer e) (sym who)
          (exit_told_by row death m.history answer r
          (told _ who ∙ ap done (passes (state_after rows m.history row) (m.taken row) _ up)))
      | inr past ↦
          let refusal : answer ≡ Err refused.NoRow = rw (le-ltb _ _ past) refl in
          elim (no_tracee (length rows) tracers row past) [
            | inl who ↦ subst (λ w. ToldBy done_in m w a r answer e) (sym who)
                (none_told done_in m None a r answer e refl refl (told _ who) refusal)
            | inr other ↦ subst (λ w. ToldBy done_in m w a r answer e) (sym other.1)
                (none_told done_in m (Some (Tracer other.0)) a r answer e refl refl (told _ other.1) refusal)
          ]
    ]

-- ---- a tracer's call

-- the actor that a tracer is
is_tracer : (rows tracers tracer : ℕ) → tracer < tracers
    → numbered_actor rows tracers (rows + tracer) ≡ Some (Tracer tracer)
is_tracer rows tracers tracer few =
    let above : rows ≤ rows + tracer = omega arith in
    let within : rows + tracer < rows + tracers = omega arith in
    let same : rows + tracer - rows ≡ tracer = omega arith in
    rw (le-ltb _ _ above, lt-ltb _ _ within) (ap (λ t. Some (Tracer t)) same)

is_nobody : (rows tracers tracer : ℕ) → tracers ≤ tracer → numbered_actor rows tracers (rows + tracer) ≡ None
is_nobody rows tracers tracer many =
    let above : rows ≤ rows + tracer = omega arith in
    let past : rows + tracers ≤ rows + tracer = omega arith in
    rw (le-ltb _ _ above, le-ltb _ _ past) refl

done_told : (words : ℕ → Word) (tracer row : ℕ) (how : Restart) (h : History) (ans : Result (Unit {0}) Refused)
    → (r : Reply) → r ≡ done ans
    → (done_in r ≡ ans) × (history_with (tracer_change words tracer (action.Resume row how) r) h
    ≡ goes_on ans (event.Resume row (words row).number how tracer) h)
done_told words tracer row how h (Ok tt) r told = rw told (refl, refl)
done_told words tracer row how h (Err refusal) r told = rw told (refl, refl)

pub resume_told : (rows : List Row) (m : Moment) (row tracer : ℕ) (how : Restart) (r : Reply)
    → Replies rows TRACERS m (length rows + tracer) (action.Resume row how) r
    → Told done_in rows TRACERS m (length rows + tracer) (action.Resume row how) r
    (resume_answer rows m.history row tracer) (event.Resume row (last_number m.history row) how tracer)
resume_told rows m row tracer how r is =
    let a : Action = action.Resume row how in
    let answer = resume_answer rows m.history row tracer in
    let e : Event = event.Resume row (last_number m.history row) how tracer in
    let told : (w : Option Actor) → numbered_actor (length rows) TRACERS (length rows + tracer) ≡ w
    → ActorReplies rows (sight_at rows m) m.seen w a r =
    λ w who. subst (λ w. ActorReplies rows (sight_at rows m) m.seen w a r) who is in
    elim (cases_lt tracer TRACERS) [
      | inl few ↦
          let who = is_tracer (length rows) TRACERS tracer few in
          subst (λ w. ToldBy done_in m w a r answer e) (sym who)
          (done_told (word_after m.taken m.history) tracer row how m.history answer r (told _ who))
      | inr many ↦
          let who = is_nobody (length rows) TRACERS tracer many in
          let refusal : answer ≡ Err refused.NoRow = rw (le-ltb _ _ many) refl in
          subst (λ w. ToldBy done_in m w a r answer e) (sym who)
          (none_told done_in m None a r answer e refl refl (told _ who) refusal)
    ]

-- ---- a claim after a look

-- after its look a tracer has seen the row's word, and nothing has happened
pub record Looked (rows : List Row) (m later : Moment) (tracer row : ℕ) : Type 0 where
  pub history : later.history ≡ m.history
  pub taken : later.taken ≡ m.taken
  pub saw : tracer < TRACERS → row < length rows → later.seen tracer row ≡ word_after m.taken m.history row

nothing_looked : (words : ℕ → Word) (who : Option Actor) (row : ℕ) (r : Reply) (m : Moment)
    → (history_with (actor_change words who (action.Look row) r) m.history ≡ m.history)
    × (taken_with (actor_change words who (action.Look row) r) m.taken ≡ m.taken)
nothing_looked words None row r m = (refl, refl)
nothing_looked words (Some (Tracee own)) row r m = (refl, refl)
nothing_looked words (Some (Tracer tracer)) row r m = (refl, refl)

saw_own : (words : ℕ → Word) (tracer row : ℕ) (word : Word) (r : Reply) (seen : ℕ → ℕ → Word) → r ≡ reply.Word word
    → seen_with words tracer (row_seen (action.Look row) r) seen tracer row ≡ words row
saw_own words tracer row word r seen told =
    ap (λ x. seen_with words tracer (row_seen (action.Look row) x) seen tracer row) told
    ∙ ap (λ b. cond b (words row) (seen tracer row))
    (let same : (eqb tracer tracer && eqb row row)
    ≡ true = rw (eq-eqb tracer tracer refl, eq-eqb row row refl) refl in same)

pub looked : (rows : List Row) (m : Moment) (row tracer : ℕ) (r : Reply)
    → Replies rows TRACERS m (length rows + tracer) (action.Look row) r
    → Looked rows m (moment_after_step rows TRACERS m (length rows + tracer) (action.Look row) r) tracer row
looked rows m row tracer r is =
    let a : Action = action.Look row in
    let change = change_of rows TRACERS m (length rows + tracer) a r in
    let nothing = nothing_looked (word_after m.taken m.history)
    (numbered_actor (length rows) TRACERS (length rows + tracer)) row r m in
    let words : ℕ → Word = word_after (taken_with change m.taken) (history_with change m.history) in
    record {
      history = nothing.0;
      taken = nothing.1;
      saw = λ few within.
          let who = is_tracer (length rows) TRACERS tracer few in
          let told : r ≡ look_reply rows (sight_at rows m) row = subst
          (λ w. ActorReplies rows (sight_at rows m) m.seen w a r) who is in
          let shown : r ≡ reply.Word (word_after m.taken m.history row) = told ∙ rw (lt-ltb _ _ within) refl in
          ap (λ w. seen_by words w a r m.seen tracer row) who
          ∙ saw_own words tracer row (word_after m.taken m.history row) r m.seen shown
          ∙ (λ i. word_after (nothing.1 i) (nothing.0 i) row);
    }

-- a claim of a word that waits gets something
got_shown : (number : ℕ) (at : Phase) → waits at ≡ true → (got : Got) × (got_of number at ≡ Ok got)
got_shown number (phase.Stopped status) waiting = (got.Stop number status, refl)
got_shown number (phase.Dead status) waiting = (got.Ended number status, refl)
got_shown number at waiting = cc

none_shown : (born : Bool) (number : ℕ) (at : Phase) → waits at ≡ false → shown born number at ≢ state.Unborn
    → claim_state (shown born number at) ≡ Err refused.NotWaitable
none_shown born number (phase.Stopped status) rests there = cc
none_shown born number (phase.Dead status) rests there = cc
none_shown false number phase.Fresh rests there = absurd (there refl)
none_shown true number phase.Fresh rests there = refl
none_shown born number at rests there = refl

-- what a claim of a word that has not changed is answered
record Claimable (at : State) (now : Word) : Type 0 where
  got : waits now.phase ≡ true → (g : Got) × (got_of now.number now.phase ≡ Ok g) × (claim_state at ≡ Ok g)
  none : waits now.phase ≡ false → claim_state at ≡ Err refused.NotWaitable

claim_by_exchange : (words : ℕ → Word) (tracer row : ℕ) (h : History) (at : State) (last now : Word) → last ≡ now
    → Claimable at now
    → (r : Reply) → Exchanges last now r
    → (got_in r ≡ claim_state at)
    × (history_with (tracer_change words tracer (action.Claim row) r) h
    ≡ goes_on (claim_state at) (event.Claim row now.number tracer) h)
claim_by_exchange words tracer row h at last now same may (reply.Got word) is =
    let g = may.got (ap (λ (w : Word). waits w.phase) (sym same) ∙ is.0) in (
      ap (λ (w : Word). got_of w.number w.phase) is.2 ∙ g.1 ∙ sym g.2,
      ap (λ (w : Word). event.Claim row w.number tracer ∷ h) is.2
          ∙ sym (ap (λ a. goes_on a (event.Claim row now.number tracer) h) g.2),
    )
claim_by_exchange words tracer row h at last now same may (reply.Missed word) is = absurd (is.1 same)
claim_by_exchange words tracer row h at last now same may (reply.Refused refusal) is =
    let none = may.none (ap (λ (w : Word). waits w.phase) (sym same) ∙ is.0) in
    (ap (λ e. Err e) is.1 ∙ sym none, sym (ap (λ a. goes_on a (event.Claim row now.number tracer) h) none))
claim_by_exchange words tracer row h at last now same may r is = absurd is

claim_by_state : (words : ℕ → Word) (tracer row : ℕ) (h : History) (at : State) (last now : Word)
    → (at ≢ state.Absent → last ≡ now) → (at ≢ state.Absent → at ≢ state.Unborn → Claimable at now)
    → (r : Reply) → ClaimReplies at last now r
    → (got_in r ≡ claim_state at)
    × (history_with (tracer_change words tracer (action.Claim row) r) h
    ≡ goes_on (claim_state at) (event.Claim row now.number tracer) h)
claim_by_state words tracer row h state.Absent last now same may r is = rw is (refl, refl)
claim_by_state words tracer row h state.Unborn last now same may r is = rw is (refl, refl)
claim_by_state words tracer row h at last now same may r is =
    claim_by_exchange words tracer row h at last now (same (λ e. cc)) (may (λ e. cc) (λ e. cc)) r is

claimable : (rows : List Row) (m : Moment)
    → ((row : ℕ) → m.taken row ≡ true → state_after rows m.history row ≡ state.Running)
    → (row : ℕ) → row < length rows → state_after rows m.history row ≢ state.Unborn
    → Claimable (state_after rows m.history row) (word_after m.taken m.history row)
claimable rows m up row within there =
    let born = is_born rows m.history row in
    let word = word_after m.taken m.history row in
    let shows = shows_after rows m.taken m.history up row within in
    subst (λ at. Claimable at word) shows (record {
      got = λ waiting. let g = got_shown word.number word.phase waiting in
          (g.0, g.1, ap claim_state (born_either born word.number word.phase waiting) ∙ g.1);
      none = λ rests. none_shown born word.number word.phase rests (λ unborn. there (sym shows ∙ unborn));
    })

pub claim_told : (rows : List Row) (m : Moment)
    → ((row : ℕ) → m.taken row ≡ true → state_after rows m.history row ≡ state.Running)
    → (row tracer : ℕ) → (tracer < TRACERS → row < length rows → m.seen tracer row ≡ word_after m.taken m.history row)
    → (r : Reply) → Replies rows TRACERS m (length rows + tracer) (action.Claim row) r
    → Told got_in rows TRACERS m (length rows + tracer) (action.Claim row) r (claim_answer rows m.history row tracer)
    (event.Claim row (last_number m.history row) tracer)
claim_told rows m up row tracer saw r is =
    let a : Action = action.Claim row in
    let answer = claim_answer rows m.history row tracer in
    let e : Event = event.Claim row (last_number m.history row) tracer in
    let told : (w : Option Actor) → numbered_actor (length rows) TRACERS (length rows + tracer) ≡ w
    → ActorReplies rows (sight_at rows m) m.seen w a r =
    λ w who. subst (λ w. ActorReplies rows (sight_at rows m) m.seen w a r) who is in
    elim (cases_lt tracer TRACERS) [
      | inl few ↦
          let who = is_tracer (length rows) TRACERS tracer few in
          let at = state_after rows m.history row in
          let answered : claim_state at
          ≡ answer = (let range : answer ≡ claim_state at = rw (lt-ltb _ _ few) refl in sym range) in
          let here = claim_by_state (word_after m.taken m.history) tracer row m.history at (m.seen tracer row)
          (word_after m.taken m.history row)
          (λ there. saw few (present rows m.history row there))
          (λ there born. claimable rows m up row (present rows m.history row there) born)
          r (told _ who) in
          subst (λ w. ToldBy got_in m w a r answer e) (sym who)
          (subst (λ x. ToldBy got_in m (Some (Tracer tracer)) a r x e) answered here)
      | inr many ↦
          let who = is_nobody (length rows) TRACERS tracer many in
          let refusal : answer ≡ Err refused.NoRow = rw (le-ltb _ _ many) refl in
          subst (λ w. ToldBy got_in m w a r answer e) (sym who)
          (none_told got_in m None a r answer e refl refl (told _ who) refusal)
    ]

-- ---- two steps, one after the other

pub publish_done : (rows : List Row) (tracers : ℕ) (m : Moment) (row : ℕ) (stop : Stop) (first r : Reply)
    → Replies rows tracers m row action.TakeUp first
    → Replies rows tracers (moment_after_step rows tracers m row action.TakeUp first) row (action.Publish stop) r
    → (published_in r ≡ publish_answer rows m.history row stop)
    × ((moment_after_step rows tracers (moment_after_step rows tracers m row action.TakeUp first) row
    (action.Publish stop) r).history
    ≡ goes_on (publish_answer rows m.history row stop)
    (event.Publish row (last_number m.history row + 1) stop) m.history)
publish_done rows tracers m row stop first r took is =
    let up = took_up rows tracers m row first took in
    let later = moment_after_step rows tracers m row action.TakeUp first in
    let told = publish_told rows tracers later row stop
    (λ runs. up.up (ap (λ h. state_after rows h row) (sym up.history) ∙ runs)) r is in (
      told.0 ∙ ap (λ h. publish_answer rows h row stop) up.history,
      told.1 ∙ ap (λ h. goes_on (publish_answer rows h row stop) (event.Publish row (last_number h row + 1) stop) h)
          up.history,
    )

pub exit_done : (rows : List Row) (tracers : ℕ) (m : Moment) (row : ℕ) (death : Death) (first r : Reply)
    → Replies rows tracers m row action.TakeUp first
    → Replies rows tracers (moment_after_step rows tracers m row action.TakeUp first) row (action.Exit death) r
    → (done_in r ≡ exit_answer rows m.history row)
    × ((moment_after_step rows tracers (moment_after_step rows tracers m row action.TakeUp first) row
    (action.Exit death) r).history
    ≡ goes_on (exit_answer rows m.history row) (event.Exit row death) m.history)
exit_done rows tracers m row death first r took is =
    let up = took_up rows tracers m row first took in
    let later = moment_after_step rows tracers m row action.TakeUp first in
    let told = exit_told rows tracers later row death
    (λ runs. up.up (ap (λ h. state_after rows h row) (sym up.history) ∙ runs)) r is in (
      told.0 ∙ ap (λ h. exit_answer rows h row) up.history,
      told.1 ∙ ap (λ h. goes_on (exit_answer rows h row) (event.Exit row death) h) up.history,
    )

pub claim_done : (rows : List Row) (m : Moment)
    → ((row : ℕ) → m.taken row ≡ true → state_after rows m.history row ≡ state.Running)
    → (row tracer : ℕ) (first r : Reply) → Replies rows TRACERS m (length rows + tracer) (action.Look row) first
    → Replies rows TRACERS (moment_after_step rows TRACERS m (length rows + tracer) (action.Look row) first)
    (length rows + tracer) (action.Claim row) r
    → (got_in r ≡ claim_answer rows m.history row tracer)
    × ((moment_after_step rows TRACERS
    (moment_after_step rows TRACERS m (length rows + tracer) (action.Look row) first) (length rows + tracer)
    (action.Claim row) r).history
    ≡ goes_on (claim_answer rows m.history row tracer) (event.Claim row (last_number m.history row) tracer) m.history)
claim_done rows m up row tracer first r look is =
    let see = looked rows m row tracer first look in
    let later = moment_after_step rows TRACERS m (length rows + tracer) (action.Look row) first in
    let now : word_after m.taken m.history row
    ≡ word_after later.taken later.history row = λ i. word_after (sym see.taken i) (sym see.history i) row in
    let told = claim_told rows later
    (λ at is_up. ap (λ h. state_after rows h at) see.history
    ∙ up at (ap (λ (taken : ℕ → Bool). taken at) (sym see.taken) ∙ is_up))
    row tracer (λ few within. see.saw few within ∙ now) r is in (
      told.0 ∙ ap (λ h. claim_answer rows h row tracer) see.history,
      told.1 ∙ ap (λ h. goes_on (claim_answer rows h row tracer) (event.Claim row (last_number h row) tracer) h)
          see.history,
    )
