-- The interleaving model: at the moment at which a World stands, its words show the states of the history, and each
-- reply goes with a change that the history allows.
use Rattle.std.proofs.Common.{cond, slice_set, refl, ◌≡◌, ◌≢◌, ◌+◌, ◌-◌, ◌*◌, ◌≤◌, ◌∷◌, [], ℕ, Bool, true, false}
use Rattle.std.proofs.Common.{Some, None, Option, Ok, Err, Result, List, length, arith, ◌∙◌, sym, ap, subst, inl, inr}
use Rattle.std.proofs.Common.{lt-ltb, le-ltb, eqb, eqb-true, eq-eqb, get_or-set_same, get_or-set_other, ◌&&◌, ◌<◌}
use Rattle.std.specs.Option.{ForSome}
use Rattle.std.proofs.lemmas.Bool.{cases_Bool, and_parts, cases_lt}
use Rattle.std.proofs.lemmas.List.{get_or_past}
use Rattle.std.proofs.lemmas.Nat.{row_fits, same_from_place}
use Rattle.trace_record.specs.declared.stop.Stop.{Stop}
use Rattle.trace_record.specs.declared.resume.Resume.{Resume as Restart}
use Rattle.trace_record.specs.declared.death.Death.{Death}
use Rattle.stop_board.specs.declared.world.action.Action.{Action}
use Rattle.stop_board.specs.declared.world.action.Action.TheVariants as action
use Rattle.stop_board.specs.declared.world.action.Reply.{Reply}
use Rattle.stop_board.specs.declared.world.action.Reply.TheVariants as reply
use Rattle.stop_history.specs.declared.actor.Actor.{Actor}
use Rattle.stop_history.specs.declared.actor.Actor.TheVariants.{Tracee, Tracer}
use Rattle.stop_history.specs.declared.phase.Phase.{Phase}
use Rattle.stop_history.specs.declared.phase.Phase.TheVariants as phase
use Rattle.stop_history.specs.declared.refused.Refused.{Refused}
use Rattle.stop_history.specs.declared.roster.Row.{Row}
use Rattle.stop_history.specs.declared.state.State.{State}
use Rattle.stop_history.specs.declared.state.State.TheVariants as state
use Rattle.stop_board.specs.Action.{ClaimReplies, Exchanges, TraceeReplies, TracerReplies, done, numbered}
use Rattle.stop_board.specs.Action.{taken_by, took, tracee_change, tracer_change, waits, row_seen}
use Rattle.stop_history.specs.Actor.{numbered_actor}
use Rattle.stop_history.specs.Change.{Change, IsAllowed, history_with, restart_in, taken_with, words_with}
use Rattle.stop_history.specs.Event as event
use Rattle.stop_history.specs.Event.{Event, History, events_of, subject}
use Rattle.stop_history.specs.History.{Fits, IsLegal, births_after, creates_next, holding_back}
use Rattle.stop_history.specs.Roster.{IsRoster}
use Rattle.stop_history.specs.Sequential.{and_then, claim_answer, claim_state, next_number, resume_answer, running_by}
use Rattle.stop_history.specs.Sequential.{unless_held}
use Rattle.stop_history.specs.declared.limits.TheConstants.{TRACERS}
use Rattle.stop_history.specs.Standing.{AreAt}
use Rattle.stop_history.specs.State.{is_born, is_waitable, last_number, state_after}
use Rattle.stop_history.specs.Word.{Word, claimed_phase, opening, phase_in, raised, shown, state_by, word_after}
use Rattle.stop_history.specs.Word.{word_at, word_in}
use Rattle.stop_board.specs.World.{ActorReplies, IsActorWithPlaces, Moment, Replies, actor_change, is_active, last_seen}
use Rattle.stop_board.specs.World.{seen_by, sight_at, sight_by, words_seen, words_seen_by, seen_with, seen_place}
use Rattle.stop_history.proofs.AtomicSteps.{change_stands, not_running}
use Rattle.stop_history.proofs.Events.{other_events}
use Rattle.stop_history.proofs.Going.{exit_fits, publish_fits, resume_fits}
use Rattle.stop_history.proofs.Standing.{held_state, held_word, shows_taken}
use Rattle.stop_history.proofs.States.{fits_within, past_or_within, present, state_within}

-- ---- what the words show

-- a row that is not there has no event
no_events : (rows : List Row) (h : History) → IsLegal rows h → (row : ℕ) → length rows ≤ row → events_of row h ≡ []
no_events rows [] legal row past = refl
no_events rows (e ∷ h) legal row past =
    let within = fits_within rows h e legal.0 in
    other_events row e h (λ same. absurd (omega arith)) ∙ no_events rows h legal.1 row past

absent : (rows : List Row) (h : History) (row : ℕ) → length rows ≤ row → state_after rows h row ≢ state.Running
absent rows h row past runs =
    let within = present rows h row (λ gone. let clash : state.Absent ≡ state.Running = sym gone ∙ runs in cc) in
    omega arith

-- the word of each row, also of one that is not there
each_word : (rows : List Row) (words : List Word) (taken : ℕ → Bool) (h : History) → AreAt rows words taken h
    → length words ≡ length rows
    → (row : ℕ) → word_at words row ≡ word_after taken h row
each_word rows words taken h at each row =
    elim (cases_lt row (length rows)) [
      | inl within ↦ held_word rows words taken h at each row within
      | inr past ↦
          let low : taken row ≡ false = not_running rows h taken at.up row (absent rows h row past) in
          let none : events_of row h ≡ [] = no_events rows h at.legal row past in
          let here : word_at words row ≡ opening = get_or_past words row opening (omega arith) in
          here ∙ ap (word_in false) (sym none) ∙ ap (λ b. word_in b (events_of row h)) (sym low)
    ]

-- only a row that is taken up is active
claim_is_not_active : (tracer : ℕ) (es : List Event) → is_active (claimed_phase tracer es) ≡ false
claim_is_not_active tracer [] = refl
claim_is_not_active tracer (event.Publish row number stop ∷ es) = refl
claim_is_not_active tracer (event.Claim row number other ∷ es) = refl
claim_is_not_active tracer (event.Resume row number how other ∷ es) = refl
claim_is_not_active tracer (event.Exit row death ∷ es) = refl

never_active : (es : List Event) → is_active (phase_in es) ≡ false
never_active [] = refl
never_active (event.Publish row number stop ∷ es) = refl
never_active (event.Claim row number tracer ∷ es) = claim_is_not_active tracer es
never_active (event.Resume row number how tracer ∷ es) = refl
never_active (event.Exit row death ∷ es) = refl

active_if_taken : (taken : Bool) (es : List Event) → is_active (raised taken (phase_in es)) ≡ taken
active_if_taken true es = refl
active_if_taken false es = never_active es

-- the words show what the moment has
pub same_sight : (rows : List Row) (words : List Word) (m : Moment) → AreAt rows words m.taken m.history
    → length words ≡ length rows → IsRoster rows
    → sight_by rows words ≡ sight_at rows m
same_sight rows words m at each roster =
    let states : state_by rows words
    ≡ state_after rows m.history = λ i row. held_state rows words m.taken m.history at each roster row i in
    let of_rows : word_at words
    ≡ word_after m.taken m.history = λ i row. each_word rows words m.taken m.history at each row i in
    let ups : (λ row. is_active (word_at words row).phase)
    ≡ m.taken = λ i row. (ap (λ (w : Word). is_active w.phase) (each_word rows words m.taken m.history at each row)
    ∙ active_if_taken (m.taken row) (events_of row m.history)) i in
    λ i. record { states = states i; words = of_rows i; taken = ups i }

-- ---- each reply goes with a change that the history allows

took_allowed : (rows : List Row) (h : History) (row : ℕ) (at : State) (next answer : Result Restart Refused)
    → state_after rows h row ≡ at
    → and_then (running_by at) next ≡ answer → IsAllowed rows h (tracee_change row action.TakeUp (took answer))
took_allowed rows h row at next (Err refusal) is answered = tt
took_allowed rows h row state.Running next (Ok how) is answered = is
took_allowed rows h row state.Absent next (Ok how) is answered = cc
took_allowed rows h row state.Unborn next (Ok how) is answered = cc
took_allowed rows h row (state.Stopped n status) next (Ok how) is answered = cc
took_allowed rows h row (state.Claimed n tracer) next (Ok how) is answered = cc
took_allowed rows h row (state.Dead n status) next (Ok how) is answered = cc
took_allowed rows h row state.Reaped next (Ok how) is answered = cc

-- a row that is taken up runs
pub taken_runs : {A : Type 0} (at : State) (taken : Bool) (next : Result A Refused) (answer : A)
    → and_then (taken_by at taken) next ≡ Ok answer → and_then (running_by at) next ≡ Ok answer
taken_runs state.Running true next answer is = is
taken_runs at taken next answer is = cc

number_allowed : (rows : List Row) (h : History) (row : ℕ) (stop : Stop) (taken : Bool) (answer : Result ℕ Refused)
    → and_then (taken_by (state_after rows h row) taken)
    (next_number (creates_next rows row (births_after h row) stop) (last_number h row)) ≡ answer
    → IsAllowed rows h (tracee_change row (action.Publish stop) (numbered answer))
number_allowed rows h row stop taken (Err refusal) answered = tt
number_allowed rows h row stop taken (Ok number) answered =
    let fits = publish_fits rows h row stop number (taken_runs (state_after rows h row) taken _ number answered) in
    subst (λ n. Fits rows h (event.Publish row n stop)) (sym fits.1) fits.0

exit_allowed : (rows : List Row) (h : History) (row : ℕ) (death : Death) (taken : Bool)
    (answer : Result (Unit {0}) Refused)
    → and_then (taken_by (state_after rows h row) taken) (unless_held (holding_back rows (state_after rows h) row))
    ≡ answer
    → IsAllowed rows h (tracee_change row (action.Exit death) (done answer))
exit_allowed rows h row death taken (Err refusal) answered = tt
exit_allowed rows h row death taken (Ok tt) answered =
    exit_fits rows h row death (taken_runs (state_after rows h row) taken _ tt answered)

tracee_allowed : (rows : List Row) (m : Moment) (row : ℕ) (a : Action) (r : Reply)
    → TraceeReplies rows (sight_at rows m) row a r → IsAllowed rows m.history (tracee_change row a r)
tracee_allowed rows m row (action.Look other) r is = tt
tracee_allowed rows m row action.TakeUp r is =
    rw is (took_allowed rows m.history row (state_after rows m.history row)
    (restart_in (word_after m.taken m.history row).phase) _ refl refl)
tracee_allowed rows m row (action.Publish stop) r is =
    rw is (number_allowed rows m.history row stop (m.taken row) _ refl)
tracee_allowed rows m row (action.Exit death) r is = rw is (exit_allowed rows m.history row death (m.taken row) _ refl)
tracee_allowed rows m row (action.Claim other) r is = tt
tracee_allowed rows m row (action.Resume other how) r is = tt

-- a word that waits shows the same whether its row is born or not, and a state that waits
pub born_either : (born : Bool) (number : ℕ) (at : Phase) → waits at ≡ true
    → shown born number at ≡ shown true number at
born_either born number (phase.Stopped status) waiting = refl
born_either born number (phase.Dead status) waiting = refl
born_either born number at waiting = cc

waits_shown : (born : Bool) (number : ℕ) (at : Phase) → waits at ≡ true → is_waitable (shown born number at) ≡ true
waits_shown born number (phase.Stopped status) waiting = refl
waits_shown born number (phase.Dead status) waiting = refl
waits_shown born number at waiting = cc

-- the word of a row shows its state
pub shows_after : (rows : List Row) (taken : ℕ → Bool) (h : History)
    → ((row : ℕ) → taken row ≡ true → state_after rows h row ≡ state.Running)
    → (row : ℕ) → row < length rows
    → shown (is_born rows h row) (word_after taken h row).number (word_after taken h row).phase ≡ state_after rows h row
shows_after rows taken h up row within =
    let now = state_within rows h row within in
    shows_taken (taken row) (is_born rows h row) (events_of row h) (λ is_up. sym now ∙ up row is_up) ∙ sym now

-- a claim that got a word found the one last seen, which waits, in a row that is there
record HasGot (at : State) (now word : Word) : Type 0 where
  there : at ≢ state.Absent
  waiting : waits now.phase ≡ true
  same : word ≡ now

exchanged : (at : State) (last now word : Word) → at ≢ state.Absent → Exchanges last now (reply.Got word)
    → HasGot at now word
exchanged at last now word there is =
    record { there = there; waiting = ap (λ (w : Word). waits w.phase) (sym is.1) ∙ is.0; same = is.2 }

has_got : (at : State) (last now word : Word) → ClaimReplies at last now (reply.Got word) → HasGot at now word
has_got state.Absent last now word is = cc
has_got state.Unborn last now word is = cc
has_got at last now word is = exchanged at last now word (λ gone. cc) is

claim_allowed : (rows : List Row) (taken : ℕ → Bool) (h : History)
    → ((row : ℕ) → taken row ≡ true → state_after rows h row ≡ state.Running)
    → (row tracer : ℕ) (last word : Word)
    → ClaimReplies (state_after rows h row) last (word_after taken h row) (reply.Got word)
    → Fits rows h (event.Claim row word.number tracer)
claim_allowed rows taken h up row tracer last word is =
    let got = has_got (state_after rows h row) last (word_after taken h row) word is in
    let shows = shows_after rows taken h up row (present rows h row got.there) in (
      ap is_waitable (sym shows)
          ∙ waits_shown (is_born rows h row) (word_after taken h row).number (word_after taken h row).phase got.waiting,
      ap (λ (w : Word). w.number) got.same,
    )

-- what a claim got is what one thread alone would be answered
pub got_is_sequential : (rows : List Row) (tracers : ℕ) (m : Moment)
    → ((row : ℕ) → m.taken row ≡ true → state_after rows m.history row ≡ state.Running)
    → (actor tracer row : ℕ) (word : Word) → tracer < TRACERS
    → numbered_actor (length rows) tracers actor ≡ Some (Tracer tracer)
    → Replies rows tracers m actor (action.Claim row) (reply.Got word)
    → claim_answer rows m.history row tracer ≡ claim_state (shown true word.number word.phase)
got_is_sequential rows tracers m up actor tracer row word few who is =
    let reply = subst (λ w. ActorReplies rows (sight_at rows m) m.seen w (action.Claim row) (reply.Got word)) who is in
    let got = has_got (state_after rows m.history row) (m.seen tracer row)
    (word_after m.taken m.history row) word reply in
    let shows = shows_after rows m.taken m.history up row (present rows m.history row got.there) in
    let born = is_born rows m.history row in
    let word_now = word_after m.taken m.history row in
    let answered : claim_answer rows m.history row tracer
    ≡ claim_state (state_after rows m.history row) = rw (lt-ltb _ _ few) refl in
    answered ∙ ap claim_state (sym shows ∙ born_either born word_now.number word_now.phase got.waiting)
    ∙ ap (λ (w : Word). claim_state (shown true w.number w.phase)) (sym got.same)

resume_allowed : (rows : List Row) (taken : ℕ → Bool) (h : History) (row tracer : ℕ) (how : Restart)
    (answer : Result (Unit {0}) Refused)
    → resume_answer rows h row tracer ≡ answer
    → IsAllowed rows h (tracer_change (word_after taken h) tracer (action.Resume row how) (done answer))
resume_allowed rows taken h row tracer how (Err refusal) answered = tt
resume_allowed rows taken h row tracer how (Ok tt) answered = resume_fits rows h row tracer how answered

-- of the replies to a claim, only a word that it got goes with a change
claimed_allowed : (rows : List Row) (m : Moment)
    → ((row : ℕ) → m.taken row ≡ true → state_after rows m.history row ≡ state.Running)
    → (last : Word) (tracer row : ℕ) (r : Reply)
    → ClaimReplies (state_after rows m.history row) last (word_after m.taken m.history row) r
    → IsAllowed rows m.history (tracer_change (word_after m.taken m.history) tracer (action.Claim row) r)
claimed_allowed rows m up last tracer row (reply.Got word) is =
    claim_allowed rows m.taken m.history up row tracer last word is
claimed_allowed rows m up last tracer row (reply.Missed word) is = tt
claimed_allowed rows m up last tracer row (reply.Refused refusal) is = tt
claimed_allowed rows m up last tracer row (reply.Word word) is = tt
claimed_allowed rows m up last tracer row (reply.Took how) is = tt
claimed_allowed rows m up last tracer row (reply.Number number) is = tt
claimed_allowed rows m up last tracer row reply.Done is = tt

tracer_allowed : (rows : List Row) (m : Moment)
    → ((row : ℕ) → m.taken row ≡ true → state_after rows m.history row ≡ state.Running)
    → (last : ℕ → Word) (tracer : ℕ) (a : Action) (r : Reply) → TracerReplies rows (sight_at rows m) last tracer a r
    → IsAllowed rows m.history (tracer_change (word_after m.taken m.history) tracer a r)
tracer_allowed rows m up last tracer (action.Claim row) r is = claimed_allowed rows m up (last row) tracer row r is
tracer_allowed rows m up last tracer (action.Resume row how) r is =
    rw is (resume_allowed rows m.taken m.history row tracer how _ refl)
tracer_allowed rows m up last tracer (action.Look row) r is = tt
tracer_allowed rows m up last tracer action.TakeUp r is = tt
tracer_allowed rows m up last tracer (action.Publish stop) r is = tt
tracer_allowed rows m up last tracer (action.Exit death) r is = tt

actor_allowed : (rows : List Row) (m : Moment)
    → ((row : ℕ) → m.taken row ≡ true → state_after rows m.history row ≡ state.Running)
    → (who : Option Actor) (a : Action) (r : Reply) → ActorReplies rows (sight_at rows m) m.seen who a r
    → IsAllowed rows m.history (actor_change (word_after m.taken m.history) who a r)
actor_allowed rows m up None a r is = tt
actor_allowed rows m up (Some (Tracee row)) a r is = tracee_allowed rows m row a r is
actor_allowed rows m up (Some (Tracer tracer)) a r is = tracer_allowed rows m up (m.seen tracer) tracer a r is

-- ---- one step of a World that stands at a moment

-- an actor of the World has a place for what it last saw
pub has_place : (rows tracers number places : ℕ) → tracers ≤ TRACERS → places ≡ tracers * rows
    → IsActorWithPlaces rows places (numbered_actor rows tracers number)
has_place rows tracers number places few each =
    elim (cases_lt number rows) [
      | inl within ↦ rw (lt-ltb _ _ within) within
      | inr past ↦ rw (le-ltb _ _ past) (elim (cases_lt number (rows + tracers)) [
        | inl tracer ↦ rw (lt-ltb _ _ tracer) (
          omega arith,
          (let room = row_fits (number - rows) rows tracers rows (omega arith) (omega arith) in
              omega arith),
        )
        | inr none ↦ rw (le-ltb _ _ none) tt
      ])
    ]

-- only the words last seen in rows that are there matter
same_last : (rows : List Row) (m : Moment) (last before : ℕ → Word)
    → ((row : ℕ) → row < length rows → last row ≡ before row)
    → (tracer : ℕ) (a : Action) (r : Reply) → TracerReplies rows (sight_at rows m) last tracer a r
    → TracerReplies rows (sight_at rows m) before tracer a r
same_last rows m last before same tracer (action.Claim row) r is =
    let now = word_after m.taken m.history row in
    elim (past_or_within rows m.history row) [
      | inl within ↦ subst (λ w. ClaimReplies (state_after rows m.history row) w now r) (same row within) is
      | inr gone ↦ subst (λ at. ClaimReplies at (before row) now r) (sym gone)
          (subst (λ at. ClaimReplies at (last row) now r) gone is)
    ]
same_last rows m last before same tracer (action.Resume row how) r is = is
same_last rows m last before same tracer (action.Look row) r is = is
same_last rows m last before same tracer action.TakeUp r is = is
same_last rows m last before same tracer (action.Publish stop) r is = is
same_last rows m last before same tracer (action.Exit death) r is = is

-- who is a tracer is one of the World's
abbrev pub AmongTracers : ℕ → Option Actor → Type 0
AmongTracers tracers who = (tracer : ℕ) → who ≡ Some (Tracer tracer) → tracer < tracers

pub among_tracers : (rows tracers number : ℕ) → AmongTracers tracers (numbered_actor rows tracers number)
among_tracers rows tracers number tracer =
    elim (cases_lt number rows) [
      | inl within ↦ rw (lt-ltb _ _ within) (λ is. cc)
      | inr past ↦ rw (le-ltb _ _ past) (elim (cases_lt number (rows + tracers)) [
        | inl there ↦ rw (lt-ltb _ _ there) (λ is. let same : number - rows ≡ tracer = cc in omega arith)
        | inr none ↦ rw (le-ltb _ _ none) (λ is. cc)
      ])
    ]

pub replies_at : (rows : List Row) (words seen : List Word) (tracers : ℕ) (m : Moment)
    → AreAt rows words m.taken m.history → length words ≡ length rows → IsRoster rows
    → ((tracer row : ℕ) → tracer < tracers → row < length rows → last_seen rows seen tracer row ≡ m.seen tracer row)
    → (who : Option Actor) → AmongTracers tracers who → (a : Action) (r : Reply)
    → ActorReplies rows (sight_by rows words) (last_seen rows seen) who a r
    → ActorReplies rows (sight_at rows m) m.seen who a r
replies_at rows words seen tracers m at each roster saw None among a r is = is
replies_at rows words seen tracers m at each roster saw (Some (Tracee row)) among a r is =
    subst (λ sight. TraceeReplies rows sight row a r) (same_sight rows words m at each roster) is
replies_at rows words seen tracers m at each roster saw (Some (Tracer tracer)) among a r is =
    same_last rows m (last_seen rows seen tracer) (m.seen tracer) (λ row. saw tracer row (among tracer refl)) tracer a r
    (subst (λ sight. TracerReplies rows sight (last_seen rows seen tracer) tracer a r)
    (same_sight rows words m at each roster) is)

pub stands_after_step : (rows : List Row) (words new : List Word) (m : Moment) → AreAt rows words m.taken m.history
    → length words ≡ length rows
    → (who : Option Actor) (a : Action) (r : Reply) → ActorReplies rows (sight_at rows m) m.seen who a r
    → new ≡ words_with (actor_change (word_at words) who a r) words
    → AreAt rows new (taken_with (actor_change (word_after m.taken m.history) who a r) m.taken)
    (history_with (actor_change (word_after m.taken m.history) who a r) m.history)
stands_after_step rows words new m at each who a r is changed =
    let of_rows : word_at words
    ≡ word_after m.taken m.history = λ i row. each_word rows words m.taken m.history at each row i in
    let change : Change = actor_change (word_after m.taken m.history) who a r in
    let known : new ≡ words_with change words = changed
    ∙ ap (λ (ws : ℕ → Word). words_with (actor_change ws who a r) words) of_rows in
    subst (λ ws. AreAt rows ws (taken_with change m.taken) (history_with change m.history)) (sym known)
    (change_stands rows words m.taken m.history at each change (actor_allowed rows m at.up who a r is))

-- the words last seen after a step, as they are kept and as the moment has them
record IsNoted (rows : List Row) (tracers : ℕ) (seen : List Word) (before : ℕ → ℕ → Word) : Type 0 where
  each : length seen ≡ tracers * length rows
  saw : (tracer row : ℕ) → tracer < tracers → row < length rows → last_seen rows seen tracer row ≡ before tracer row

place_within : (rows tracers tracer row : ℕ) → tracer < tracers → row < rows → tracer * rows + row < tracers * rows
place_within rows tracers tracer row few within =
    let room = row_fits tracer rows tracers rows few (omega arith) in omega arith

noted : (rows : List Row) (tracers : ℕ) (seen left : List Word) (before : ℕ → ℕ → Word)
    → IsNoted rows tracers seen before → (words : ℕ → Word)
    → (tracer : ℕ) → tracer < tracers → (o : Option ℕ) → ForSome o (λ at. at < length rows)
    → left ≡ words_seen rows words tracer o seen
    → (t row : ℕ) → t < tracers → row < length rows → last_seen rows left t row ≡ seen_with words tracer o before t row
noted rows tracers seen left before is words tracer few None there set t row t_few within =
    ap (λ ws. last_seen rows ws t row) set ∙ is.saw t row t_few within
noted rows tracers seen left before is words tracer few (Some at) there set t row t_few within =
    let place : ℕ = seen_place rows tracer at in
    let inside : place < length seen =
    (let room = place_within (length rows) tracers tracer at few (there at refl) in omega (arith, is.each)) in
    ap (λ ws. last_seen rows ws t row) set
    ∙ elim (cases_Bool (eqb t tracer && eqb row at)) [
      | inl here ↦
          let both = and_parts (eqb t tracer) (eqb row at) here in
          let same_t : t ≡ tracer = eqb-true t tracer both.0 in
          let same_row : row ≡ at = eqb-true row at both.1 in
          let same : seen_place rows t row ≡ place = ap (λ k. seen_place rows k row) same_t
          ∙ ap (seen_place rows tracer) same_row in
          ap (word_at (slice_set seen place (words at))) same ∙ get_or-set_same seen place (words at) opening inside
          ∙ sym (ap (λ b. cond b (words at) (before t row)) here)
      | inr other ↦
          let apart : seen_place rows t row ≢ place = λ same.
          (let one = same_from_place t row tracer at (length rows) within (there at refl) same in
          let clash : (eqb t tracer && eqb row at) ≡ true = rw (eq-eqb t tracer one.0, eq-eqb row at one.1) in cc) in
          get_or-set_other seen place (seen_place rows t row) (words at) opening apart ∙ is.saw t row t_few within
          ∙ sym (ap (λ b. cond b (words at) (before t row)) other)
    ]

pub seen_after_step : (rows : List Row) (tracers : ℕ) (new seen left : List Word) (taken : ℕ → Bool) (h : History)
    → AreAt rows new taken h → length new ≡ length rows
    → (before : ℕ → ℕ → Word) → length seen ≡ tracers * length rows
    → ((tracer row : ℕ) → tracer < tracers → row < length rows → last_seen rows seen tracer row ≡ before tracer row)
    → (who : Option Actor) → AmongTracers tracers who → (a : Action) (r : Reply)
    → ForSome (row_seen a r) (λ at. at < length rows)
    → left ≡ words_seen_by rows (word_at new) who a r seen
    → (t row : ℕ) → t < tracers → row < length rows
    → last_seen rows left t row ≡ seen_by (word_after taken h) who a r before t row
seen_after_step rows tracers new seen left taken h at each before long saw None among a r there is t row few within =
    ap (λ ws. last_seen rows ws t row) is ∙ saw t row few within
seen_after_step rows tracers new seen left taken h at each before long saw
    (Some (Tracee own)) among a r there is t row few within = ap (λ ws. last_seen rows ws t row) is
    ∙ saw t row few within
seen_after_step rows tracers new seen left taken h at each before long saw
    (Some (Tracer tracer)) among a r there is t row few within =
    let of_rows : word_at new ≡ word_after taken h = λ i at_row. each_word rows new taken h at each at_row i in
    noted rows tracers seen left before (record { each = long; saw = saw }) (word_after taken h) tracer
    (among tracer refl) (row_seen a r) there
    (is ∙ ap (λ (ws : ℕ → Word). words_seen rows ws tracer (row_seen a r) seen) of_rows) t row few within
