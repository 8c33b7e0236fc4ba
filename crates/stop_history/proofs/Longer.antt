-- What a history leaves as it is when it goes on: rows that only a silent actor could move, births, who is born, rows
-- that wait and are not claimed. These are statements of plain lists of events, so that a rule over another store of
-- words can cite them.
use Rattle.std.proofs.Common.{refl, ◌≡◌, ◌<◌, ◌≤◌, ◌∷◌, ◌++◌, ◌⊎◌, [], ℕ, Bool, true, false, Some, None, Option, List}
use Rattle.std.proofs.Common.{length, is_some, arith, ◌∙◌, sym, ap, inl, inr, cond, eqb}
use Rattle.std.proofs.lemmas.Bool.{cases_Bool, cases_eq}
use Rattle.trace_record.specs.Stop.{child_of}
use Rattle.stop_history.specs.declared.actor.Actor.{Actor}
use Rattle.stop_history.specs.declared.actor.Actor.TheVariants.{Tracee, Tracer}
use Rattle.stop_history.specs.declared.phase.Phase.{Phase}
use Rattle.stop_history.specs.declared.phase.Phase.TheVariants as phase
use Rattle.stop_history.specs.declared.roster.Row.{Row}
use Rattle.stop_history.specs.declared.state.State.TheVariants as state
use Rattle.stop_history.specs.Actor.{IsQuiet, actor_of, is_moved_by, mover_of}
use Rattle.stop_history.specs.Event as event
use Rattle.stop_history.specs.Event.{Event, History, events_of, subject}
use Rattle.stop_history.specs.History.{Fits, IsLegal, WasClaimed, births_after, births_in}
use Rattle.stop_history.specs.Roster.{parent_of, row_at}
use Rattle.stop_history.specs.State.{is_birth, is_born, was_created, is_waitable, number_in, state_after, state_in}
use Rattle.stop_history.specs.Word.{claimed_phase, phase_in, shown, word_after, word_in}
use Rattle.stop_history.proofs.Events.{other_events, own_events}
use Rattle.stop_history.proofs.Settled.{no_event}
use Rattle.stop_history.proofs.Standing.{shows_state}
use Rattle.stop_history.proofs.States.{by_own_events, fits_within, state_within}

-- ---- a row that only one actor can move

runs_moved : (row number : ℕ) (born : Bool) (at : Phase) → shown born number at ≡ state.Running
    → mover_of row at ≡ Some (Tracee row)
runs_moved row number born phase.Fresh is = refl
runs_moved row number born (phase.Resumed how) is = refl
runs_moved row number born phase.Active is = refl
runs_moved row number born (phase.Stopped status) is = cc
runs_moved row number born (phase.Claimed tracer) is = cc
runs_moved row number born (phase.Dead status) is = cc
runs_moved row number born phase.Reaped is = cc

waits_unmoved : (row number : ℕ) (born : Bool) (at : Phase) → is_waitable (shown born number at) ≡ true
    → mover_of row at ≡ None
waits_unmoved row number true phase.Fresh is = cc
waits_unmoved row number false phase.Fresh is = cc
waits_unmoved row number born (phase.Resumed how) is = cc
waits_unmoved row number born phase.Active is = cc
waits_unmoved row number born (phase.Stopped status) is = refl
waits_unmoved row number born (phase.Claimed tracer) is = cc
waits_unmoved row number born (phase.Dead status) is = refl
waits_unmoved row number born phase.Reaped is = cc

claimed_moved : (row number n tracer : ℕ) (born : Bool) (at : Phase) → shown born number at ≡ state.Claimed n tracer
    → mover_of row at ≡ Some (Tracer tracer)
claimed_moved row number n tracer true phase.Fresh is = cc
claimed_moved row number n tracer false phase.Fresh is = cc
claimed_moved row number n tracer born (phase.Resumed how) is = cc
claimed_moved row number n tracer born phase.Active is = cc
claimed_moved row number n tracer born (phase.Stopped status) is = cc
claimed_moved row number n tracer born (phase.Claimed holder) is =
    (let same : holder ≡ tracer = cc in ap (λ t. Some (Tracer t)) same)
claimed_moved row number n tracer born (phase.Dead status) is = cc
claimed_moved row number n tracer born phase.Reaped is = cc

-- the phase that a row's events leave shows its state
shown_after : (rows : List Row) (h : History) (row : ℕ) → row < length rows
    → state_after rows h row ≡ shown (is_born rows h row) (number_in (events_of row h)) (phase_in (events_of row h))
shown_after rows h row within =
    state_within rows h row within ∙ sym (shows_state (is_born rows h row) (events_of row h))

moved_by : (rows : List Row) (h : History) (e : Event) → Fits rows h e → (actor : Actor)
    → mover_of (subject e) (phase_in (events_of (subject e) h)) ≡ Some actor
    → state_after rows h (subject e)
    ≡ shown (is_born rows h (subject e)) (number_in (events_of (subject e) h)) (phase_in (events_of (subject e) h))
    → actor_of e ≡ actor
moved_by rows h (event.Publish row number stop) fits actor moved shows =
    let own = runs_moved row (number_in (events_of row h)) (is_born rows h row) (phase_in (events_of row h))
    (sym shows ∙ fits.0) in cc
moved_by rows h (event.Claim row number tracer) fits actor moved shows =
    let none = waits_unmoved row (number_in (events_of row h)) (is_born rows h row) (phase_in (events_of row h))
    (ap is_waitable (sym shows) ∙ fits.0) in cc
moved_by rows h (event.Resume row number how tracer) fits actor moved shows =
    let own = claimed_moved row (number_in (events_of row h)) number tracer (is_born rows h row)
    (phase_in (events_of row h)) (sym shows ∙ fits) in cc
moved_by rows h (event.Exit row death) fits actor moved shows =
    let own = runs_moved row (number_in (events_of row h)) (is_born rows h row) (phase_in (events_of row h))
    (sym shows ∙ fits.0) in cc

-- where a row has an only mover, its next event is that actor's
pub mover : (rows : List Row) (h : History) (e : Event) → Fits rows h e → (actor : Actor)
    → mover_of (subject e) (phase_in (events_of (subject e) h)) ≡ Some actor → actor_of e ≡ actor
mover rows h e fits actor moved =
    moved_by rows h e fits actor moved (shown_after rows h (subject e) (fits_within rows h e fits))

is_mover : (actors : Actor → Bool) (o : Option Actor) → is_moved_by actors o ≡ true → (actor : Actor)
    × (o ≡ Some actor) × (actors actor ≡ true)
is_mover actors None is = cc
is_mover actors (Some actor) is = (actor, refl, is)

-- a row that only silent actors could move has no event
pub untouched : (rows : List Row) (actors : Actor → Bool) (more front : History) → IsLegal rows (more ++ front)
    → IsQuiet actors more
    → (row : ℕ) → is_moved_by actors (mover_of row (phase_in (events_of row front))) ≡ true
    → events_of row (more ++ front) ≡ events_of row front
untouched rows actors [] front legal quiet row moved = refl
untouched rows actors (e ∷ more) front legal quiet row moved =
    let before = untouched rows actors more front legal.1 quiet.1 row moved in
    elim (cases_eq (subject e) row) [
      | inl same ↦
          let still : is_moved_by actors (mover_of (subject e) (phase_in (events_of (subject e) (more ++ front))))
          ≡ true =
          ap (λ r. is_moved_by actors (mover_of r (phase_in (events_of r (more ++ front))))) same
          ∙ ap (λ es. is_moved_by actors (mover_of row (phase_in es))) before ∙ moved in
          let who = is_mover actors (mover_of (subject e) (phase_in (events_of (subject e) (more ++ front)))) still in
          let own = mover rows (more ++ front) e legal.0 who.0 who.1 in
          let clash : true ≡ false = sym who.2 ∙ ap actors (sym own) ∙ quiet.0 in cc
      | inr other ↦ other_events row e (more ++ front) other ∙ before
    ]

-- and so its word is as it was, as long as it is taken up or not as it was
pub stays : (rows : List Row) (actors : Actor → Bool) (more front : History) → IsLegal rows (more ++ front)
    → IsQuiet actors more
    → (row : ℕ) → is_moved_by actors (mover_of row (phase_in (events_of row front))) ≡ true
    → (taken next : ℕ → Bool) → next row ≡ taken row → word_after next (more ++ front) row ≡ word_after taken front row
stays rows actors more front legal quiet row moved taken next same =
    ap (λ b. word_in b (events_of row (more ++ front))) same
    ∙ ap (word_in (taken row)) (untouched rows actors more front legal quiet row moved)

-- ---- a claim that a silent tracer holds was there before

claimed_phase_is : (tracer k : ℕ) (es : List Event) → claimed_phase tracer es ≡ phase.Claimed k → tracer ≡ k
claimed_phase_is tracer k [] is = cc
claimed_phase_is tracer k (event.Publish row n stop ∷ es) is = cc
claimed_phase_is tracer k (event.Claim row n other ∷ es) is = cc
claimed_phase_is tracer k (event.Resume row n how other ∷ es) is = cc
claimed_phase_is tracer k (event.Exit row death ∷ es) is = cc

claimer : (e : Event) (k : ℕ) (es : List Event) → phase_in (e ∷ es) ≡ phase.Claimed k → actor_of e ≡ Tracer k
claimer (event.Publish row n stop) k es is = cc
claimer (event.Claim row n tracer) k es is = ap Tracer (claimed_phase_is tracer k es is)
claimer (event.Resume row n how other) k es is = cc
claimer (event.Exit row death) k es is = cc

pub claimed_before : (actors : Actor → Bool) (more front : History) → IsQuiet actors more → (tracer : ℕ)
    → actors (Tracer tracer) ≡ true
    → (row : ℕ) → phase_in (events_of row (more ++ front)) ≡ phase.Claimed tracer
    → events_of row (more ++ front) ≡ events_of row front
claimed_before actors [] front quiet tracer mine row is = refl
claimed_before actors (e ∷ more) front quiet tracer mine row is =
    elim (cases_eq (subject e) row) [
      | inl same ↦
          let who = claimer e tracer (events_of row (more ++ front))
          (ap phase_in (sym (own_events row e (more ++ front) same)) ∙ is) in
          let clash : true ≡ false = sym mine ∙ ap actors (sym who) ∙ quiet.0 in cc
      | inr other ↦
          let here = other_events row e (more ++ front) other in
          here ∙ claimed_before actors more front quiet.1 tracer mine row (ap phase_in (sym here) ∙ is)
    ]

-- ---- births grow, and who is born stays so

one_more_birth : (b : Bool) (e : Event) (es : List Event) → births_in es ≤ births_in (cond b (e ∷ es) es)
one_more_birth false e es = omega arith
one_more_birth true (event.Publish row number stop) es =
    elim (cases_Bool (is_some (child_of stop)))
    [ inl child ↦ rw child (omega arith) | inr none ↦ rw none (omega arith) ]
one_more_birth true (event.Claim row number tracer) es = omega arith
one_more_birth true (event.Resume row number how tracer) es = omega arith
one_more_birth true (event.Exit row death) es = omega arith

pub births_grow : (more front : History) (row : ℕ) → births_after front row ≤ births_after (more ++ front) row
births_grow [] front row = omega arith
births_grow (e ∷ more) front row =
    let before = births_grow more front row in
    let one = one_more_birth (eqb (subject e) row) e (events_of row (more ++ front)) in
    omega arith

borne_stays : (parent : Option ℕ) (tid : ℕ) (more front : History) → was_created parent tid front ≡ true
    → was_created parent tid (more ++ front) ≡ true
borne_stays None tid more front is = refl
borne_stays (Some parent) tid [] front is = is
borne_stays (Some parent) tid (e ∷ more) front is =
    let before = borne_stays (Some parent) tid more front is in
    elim (cases_Bool (is_birth parent tid e)) [ inl birth ↦ rw birth refl | inr other ↦ rw other before ]

pub born_stays : (rows : List Row) (more front : History) (row : ℕ) → is_born rows front row ≡ true
    → is_born rows (more ++ front) row ≡ true
born_stays rows more front row is = borne_stays (parent_of rows row) (row_at rows row).tid more front is

-- a row that is not born has no event
pub unborn_is_silent : (rows : List Row) (h : History) → IsLegal rows h → (row : ℕ) → is_born rows h row ≡ false
    → events_of row h ≡ []
unborn_is_silent rows [] legal row unborn = refl
unborn_is_silent rows (e ∷ h) legal row unborn =
    let before : is_born rows h row ≡ false =
    elim (cases_Bool (is_born rows h row)) [
      | inl born ↦ (let clash : true ≡ false = sym (born_stays rows (e ∷ []) h row born) ∙ unborn in cc)
      | inr still ↦
          still
    ] in
    let none = unborn_is_silent rows h legal.1 row before in
    elim (cases_eq (subject e) row) [
      | inl same ↦
          let within = fits_within rows h e legal.0 in
          let now : state_after rows h (subject e) ≡ state.Unborn =
          state_within rows h (subject e) within ∙ ap (λ r. state_in (is_born rows h r) (events_of r h)) same
          ∙ ap (λ b. state_in b (events_of row h)) before ∙ ap (state_in false) none in
          absurd (no_event rows h e legal.0 now)
      | inr other ↦ other_events row e h other ∙ none
    ]

-- ---- a row that waits is as it was, or was claimed

only_claimed : (rows : List Row) (h : History) (e : Event) → Fits rows h e
    → is_waitable (state_after rows h (subject e)) ≡ true → (number tracer : ℕ)
    × (e ≡ event.Claim (subject e) number tracer)
only_claimed rows h (event.Publish row number stop) fits waits =
    let clash : is_waitable state.Running ≡ true = ap is_waitable (sym fits.0) ∙ waits in cc
only_claimed rows h (event.Claim row number tracer) fits waits = (number, tracer, refl)
only_claimed rows h (event.Resume row number how tracer) fits waits =
    let clash : is_waitable (state.Claimed number tracer) ≡ true = ap is_waitable (sym fits) ∙ waits in cc
only_claimed rows h (event.Exit row death) fits waits =
    let clash : is_waitable state.Running ≡ true = ap is_waitable (sym fits.0) ∙ waits in cc

pub taken_or_same : (rows : List Row) (more front : History) → IsLegal rows (more ++ front) → (row : ℕ)
    → is_waitable (state_after rows front row) ≡ true
    → (events_of row (more ++ front) ≡ events_of row front) ⊎ WasClaimed row more front
taken_or_same rows [] front legal row waits = inl refl
taken_or_same rows (e ∷ more) front legal row waits =
    elim (taken_or_same rows more front legal.1 row waits) [
      | inl same ↦
          elim (cases_eq (subject e) row) [
            | inl here ↦
                let within : row < length rows =
                (let there = fits_within rows (more ++ front) e legal.0 in omega (arith, here)) in
                let still : is_waitable (state_after rows (more ++ front) (subject e)) ≡ true =
                ap (λ r. is_waitable (state_after rows (more ++ front) r)) here
                ∙ ap is_waitable (state_within rows (more ++ front) row within)
                ∙ ap (λ es. is_waitable (state_in (is_born rows (more ++ front) row) es)) same
                ∙ by_own_events is_waitable refl (is_born rows (more ++ front) row) (is_born rows front row) (events_of row front)
                ∙ (ap is_waitable (sym (state_within rows front row within)) ∙ waits) in
                let claim = only_claimed rows (more ++ front) e legal.0 still in
                inr (record {
                  later = [];
                  sooner = more;
                  number = claim.0;
                  tracer = claim.1;
                  is = ap (λ c. c ∷ more) (claim.2 ∙ ap (λ r. event.Claim r claim.0 claim.1) here);
                  unchanged = same;
                })
            | inr other ↦ inl (other_events row e (more ++ front) other ∙ same)
          ]
      | inr was ↦ inr (record {
        later = e ∷ was.later;
        sooner = was.sooner;
        number = was.number;
        tracer = was.tracer;
        is = ap (λ h. e ∷ h) was.is;
        unchanged = was.unchanged;
      })
    ]
