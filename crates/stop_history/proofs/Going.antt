-- The calls of a board: what they answer, by the words and by the history, and how the history goes on by them.
use Rattle.std.proofs.Common.{refl, ◌≡◌, subst, ◌+◌, ◌<◌, ◌∷◌, [], ℕ, Bool, true, false, Some, None, Option, Ok, Err}
use Rattle.std.proofs.Common.{Result, List, length, arith, ◌∙◌, sym, ap, inl, inr, cond, nat_lt, ltb-true, lt-ltb}
use Rattle.std.proofs.Common.{not, if◌then◌else◌, slice_set}
use Rattle.std.proofs.Math.Bool.{and-false}
use Rattle.std.proofs.lemmas.Bool.Decides.{eqb_tells}
use Rattle.trace_record.specs.declared.stop.Stop.{Stop}
use Rattle.trace_record.specs.declared.resume.Resume.{Resume as Restart}
use Rattle.trace_record.specs.declared.death.Death.{Death}
use Rattle.stop_history.specs.declared.roster.Row.{Row}
use Rattle.stop_history.specs.declared.refused.Refused.{Refused}
use Rattle.stop_history.specs.declared.refused.Refused.TheVariants as refused
use Rattle.stop_history.specs.declared.got.Got.{Got}
use Rattle.stop_history.specs.declared.state.State.{State}
use Rattle.stop_history.specs.declared.state.State.TheVariants as state
use Rattle.stop_history.specs.Word.{Word}
use Rattle.stop_history.specs.Event as event
use Rattle.stop_history.specs.Event.{Event, History, events_of, subject}
use Rattle.stop_history.specs.Roster.{IsRoster}
use Rattle.stop_history.specs.State.{claimed_state, is_born, is_waitable, state_after, state_in, last_number, number_in}
use Rattle.stop_history.specs.History.{Fits, births_after, creates_next, holding_back}
use Rattle.stop_history.specs.declared.limits.TheConstants.{LAST_NUMBER, TRACERS}
use Rattle.stop_history.specs.Sequential.{and_then, claim_answer, claim_by, claim_state, exit_answer, exit_by}
use Rattle.stop_history.specs.Sequential.{goes_on, publish_answer, publish_by, resume_answer, resume_by, resume_state}
use Rattle.stop_history.specs.Sequential.{running_by, unless_held}
use Rattle.stop_history.specs.Step.{claimed, died, published, restarted, with_word}
use Rattle.stop_history.specs.Word.{state_by, word_at}
use Rattle.stop_history.specs.Standing.{AreAt, none_taken}
use Rattle.stop_history.specs.Change.{Happened, ends_run, taken_with, word_after_event}
use Rattle.stop_history.proofs.Standing.{held_state, held_word}
use Rattle.stop_history.proofs.AtomicSteps.{change_stands}
use Rattle.stop_history.proofs.States.{past_or_within, present}

-- ---- the calls of a board: what they answer, by the words and by the history

pub publish_held : (rows : List Row) (words : List Word) (taken : ℕ → Bool) (h : History) → AreAt rows words taken h
    → length words ≡ length rows → IsRoster rows
    → (row : ℕ) (stop : Stop)
    → publish_by (state_by rows words row) (creates_next rows row (word_at words row).births stop)
    (word_at words row).number ≡ publish_answer rows h row stop
publish_held rows words taken h at each roster row stop =
    ap (λ s. publish_by s (creates_next rows row (word_at words row).births stop) (word_at words row).number)
    (held_state rows words taken h at each roster row)
    ∙ elim (past_or_within rows h row) [
      | inl within ↦ ap (λ (w : Word). publish_by (state_after rows h row)
          (creates_next rows row w.births stop) w.number) (held_word rows words taken h at each row within)
      | inr past ↦ rw past
    ]

pub claim_held : (rows : List Row) (words : List Word) (taken : ℕ → Bool) (h : History) → AreAt rows words taken h
    → length words ≡ length rows → IsRoster rows
    → (row tracer : ℕ) → claim_by tracer (state_by rows words row) ≡ claim_answer rows h row tracer
claim_held rows words taken h at each roster row tracer =
    ap (claim_by tracer) (held_state rows words taken h at each roster row)

pub resume_held : (rows : List Row) (words : List Word) (taken : ℕ → Bool) (h : History) → AreAt rows words taken h
    → length words ≡ length rows → IsRoster rows
    → (row tracer : ℕ) → resume_by tracer (state_by rows words row) ≡ resume_answer rows h row tracer
resume_held rows words taken h at each roster row tracer =
    ap (resume_by tracer) (held_state rows words taken h at each roster row)

pub exit_held : (rows : List Row) (words : List Word) (taken : ℕ → Bool) (h : History) → AreAt rows words taken h
    → length words ≡ length rows → IsRoster rows
    → (row : ℕ) → exit_by (holding_back rows (state_by rows words) row) (state_by rows words row)
    ≡ exit_answer rows h row
exit_held rows words taken h at each roster row =
    let same : state_by rows words ≡ state_after rows h = λ i r. held_state rows words taken h at each roster r i in
    ap (λ (states : ℕ → State). exit_by (holding_back rows states row) (states row)) same

-- ---- a call that is answered has an event that fits

running_Ok : {A : Type 0} (at : State) (next : Result A Refused) (answer : A)
    → and_then (running_by at) next ≡ Ok answer → (at ≡ state.Running) × (next ≡ Ok answer)
running_Ok state.Running next answer h = (refl, h)
running_Ok state.Absent next answer h = cc
running_Ok state.Unborn next answer h = cc
running_Ok (state.Stopped n status) next answer h = cc
running_Ok (state.Claimed n tracer) next answer h = cc
running_Ok (state.Dead n status) next answer h = cc
running_Ok state.Reaped next answer h = cc

next_Ok : (next room : Bool) (number answer : ℕ)
    → (if not next then Err refused.NotNext else if room then Ok (number + 1) else Err refused.Full) ≡ Ok answer
    → (next ≡ true) × (room ≡ true) × (answer ≡ number + 1)
next_Ok true true number answer h = (refl, refl, cc)
next_Ok true false number answer h = cc
next_Ok false room number answer h = cc

pub publish_fits : (rows : List Row) (h : History) (row : ℕ) (stop : Stop) (number : ℕ)
    → publish_answer rows h row stop ≡ Ok number
    → Fits rows h (event.Publish row (last_number h row + 1) stop) × (number ≡ last_number h row + 1)
publish_fits rows h row stop number answered =
    let ran = running_Ok (state_after rows h row) _ number answered in
    let told = next_Ok (creates_next rows row (births_after h row) stop) (nat_lt (last_number h row) LAST_NUMBER)
    (last_number h row) number ran.1 in
    ((ran.0, refl, (let room = ltb-true (last_number h row) LAST_NUMBER told.1 in omega arith), told.0), told.2)

in_range : (there : Bool) (at : State) (got : Got) → (if there then claim_state at else Err refused.NoRow) ≡ Ok got
    → is_waitable at ≡ true
in_range false at got h = cc
in_range true state.Absent got h = cc
in_range true state.Unborn got h = cc
in_range true state.Running got h = cc
in_range true (state.Stopped n status) got h = refl
in_range true (state.Claimed n tracer) got h = cc
in_range true (state.Dead n status) got h = refl
in_range true state.Reaped got h = cc

pub claim_fits : (rows : List Row) (h : History) (row tracer : ℕ) (got : Got)
    → claim_answer rows h row tracer ≡ Ok got → Fits rows h (event.Claim row (last_number h row) tracer)
claim_fits rows h row tracer got answered =
    (in_range (nat_lt tracer TRACERS) (state_after rows h row) got answered, refl)

by_claim : (es : List Event) (last other number tracer : ℕ)
    → claimed_state last other es ≡ state.Claimed number tracer → number ≡ last
by_claim [] last other number tracer h = cc
by_claim (event.Publish row n stop ∷ es) last other number tracer h = cc
by_claim (event.Claim row n third ∷ es) last other number tracer h = cc
by_claim (event.Resume row n how third ∷ es) last other number tracer h = cc
by_claim (event.Exit row death ∷ es) last other number tracer h = cc

-- a claimed row shows the number of its last stop
claimed_number : (born : Bool) (es : List Event) (number tracer : ℕ) → state_in born es ≡ state.Claimed number tracer
    → number ≡ number_in es
claimed_number true [] number tracer h = cc
claimed_number false [] number tracer h = cc
claimed_number born (event.Publish row n stop ∷ es) number tracer h = cc
claimed_number born (event.Claim row n other ∷ es) number tracer h = by_claim es (number_in es) other number tracer h
claimed_number born (event.Resume row n how other ∷ es) number tracer h = cc
claimed_number born (event.Exit row death ∷ es) number tracer h = cc

held_by : (tracer holder number : ℕ) → resume_state tracer (state.Claimed number holder) ≡ Ok tt
    → state.Claimed number holder ≡ state.Claimed number tracer
held_by tracer holder number h =
    elim (eqb_tells holder tracer) [
      | inl same ↦ ap (state.Claimed number) same.1
      | inr other ↦ let refusal : resume_state tracer (state.Claimed number holder)
          ≡ Err refused.NotHolder = rw other.0 in cc
    ]

holder_Ok : (there : Bool) (tracer : ℕ) (at : State)
    → (if there then resume_state tracer at else Err refused.NoRow) ≡ Ok tt → (number : ℕ)
    × (at ≡ state.Claimed number tracer)
holder_Ok false tracer at h = cc
holder_Ok true tracer state.Absent h = cc
holder_Ok true tracer state.Unborn h = cc
holder_Ok true tracer state.Running h = cc
holder_Ok true tracer (state.Stopped n status) h = cc
holder_Ok true tracer (state.Claimed n holder) h = (n, held_by tracer holder n h)
holder_Ok true tracer (state.Dead n status) h = cc
holder_Ok true tracer state.Reaped h = cc

pub resume_fits : (rows : List Row) (h : History) (row tracer : ℕ) (how : Restart)
    → resume_answer rows h row tracer ≡ Ok tt → Fits rows h (event.Resume row (last_number h row) how tracer)
resume_fits rows h row tracer how answered =
    let held = holder_Ok (nat_lt tracer TRACERS) tracer (state_after rows h row) answered in
    let within : row < length rows = present rows h row
    (λ absent. let clash : state.Absent ≡ state.Claimed held.0 tracer = sym absent ∙ held.1 in cc) in
    let here : state_in (is_born rows h row) (events_of row h) ≡ state.Claimed held.0 tracer =
    sym (ap (λ b. cond b (state_in (is_born rows h row) (events_of row h)) state.Absent) (lt-ltb _ _ within))
    ∙ held.1 in
    held.1 ∙ ap (λ n. state.Claimed n tracer) (claimed_number (is_born rows h row) (events_of row h) held.0 tracer here)

unheld : (holding : Option ℕ) → unless_held holding ≡ Ok tt → holding ≡ None
unheld None h = refl
unheld (Some other) h = cc

pub exit_fits : (rows : List Row) (h : History) (row : ℕ) (death : Death) → exit_answer rows h row ≡ Ok tt
    → Fits rows h (event.Exit row death)
exit_fits rows h row death answered =
    let ran = running_Ok (state_after rows h row) _ tt answered in
    (ran.0, unheld (holding_back rows (state_after rows h) row) ran.1)

-- ---- a call of a board goes on by its event, or leaves everything as it was

-- nobody takes a row up on a board
none_taken_still : (e : Event) → taken_with (Happened e) none_taken ≡ none_taken
none_taken_still e = λ i row. and-false (not (ends_run e row)) i

goes : {A : Type 0} (rows : List Row) (words new : List Word) (h : History) → AreAt rows words none_taken h
    → length words ≡ length rows
    → (result : Result A Refused) (e : Event)
    → new ≡ with_word result words (subject e) (word_after_event (word_at words (subject e)) e)
    → ((answer : A) → result ≡ Ok answer → Fits rows h e)
    → AreAt rows new none_taken (goes_on result e h)
goes rows words new h at each (Err refusal) e is fits = rw is at
goes rows words new h at each (Ok answer) e is fits =
    rw is (
    subst (λ (taken : ℕ → Bool). AreAt rows
    (slice_set words (subject e) (word_after_event (word_at words (subject e)) e)) taken (e ∷ h)) (none_taken_still e)
    (change_stands rows words none_taken h at each (Happened e) (fits answer refl)))

pub publish_goes : (rows : List Row) (words new : List Word) (h : History) → AreAt rows words none_taken h
    → length words ≡ length rows
    → (row : ℕ) (stop : Stop) (result : Result ℕ Refused) → result ≡ publish_answer rows h row stop
    → new ≡ with_word result words row (published (word_at words row) stop)
    → AreAt rows new none_taken (goes_on result (event.Publish row (last_number h row + 1) stop) h)
publish_goes rows words new h at each row stop result answered is =
    goes rows words new h at each result (event.Publish row (last_number h row + 1) stop) is
    (λ number done. (publish_fits rows h row stop number (sym answered ∙ done)).0)

pub claim_goes : (rows : List Row) (words new : List Word) (h : History) → AreAt rows words none_taken h
    → length words ≡ length rows
    → (row tracer : ℕ) (result : Result Got Refused) → result ≡ claim_answer rows h row tracer
    → new ≡ with_word result words row (claimed (word_at words row) tracer)
    → AreAt rows new none_taken (goes_on result (event.Claim row (last_number h row) tracer) h)
claim_goes rows words new h at each row tracer result answered is =
    goes rows words new h at each result (event.Claim row (last_number h row) tracer) is
    (λ got done. claim_fits rows h row tracer got (sym answered ∙ done))

pub resume_goes : (rows : List Row) (words new : List Word) (h : History) → AreAt rows words none_taken h
    → length words ≡ length rows
    → (row tracer : ℕ) (how : Restart) (result : Result (Unit {0}) Refused) → result ≡ resume_answer rows h row tracer
    → new ≡ with_word result words row (restarted (word_at words row) how)
    → AreAt rows new none_taken (goes_on result (event.Resume row (last_number h row) how tracer) h)
resume_goes rows words new h at each row tracer how result answered is =
    goes rows words new h at each result (event.Resume row (last_number h row) how tracer) is
    (λ answer done. resume_fits rows h row tracer how (sym answered ∙ done))

pub exit_goes : (rows : List Row) (words new : List Word) (h : History) → AreAt rows words none_taken h
    → length words ≡ length rows
    → (row : ℕ) (death : Death) (result : Result (Unit {0}) Refused) → result ≡ exit_answer rows h row
    → new ≡ with_word result words row (died (word_at words row) death)
    → AreAt rows new none_taken (goes_on result (event.Exit row death) h)
exit_goes rows words new h at each row death result answered is =
    goes rows words new h at each result (event.Exit row death) is
    (λ answer done. exit_fits rows h row death (sym answered ∙ done))
