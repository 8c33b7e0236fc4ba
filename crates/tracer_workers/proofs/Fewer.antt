-- Each entry of a run leaves fewer events.
use Rattle.std.proofs.Common.{◌*◌, ◌-◌, ◌+◌, refl, ◌≡◌, ◌≢◌, ◌<◌, ◌≤◌, ◌∷◌, [], ℕ, zero, suc, Bool, true, false, List, Some}
use Rattle.std.proofs.Common.{length, inl, inr, ◌∙◌, sym, ap, subst, arith, slice_get, slice_index_or}
use Rattle.std.proofs.lemmas.Bool.{cases_eq}
use Rattle.stop_history.specs.declared.roster.Row.{Row}
use Rattle.stop_history.specs.declared.state.State.TheVariants as state
use Rattle.stop_history.specs.Event as event
use Rattle.stop_history.specs.Event.{Event, History, events_of, subject}
use Rattle.stop_history.specs.History.{Fits}
use Rattle.stop_board.specs.World.{Contents}
use Rattle.stop_history.specs.State.{claimed_state, is_born, is_waitable, number_in, state_in}
use Rattle.stop_history.specs.Word.{claimed_phase, opening, phase_in, word_after, word_at, word_in}
use Rattle.stop_history.proofs.Events.{other_events, own_events}
use Rattle.stop_history.proofs.States.{claim_is_none, fits_within, state_within}
use Rattle.stop_table.specs.Entry.{Entry, history_of}
use Rattle.trace_script.specs.CaseFile.{CaseContent}
use Rattle.tracer_workers.proofs.AfterClaim.{not_by_claim}
use Rattle.tracer_workers.specs.Scheduled.{CameTo, HasMade, RunState, events_left, most_stops, run_left, steps_left, total}
use Rattle.tracer_workers.proofs.Made.{GoesOnBy}

-- ---- one row

runs_left : (born : Bool) (es : List Event) → state_in born es ≡ state.Running → steps_left (phase_in es) ≡ 2
runs_left born [] is = refl
runs_left born (event.Publish row number stop ∷ es) is = cc
runs_left born (event.Claim row number tracer ∷ es) is = not_by_claim (number_in es) tracer es state.Running is refl
runs_left born (event.Resume row number how tracer ∷ es) is = refl
runs_left born (event.Exit row death ∷ es) is = cc

claim_leaves : (born : Bool) (tracer : ℕ) (es : List Event) → is_waitable (state_in born es) ≡ true
    → steps_left (claimed_phase tracer es) < steps_left (phase_in es)
claim_leaves true tracer [] is = cc
claim_leaves false tracer [] is = cc
claim_leaves born tracer (event.Publish row number stop ∷ es) is = omega arith
claim_leaves born tracer (event.Claim row number other ∷ es) is =
    let clash : false ≡ true = sym (claim_is_none (number_in es) other es) ∙ is in cc
claim_leaves born tracer (event.Resume row number how other ∷ es) is = cc
claim_leaves born tracer (event.Exit row death ∷ es) is = omega arith

held_by : (held other number tracer : ℕ) (es : List Event) → claimed_state held other es ≡ state.Claimed number tracer
    → steps_left (claimed_phase other es) ≡ 3
held_by held other number tracer [] is = refl
held_by held other number tracer (event.Publish row n stop ∷ es) is = refl
held_by held other number tracer (event.Claim row n third ∷ es) is = refl
held_by held other number tracer (event.Resume row n how third ∷ es) is = refl
held_by held other number tracer (event.Exit row death ∷ es) is = cc

held_left : (born : Bool) (number tracer : ℕ) (es : List Event) → state_in born es ≡ state.Claimed number tracer
    → steps_left (phase_in es) ≡ 3
held_left true number tracer [] is = cc
held_left false number tracer [] is = cc
held_left born number tracer (event.Publish row n stop ∷ es) is = cc
held_left born number tracer (event.Claim row n other ∷ es) is = held_by (number_in es) other number tracer es is
held_left born number tracer (event.Resume row n how other ∷ es) is = cc
held_left born number tracer (event.Exit row death ∷ es) is = cc

own_fewer : (rows : List Row) (h : History) (e : Event) → Fits rows h e
    → number_in (e ∷ events_of (subject e) h) ≤ most_stops
    → events_left (word_in false (e ∷ events_of (subject e) h)) < events_left (word_in false (events_of (subject e) h))
own_fewer rows h (event.Publish row number stop) fits few =
    let within = fits_within rows h (event.Publish row number stop) fits in
    let two = runs_left (is_born rows h row) (events_of row h) (sym (state_within rows h row within) ∙ fits.0) in
    omega (arith, two, fits.1, few)
own_fewer rows h (event.Claim row number tracer) fits few =
    let within = fits_within rows h (event.Claim row number tracer) fits in
    let less = claim_leaves (is_born rows h row) tracer (events_of row h)
    (ap is_waitable (sym (state_within rows h row within)) ∙ fits.0) in
    omega (arith, less)
own_fewer rows h (event.Resume row number how tracer) fits few =
    let within = fits_within rows h (event.Resume row number how tracer) fits in
    let three = held_left (is_born rows h row) _ tracer (events_of row h) (sym (state_within rows h row within) ∙ fits) in
    omega (arith, three)
own_fewer rows h (event.Exit row death) fits few =
    let within = fits_within rows h (event.Exit row death) fits in
    let two = runs_left (is_born rows h row) (events_of row h) (sym (state_within rows h row within) ∙ fits.0) in
    omega (arith, two)

-- ---- all rows

total_same : (f g : ℕ → ℕ) (n : ℕ) → ((i : ℕ) → i < n → f i ≡ g i) → total f n ≡ total g n
total_same f g zero same = refl
total_same f g (suc n) same =
    let before = total_same f g n (λ i less. same i (omega (arith, less))) in
    let last = same n (omega arith) in
    omega (arith, before, last)

total_less : (f g : ℕ → ℕ) (n row : ℕ) → row < n → f row < g row → ((i : ℕ) → i < n → i ≢ row → f i ≡ g i)
    → total f n < total g n
total_less f g zero row within less others = absurd (omega arith)
total_less f g (suc n) row within less others =
    elim (cases_eq n row) [
      | inl same ↦
          (let before = total_same f g n (λ i low. others i (omega (arith, low)) (λ is. absurd (omega (arith, is, same, low)))) in
          let last : f n < g n = subst (λ r. f r < g r) (sym same) less in
          omega (arith, before, last))
      | inr other ↦
          (let before = total_less f g n row (omega (arith, within, other)) less
          (λ i low apart. others i (omega (arith, low)) apart) in
          let last = others n (omega arith) other in
          omega (arith, before, last))
    ]

pub index_of_get : {A : Type 0} (xs : List A) (i : ℕ) (other x : A) → slice_get xs i ≡ Some x → slice_index_or xs i other ≡ x
index_of_get [] i other x is = cc
index_of_get (y ∷ xs) zero other x is = cc
index_of_get (y ∷ xs) (suc i) other x is = index_of_get xs i other x is

-- a row that its tracee has taken up runs
taken_left : (born taken : Bool) (es : List Event) → (taken ≡ true → state_in born es ≡ state.Running)
    → events_left (word_in taken es) ≡ events_left (word_in false es)
taken_left born true es up =
    let two = runs_left born es (up refl) in ap (λ n. 3 * (most_stops - number_in es) + n) (sym two)
taken_left born false es up = refl

-- the history alone says how many events of a row are left
came_left : (world : Contents) (h : History) (row : ℕ) → CameTo world h → row < length world.rows
    → events_left (word_at world.words row) ≡ events_left (word_in false (events_of row h))
came_left world h row came within =
    let m = came.moment in
    let at = came.stands.0 in
    ap events_left (index_of_get world.words row opening (word_after m.taken m.history row) (at.held row within))
    ∙ taken_left (is_born world.rows m.history row) (m.taken row) (events_of row m.history)
    (λ taken. sym (state_within world.rows m.history row within) ∙ at.up row taken)
    ∙ ap (λ g. events_left (word_in false (events_of row g))) came.history

pub same_left : (run new : RunState) (h : History) → CameTo run.world h → CameTo new.world h
    → new.world.rows ≡ run.world.rows → run_left new ≡ run_left run
same_left run new h before after rows =
    let long : length new.world.rows ≡ length run.world.rows = ap length rows in
    total_same (λ r. events_left (word_at new.world.words r)) (λ r. events_left (word_at run.world.words r))
    (length new.world.rows)
    (λ r low. came_left new.world h r after low ∙ sym (came_left run.world h r before (omega (arith, low, long))))
    ∙ ap (total (λ r. events_left (word_at run.world.words r))) long

pub fewer_left : (content : CaseContent) (run new : RunState) (h : List Entry) (x : Entry) → HasMade content run h
    → GoesOnBy content run new h x
    → number_in (x.event ∷ events_of (subject x.event) (history_of h)) ≤ most_stops
    → run_left new < run_left run
fewer_left content run new h x made on few =
    let long : length run.world.rows ≡ length content.rows = ap length made.world_rows in
    let new_long : length new.world.rows ≡ length content.rows = ap length (on.world_rows ∙ made.world_rows) in
    let before : (row : ℕ) → row < length content.rows
    → events_left (word_at run.world.words row) ≡ events_left (word_in false (events_of row (history_of h))) =
    λ row within. came_left run.world (history_of h) row made.world (omega (arith, within, long)) in
    let after : (row : ℕ) → row < length content.rows
    → events_left (word_at new.world.words row) ≡ events_left (word_in false (events_of row (x.event ∷ history_of h))) =
    λ row within. came_left new.world (x.event ∷ history_of h) row on.world (omega (arith, within, new_long)) in
    let row = subject x.event in
    let within = fits_within content.rows (history_of h) x.event on.fits in
    let here : events_left (word_at new.world.words row) ≡ events_left (word_in false (x.event ∷ events_of row (history_of h))) =
    after row within ∙ ap (λ es. events_left (word_in false es)) (own_events row x.event (history_of h) refl) in
    let less : events_left (word_at new.world.words row) < events_left (word_at run.world.words row) =
    subst (λ n. n < events_left (word_at run.world.words row)) (sym here)
    (subst (λ n. events_left (word_in false (x.event ∷ events_of row (history_of h))) < n) (sym (before row within))
    (own_fewer content.rows (history_of h) x.event on.fits few)) in
    let all = total_less (λ r. events_left (word_at new.world.words r)) (λ r. events_left (word_at run.world.words r))
    (length content.rows) row within less
    (λ r low apart. after r low ∙ ap (λ es. events_left (word_in false es))
    (other_events r x.event (history_of h) (λ is. apart (sym is))) ∙ sym (before r low)) in
    subst (λ n. total (λ r. events_left (word_at new.world.words r)) n < run_left run) (sym new_long)
    (subst (λ n. total (λ r. events_left (word_at new.world.words r)) (length content.rows)
    < total (λ r. events_left (word_at run.world.words r)) n) (sym long) all)
