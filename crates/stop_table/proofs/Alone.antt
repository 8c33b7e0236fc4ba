-- An event that fits is that of a call which one thread alone is answered, and what a look shows says what it is
-- answered.
use Rattle.std.proofs.Common.{refl, ◌≡◌, ◌+◌, ◌<◌, ◌∷◌, ℕ, Bool, true, false, List, Some, Ok, Err, length}
use Rattle.std.proofs.Common.{nat_lt, lt-ltb, eqb, eq-eqb, ◌∙◌, sym, ap, subst, arith}
use Rattle.trace_record.specs.Content.{Content}
use Rattle.trace_record.specs.Death.{death_status}
use Rattle.trace_record.specs.Stop.{stop_status}
use Rattle.trace_record.specs.declared.death.Death.{Death}
use Rattle.trace_record.specs.declared.resume.Resume.{Resume as Restart}
use Rattle.trace_record.specs.declared.stop.Stop.{Stop}
use Rattle.stop_history.specs.declared.actor.Actor.{Actor}
use Rattle.stop_history.specs.declared.actor.Actor.TheVariants.{Tracee}
use Rattle.stop_history.specs.declared.got.Got.TheVariants as got
use Rattle.stop_history.specs.declared.limits.TheConstants.{LAST_NUMBER, TRACERS}
use Rattle.stop_history.specs.declared.phase.Phase.{Phase}
use Rattle.stop_history.specs.declared.phase.Phase.TheVariants as phase
use Rattle.stop_history.specs.declared.refused.Refused.{Refused}
use Rattle.stop_history.specs.declared.refused.Refused.TheVariants as refused
use Rattle.stop_history.specs.declared.roster.Row.{Row}
use Rattle.stop_history.specs.declared.state.State.{State}
use Rattle.stop_history.specs.declared.state.State.TheVariants as state
use Rattle.stop_history.specs.Actor.{is_moved_by, mover_of}
use Rattle.stop_history.specs.Event as event
use Rattle.stop_history.specs.Event.{Event, History}
use Rattle.stop_history.specs.History.{Fits, births_after, creates_next, holding_back}
use Rattle.stop_history.specs.Sequential.{and_then, claim_answer, claim_by, claim_state, exit_answer, exit_by}
use Rattle.stop_history.specs.Sequential.{next_number, publish_answer, publish_by, resume_answer, resume_by, running_by}
use Rattle.stop_history.specs.Sequential.{unless_held}
use Rattle.stop_history.specs.State.{is_born, last_number, state_after}
use Rattle.stop_history.specs.Word.{shown}
use Rattle.stop_history.proofs.Going.{resume_fits}
use Rattle.stop_history.proofs.States.{present}
use Rattle.stop_table.specs.declared.shown.Shown.{Shown}
use Rattle.stop_table.specs.Alone.{IsAnsweredAt, claim_by_shown, running_by_shown}
use Rattle.stop_table.specs.Entry.{AreLegal, Cell, Entry, GoesOn, bare, cell_after, history_of, publish_of, resume_of}
use Rattle.stop_table.specs.Handle.{Claims, EndsWith, Reaps, shown_of}
use Rattle.stop_table.specs.View.{View}
use Rattle.stop_table.proofs.Entries.{born_on, shown_state, stays_on}

-- ---- events that fit

publish_alone : (rows : List Row) (h : History) (row number : ℕ) (stop : Stop)
    → Fits rows h (event.Publish row number stop) → publish_answer rows h row stop ≡ Ok number
publish_alone rows h row number stop fits =
    let room : nat_lt (last_number h row) LAST_NUMBER ≡ true = lt-ltb _ _ (omega (arith, fits.1, fits.2)) in
    ap (λ s. publish_by s (creates_next rows row (births_after h row) stop) (last_number h row)) fits.0
    ∙ ap (λ next. publish_by state.Running next (last_number h row)) fits.3
    ∙ rw room (ap Ok (sym fits.1))

resume_alone : (rows : List Row) (h : History) (row number tracer : ℕ) (how : Restart) → tracer < TRACERS
    → Fits rows h (event.Resume row number how tracer)
    → (resume_answer rows h row tracer ≡ Ok tt) × (number ≡ last_number h row)
resume_alone rows h row number tracer how few fits =
    let there : nat_lt tracer TRACERS ≡ true = lt-ltb _ _ few in
    let same : eqb tracer tracer ≡ true = eq-eqb _ _ refl in
    let held : resume_by tracer (state.Claimed number tracer) ≡ Ok tt = rw (there, same) in
    let answered : resume_answer rows h row tracer ≡ Ok tt = ap (resume_by tracer) fits ∙ held in
    let last = resume_fits rows h row tracer how answered in
    let one : state.Claimed number tracer ≡ state.Claimed (last_number h row) tracer = sym fits ∙ last in
    (answered, cc)

exit_alone : (rows : List Row) (h : History) (row : ℕ) (death : Death) → Fits rows h (event.Exit row death)
    → exit_answer rows h row ≡ Ok tt
exit_alone rows h row death fits = λ i. exit_by (fits.1 i) (fits.0 i)

claim_alone : (tracer : ℕ) (at : State) → tracer < TRACERS → claim_by tracer at ≡ claim_state at
claim_alone tracer at few = let there : nat_lt tracer TRACERS ≡ true = lt-ltb _ _ few in rw there

-- ---- calls that made an event

legal_there : (v w : View) (before : List Entry) (x : Entry) → EndsWith v w before x → AreLegal v.roster (x ∷ before)
legal_there v w before x ends =
    subst (AreLegal v.roster) ends.seen (subst (λ (rows : List Row). AreLegal rows w.seen) ends.same.roster ends.legal)

seen_there : (v w : View) (before : List Entry) (x : Entry) → EndsWith v w before x
    → history_of w.seen ≡ x.event ∷ history_of before
seen_there v w before x ends = ap history_of ends.seen

pub publish_there : (v w : View) (before : List Entry) (row : ℕ) (content : Content)
    → EndsWith v w before (publish_of row content)
    → IsAnsweredAt (publish_answer v.roster (history_of before) row content.stop) (Ok content.number)
    (history_of before) (event.Publish row (last_number (history_of before) row + 1) content.stop) w
publish_there v w before row content ends =
    let fits = (legal_there v w before (publish_of row content) ends).0.0 in (
      publish_alone v.roster (history_of before) row content.number content.stop fits,
      seen_there v w before (publish_of row content) ends
          ∙ ap (λ n. event.Publish row n content.stop ∷ history_of before) fits.1,
    )

pub resume_there : (v w : View) (before : List Entry) (row number : ℕ) (how : Restart) (tracer : ℕ) (content : Content)
    → EndsWith v w before (resume_of row number how tracer content)
    → IsAnsweredAt (resume_answer v.roster (history_of before) row tracer) (Ok tt) (history_of before)
    (event.Resume row (last_number (history_of before) row) how tracer) w
resume_there v w before row number how tracer content ends =
    let legal = legal_there v w before (resume_of row number how tracer content) ends in
    let alone = resume_alone v.roster (history_of before) row number tracer how legal.0.1.1 legal.0.0 in (
      alone.0,
      seen_there v w before (resume_of row number how tracer content) ends
          ∙ ap (λ n. event.Resume row n how tracer ∷ history_of before) alone.1,
    )

pub exit_there : (v w : View) (before : List Entry) (row : ℕ) (death : Death)
    → EndsWith v w before (bare (event.Exit row death))
    → IsAnsweredAt (exit_answer v.roster (history_of before) row) (Ok tt) (history_of before) (event.Exit row death) w
exit_there v w before row death ends =
    let fits = (legal_there v w before (bare (event.Exit row death)) ends).0.0 in (
      exit_alone v.roster (history_of before) row death fits,
      seen_there v w before (bare (event.Exit row death)) ends,
    )

pub claim_there : (v w : View) (row : ℕ) (content : Content) → (claims : Claims v w row content)
    → IsAnsweredAt (claim_answer v.roster (history_of claims.0) row v.number)
    (Ok (got.Stop content.number (stop_status content.stop))) (history_of claims.0)
    (event.Claim row (last_number (history_of claims.0) row) v.number) w
claim_there v w row content (before, ends, stands, is_content) =
    let legal = legal_there v w before (bare (event.Claim row content.number v.number)) ends in (
      claim_alone v.number (state_after v.roster (history_of before) row) legal.0.1 ∙ ap claim_state stands,
      seen_there v w before (bare (event.Claim row content.number v.number)) ends
          ∙ ap (λ n. event.Claim row n v.number ∷ history_of before) legal.0.0.1,
    )

pub reap_there : (v w : View) (row : ℕ) (death : Death) (number : ℕ) → (reaps : Reaps v w row death number)
    → IsAnsweredAt (claim_answer v.roster (history_of reaps.0) row v.number)
    (Ok (got.Ended number (death_status death))) (history_of reaps.0)
    (event.Claim row (last_number (history_of reaps.0) row) v.number) w
reap_there v w row death number (before, ends, stands, range, is_exit) =
    let legal = legal_there v w before (bare (event.Claim row number v.number)) ends in (
      claim_alone v.number (state_after v.roster (history_of before) row) legal.0.1 ∙ ap claim_state stands,
      seen_there v w before (bare (event.Claim row number v.number)) ends
          ∙ ap (λ n. event.Claim row n v.number ∷ history_of before) legal.0.0.1,
    )

-- ---- calls that made none

-- what is shown of a row says whether it can be claimed, and whether it runs
claim_by_phase : (born : Bool) (number : ℕ) (p : Phase)
    → claim_state (shown born number p) ≡ claim_by_shown (shown_of (shown born number p))
claim_by_phase true number phase.Fresh = refl
claim_by_phase false number phase.Fresh = refl
claim_by_phase born number (phase.Resumed how) = refl
claim_by_phase born number phase.Active = refl
claim_by_phase born number (phase.Stopped status) = refl
claim_by_phase born number (phase.Claimed tracer) = refl
claim_by_phase born number (phase.Dead status) = refl
claim_by_phase born number phase.Reaped = refl

running_by_phase : (born : Bool) (number : ℕ) (p : Phase)
    → running_by (shown born number p) ≡ running_by_shown (shown_of (shown born number p))
running_by_phase true number phase.Fresh = refl
running_by_phase false number phase.Fresh = refl
running_by_phase born number (phase.Resumed how) = refl
running_by_phase born number phase.Active = refl
running_by_phase born number (phase.Stopped status) = refl
running_by_phase born number (phase.Claimed tracer) = refl
running_by_phase born number (phase.Dead status) = refl
running_by_phase born number phase.Reaped = refl

pub claim_shown : (rows : List Row) (h : List Entry) (row tracer : ℕ) (a : Shown) → row < length rows → tracer < TRACERS
    → a ≡ shown_of (state_after rows (history_of h) row)
    → claim_answer rows (history_of h) row tracer ≡ claim_by_shown a
claim_shown rows h row tracer a within few is =
    let at = shown_state rows h row within in
    let cell = cell_after rows h row in
    claim_alone tracer (state_after rows (history_of h) row) few ∙ ap claim_state at
    ∙ claim_by_phase (is_born rows (history_of h) row) cell.number cell.phase
    ∙ ap (λ (s : State). claim_by_shown (shown_of s)) (sym at) ∙ ap claim_by_shown (sym is)

pub not_running_shown : (rows : List Row) (h : List Entry) (row : ℕ) (a : Shown) → row < length rows
    → a ≡ shown_of (state_after rows (history_of h) row) → (refusal : Refused) → running_by_shown a ≡ Err refusal
    → ((stop : Stop) → publish_answer rows (history_of h) row stop ≡ Err refusal)
    × (exit_answer rows (history_of h) row ≡ Err refusal)
not_running_shown rows h row a within is refusal refused =
    let at = shown_state rows h row within in
    let cell = cell_after rows h row in
    let runs : running_by (state_after rows (history_of h) row) ≡ Err refusal =
    ap running_by at ∙ running_by_phase (is_born rows (history_of h) row) cell.number cell.phase
    ∙ ap (λ (s : State). running_by_shown (shown_of s)) (sym at) ∙ ap running_by_shown (sym is) ∙ refused in (
      λ stop. ap (λ r. and_then r (next_number (creates_next rows row (births_after (history_of h) row) stop)
          (last_number (history_of h) row))) runs,
      ap (λ r. and_then r (unless_held (holding_back rows (state_after rows (history_of h)) row))) runs,
    )

pub held_back_alone : (rows : List Row) (h : List Entry) (row other : ℕ)
    → state_after rows (history_of h) row ≡ state.Running
    → holding_back rows (state_after rows (history_of h)) row ≡ Some other
    → exit_answer rows (history_of h) row ≡ Err (refused.GroupAlive other)
held_back_alone rows h row other runs held = λ i. exit_by (held i) (runs i)

-- ---- a row that runs

runs_by_itself : (row number : ℕ) (born : Bool) (p : Phase) → shown born number p ≡ state.Running
    → mover_of row p ≡ Some (Tracee row)
runs_by_itself row number born phase.Fresh is = refl
runs_by_itself row number born (phase.Resumed how) is = refl
runs_by_itself row number born phase.Active is = refl
runs_by_itself row number born (phase.Stopped status) is = cc
runs_by_itself row number born (phase.Claimed tracer) is = cc
runs_by_itself row number born (phase.Dead status) is = cc
runs_by_itself row number born phase.Reaped is = cc

runs_once_born : (born later : Bool) (number : ℕ) (p : Phase) → (born ≡ true → later ≡ true)
    → shown born number p ≡ state.Running → shown later number p ≡ state.Running
runs_once_born true later number phase.Fresh stays is = rw (stays refl)
runs_once_born false later number phase.Fresh stays is = cc
runs_once_born born later number (phase.Resumed how) stays is = refl
runs_once_born born later number phase.Active stays is = refl
runs_once_born born later number (phase.Stopped status) stays is = cc
runs_once_born born later number (phase.Claimed tracer) stays is = cc
runs_once_born born later number (phase.Dead status) stays is = cc
runs_once_born born later number phase.Reaped stays is = cc

-- it runs until its tracee makes an event
pub runs_until_own : (rows : List Row) (actors : Actor → Bool) (seen h : List Entry) (row : ℕ) → AreLegal rows h
    → GoesOn actors seen h → actors (Tracee row) ≡ true
    → state_after rows (history_of seen) row ≡ state.Running → state_after rows (history_of h) row ≡ state.Running
runs_until_own rows actors seen h row legal on own runs =
    let within : row < length rows = present rows (history_of seen) row
    (λ absent. let clash : state.Absent ≡ state.Running = sym absent ∙ runs in cc) in
    let born = is_born rows (history_of seen) row in
    let cell = cell_after rows seen row in
    let here : shown born cell.number cell.phase ≡ state.Running = sym (shown_state rows seen row within) ∙ runs in
    let moved : is_moved_by actors (mover_of row cell.phase) ≡ true =
    ap (is_moved_by actors) (runs_by_itself row cell.number born cell.phase here) ∙ own in
    let same = stays_on rows actors seen h legal on row moved in
    shown_state rows h row within
    ∙ ap (λ (c : Cell). shown (is_born rows (history_of h) row) c.number c.phase) same
    ∙ runs_once_born born (is_born rows (history_of h) row) cell.number cell.phase
    (born_on rows actors row seen h on) here
