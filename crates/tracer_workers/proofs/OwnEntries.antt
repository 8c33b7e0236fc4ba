-- The entries of a handle's actors stay as they are while others act, and with them the place of its tracee in its script.
use Rattle.std.proofs.Common.{refl, ◌≡◌, ◌<◌, ◌∷◌, ◌++◌, [], ℕ, Bool, true, false, List, filter, length, inl, inr}
use Rattle.std.proofs.Common.{◌∙◌, sym, ap, subst, eq-eqb, ne_eqb, append-nil}
use Rattle.std.proofs.lemmas.Bool.{cases_Bool, cases_eq}
use Rattle.trace_record.specs.Content.{Content}
use Rattle.stop_history.specs.Actor.{IsQuiet, actor_of, mover_of}
use Rattle.stop_history.specs.declared.actor.Actor.{Actor}
use Rattle.stop_history.specs.declared.actor.Actor.TheVariants.{Tracee}
use Rattle.stop_history.specs.declared.phase.Phase.{Phase}
use Rattle.stop_history.specs.declared.phase.Phase.TheVariants as phase
use Rattle.stop_history.specs.declared.roster.Row.{Row}
use Rattle.stop_history.specs.declared.state.State.TheVariants as state
use Rattle.stop_history.specs.Event as event
use Rattle.stop_history.specs.Event.{Event, subject}
use Rattle.stop_history.specs.State.{is_born, state_after}
use Rattle.stop_history.specs.Word.{shown}
use Rattle.std.proofs.Common.{Some}
use Rattle.stop_history.specs.Actor.{is_moved_by}
use Rattle.stop_table.specs.Entry.{AreLegal, Entry, GoesOn, cell_after, history_of}
use Rattle.stop_table.specs.Handle.{EndsWith}
use Rattle.stop_table.specs.View.{View, actors_of}
use Rattle.stop_table.proofs.Own.{same_actors}
use Rattle.stop_table.proofs.Entries.{shown_state, stays_on}
use Rattle.trace_script.specs.StopTrace.{Turn, context_of, next_element, position_after}
use Rattle.tracer_workers.specs.Driven.{IsRestarted, IsTraced, element_after, restart_at, turns_of, turns_with}
use Rattle.tracer_workers.specs.DrivenBy.{AreDrivenBy}
use Rattle.tracer_workers.specs.Plan.{Plan, opening_of}
use Rattle.tracer_workers.specs.Turn.{onward}
use Rattle.trace_script.specs.StopTrace.{next_position}
use Rattle.tracer_workers.proofs.Fitting.{IsFit, IsFitting, fits_at, own_fit}
use Rattle.tracer_workers.proofs.Left.{left_of, other_left, own_left}

-- ---- the own entries

driven_quiet : (actors : Actor → Bool) (plan : Plan) (more h : List Entry) → IsQuiet actors (history_of more)
    → AreDrivenBy actors plan h → AreDrivenBy actors plan (more ++ h)
driven_quiet actors plan [] h quiet driven = driven
driven_quiet actors plan (x ∷ more) h quiet driven = (
  λ own. let clash : true ≡ false = sym own ∙ quiet.0 in cc,
  driven_quiet actors plan more h quiet.1 driven,
)

pub driven_on : (actors : Actor → Bool) (plan : Plan) (seen h : List Entry) → GoesOn actors seen h
    → AreDrivenBy actors plan seen → AreDrivenBy actors plan h
driven_on actors plan seen h on driven =
    subst (AreDrivenBy actors plan) (sym on.1) (driven_quiet actors plan on.0 seen on.2 driven)

-- an own entry that is driven ends them
pub driven_ends : (plan : Plan) (v w : View) (before : List Entry) (x : Entry) → EndsWith v w before x
    → IsTraced plan before x.event x.content × IsRestarted plan before x.event x.content → AreDrivenBy (actors_of v) plan v.seen
    → AreDrivenBy (actors_of w) plan w.seen
driven_ends plan v w before x made is driven =
    let now : AreDrivenBy (actors_of v) plan (x ∷ before) =
    (λ own. is, driven_on (actors_of v) plan v.seen before made.goes_on driven) in
    subst (AreDrivenBy (actors_of w) plan) (sym made.seen)
    (subst (λ actors. AreDrivenBy actors plan (x ∷ before)) (sym (same_actors v w made.same)) now)

-- a history without own entries
silent_quiet : (actors : Actor → Bool) (h : List Entry) → filter (λ (x : Entry). actors (actor_of x.event)) h ≡ []
    → IsQuiet actors (history_of h)
silent_quiet actors [] none = tt
silent_quiet actors (x ∷ h) none =
    elim (cases_Bool (actors (actor_of x.event))) [
      | inl own ↦
          (let clash : x ∷ filter (λ (x : Entry). actors (actor_of x.event)) h ≡ [] = rw own at none in cc)
      | inr other ↦ (other, silent_quiet actors h (rw other at none))
    ]

pub none_own : (actors : Actor → Bool) (h : List Entry) → filter (λ (x : Entry). actors (actor_of x.event)) h ≡ []
    → GoesOn actors [] h
none_own actors h none = (h, sym (append-nil h), silent_quiet actors h none)

-- ---- a tracee's turns

turns_kept : (actors : Actor → Bool) (e : Event) (turn : Turn) (turns : List Turn)
    → actors (Tracee (subject e)) ≡ true → actors (actor_of e) ≡ false → turns_with e turn turns ≡ turns
turns_kept actors (event.Publish row number stop) turn turns mine quiet =
    let clash : true ≡ false = sym mine ∙ quiet in cc
turns_kept actors (event.Claim row number tracer) turn turns mine quiet = refl
turns_kept actors (event.Resume row number how tracer) turn turns mine quiet = refl
turns_kept actors (event.Exit row death) turn turns mine quiet = refl

turns_quiet : (rows : List Row) (actors : Actor → Bool) (row : ℕ) → actors (Tracee row) ≡ true → (more h : List Entry)
    → IsQuiet actors (history_of more) → turns_of rows (more ++ h) row ≡ turns_of rows h row
turns_quiet rows actors row mine [] h quiet = refl
turns_quiet rows actors row mine (x ∷ more) h quiet =
    let before = turns_quiet rows actors row mine more h quiet.1 in
    elim (cases_eq (subject x.event) row) [
      | inl same ↦
          rw (eq-eqb (subject x.event) row same)
          (turns_kept actors x.event _ (turns_of rows (more ++ h) row)
          (ap (λ r. actors (Tracee r)) same ∙ mine) quiet.0 ∙ before)
      | inr other ↦ rw (ne_eqb (subject x.event) row other) before
    ]

pub turns_on : (rows : List Row) (actors : Actor → Bool) (row : ℕ) → actors (Tracee row) ≡ true → (seen h : List Entry)
    → GoesOn actors seen h → turns_of rows h row ≡ turns_of rows seen row
turns_on rows actors row mine seen h on =
    ap (λ k. turns_of rows k row) on.1 ∙ turns_quiet rows actors row mine on.0 seen on.2

-- ---- a row that runs

-- is its tracee's to move
running_mover : (row : ℕ) (born : Bool) (number : ℕ) (p : Phase) → shown born number p ≡ state.Running
    → mover_of row p ≡ Some (Tracee row)
running_mover row born number phase.Fresh runs = refl
running_mover row born number (phase.Resumed how) runs = refl
running_mover row born number phase.Active runs = refl
running_mover row born number (phase.Stopped status) runs = cc
running_mover row born number (phase.Claimed tracer) runs = cc
running_mover row born number (phase.Dead status) runs = cc
running_mover row born number phase.Reaped runs = cc

module _ (plan : Plan) (actors : Actor → Bool) (seen h : List Entry) (row : ℕ) (mine : actors (Tracee row) ≡ true)
    (legal : AreLegal plan.rows h) (on : GoesOn actors seen h) (within : row < length plan.rows)
    (runs : state_after plan.rows (history_of seen) row ≡ state.Running) where
  cell_same : cell_after plan.rows h row ≡ cell_after plan.rows seen row
  cell_same =
      let mover = running_mover row (is_born plan.rows (history_of seen) row) (cell_after plan.rows seen row).number
      (cell_after plan.rows seen row).phase (sym (shown_state plan.rows seen row within) ∙ runs) in
      stays_on plan.rows actors seen h legal on row (ap (is_moved_by actors) mover ∙ mine)

  turns_same : turns_of plan.rows h row ≡ turns_of plan.rows seen row
  turns_same = turns_on plan.rows actors row mine seen h on

  pub element_stays : element_after plan h row ≡ element_after plan seen row
  element_stays = λ i. next_element (position_after (opening_of plan row) (turns_same i))
      (restart_at (cell_same i).phase) (context_of (cell_same i).content)

  pub onward_stays : onward plan h row ≡ onward plan seen row
  onward_stays = λ i. next_position (position_after (opening_of plan row) (turns_same i))
      (restart_at (cell_same i).phase) (context_of (cell_same i).content)

-- ---- what comes next fits the row

traced_own : (actors : Actor → Bool) (plan : Plan) (h : List Entry) (e : Event) (content : Content)
    → actors (Tracee (subject e)) ≡ true
    → (actors (actor_of e) ≡ true → IsTraced plan h e content × IsRestarted plan h e content) → IsTraced plan h e content
traced_own actors plan h (event.Publish row number stop) content mine driven = (driven mine).0
traced_own actors plan h (event.Claim row number tracer) content mine driven = tt
traced_own actors plan h (event.Resume row number how tracer) content mine driven = tt
traced_own actors plan h (event.Exit row death) content mine driven = (driven mine).0

pub row_fits : (plan : Plan) → IsFitting plan → (actors : Actor → Bool) (row : ℕ) → row < length plan.rows
    → actors (Tracee row) ≡ true → (h : List Entry) → AreLegal plan.rows h → AreDrivenBy actors plan h
    → IsFit plan row (left_of plan.rows h row)
row_fits plan fitting actors row within mine [] legal driven = fits_at plan [] fitting tt tt row within
row_fits plan fitting actors row within mine (x ∷ h) legal driven =
    let before = row_fits plan fitting actors row within mine h legal.1 driven.1 in
    elim (cases_eq (subject x.event) row) [
      | inl same ↦
          (let own : IsFit plan (subject x.event) (left_of plan.rows (x ∷ h) (subject x.event)) =
          subst (IsFit plan (subject x.event)) (sym (own_left plan.rows x h (subject x.event) refl))
          (own_fit plan h legal.1 x.event x.content legal.0.2
          (traced_own actors plan h x.event x.content (ap (λ r. actors (Tracee r)) same ∙ mine) driven.0)
          (subst (λ r. IsFit plan r (left_of plan.rows h r)) (sym same) before)) in
          subst (λ r. IsFit plan r (left_of plan.rows (x ∷ h) r)) same own)
      | inr other ↦ subst (IsFit plan row) (sym (other_left plan.rows x h row other)) before
    ]
