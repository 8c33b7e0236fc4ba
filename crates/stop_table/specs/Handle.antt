-- What a call tells of a handle, from the view before it (v) to the view after it (w).
use Rattle.std.specs.Prelude.{◌≡◌, ◌+◌, ◌∷◌, ◌++◌, ◌⊎◌, [], ℕ, Bool, true, false, List, Some, filter}
use Rattle.trace_record.specs.Content.{Content}
use Rattle.trace_record.specs.Death.{IsDeath, death_status}
use Rattle.trace_record.specs.Resume.{IsResume}
use Rattle.trace_record.specs.Stop.{stop_status}
use Rattle.trace_record.specs.declared.death.Death.{Death}
use Rattle.trace_record.specs.declared.resume.Resume.{Resume as Restart}
use Rattle.stop_history.specs.declared.phase.Phase.TheVariants as phase
use Rattle.stop_history.specs.declared.roster.Row.{Row}
use Rattle.stop_history.specs.declared.state.State.{State}
use Rattle.stop_history.specs.declared.state.State.TheVariants as state
use Rattle.stop_history.specs.Actor.{actor_of}
use Rattle.stop_history.specs.Change.{restart_in}
use Rattle.stop_history.specs.Event as event
use Rattle.stop_history.specs.Event.{History, events_of}
use Rattle.stop_history.specs.Roster.{parent_of}
use Rattle.stop_history.specs.State.{is_waitable, state_after}
use Rattle.stop_history.specs.Word.{Word}
use Rattle.stop_table.specs.declared.shown.Shown.{Shown}
use Rattle.stop_table.specs.declared.shown.Shown.TheVariants as shows
use Rattle.std.specs.Prelude.{Ok}
use Rattle.stop_table.specs.Entry.{AreLegal, Begins, Entry, GoesOn, bare, cell_after, content_after, history_of, word_of}
use Rattle.stop_table.specs.View.{Observation, View, actors_of, an_exchange, a_look, exchanges_of, looks_at}
use Rattle.stop_table.specs.Written.{IsWrittenOver}

-- the events of a handle's own actors
abbrev pub own_events : View → List Entry
own_events v = filter (λ x. actors_of v (actor_of x.event)) v.seen

-- the handle is the same one
pub record IsSame (v w : View) : Type 0 where
  pub roster : w.roster ≡ v.roster
  pub tracees : w.tracees ≡ v.tracees
  pub tracers : w.tracers ≡ v.tracers
  pub number : w.number ≡ v.number

-- the steps of the call stand in front of those before it
abbrev pub HasSteps : View → View → Type 0
HasSteps v w = (added : List Observation) × (w.observations ≡ added ++ v.observations)

-- the call made no event of its own
pub record Grows (v w : View) : Type 0 where
  pub goes_on : GoesOn (actors_of v) v.seen w.seen
  pub legal : AreLegal w.roster w.seen
  pub same : IsSame v w
  pub steps : HasSteps v w

-- the call only looked
pub record Looked (v w : View) : Type 0 where
  pub grows : Grows v w
  pub taken : w.taken ≡ v.taken

-- the call's last step made the entry x; up to it, others went on to the history `before`
pub record EndsWith (v w : View) (before : List Entry) (x : Entry) : Type 0 where
  pub goes_on : GoesOn (actors_of v) v.seen before
  pub seen : w.seen ≡ x ∷ before
  pub legal : AreLegal w.roster w.seen
  pub same : IsSame v w
  pub steps : HasSteps v w

-- ---- linearization points

abbrev pub HasObservation : List Observation → Observation → Type 0
HasObservation [] step = ⊥
HasObservation (o ∷ os) step = (o ≡ step) ⊎ HasObservation os step

-- a step of this call
abbrev pub IsStepOf : View → View → Observation → Type 0
IsStepOf v w step = (added : List Observation) × (w.observations ≡ added ++ v.observations) × HasObservation added step

abbrev pub IsUnborn : List Row → ℕ → List Entry → Type 0
IsUnborn rows row h = state_after rows (history_of h) row ≡ state.Unborn

-- directly after a look of this call at the word of the row or, where the row is unborn there, of its parent
abbrev pub IsPoint : View → View → ℕ → List Entry → Type 0
IsPoint v w row h =
    IsStepOf v w (a_look row h)
    ⊎ (IsUnborn v.roster row h
    × ((parent : ℕ) × IsStepOf v w (a_look parent h) × (parent_of v.roster row ≡ Some parent)))

-- at a look at its parent's word the row was unborn
abbrev pub SawUnborn : View → View → ℕ → Type 0
SawUnborn v w row =
    IsUnborn v.roster row w.seen
    × ((parent : ℕ) × IsStepOf v w (a_look parent w.seen) × (parent_of v.roster row ≡ Some parent))

-- What a look showed, a stop or a death, was lost to another: the row's next event was a claim, h is the history directly
-- after it, and an exchange of this call came later. Up to its point a call makes no event (`SeenAt`), so the claim is
-- another's.
pub record IsLostSince (look : List Entry) (v w : View) (row : ℕ) (h : List Entry) : Type 0 where
  pub waited : is_waitable (state_after v.roster (history_of look) row) ≡ true
  pub before : List Entry
  pub later : Begins look before
  pub untouched : events_of row (history_of before) ≡ events_of row (history_of look)
  pub claim : Entry
  pub number : ℕ
  pub tracer : ℕ
  pub is_claim : claim.event ≡ event.Claim row number tracer
  pub point : h ≡ claim ∷ before
  pub found : List Entry
  pub on : Begins h found
  pub exchange : IsStepOf v w (an_exchange row found)

-- the same of a look of this call
abbrev pub IsLost : View → View → ℕ → List Entry → Type 0
IsLost v w row h = (look : List Entry) × IsStepOf v w (a_look row look) × IsLostSince look v w row h

-- what a look shows of a state; a row that is not there shows as one that is unborn
abbrev pub shown_of : State → Shown
shown_of state.Absent = shows.Unborn
shown_of state.Unborn = shows.Unborn
shown_of state.Running = shows.Running
shown_of (state.Stopped number status) = shows.Stopped number status
shown_of (state.Claimed number tracer) = shows.Claimed number
shown_of (state.Dead number status) = shows.Dead number status
shown_of state.Reaped = shows.Reaped

-- a point of the call, of the kind Step, at which one thread alone would be shown this of the row
pub record SeenAt (v w : View) (Step : List Entry → Type 0) (row : ℕ) (a : Shown) : Type 0 where
  pub point : List Entry
  pub sooner : GoesOn (actors_of v) v.seen point
  pub later : Begins point w.seen
  pub step : Step point
  pub shown : a ≡ shown_of (state_after v.roster (history_of point) row)

-- the call only looked, and showed what stood at one of its looks
abbrev pub LooksAt : View → View → ℕ → Shown → Type 0
LooksAt v w row a = Looked v w × SeenAt v w (IsPoint v w row) row a

-- the call made no exchange of the row's word, and showed what stood at its last look
abbrev pub LooksLast : View → View → ℕ → Shown → Type 0
LooksLast v w row a =
    Looked v w × (exchanges_of row w.observations ≡ exchanges_of row v.observations) × IsPoint v w row w.seen
    × (a ≡ shown_of (state_after v.roster (history_of w.seen) row))

-- the call lost to another's claim what a look of it had shown, and showed what stood directly after that claim
abbrev pub LosesClaim : View → View → ℕ → Shown → Type 0
LosesClaim v w row a = Looked v w × SeenAt v w (IsLost v w row) row a

-- the same of what a call does after its look at the row: it lost what the look showed
abbrev pub LosesAt : View → View → ℕ → Shown → Type 0
LosesAt v w row a = Looked v w × SeenAt v w (IsLostSince v.seen v w row) row a

-- ---- how many steps a call takes

-- a count is as it was or, where it may go up, one more
abbrev pub UpByOne : (May : Type 0) → (before after : ℕ) → Type 0
UpByOne May before after = (after ≡ before) ⊎ (May × (after ≡ before + 1))

-- The call's steps are at most these: one look at the word of each row of the one kind, and one exchange of the word of
-- each row of the other.
pub record StepsOnce (Looks Exchanges : ℕ → Type 0) (v w : View) : Type 0 where
  pub looks : (at : ℕ) → UpByOne (Looks at) (looks_at at v.observations) (looks_at at w.observations)
  pub exchanges : (at : ℕ)
      → UpByOne (Exchanges at) (exchanges_of at v.observations) (exchanges_of at w.observations)

-- the same of a call that makes no exchange
abbrev pub LooksOnce : (Looks : ℕ → Type 0) → View → View → Type 0
LooksOnce Looks v w = StepsOnce Looks (λ at. ⊥) v w

abbrev pub IsRowOrParent : List Row → (row at : ℕ) → Type 0
IsRowOrParent rows row at = (at ≡ row) ⊎ (parent_of rows row ≡ Some at)

-- the call made one attempt at the row at most: one look at its parent's word, one at its own, and one exchange of it
abbrev pub TriesOnce : View → View → ℕ → Type 0
TriesOnce v w row = StepsOnce (IsRowOrParent v.roster row) (λ at. at ≡ row) v w

-- the call's only step was an exchange of the row's word
abbrev pub OnlyExchanges : View → View → ℕ → Type 0
OnlyExchanges v w row = w.observations ≡ an_exchange row w.seen ∷ v.observations

-- ---- claims

-- what is shown can be claimed: a stop, and a death where deaths are asked for (waitid(2), WEXITED)
abbrev pub is_claimable : (deaths : Bool) → Shown → Bool
is_claimable deaths (shows.Stopped number status) = true
is_claimable deaths (shows.Dead number status) = deaths
is_claimable deaths shows.Unborn = false
is_claimable deaths shows.Running = false
is_claimable deaths (shows.Claimed number) = false
is_claimable deaths shows.Reaped = false

-- the stop that a row stood at was claimed, with the content of its publish
abbrev pub Claims : View → View → ℕ → Content → Type 0
Claims v w row content =
    (before : List Entry) × EndsWith v w before (bare (event.Claim row content.number v.number))
    × (state_after v.roster (history_of before) row ≡ state.Stopped content.number (stop_status content.stop))
    × (content ≡ content_after v.roster before row)

-- the row's last event is its exit by this death
abbrev pub IsExitOf : List Entry → ℕ → Death → Type 0
IsExitOf h row death = (older : History) × (events_of row (history_of h) ≡ event.Exit row death ∷ older)

-- the death of a row was claimed; `number` is that of its last stop
abbrev pub Reaps : View → View → ℕ → Death → (number : ℕ) → Type 0
Reaps v w row death number =
    (before : List Entry) × EndsWith v w before (bare (event.Claim row number v.number))
    × (state_after v.roster (history_of before) row ≡ state.Dead number (death_status death))
    × IsDeath death × IsExitOf before row death

-- the row is claimed by the handle's own tracer, with this word, and this is the record of its stop, with what the
-- holder has written
pub record IsHolding (v : View) (row : ℕ) (word : Word) (content : Content) : Type 0 where
  pub is_phase : word.phase ≡ phase.Claimed v.number
  pub is_word : word ≡ word_of false (cell_after v.roster v.seen row)
  pub is_content : IsWrittenOver (content_after v.roster v.seen row) content

-- ---- take-ups and meetings

-- the row was taken up, to run on as its last resume says, with the content of that resume; before any, with the empty
-- record
pub record TakesUp (v w : View) (row : ℕ) (how : Restart) (content : Content) : Type 0 where
  pub grows : Grows v w
  pub step : IsStepOf v w (an_exchange row w.seen)
  pub running : state_after v.roster (history_of w.seen) row ≡ state.Running
  pub restart : restart_in (cell_after v.roster w.seen row).phase ≡ Ok how
  pub in_range : IsResume how
  pub is_content : content ≡ content_after v.roster w.seen row

-- the handle took in the other: what it has seen begins with what either had seen, and it acts for the actors of both
pub record Meets (v w u : View) : Type 0 where
  pub roster : u.roster ≡ v.roster
  pub tracees : u.tracees ≡ v.tracees ++ w.tracees
  pub tracers : u.tracers ≡ v.tracers ++ w.tracers
  pub number : u.number ≡ v.number
  pub observations : u.observations ≡ v.observations
  pub left : GoesOn (actors_of v) v.seen u.seen
  pub right : GoesOn (actors_of w) w.seen u.seen
