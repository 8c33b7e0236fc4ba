-- The interleaving model: the cells of all rows, and what each tracer last saw in each of them. Several tracers of one
-- tracee are this project's own: under ptrace(2) a tracee has one, whose threads wait for it by waitid(2).
use Rattle.std.specs.Prelude.{◌≡◌, ◌+◌, ◌*◌, ◌<◌, ◌≤◌, ◌∷◌, [], ℕ, Bool, true, false, List, length, Option, Some}
use Rattle.std.specs.Prelude.{None, slice_set, if◌then◌else◌, ◌==◌, ◌&&◌}
use Rattle.stop_board.specs.declared.world.action.Action.{Action}
use Rattle.stop_board.specs.declared.world.action.Reply.{Reply}
use Rattle.stop_board.specs.declared.world.action.Reply.TheVariants as reply
use Rattle.stop_history.specs.declared.actor.Actor.{Actor}
use Rattle.stop_history.specs.declared.actor.Actor.TheVariants.{Tracee, Tracer}
use Rattle.stop_history.specs.declared.phase.Phase.{Phase}
use Rattle.stop_history.specs.declared.phase.Phase.TheVariants as phase
use Rattle.stop_history.specs.declared.refused.Refused.TheVariants as refused
use Rattle.stop_history.specs.declared.roster.Row.{Row}
use Rattle.stop_board.specs.Action.{Sight, TraceeReplies, TracerReplies, row_seen, tracee_change, tracer_change}
use Rattle.stop_history.specs.Actor.{numbered_actor}
use Rattle.stop_history.specs.Change.{Change, Nothing, history_with, taken_with}
use Rattle.stop_history.specs.Event.{History}
use Rattle.stop_history.specs.declared.limits.TheConstants.{TRACERS}
use Rattle.stop_history.specs.Standing.{AreAt, none_taken}
use Rattle.stop_board.specs.Board.{IsHeld}
use Rattle.stop_history.specs.State.{state_after}
use Rattle.stop_history.specs.Word.{Word, opening, state_by, word_after, word_at}

-- what a World holds: its rows and tracers, the word of each row, and the word that each tracer last saw in each row
pub record Contents : Type 0 where
  pub rows : List Row
  pub tracers : ℕ
  pub words : List Word
  pub seen : List Word

-- whatever the history: a word for each row of a roster, and one for each row and each of at most 16 tracers
pub record IsContents (rows : List Row) (tracers : ℕ) (words seen : List Word) : Type 0 where
  pub held : IsHeld rows words
  pub few : tracers ≤ TRACERS
  pub each : length seen ≡ tracers * length rows

-- where a run has come to: its history, the rows that are taken up, and by tracer and row the word last seen
pub record Moment : Type 0 where
  pub history : History
  pub taken : ℕ → Bool
  pub seen : (tracer row : ℕ) → Word

-- the words last seen are kept tracer by tracer, and row by row
abbrev pub seen_place : List Row → (tracer row : ℕ) → ℕ
seen_place rows tracer row = tracer * length rows + row

abbrev pub last_seen : List Row → List Word → (tracer row : ℕ) → Word
last_seen rows words tracer row = word_at words (seen_place rows tracer row)

abbrev pub HasSeen : Contents → ((tracer row : ℕ) → Word) → Type 0
HasSeen world seen =
    (tracer row : ℕ) → tracer < world.tracers → row < length world.rows
    → last_seen world.rows world.seen tracer row ≡ seen tracer row

abbrev pub StandsAt : Contents → Moment → Type 0
StandsAt world m = AreAt world.rows world.words m.taken m.history × HasSeen world m.seen

-- before any event: no row is taken up, and nobody has looked
abbrev pub first_moment : Moment
first_moment = record { history = []; taken = none_taken; seen = λ tracer row. opening }

-- of each row its state, its word and whether it is taken up
abbrev pub sight_at : List Row → Moment → Sight
sight_at rows m = record { states = state_after rows m.history; words = word_after m.taken m.history; taken = m.taken }

-- the reply to an actor's action
abbrev pub ActorReplies : List Row → Sight → (seen : ℕ → ℕ → Word) → Option Actor → Action → Reply → Type 0
ActorReplies rows sight seen None action r = r ≡ reply.Refused refused.NoRow
ActorReplies rows sight seen (Some (Tracee row)) action r = TraceeReplies rows sight row action r
ActorReplies rows sight seen (Some (Tracer tracer)) action r = TracerReplies rows sight (seen tracer) tracer action r

abbrev pub Replies : List Row → (tracers : ℕ) → Moment → (actor : ℕ) → Action → Reply → Type 0
Replies rows tracers m actor action r =
    ActorReplies rows (sight_at rows m) m.seen (numbered_actor (length rows) tracers actor) action r

-- what the step changed
abbrev pub actor_change : (ℕ → Word) → Option Actor → Action → Reply → Change
actor_change words None action r = Nothing
actor_change words (Some (Tracee row)) action r = tracee_change row action r
actor_change words (Some (Tracer tracer)) action r = tracer_change words tracer action r

abbrev pub change_of : List Row → (tracers : ℕ) → Moment → (actor : ℕ) → Action → Reply → Change
change_of rows tracers m actor action r =
    actor_change (word_after m.taken m.history) (numbered_actor (length rows) tracers actor) action r

-- a tracer has seen the word that the row has directly after the step
abbrev pub seen_with : (ℕ → Word) → (tracer : ℕ) → Option ℕ → (ℕ → ℕ → Word) → ℕ → ℕ → Word
seen_with words tracer None seen t r = seen t r
seen_with words tracer (Some row) seen t r = if t == tracer && r == row then words row else seen t r

abbrev pub seen_by : (ℕ → Word) → Option Actor → Action → Reply → (ℕ → ℕ → Word) → ℕ → ℕ → Word
seen_by words None action r seen = seen
seen_by words (Some (Tracee row)) action r seen = seen
seen_by words (Some (Tracer tracer)) action r seen = seen_with words tracer (row_seen action r) seen

-- the moment after a change, of which an actor has seen its part
abbrev pub moment_with : Option Actor → Action → Reply → Change → Moment → Moment
moment_with who action r change m = record {
  history = history_with change m.history;
  taken = taken_with change m.taken;
  seen = seen_by (word_after (taken_with change m.taken) (history_with change m.history)) who action r m.seen;
}

abbrev pub moment_after_step : List Row → (tracers : ℕ) → Moment → (actor : ℕ) → Action → Reply → Moment
moment_after_step rows tracers m actor action r =
    moment_with (numbered_actor (length rows) tracers actor) action r (change_of rows tracers m actor action r) m

-- ---- the same, of words that stand at no moment yet

-- a row that its tracee has taken up
abbrev pub is_active : Phase → Bool
is_active phase.Active = true
is_active other = false

-- an actor of these rows, with a place for what it last saw in each row
abbrev pub IsActorWithPlaces : (rows places : ℕ) → Option Actor → Type 0
IsActorWithPlaces rows places None = Unit {0}
IsActorWithPlaces rows places (Some (Tracee row)) = row < rows
IsActorWithPlaces rows places (Some (Tracer tracer)) = (tracer < TRACERS) × (tracer * rows + rows ≤ places)

abbrev pub sight_by : List Row → List Word → Sight
sight_by rows words =
    record { states = state_by rows words; words = word_at words; taken = λ row. is_active (word_at words row).phase }

-- the words last seen, with that of a row
abbrev pub words_seen : List Row → (ℕ → Word) → (tracer : ℕ) → Option ℕ → List Word → List Word
words_seen rows words tracer None seen = seen
words_seen rows words tracer (Some row) seen = slice_set seen (seen_place rows tracer row) (words row)

abbrev pub words_seen_by : List Row → (ℕ → Word) → Option Actor → Action → Reply → List Word → List Word
words_seen_by rows words None action r seen = seen
words_seen_by rows words (Some (Tracee row)) action r seen = seen
words_seen_by rows words (Some (Tracer tracer)) action r seen = words_seen rows words tracer (row_seen action r) seen

-- ---- runs

-- each reply of a run, at the moment that the turns before it came to
unfoldable pub AreReplies : List Row → (tracers : ℕ) → Moment → List (ℕ × Action) → List Reply → Type 0
AreReplies rows tracers m [] [] = Unit {0}
AreReplies rows tracers m (turn ∷ turns) (r ∷ rs) =
    Replies rows tracers m turn.0 turn.1 r
    × AreReplies rows tracers (moment_after_step rows tracers m turn.0 turn.1 r) turns rs
AreReplies rows tracers m [] (r ∷ rs) = ⊥
AreReplies rows tracers m (turn ∷ turns) [] = ⊥

-- the moment that a whole run comes to
unfoldable pub moment_after_run : List Row → (tracers : ℕ) → Moment → List (ℕ × Action) → List Reply → Moment
moment_after_run rows tracers m [] rs = m
moment_after_run rows tracers m (turn ∷ turns) [] = m
moment_after_run rows tracers m (turn ∷ turns) (r ∷ rs) =
    moment_after_run rows tracers (moment_after_step rows tracers m turn.0 turn.1 r) turns rs
