-- A worker's thread: it waits for stops and deaths, keeps the piece of each, and restarts by the policy what it has claimed
-- (waitid(2); ptrace(2), "Restarting"; strace(1)).
use Rattle.std.specs.Prelude.{◌≡◌, ◌==◌, ◌<◌, ◌∷◌, ◌++◌, [], ℕ, Bool, true, false, List, length}
use Rattle.std.specs.Prelude.{if◌then◌else◌}
use Rattle.record_printer.specs.Piece.{Died, Piece}
use Rattle.record_printer.specs.declared.call.show.Show.{Show}
use Rattle.stop_history.specs.Actor.{actor_of}
use Rattle.stop_history.specs.declared.actor.Actor.{Actor}
use Rattle.stop_history.specs.declared.roster.Row.{Row}
use Rattle.stop_history.specs.Event as event
use Rattle.stop_history.specs.Event.{Event, events_of}
use Rattle.stop_history.specs.Roster.{row_at}
use Rattle.stop_history.specs.State.{number_in, state_after}
use Rattle.stop_history.specs.Over.{is_gone}
use Rattle.stop_table.specs.Entry.{AreLegal, Entry, content_after, history_of, resume_of}
use Rattle.stop_table.specs.Handle.{EndsWith, IsSame}
use Rattle.stop_table.specs.Tracer.{held_rows}
use Rattle.stop_table.specs.View.{View, actors_of}
use Rattle.trace_calls.specs.RowStatus.{ReportsDeath}
use Rattle.trace_calls.specs.declared.row_status.RowStatus.{RowStatus}
use Rattle.trace_calls.specs.Waiting.{Claimed}
use Rattle.trace_record.specs.Content.{Content}
use Rattle.tracer_workers.specs.Config.{policy_of, show_of}
use Rattle.tracer_workers.specs.HistoryPieces.{stop_piece}
use Rattle.tracer_workers.specs.declared.config.Config.{Config}

-- ---- the pieces of what a tracer has claimed

-- the piece of what a claim takes, by the last event of its row before it: a death, or the stop of this content
abbrev pub claimed_piece : Show → (tid : ℕ) → Content → List Event → Piece
claimed_piece show tid content (event.Exit row death ∷ es) = Died tid (number_in es) death
claimed_piece show tid content other = stop_piece show content

abbrev pub worker_pieces_with : Show → List Row → (tracer : ℕ) → List Entry → Event → List Piece → List Piece
worker_pieces_with show rows tracer h (event.Claim row number claimer) pieces =
    if claimer == tracer
    then pieces
    ++ claimed_piece show (row_at rows row).tid (content_after rows h row) (events_of row (history_of h)) ∷ []
    else pieces
worker_pieces_with show rows tracer h other pieces = pieces

-- in the order of the claims
abbrev pub pieces_claimed : Show → List Row → (tracer : ℕ) → List Entry → List Piece
pieces_claimed show rows tracer [] = []
pieces_claimed show rows tracer (x ∷ h) =
    worker_pieces_with show rows tracer h x.event (pieces_claimed show rows tracer h)

-- those of a tracer's handle
abbrev pub own_pieces : Show → View → List Piece
own_pieces show v = pieces_claimed show v.roster v.number v.seen

-- Of the pieces that came after others, these were kept: the first ones, and all of them unless a growth was refused.
pub record AreKept (before after kept : List Piece) (short : Bool) : Type 0 where
  pub missing : List Piece
  pub all : after ≡ (before ++ kept) ++ missing
  pub whole : short ≡ false → missing ≡ []

-- ---- restarts

-- a claim, or a resume that is the policy's for the content of the stop, and leaves that as it was published; `h` is the
-- history before it
abbrev pub IsService : Config → List Row → (h : List Entry) → Event → Content → Type 0
IsService config rows h (event.Claim row number tracer) content = Unit {0}
IsService config rows h (event.Resume row number how tracer) content =
    (how ≡ policy_of config (content_after rows h row)) × (content ≡ content_after rows h row)
IsService config rows h (event.Publish row number stop) content = ⊥
IsService config rows h (event.Exit row death) content = ⊥

-- of the entries that came after a history, each one of these actors is such a claim or resume; the newest stands first
abbrev pub AreServices : Config → List Row → (Actor → Bool) → (more h : List Entry) → Type 0
AreServices config rows actors [] h = Unit {0}
AreServices config rows actors (x ∷ more) h =
    (actors (actor_of x.event) ≡ true → IsService config rows (more ++ h) x.event x.content)
    × AreServices config rows actors more h

-- since then the handle has only claimed, and restarted by the policy, whatever it had done before
abbrev pub RestartsByPolicy : Config → View → View → Type 0
RestartsByPolicy config v w =
    (more : List Entry) × (w.seen ≡ more ++ v.seen) × AreServices config v.roster (actors_of v) more v.seen

-- each row is unborn or reaped, and so it is in every later history
abbrev pub AreOverForGood : List Row → List Entry → Type 0
AreOverForGood rows h =
    (more : List Entry) → AreLegal rows (more ++ h) → (row : ℕ) → row < length rows
    → is_gone true (state_after rows (history_of (more ++ h)) row) ≡ true

-- ---- between two waits

-- a worker has served all that it has claimed
pub record HasServed (config : Config) (v w : View) (kept : List Piece) (short : Bool) : Type 0 where
  pub same : IsSame v w
  pub free : held_rows w ≡ []
  pub pieces : AreKept (own_pieces (show_of config) v) (own_pieces (show_of config) w) kept short
  pub restarts : RestartsByPolicy config v w

-- a wait has claimed a row's stop, or its death
pub record HasWaited (v w : View) (found : RowStatus) : Type 0 where
  pub raw : ℕ
  pub within : found.row < length v.roster
  pub claimed : Claimed true v w found.row found.number raw
  pub reports : ReportsDeath raw found.death

-- the row was restarted by the policy, with the content of its stop
abbrev pub Restarts : Config → View → View → ℕ → Type 0
Restarts config v w row =
    (before : List Entry) × (number : ℕ) × EndsWith v w before
    (resume_of row number (policy_of config (content_after v.roster v.seen row)) v.number
    (content_after v.roster v.seen row))
