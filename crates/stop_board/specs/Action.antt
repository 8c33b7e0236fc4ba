-- What an actor asks of the cells in one atomic step, and the reply (ptrace(2), PTRACE_SYSCALL and PTRACE_CONT;
-- waitid(2)). The replies are the sequential answers and two more: a row that its tracee has not taken up is refused to
-- publish and to exit, and a claim that finds another word than the one last seen misses.
use Rattle.std.specs.Prelude.{◌≡◌, ◌≢◌, ℕ, Bool, true, false, nat_lt, List, length, Option, Some, None, Result, Ok}
use Rattle.std.specs.Prelude.{Err, if◌then◌else◌}
use Rattle.trace_record.specs.Death.{IsDeath}
use Rattle.trace_record.specs.Resume.{IsResume}
use Rattle.trace_record.specs.Stop.{IsStop}
use Rattle.trace_record.specs.declared.resume.Resume.{Resume}
use Rattle.stop_board.specs.declared.world.action.Action.{Action}
use Rattle.stop_board.specs.declared.world.action.Action.TheVariants as action
use Rattle.stop_board.specs.declared.world.action.Reply.{Reply}
use Rattle.stop_board.specs.declared.world.action.Reply.TheVariants as reply
use Rattle.stop_history.specs.declared.phase.Phase.{Phase}
use Rattle.stop_history.specs.declared.refused.Refused.{Refused}
use Rattle.stop_history.specs.declared.refused.Refused.TheVariants as refused
use Rattle.stop_history.specs.declared.roster.Row.{Row}
use Rattle.stop_history.specs.declared.state.State.{State}
use Rattle.stop_history.specs.declared.state.State.TheVariants as state
use Rattle.stop_history.specs.Change.{Change, Happened, Nothing, TakenUp, restart_in}
use Rattle.stop_history.specs.Event as event
use Rattle.stop_history.specs.History.{creates_next, holding_back}
use Rattle.stop_history.specs.Sequential.{and_then, next_number, resume_by, running_by, unless_held}
use Rattle.stop_history.specs.State.{is_waitable}
use Rattle.stop_history.specs.Word.{Word, shown}

-- an action that a caller may ask for: its stop, restart or death is one that there is
abbrev pub IsAction : Action → Type 0
IsAction (action.Publish stop) = IsStop stop
IsAction (action.Resume row how) = IsResume how
IsAction (action.Exit death) = IsDeath death
IsAction other = Unit {0}

-- what a reply depends on: of each row its state, its word, and whether it is taken up
pub record Sight : Type 0 where
  pub states : ℕ → State
  pub words : ℕ → Word
  pub taken : ℕ → Bool

-- ---- the replies

-- an answer or a refusal, as a reply
abbrev pub numbered : Result ℕ Refused → Reply
numbered (Ok number) = reply.Number number
numbered (Err refusal) = reply.Refused refusal

abbrev pub took : Result Resume Refused → Reply
took (Ok how) = reply.Took how
took (Err refusal) = reply.Refused refusal

abbrev pub done : Result (Unit {0}) Refused → Reply
done (Ok answer) = reply.Done
done (Err refusal) = reply.Refused refusal

abbrev pub look_reply : List Row → Sight → ℕ → Reply
look_reply rows sight row =
    if nat_lt row (length rows) then reply.Word (sight.words row) else reply.Refused refused.NoRow

-- a row that is to publish or to exit runs, and its tracee has taken it up
abbrev pub taken_by : State → Bool → Result (Unit {0}) Refused
taken_by at taken = and_then (running_by at) (if taken then Ok tt else Err refused.NotTaken)

abbrev pub TraceeReplies : List Row → Sight → ℕ → Action → Reply → Type 0
TraceeReplies rows sight row (action.Look other) r = r ≡ look_reply rows sight other
TraceeReplies rows sight row action.TakeUp r =
    r ≡ took (and_then (running_by (sight.states row)) (restart_in (sight.words row).phase))
TraceeReplies rows sight row (action.Publish stop) r =
    r ≡ numbered (and_then (taken_by (sight.states row) (sight.taken row))
    (next_number (creates_next rows row (sight.words row).births stop) (sight.words row).number))
TraceeReplies rows sight row (action.Exit death) r =
    r ≡ done (and_then (taken_by (sight.states row) (sight.taken row))
    (unless_held (holding_back rows sight.states row)))
TraceeReplies rows sight row a r = r ≡ reply.Refused refused.NoRow

-- whether a word of this phase shows a stop or a death to report (waitid(2)), which neither its number nor whether
-- its row is born decides
abbrev pub waits : Phase → Bool
waits at = is_waitable (shown true 0 at)

-- a claim that compares the row's word with the one last seen: got, missed, or nothing to claim in what was seen
abbrev pub Exchanges : (last now : Word) → Reply → Type 0
Exchanges last now (reply.Got word) = (waits last.phase ≡ true) × (last ≡ now) × (word ≡ now)
Exchanges last now (reply.Missed word) = (waits last.phase ≡ true) × (last ≢ now) × (word ≡ now)
Exchanges last now (reply.Refused refusal) = (waits last.phase ≡ false) × (refusal ≡ refused.NotWaitable)
Exchanges last now other = ⊥

abbrev pub ClaimReplies : State → (last now : Word) → Reply → Type 0
ClaimReplies state.Absent last now r = r ≡ reply.Refused refused.NoRow
ClaimReplies state.Unborn last now r = r ≡ reply.Refused refused.Unborn
ClaimReplies at last now r = Exchanges last now r

-- `last` is the word that the tracer last saw in each row
abbrev pub TracerReplies : List Row → Sight → (last : ℕ → Word) → ℕ → Action → Reply → Type 0
TracerReplies rows sight last tracer (action.Look row) r = r ≡ look_reply rows sight row
TracerReplies rows sight last tracer (action.Claim row) r =
    ClaimReplies (sight.states row) (last row) (sight.words row) r
TracerReplies rows sight last tracer (action.Resume row how) r = r ≡ done (resume_by tracer (sight.states row))
TracerReplies rows sight last tracer a r = r ≡ reply.Refused refused.NoRow

-- ---- what a reply says of the step

abbrev pub tracee_change : ℕ → Action → Reply → Change
tracee_change row action.TakeUp (reply.Took how) = TakenUp row
tracee_change row (action.Publish stop) (reply.Number number) = Happened (event.Publish row number stop)
tracee_change row (action.Exit death) reply.Done = Happened (event.Exit row death)
tracee_change row a r = Nothing

abbrev pub tracer_change : (ℕ → Word) → ℕ → Action → Reply → Change
tracer_change words tracer (action.Claim row) (reply.Got word) = Happened (event.Claim row word.number tracer)
tracer_change words tracer (action.Resume row how) reply.Done =
    Happened (event.Resume row (words row).number how tracer)
tracer_change words tracer a r = Nothing

-- the row whose word a tracer has seen: it looked at it, missed it, or put it there itself
abbrev pub row_seen : Action → Reply → Option ℕ
row_seen (action.Look row) (reply.Word word) = Some row
row_seen (action.Claim row) (reply.Missed word) = Some row
row_seen (action.Claim row) (reply.Got word) = Some row
row_seen (action.Resume row how) reply.Done = Some row
row_seen a r = None
