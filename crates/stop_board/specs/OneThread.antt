-- One thread that plays every actor of a World, one call after the other: what it is answered, and where it comes to.
use Rattle.std.specs.Prelude.{◌≡◌, ℕ, true, Result, Ok, Err}
use Rattle.stop_board.specs.declared.world.action.Reply.{Reply}
use Rattle.stop_board.specs.declared.world.action.Reply.TheVariants as reply
use Rattle.stop_history.specs.declared.got.Got.{Got}
use Rattle.stop_history.specs.declared.phase.Phase.{Phase}
use Rattle.stop_history.specs.declared.refused.Refused.{Refused}
use Rattle.stop_history.specs.declared.refused.Refused.TheVariants as refused
use Rattle.stop_history.specs.Event.{History}
use Rattle.stop_history.specs.Sequential.{claim_state}
use Rattle.stop_history.specs.Word.{shown}
use Rattle.stop_board.specs.World.{Moment, Contents, StandsAt}

-- a World stands at a moment with this history
abbrev pub HasHistory : Contents → History → Type 0
HasHistory world h = (m : Moment) × StandsAt world m × (m.history ≡ h)

-- the number of a stop that was published, or the refusal; other replies are to other actions
abbrev pub published_in : Reply → Result ℕ Refused
published_in (reply.Number number) = Ok number
published_in (reply.Refused refusal) = Err refusal
published_in other = Err refused.NotRunning

-- what is done, or the refusal
abbrev pub done_in : Reply → Result (Unit {0}) Refused
done_in reply.Done = Ok tt
done_in (reply.Refused refusal) = Err refusal
done_in other = Err refused.NotRunning

-- the stop or the death that a claimed word showed
abbrev pub got_of : ℕ → Phase → Result Got Refused
got_of number at = claim_state (shown true number at)

abbrev pub got_in : Reply → Result Got Refused
got_in (reply.Got word) = got_of word.number word.phase
got_in (reply.Refused refusal) = Err refusal
got_in other = Err refused.NotWaitable
