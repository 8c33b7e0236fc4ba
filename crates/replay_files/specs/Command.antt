-- The ranges of a command: what the stop board asks of a stop, a restart and a death.
use Rattle.trace_record.specs.Stop.{IsStop}
use Rattle.trace_record.specs.Resume.{IsResume}
use Rattle.trace_record.specs.Death.{IsDeath}
use Rattle.replay_files.specs.declared.command.Command.{Command}
use Rattle.replay_files.specs.declared.order.Order.{Order}
use Rattle.replay_files.specs.declared.command.Command.TheVariants.{Publish, Claim, Resume, Exit, State}

abbrev pub IsCommand : Command → Type 0
IsCommand (Publish stop) = IsStop stop
IsCommand (Claim tracer) = Unit {0}
IsCommand (Resume tracer how) = IsResume how
IsCommand (Exit death) = IsDeath death
IsCommand State = Unit {0}

-- the command of an order is in range
abbrev pub IsOrder : Order → Type 0
IsOrder order = IsCommand order.command
