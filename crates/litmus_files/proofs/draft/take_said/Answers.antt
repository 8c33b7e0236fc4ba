-- What is known of a draft is known with one more line.
use Rattle.std.proofs.Common.{Ok, ap, sym}
use Rattle.std.specs.Option.{option_map}
use Rattle.litmus_files.specs.LitmusCondition.{condition_asked}
use Rattle.litmus_files.specs.LitmusLine as line
use Rattle.litmus_files.specs.LitmusDraft.{litmus_reading_of}
use Rattle.litmus_files.proofs.LitmusRanges.{taken_kept}
use Rattle.litmus_files.proofs.draft.take_said.Goals as goal

pub returns-in-End-clause-range : goal.returns-in-End-clause-range
returns-in-End-clause-range g c =
    taken_kept c.end_repeat.result c.args.number (litmus_reading_of c.args.draft.now) (litmus_reading_of c.end_repeat.new.draft)
    line.End c.requires.draft tt c.end_repeat.ensures

pub returns-in-Command-clause-range : goal.returns-in-Command-clause-range
returns-in-Command-clause-range g c =
    taken_kept c.take_command.result c.args.number (litmus_reading_of c.args.draft.now)
    (litmus_reading_of c.take_command.new.draft) (line.Command c.in-Command.command)
    c.requires.draft (rw c.in-Command.is at c.requires.said) c.take_command.ensures

pub returns-in-Thread-clause-range : goal.returns-in-Thread-clause-range
returns-in-Thread-clause-range g c =
    taken_kept c.take_thread.result c.args.number (litmus_reading_of c.args.draft.now) (litmus_reading_of c.take_thread.new.draft)
    (line.Thread c.in-Thread.voice (option_map (λ n. n.now) c.in-Thread.name)) c.requires.draft
    (rw c.in-Thread.is at c.requires.said)
    c.take_thread.ensures

pub returns-in-Only-clause-range : goal.returns-in-Only-clause-range
returns-in-Only-clause-range g c =
    taken_kept c.take_condition.result c.args.number (litmus_reading_of c.args.draft.now)
    (litmus_reading_of c.take_condition.new.draft) (line.Only (condition_asked c.in-Only.condition))
    c.requires.draft tt c.take_condition.ensures

pub returns-in-Row-clause-range : goal.returns-in-Row-clause-range
returns-in-Row-clause-range g c =
    taken_kept c.take_row.result c.args.number (litmus_reading_of c.args.draft.now)
    (litmus_reading_of c.take_row.new.draft) (line.Declares c.in-Row.row) c.requires.draft tt
    c.take_row.ensures

pub returns-in-Repeat-clause-range : goal.returns-in-Repeat-clause-range
returns-in-Repeat-clause-range g c =
    taken_kept (Ok tt) c.args.number (litmus_reading_of c.args.draft.now)
    (litmus_reading_of c.open_repeat.new.draft) (line.Repeat c.in-Repeat.times)
    c.requires.draft tt (ap Ok (sym c.open_repeat.ensures))
