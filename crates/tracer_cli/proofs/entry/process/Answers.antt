-- What a run of the program reads, prints and answers.
use Rattle.std.proofs.Common.{Err}
use Rattle.tracer_cli.proofs.Runs.{untouched}
use Rattle.tracer_cli.proofs.entry.process.Goals as goal

pub returns-in-Err-clause-output : goal.returns-in-Err-clause-output
returns-in-Err-clause-output g c = (
  Err c.arguments_failure.result,
  untouched c.args.output.now (Err c.arguments_failure.result),
  c.fail.ensures.begun,
  c.fail.ensures.status,
)

pub returns-in-Ok-clause-asked : goal.returns-in-Ok-clause-asked
returns-in-Ok-clause-asked g c = rw c.in-Ok.is (rw c.as_slice.ensures.value at c.program.ensures.asked)

pub returns-in-Ok-clause-words : goal.returns-in-Ok-clause-words
returns-in-Ok-clause-words g c = rw c.in-Ok.is (rw c.as_slice.ensures.value at c.program.ensures.words)

pub returns-in-Ok-clause-input : goal.returns-in-Ok-clause-input
returns-in-Ok-clause-input g c = rw c.in-Ok.is (rw c.as_slice.ensures.value at c.program.ensures.input)

pub returns-in-Ok-clause-run : goal.returns-in-Ok-clause-run
returns-in-Ok-clause-run g c = rw c.in-Ok.is (rw c.as_slice.ensures.value at c.program.ensures.run)

pub returns-in-Ok-clause-explore : goal.returns-in-Ok-clause-explore
returns-in-Ok-clause-explore g c = rw c.in-Ok.is (rw c.as_slice.ensures.value at c.program.ensures.explore)
