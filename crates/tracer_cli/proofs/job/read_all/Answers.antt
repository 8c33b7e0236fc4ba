-- What a run of the program reads, prints and answers.
use Rattle.std.proofs.Common.{ap}
use Rattle.tracer_cli.proofs.Runs.{read_to_limit}
use Rattle.tracer_cli.proofs.job.read_all.Goals as goal

pub returns-in-Ok-clause-read : goal.returns-in-Ok-clause-read
returns-in-Ok-clause-read g c =
    read_to_limit (g.R.Read.remaining c.args.input.now) _ _ _ _ _
    (ap (λ r. g.R.Read.remaining r.now) c.take.ensures.inner) c.take.ensures.limit c.in_ok-bytes.ensures.items
    c.in-Ok.ensures.bytes
