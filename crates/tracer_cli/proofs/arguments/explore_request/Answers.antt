-- The options that were found, or both that do not go together.
use Rattle.std.proofs.Common.{refl}
use Rattle.tracer_cli.proofs.arguments.explore_request.Goals as goal

pub returns-in-Some : goal.returns-in-Some
returns-in-Some c = (rw c.in-Some.is at c.explore_options.ensures, refl)
