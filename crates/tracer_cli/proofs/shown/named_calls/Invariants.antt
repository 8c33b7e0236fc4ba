-- The names before the next one are known, and the set has their calls.
use Rattle.std.proofs.Common.{map, Ok, take}
use Rattle.tracer_cli.specs.Shown.{NamesCalls}
use Rattle.tracer_cli.proofs.shown.named_calls.Given as goal

abbrev pub invariant-loop-name : goal.invariant-loop-name
invariant-loop-name l = NamesCalls (take l.name-index (map (λ name. name.now) l.names)) (Ok l.calls)
