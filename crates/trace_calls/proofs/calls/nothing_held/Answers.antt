-- All places were made.
use Rattle.std.proofs.Common.{◌≡◌, ◌∙◌, None, ap, arith, replicate}
use Rattle.trace_calls.proofs.calls.nothing_held.Goals as goal

pub returns : goal.returns
returns g c =
    let all : c.loop.counter ≡ c.args.count = omega arith in
    c.loop.invariant.0 ∙ ap (λ n. replicate n None) all
