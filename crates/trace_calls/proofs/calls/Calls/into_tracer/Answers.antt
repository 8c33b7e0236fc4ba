-- Where the history has no claim of the tracer's, no claim is kept.
use Rattle.std.proofs.Common.{◌≡◌, ◌∙◌, ap, arith, length}
use Rattle.std.proofs.lemmas.List.{nil_from_length}
use Rattle.stop_table.specs.Tracer.{held_rows}
use Rattle.trace_calls.proofs.Keeping.{nothing_kept}
use Rattle.trace_calls.proofs.calls.Calls.into_tracer.Goals as goal

pub discard-requires : goal.discard-requires
discard-requires g c =
    let x = c.self.inside in
    let i = c.self.invariant in
    let short : length (held_rows x.tracer.view) ≡ 0 = omega (arith, c.held.ensures, c.if-held-gt0.false) in
    nothing_kept x.tracer.view x.held.items (i.held_long ∙ ap length i.roster)
    (nil_from_length (held_rows x.tracer.view) short) i.claims
