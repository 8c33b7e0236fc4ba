-- A tracee's turn leaves the run where it stands, or takes it on.
use Rattle.std.proofs.Common.{◌<◌, arith, ap, length}
use Rattle.tracer_workers.specs.Scheduled.{RunState}
use Rattle.tracer_workers.proofs.Rounds.{turned_stands}
use Rattle.tracer_workers.proofs.scheduled.run.Run.turn.Goals as goal

pub returns-in_ok-_moved-clause-gone : goal.returns-in_ok-_moved-clause-gone
returns-in_ok-_moved-clause-gone g c content h stands =
    let view = ap (λ (r : RunState). length r.rows) c.self.view_is in
    let long = stands.0.long in
    let within : c.args.actor < length content.rows =
    omega (arith, c.if-actor-rows.true, c.len-rows.ensures, view, long) in
    turned_stands content c.args.self.now c.tracee_turn.new.self h c.args.actor c.in_ok-_moved._moved
    (c.in_ok-_moved.ensures.turned content h stands within)
