-- One more argument is written.
use Rattle.std.proofs.Common.{◌+◌}
use Rattle.record_printer.specs.Arguments.{argument_at}
use Rattle.record_printer.proofs.Indices.{one_more}
use Rattle.record_printer.proofs.call.arguments.write_arguments.Goals as goal

pub loop-index-preserved : goal.loop-index-preserved
loop-index-preserved g c =
    let call = c.args.call.now in
    one_more (argument_at call.limit call.stop.now call.kinds.now) c.loop-index.index (c.args.start + c.args.count)
    _ _ _ c.loop-index-test.true c.in_ok-write_argument_at.ensures c.loop-index.invariant
