-- The first bytes of a whole run are all there, and its first piece has those of its page.
use Rattle.std.proofs.Common.{◌≡◌, ◌+◌, arith}
use Rattle.trace_pages.proofs.Runs.{none_some, run_end-Full}
use Rattle.mem_views.proofs.Fronts.{run-front, run_end-front_rest}
use Rattle.mem_views.proofs.runs.front_of_run.Goals as goal

pub unreachable-requires : goal.unreachable-requires
unreachable-requires g c =
    let here : c.args.at + 0 ≡ c.args.at = omega arith in
    let some = rw here at
    ((run_end-Full c.args.memory.now c.args.at c.args.left c.requires.full 0 c.requires.some).1) in
    none_some _ c.in_default.ensures some

pub returns-clause-run : goal.returns-clause-run
returns-clause-run g c = run-front c.args.memory.now c.args.at c.args.left c.min.result c.in-Some.piece.now
    (omega arith) c.in-Some.ensures (omega arith) (omega arith) c.requires.full

pub returns-clause-full : goal.returns-clause-full
returns-clause-full g c = run_end-front_rest c.args.memory.now c.args.at c.args.left c.min.result c.in-Some.piece.now
    (omega arith) c.in-Some.ensures (omega arith) (omega arith) c.requires.full
