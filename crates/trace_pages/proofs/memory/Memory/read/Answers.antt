-- Each piece of a page goes on with the run, until the buffer is full or no byte is left.
use Rattle.std.proofs.Common.{◌+◌, ◌-◌, length, arith}
use Rattle.trace_pages.proofs.Buffers.{nothing_read, read_more, read_whole, run_above, run_of_absent, run_of_none}
use Rattle.trace_pages.proofs.memory.Memory.read.Goals as goal

pub loop-done-init : goal.loop-done-init
loop-done-init g c = (nothing_read c.args.self.now c.args.addr c.args.to.now, omega arith)

pub returns-in_default-clause-count : goal.returns-in_default-clause-count
returns-in_default-clause-count g c = (read_whole c.args.self.now c.args.addr c.args.to.now c.loop-done.done c.loop-done.at c.loop-done.to c.loop-done.invariant.0
    (run_of_absent c.args.self.now c.loop-done.at _ c.loop-done.invariant.1 c.in_default.ensures)).0

pub returns-in_default-clause-bytes : goal.returns-in_default-clause-bytes
returns-in_default-clause-bytes g c = (read_whole c.args.self.now c.args.addr c.args.to.now c.loop-done.done c.loop-done.at c.loop-done.to c.loop-done.invariant.0
    (run_of_absent c.args.self.now c.loop-done.at _ c.loop-done.invariant.1 c.in_default.ensures)).1

pub returns-in_default-checked_add-clause-count : goal.returns-in_default-checked_add-clause-count
returns-in_default-checked_add-clause-count g c = (read_whole c.args.self.now c.args.addr c.args.to.now (c.loop-done.done + c.min-step.result)
    (c.loop-done.at + c.min-step.result) c.put.new.to (read_more c.args.self.now c.args.addr c.args.to.now c.loop-done.done c.loop-done.at c.loop-done.to c.loop-done.invariant.0
    c.loop-done.invariant.1 c.in-Some.piece.now c.in-Some.ensures c.min-step.result
    (omega (arith, c.min-step.ensures, c.loop-done.auto.to)) c.put.new.to c.put.ensures)
    (run_above c.args.self.now (c.loop-done.at + c.min-step.result) _ (omega (arith, c.in_default-checked_add.ensures)))).0

pub returns-in_default-checked_add-clause-bytes : goal.returns-in_default-checked_add-clause-bytes
returns-in_default-checked_add-clause-bytes g c = (read_whole c.args.self.now c.args.addr c.args.to.now (c.loop-done.done + c.min-step.result)
    (c.loop-done.at + c.min-step.result) c.put.new.to (read_more c.args.self.now c.args.addr c.args.to.now c.loop-done.done c.loop-done.at c.loop-done.to c.loop-done.invariant.0
    c.loop-done.invariant.1 c.in-Some.piece.now c.in-Some.ensures c.min-step.result
    (omega (arith, c.min-step.ensures, c.loop-done.auto.to)) c.put.new.to c.put.ensures)
    (run_above c.args.self.now (c.loop-done.at + c.min-step.result) _ (omega (arith, c.in_default-checked_add.ensures)))).1

pub loop-done-preserved : goal.loop-done-preserved
loop-done-preserved g c = (
  rw c.in-Some-checked_add.ensures.1 (read_more c.args.self.now c.args.addr c.args.to.now c.loop-done.done c.loop-done.at c.loop-done.to c.loop-done.invariant.0
      c.loop-done.invariant.1 c.in-Some.piece.now c.in-Some.ensures c.min-step.result
      (omega (arith, c.min-step.ensures, c.loop-done.auto.to)) c.put.new.to c.put.ensures),
  omega (arith, c.in-Some-checked_add.ensures),
)

pub returns-clause-count : goal.returns-clause-count
returns-clause-count g c = (read_whole c.args.self.now c.args.addr c.args.to.now c.loop-done.done c.loop-done.at c.loop-done.to c.loop-done.invariant.0
    (run_of_none c.args.self.now c.loop-done.at (length c.args.to.now - c.loop-done.done)
    (omega (arith, c.loop-done-test.false, c.loop-done.auto.to)))).0

pub returns-clause-bytes : goal.returns-clause-bytes
returns-clause-bytes g c = (read_whole c.args.self.now c.args.addr c.args.to.now c.loop-done.done c.loop-done.at c.loop-done.to c.loop-done.invariant.0
    (run_of_none c.args.self.now c.loop-done.at (length c.args.to.now - c.loop-done.done)
    (omega (arith, c.loop-done-test.false, c.loop-done.auto.to)))).1
