-- The run of addresses, page by page: whole, or ended where a page is absent.
use Rattle.std.proofs.Common.{◌≡◌, ◌≤◌, ◌+◌, ◌^◌, length, sym, ap, ◌∙◌, arith}
use Rattle.trace_pages.specs.FlatMemory.{run_end}
use Rattle.trace_pages.specs.Memory.{store_answer}
use Rattle.trace_pages.proofs.Runs.{run_end-absent, run_end-none, run_end-past, run_end-past_top, run_end-piece}
use Rattle.trace_pages.proofs.memory.Memory.check_run.Goals as goal

pub returns-in_default : goal.returns-in_default
returns-in_default g c = sym (ap store_answer (c.loop-left.invariant.same
    ∙ run_end-absent c.args.self.now c.loop-left.at c.loop-left.left
    (omega arith) c.loop-left.invariant.fits c.in_default.ensures))

pub returns-then-left-piece : goal.returns-then-left-piece
returns-then-left-piece g c = sym (ap store_answer (c.loop-left.invariant.same
    ∙ run_end-piece c.args.self.now c.loop-left.at c.loop-left.left c.in-Some.piece.now c.loop-left.invariant.fits
    c.in-Some.ensures c.if-left-piece.true))

pub returns-in_default-checked_add : goal.returns-in_default-checked_add
returns-in_default-checked_add g c =
    let top : 2 ^ 64 ≤ c.loop-left.at + length c.in-Some.piece.now = omega (arith, c.in_default-checked_add.ensures) in
    sym (ap store_answer (c.loop-left.invariant.same
    ∙ run_end-past_top c.args.self.now c.loop-left.at c.loop-left.left c.in-Some.piece.now c.loop-left.invariant.fits
    c.in-Some.ensures (omega arith) top))

pub loop-left-preserved : goal.loop-left-preserved
loop-left-preserved g c = record {
  same = rw c.in-Some-checked_add.ensures.1 (c.loop-left.invariant.same
      ∙ run_end-past c.args.self.now c.loop-left.at c.loop-left.left c.in-Some.piece.now c.loop-left.invariant.fits
      c.in-Some.ensures (omega arith));
  fits = omega (arith, c.in-Some-checked_add.ensures);
}

pub returns : goal.returns
returns g c =
    let none : c.loop-left.left ≡ 0 = omega arith in
    sym (ap store_answer (c.loop-left.invariant.same ∙ ap (run_end c.args.self.now c.loop-left.at) none
    ∙ run_end-none c.args.self.now c.loop-left.at))
