-- One copy more.
use Rattle.std.proofs.Common.{◌≡◌, ◌++◌, ℕ, arith, map, subst}
use Rattle.litmus_files.specs.LitmusFile.{copies_of, leaving_line}
use Rattle.litmus_files.proofs.LitmusCopies.{no_copies, one_more_copy}
use Rattle.litmus_files.proofs.copies.add_copies.Goals as goal

pub loop-init : goal.loop-init
loop-init g c = no_copies (leaving_line c.args.thread c.args.leave_to) c.args.lines.now.items c.args.body.now

pub loop-preserved : goal.loop-preserved
loop-preserved g c =
    one_more_copy (leaving_line c.args.thread c.args.leave_to) c.args.lines.now.items c.loop.lines.items _
    c.loop.counter c.args.body.now c.loop.invariant c.in_ok-copy_body.ensures

pub returns : goal.returns
returns g c =
    let done : c.loop.counter ≡ c.args.times = omega (arith, c.loop-test.false, c.loop.auto.counter-end) in
    let HasCopies : ℕ → Type 0 = λ n.
    c.loop.lines.items
    ≡ c.args.lines.now.items ++ map (leaving_line c.args.thread c.args.leave_to) (copies_of n c.args.body.now) in
    subst HasCopies done c.loop.invariant
