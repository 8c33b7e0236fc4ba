-- What was added so far is so many copies.
use Rattle.std.proofs.Common.{◌≡◌, ◌++◌, map}
use Rattle.litmus_files.specs.LitmusFile.{copies_of, leaving_line}
use Rattle.litmus_files.proofs.copies.add_copies.Given as goal

abbrev pub invariant-loop : goal.invariant-loop
invariant-loop g l =
    l.lines.items ≡ l.fn.lines.items ++ map (leaving_line l.thread l.leave_to) (copies_of l.counter l.body)
