-- What was added so far, and the commands that are left, are all commands.
use Rattle.std.proofs.Common.{◌≡◌, ◌++◌, drop, map}
use Rattle.litmus_files.specs.LitmusFile.{leaving_line}
use Rattle.litmus_files.proofs.copies.copy_body.Given as goal

abbrev pub invariant-loop-command : goal.invariant-loop-command
invariant-loop-command g l =
    l.lines.items ++ map (leaving_line l.thread l.leave_to) (drop l.command-index l.body)
    ≡ l.fn.lines.items ++ map (leaving_line l.thread l.leave_to) l.body
