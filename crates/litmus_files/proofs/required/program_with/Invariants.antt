-- The lines so far, and those that are left, are all lines.
use Rattle.std.proofs.Common.{◌≡◌, ◌++◌, drop}
use Rattle.litmus_files.specs.Required.{program_with}
use Rattle.litmus_files.proofs.required.program_with.Given as goal

abbrev pub invariant-loop-line : goal.invariant-loop-line
invariant-loop-line g l =
    l.program.items ++ program_with l.count (drop l.line-index l.lines) ≡ program_with l.count l.lines
