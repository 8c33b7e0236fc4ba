-- What is written, and the lines of the ends that are left, are all lines.
use Rattle.std.proofs.Common.{◌≡◌, ◌+◌, ◌<◌, ◌^◌, ◌++◌, flat_map, string_bytes}
use Rattle.std.specs.List.{All}
use Rattle.outcome_text.specs.OutcomeEnds.{end_line}
use Rattle.outcome_text.proofs.end_tallies.EndTallies.write_lines.Given as goal

abbrev pub invariant-loop-end : goal.invariant-loop-end
invariant-loop-end g l = record {
  text : string_bytes l.out ++ flat_map end_line l.end-iterator
      ≡ string_bytes l.fn.out ++ flat_map end_line l.self.tallies.entries;
  firsts : All (λ entry. entry.1.first + 1 < 2 ^ 64) l.end-iterator;
}
