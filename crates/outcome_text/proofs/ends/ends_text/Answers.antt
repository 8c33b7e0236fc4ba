-- The lines are those of the ends, and there are as many outcomes as are printed.
use Rattle.std.proofs.Common.{◌≡◌, ◌∙◌, ◌++◌, ◌<◌, ◌+◌, ◌^◌, ℕ, List, ap, arith, flat_map, length, map, string_bytes}
use Rattle.std.specs.List.{All}
use Rattle.std.specs.Prelude.{String}
use Rattle.std.proofs.lemmas.List.{length-map}
use Rattle.std.proofs.lemmas.List.Elements.{All-weaker}
use Rattle.stop_program.specs.Run.{EndedRun}
use Rattle.stop_program.specs.Threads.{commands_in}
use Rattle.litmus_files.specs.LitmusDraft.{names_kept}
use Rattle.outcome_text.specs.Chosen.{chosen_of}
use Rattle.outcome_text.specs.OutcomeEnds.{end_line, ends_lines, outcome_end}
use Rattle.outcome_text.specs.OutcomeText.{allowed_line, counts_line}
use Rattle.outcome_text.specs.declared.end_tallies.Tally.{Tally}
use Rattle.outcome_text.proofs.ends.ends_text.Goals as goal

below_most : {Z : Type 0} (entries : List (String Z × Tally)) (outcomes : ℕ) → outcomes < 2 ^ 64
    → All (λ entry. entry.1.first < outcomes) entries → All (λ entry. entry.1.first + 1 < 2 ^ 64) entries
below_most {Z} entries outcomes few all =
    All-weaker (λ (entry : String Z × Tally). entry.1.first < outcomes)
    (λ (entry : String Z × Tally). entry.1.first + 1 < 2 ^ 64)
    (λ entry below. omega (arith, few, below)) entries all

pub write_lines-requires : goal.write_lines-requires
write_lines-requires g c =
    let are = c.in_ok-ends.ensures.tallied in
    let few = c.in_ok-ends.ensures.few in
    let same = c.put_most_first.ensures.outcomes in
    below_most c.put_most_first.new.self.tallies.entries c.put_most_first.new.self.outcomes
    (omega (arith, few, same)) (c.in_ok-put_most_first.ensures.firsts _ are)

pub returns : goal.returns
returns g c =
    let commands = commands_in c.args.program.now.commands.now in
    let end : EndedRun → List ℕ =
    outcome_end c.args.program.now.rows.now (names_kept c.args.program.now.names.now) commands in
    let chosen : List EndedRun =
    chosen_of (length c.args.program.now.commands.now) commands c.args.conditions.now c.args.explored.now.runs in
    let are = c.in_ok-ends.ensures.tallied in
    let lines : string_bytes c.write_lines.new.out ≡ ends_lines (map end chosen) =
    c.in_ok-write_lines.ensures
    ∙ ap (λ t. t ++ flat_map end_line c.put_most_first.new.self.tallies.entries) c.new-out.ensures.bytes
    ∙ c.in_ok-put_most_first.ensures.lines (map end chosen) are in
    let count : c.put_most_first.new.self.outcomes ≡ length chosen =
    c.put_most_first.ensures.outcomes ∙ are.counted ∙ length-map chosen end in
    c.in_ok-write_end.ensures
    ∙ (λ i. lines i ++ (counts_line (count i) (c.places.ensures i) ++ allowed_line c.args.required))
