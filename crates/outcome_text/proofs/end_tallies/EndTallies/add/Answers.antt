-- The tally that is put into the map is that of the end so far, and one outcome more.
use Rattle.std.proofs.Common.{◌∙◌, Option, ap, arith, string_bytes}
use Rattle.std.specs.Map.{lookup}
use Rattle.std.specs.Prelude.{bytes_eq}
use Rattle.outcome_text.specs.declared.end_tallies.Tally.{Tally}
use Rattle.outcome_text.proofs.EndTallies.{found_few, next_tally, tallied_more}
use Rattle.outcome_text.proofs.end_tallies.EndTallies.add.Goals as goal
use Rattle.outcome_text.proofs.end_tallies.EndTallies.add.Goals.{in-Some, in-None}

pub overflow_add-tally : goal.overflow_add-tally
overflow_add-tally g c =
    let few = c.requires.few in
    let found = found_few c.args.self.now.tallies.entries c.args.self.now.outcomes c.requires.tallied.0
    c.as_str.result.now c.in-Some.tally.now c.requires.tallied.1 c.in-Some.ensures.value in
    omega (arith, few, found)

pub returns-clause-tallied : goal.returns-clause-tallied
returns-clause-tallied g c = λ ends are.
    let entries = c.args.self.now.tallies.entries in
    let next : Option Tally → Tally = λ found. next_tally found c.args.self.now.outcomes in
    let same = ap (λ bytes. next (lookup (λ k. bytes_eq bytes (string_bytes k)) entries)) c.as_str.ensures.value in
    elim c.match-get.branch [
      | in-Some w ↦
          rw w.self-is
          (tallied_more entries c.insert.new.self.entries c.args.self.now.outcomes ends c.args.end c.match-get.tally are
          (w.tally-is ∙ ap next w.in-Some.ensures.value ∙ same) (rw w.self-is at c.in_ok-insert.ensures.entries))
      | in-None w ↦
          rw w.self-is
          (tallied_more entries c.insert.new.self.entries c.args.self.now.outcomes ends c.args.end c.match-get.tally are
          (w.tally-is ∙ ap next w.in-None.ensures.value ∙ same) (rw w.self-is at c.in_ok-insert.ensures.entries))
    ]
