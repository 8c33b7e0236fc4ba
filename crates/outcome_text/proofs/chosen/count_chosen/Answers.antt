-- The next outcome is chosen, or left out; where nothing is asked, all are chosen.
use Rattle.std.proofs.Common.{◌∙◌, ap, arith, length, sym}
use Rattle.stop_program.specs.Threads.{commands_in}
use Rattle.outcome_text.proofs.AllChosen.{all_chosen}
use Rattle.outcome_text.proofs.OutcomeLines.{chosen_here, chosen_not_here}
use Rattle.outcome_text.proofs.chosen.count_chosen.Goals as goal
use Rattle.outcome_text.proofs.chosen.count_chosen.Goals.{then-is_chosen, else-is_chosen}

pub returns-then-asks_nothing : goal.returns-then-asks_nothing
returns-then-asks_nothing g c =
    c.len.ensures
    ∙ sym (ap length (all_chosen c.args.commands.now c.args.conditions.now
    (sym c.asks_nothing.ensures ∙ c.if-asks_nothing.true) c.args.explored.now.runs))

pub loop-number-preserved : goal.loop-number-preserved
loop-number-preserved g c =
    let threads = length c.args.commands.now in
    let commands = commands_in c.args.commands.now in
    let conditions = c.args.conditions.now in
    let runs = c.args.explored.now.runs in
    let number = c.loop-number.number in
    let told = sym c.is_chosen.ensures in
    elim c.if-is_chosen.branch [
      | then-is_chosen w ↦
          let here = ap length (chosen_here threads commands conditions runs number c.read.new.run c.in_ok-read.ensures
          (told ∙ w.if-is_chosen.true)) in
          record {
            few = omega (arith, w.count-is, c.loop-number.invariant.few);
            all = omega (arith, w.count-is, here, c.loop-number.invariant.all);
          }
      | else-is_chosen w ↦
          let gone = ap length (chosen_not_here threads commands conditions runs number c.read.new.run
          c.in_ok-read.ensures (told ∙ w.if-is_chosen.false)) in
          record {
            few = omega (arith, w.count-is, c.loop-number.invariant.few);
            all = omega (arith, w.count-is, gone, c.loop-number.invariant.all);
          }
    ]
