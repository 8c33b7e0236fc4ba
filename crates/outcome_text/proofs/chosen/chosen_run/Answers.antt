-- The next outcome that is printed has the next number; where nothing is asked, each outcome has its own.
use Rattle.std.proofs.Common.{◌≡◌, ◌∙◌, ◌+◌, ◌-◌, IfOk, ap, arith, drop, length, subst, sym}
use Rattle.stop_program.specs.Threads.{commands_in}
use Rattle.outcome_text.specs.Chosen.{chosen_of, ending_numbered}
use Rattle.outcome_text.proofs.AllChosen.{all_chosen}
use Rattle.outcome_text.proofs.OutcomeLines.{chosen_here, chosen_not_here, numbered_first, numbered_next}
use Rattle.outcome_text.proofs.chosen.chosen_run.Goals as goal
use Rattle.outcome_text.proofs.chosen.chosen_run.Goals.{then-is_chosen+else-count-number, else-is_chosen}

pub returns-then-asks_nothing : goal.returns-then-asks_nothing
returns-then-asks_nothing g c =
    subst (λ chosen. IfOk c.numbered_run.result (λ found. found ≡ ending_numbered c.args.number chosen))
    (sym (all_chosen c.args.commands.now c.args.conditions.now
    (sym c.asks_nothing.ensures ∙ c.if-asks_nothing.true) c.args.explored.now.runs)) c.numbered_run.ensures

pub returns-then-count-number : goal.returns-then-count-number
returns-then-count-number g c =
    let threads = length c.args.commands.now in
    let commands = commands_in c.args.commands.now in
    let conditions = c.args.conditions.now in
    let runs = c.args.explored.now.runs in
    let at = c.loop-at.at in
    let rest = chosen_of threads commands conditions (drop (at + 1) runs) in
    let one : c.args.number - c.loop-at.count ≡ 1 = omega (arith, c.if-count-number.true) in
    sym (numbered_first (c.args.number - c.loop-at.count) c.read.new.run rest one)
    ∙ ap (ending_numbered (c.args.number - c.loop-at.count))
    (sym (chosen_here threads commands conditions runs at c.read.new.run c.in_ok-read.ensures
    (sym c.is_chosen.ensures ∙ c.if-is_chosen.true)))
    ∙ c.loop-at.invariant.found

pub loop-at-preserved : goal.loop-at-preserved
loop-at-preserved g c =
    let threads = length c.args.commands.now in
    let commands = commands_in c.args.commands.now in
    let conditions = c.args.conditions.now in
    let runs = c.args.explored.now.runs in
    let at = c.loop-at.at in
    let run = c.read.new.run in
    let rest = chosen_of threads commands conditions (drop (at + 1) runs) in
    let told = sym c.is_chosen.ensures in
    elim c.if-is_chosen.branch [
      | then-is_chosen+else-count-number w ↦
          let less : c.args.number - c.if-is_chosen.count ≡ (c.args.number - c.loop-at.count) - 1 =
          omega (arith, w.count-is) in
          record {
            few = omega (arith, w.count-is, c.loop-at.invariant.few);
            found = ap (λ n. ending_numbered n rest) less
                ∙ sym (numbered_next (c.args.number - c.loop-at.count) run rest
                (λ one. w.if-count-number.false (omega (arith, one))))
                ∙ ap (ending_numbered (c.args.number - c.loop-at.count))
                (sym (chosen_here threads commands conditions runs at run c.in_ok-read.ensures
                (told ∙ w.if-is_chosen.true)))
                ∙ c.loop-at.invariant.found;
          }
      | else-is_chosen w ↦ record {
        few = omega (arith, w.count-is, c.loop-at.invariant.few);
        found = ap (λ n. ending_numbered (c.args.number - n) rest) w.count-is
            ∙ ap (ending_numbered (c.args.number - c.loop-at.count))
            (sym (chosen_not_here threads commands conditions runs at run c.in_ok-read.ensures
            (told ∙ w.if-is_chosen.false)))
            ∙ c.loop-at.invariant.found;
      }
    ]
