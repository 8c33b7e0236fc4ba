-- The next outcome is chosen, or one of the others is.
use Rattle.std.proofs.Common.{◌∙◌, length, sym}
use Rattle.stop_program.specs.Threads.{commands_in}
use Rattle.outcome_text.specs.Chosen.{is_chosen}
use Rattle.outcome_text.proofs.SomeChosen.{some_here, some_later}
use Rattle.outcome_text.proofs.searched.is_some_chosen.Goals as goal

pub returns-then-is_chosen : goal.returns-then-is_chosen
returns-then-is_chosen c =
    sym (some_here (is_chosen (length c.args.commands.now) (commands_in c.args.commands.now) c.args.conditions.now)
    c.args.explored.now.runs c.loop-number.number c.read.new.run c.in_ok-read.ensures
    (sym c.is_chosen.ensures ∙ c.if-is_chosen.true))
    ∙ c.loop-number.invariant

pub loop-number-preserved : goal.loop-number-preserved
loop-number-preserved c =
    sym (some_later (is_chosen (length c.args.commands.now) (commands_in c.args.commands.now) c.args.conditions.now)
    c.args.explored.now.runs c.loop-number.number c.read.new.run c.in_ok-read.ensures
    (sym c.is_chosen.ensures ∙ c.if-is_chosen.false))
    ∙ c.loop-number.invariant
