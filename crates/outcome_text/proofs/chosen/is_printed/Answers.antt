-- Where nothing is asked each outcome is chosen.
use Rattle.std.proofs.Common.{◌∙◌, sym}
use Rattle.outcome_text.proofs.AllChosen.{each_is_chosen}
use Rattle.outcome_text.proofs.chosen.is_printed.Goals as goal

pub returns-then-all : goal.returns-then-all
returns-then-all g c =
    c.if-all.true
    ∙ sym (each_is_chosen c.args.commands.now c.args.conditions.now (sym c.requires ∙ c.if-all.true) c.args.run.now)
