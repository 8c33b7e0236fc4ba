-- A part of a number's bits is at most the number.
use Rattle.std.proofs.Common.{◌-◌, arith}
use Rattle.std.proofs.lemmas.Nat.{and_le_r}
use Rattle.outcome_text.proofs.kept_lines.slot_of.Goals as goal

pub returns : goal.returns
returns c = let most = and_le_r c.mix_of.result (c.args.slots - 1) in omega (arith, most, c.requires)
