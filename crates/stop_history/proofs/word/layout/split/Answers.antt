-- The lowest bits are what a mask of as many ones leaves.
use Rattle.std.proofs.lemmas.Nat.{and_mask, one_shl}
use Rattle.stop_history.proofs.word.layout.split.Goals as goal

pub returns-clause-low : goal.returns-clause-low
returns-clause-low c = rw (one_shl c.args.bits 64 c.requires) (and_mask c.args.raw c.args.bits)
