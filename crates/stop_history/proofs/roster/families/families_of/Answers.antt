-- What each row is to those before it, row by row.
use Rattle.std.proofs.Common.{arith, refl, rules}
use Rattle.stop_history.proofs.Families.{one_more_place}
use Rattle.stop_history.proofs.roster.families.families_of.Goals as goal

pub loop-at-init : goal.loop-at-init
loop-at-init c = record { whole = refl; so_far = λ row none. absurd (omega (arith, none)) }

pub loop-at-preserved : goal.loop-at-preserved
loop-at-preserved c = record {
  whole = search rules;
  so_far = λ row within.
      rw c.family_of.ensures (one_more_place c.args.rows.now c.loop-at.families c.loop-at.at (omega arith)
      c.loop-at.invariant.so_far row (omega (arith, within)));
}

pub returns : goal.returns
returns c = λ row within. c.loop-at.invariant.so_far row (omega (arith, within))
