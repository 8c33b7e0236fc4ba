-- A claim, and an attempt that gets nothing, leave the other claims in hand.
use Rattle.std.proofs.Common.{ℕ, inl, inr}
use Rattle.stop_table.specs.declared.shown.Shown.{Shown}
use Rattle.stop_table.specs.Claiming.{GetsNothing}
use Rattle.stop_table.specs.Handle.{Grows}
use Rattle.stop_table.specs.View.{View}
use Rattle.test_support.proofs.desk.Desk.claim.Goals as goal

pub returns-in-Stop-clause-others : goal.returns-in-Stop-clause-others
returns-in-Stop-clause-others g c = λ other word content apart holding.
    let made = c.in-Stop.ensures.taken.0 in
    c.claims_stay_in_hand.ensures.events c.args.self.now.tracer.view c.claim.new.self.view made.0 _ other word content
    c.number.ensures.handle.mine made.1 apart holding

pub returns-in-Ended-clause-others : goal.returns-in-Ended-clause-others
returns-in-Ended-clause-others g c = λ other word content apart holding.
    let made = c.in-Ended.ensures.taken.0 in
    c.claims_stay_in_hand.ensures.events c.args.self.now.tracer.view c.claim.new.self.view made.0 _ other word content
    c.number.ensures.handle.mine made.1 apart holding

only_looked : (v w : View) (row : ℕ) (a : Shown) → GetsNothing v w row a → Grows v w
only_looked v w row a (inl last) = last.0.grows
only_looked v w row a (inr lost) = lost.0.grows

pub returns-in-Nothing-clause-others : goal.returns-in-Nothing-clause-others
returns-in-Nothing-clause-others g c = λ other word content apart holding.
    c.claims_stay_in_hand.ensures.looks c.args.self.now.tracer.view c.claim.new.self.view other word content
    c.number.ensures.handle.mine (only_looked _ _ _ _ c.in-Nothing.ensures.taken.0) holding
