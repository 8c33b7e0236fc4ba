-- A look leaves all claims in hand.
use Rattle.test_support.proofs.desk.Desk.look.Goals as goal

pub returns-then-row-self-clause-others : goal.returns-then-row-self-clause-others
returns-then-row-self-clause-others g c = λ other word content holding.
    c.claims_stay_in_hand.ensures.looks c.args.self.now.tracer.view c.look.new.self.view other word content
    c.number.ensures.handle.mine c.look.ensures.shown.0.grows holding
