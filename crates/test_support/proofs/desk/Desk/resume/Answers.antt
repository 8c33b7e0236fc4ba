-- A resume leaves the other claims in hand.
use Rattle.test_support.proofs.desk.Desk.resume.Goals as goal

pub returns-clause-others : goal.returns-clause-others
returns-clause-others g c = λ other word content apart holding.
    let made = c.resume.ensures.made in
    c.claims_stay_in_hand.ensures.events c.args.self.now.tracer.view c.resume.new.self.view made.0 _ other word content
    c.number.ensures.handle.mine made.1 apart holding
