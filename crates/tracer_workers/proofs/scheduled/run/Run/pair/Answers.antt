-- The worker's turn follows the tracee's.
use Rattle.tracer_workers.proofs.Rounds.{pair_on, turned_stands}
use Rattle.tracer_workers.proofs.scheduled.run.Run.pair.Goals as goal

pub claim-claimed-requires-clause-stands : goal.claim-claimed-requires-clause-stands
claim-claimed-requires-clause-stands g c =
    let now = turned_stands c.requires.0 c.args.self.now c.tracee_turn.new.self c.requires.1 c.args.row c.in_ok-turned.turned
    (c.in_ok-turned.ensures.turned c.requires.0 c.requires.1 c.requires.2 c.requires.3) in
    (c.requires.0, now.0, now.1, c.requires.3)

pub returns-clause-gone : goal.returns-clause-gone
returns-clause-gone g c content h stands within =
    pair_on content c.args.self.now c.tracee_turn.new.self c.claim-claimed.new.self h c.args.row 0 c.in_ok-turned.turned
    c.claim-claimed.result (c.in_ok-turned.ensures.turned content h stands within)
    (λ later there. c.claim-claimed.ensures.claimed content later there within)
