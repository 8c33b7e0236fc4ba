-- Pair by pair, an event comes, or the row has run out.
use Rattle.std.proofs.Common.{◌∙◌, subst}
use Rattle.tracer_workers.specs.Turn.{HasRunOut}
use Rattle.tracer_workers.proofs.Rounds.{running_stands, runs_on, runs_out}
use Rattle.tracer_workers.proofs.scheduled.run.Run.run_out.Goals as goal

pub pair-requires : goal.pair-requires
pair-requires g c =
    let now = running_stands c.requires.0 c.args.self.now c.pairs.self c.requires.1 c.pairs.moved
    (c.pairs.invariant.running c.requires.0 c.requires.1 c.requires.2 c.requires.3) in
    (c.requires.0, now.0, now.1, c.requires.3)

pub pairs-preserved : goal.pairs-preserved
pairs-preserved g c = record {
  config = c.pair.ensures.config ∙ c.pairs.invariant.config;
  running = λ content h stands within.
      runs_on content c.args.self.now c.pairs.self c.pair.new.self h c.args.row c.pairs.moved
      (λ later there. subst (HasRunOut content c.pairs.self c.pair.new.self later c.args.row) c.if-branch.true
      (c.in_ok-pair.ensures.gone content later there within))
      (c.pairs.invariant.running content h stands within);
}

pub pairs-smaller : goal.pairs-smaller
pairs-smaller g c =
    let now = running_stands c.requires.0 c.args.self.now c.pairs.self c.requires.1 c.pairs.moved
    (c.pairs.invariant.running c.requires.0 c.requires.1 c.requires.2 c.requires.3) in
    let moved = subst (HasRunOut c.requires.0 c.pairs.self c.pair.new.self now.0 c.args.row) c.if-branch.true
    (c.in_ok-pair.ensures.gone c.requires.0 now.0 now.1 c.requires.3) in
    moved.2

pub returns-clause-gone : goal.returns-clause-gone
returns-clause-gone g c content h stands within =
    runs_out content c.args.self.now c.pairs.self c.pair.new.self h c.args.row c.pairs.moved
    (λ later there. subst (HasRunOut content c.pairs.self c.pair.new.self later c.args.row) c.if-branch.false
    (c.in_ok-pair.ensures.gone content later there within))
    (c.pairs.invariant.running content h stands within)
