-- A run is its turns one after the other, each from the moment that the turns before it came to.
use Rattle.std.proofs.Common.{◌≡◌, ◌∙◌, rules, ◌++◌, ◌∷◌, []}
use Rattle.stop_board.proofs.Runs.{all_told, come_to, one_more}
use Rattle.stop_board.proofs.world.World.run.Goals as goal

pub loop-turn-preserved : goal.loop-turn-preserved
loop-turn-preserved g c =
    let pushed : c.push.new.self.items ≡ c.loop-turn.replies.items ++ c.step.result ∷ [] = search rules in
    record {
      room = search rules;
      rows = c.step.ensures.rows ∙ c.loop-turn.invariant.rows;
      tracers = c.step.ensures.tracers ∙ c.loop-turn.invariant.tracers;
      told = search rules;
      so_far = λ start s.
          let before = c.loop-turn.invariant.so_far start s in (
            _,
            (
              rw (c.loop-turn.invariant.rows, c.loop-turn.invariant.tracers) at
                  (c.step.ensures.stands before.0 before.1),
              rw (c.loop-turn.invariant.rows, c.loop-turn.invariant.tracers) at (c.step.ensures.seen before.0 before.1),
            ),
            rw pushed (one_more c.args.self.now.rows c.args.self.now.tracers start c.args.turns.now before.0
                c.loop-turn.turn-index _ c.loop-turn.replies.items c.step.result
                c.loop-turn-test.true before.2
                (rw (c.loop-turn.invariant.rows, c.loop-turn.invariant.tracers) at
                (c.step.ensures.reply before.0 before.1))),
          );
    }

pub returns-clause-replies : goal.returns-clause-replies
returns-clause-replies g c = λ m s.
    let at = c.loop-turn.invariant.so_far m s in
    all_told c.args.self.now.rows c.args.self.now.tracers m c.args.turns.now at.0 c.loop-turn.turn-index
    c.loop-turn.replies.items c.loop-turn-test.false at.2

pub returns-clause-stands : goal.returns-clause-stands
returns-clause-stands g c = λ m s.
    let at = c.loop-turn.invariant.so_far m s in
    rw (← come_to c.args.self.now.rows c.args.self.now.tracers m c.args.turns.now at.0 c.loop-turn.turn-index
    c.loop-turn.replies.items c.loop-turn-test.false at.2) at.1
