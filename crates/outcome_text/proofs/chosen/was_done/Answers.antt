-- The next turn of the thread did the command, or is gone by.
use Rattle.std.proofs.Common.{◌∙◌, ◌+◌, ap, drop, sym}
use Rattle.outcome_text.proofs.DoneTurns.{done_here, done_later, done_not_here, done_over, is_left}
use Rattle.outcome_text.proofs.chosen.was_done.Goals as goal
use Rattle.outcome_text.proofs.chosen.was_done.Goals.{then-turn-thread+else-next-at, else-turn-thread}

pub returns-then-next-at : goal.returns-then-next-at
returns-then-next-at c =
    sym (done_here c.args.commands.now c.args.at c.args.thread c.loop-turn.next c.args.turns.now c.loop-turn.turn-index _
    c.loop-turn-test.true c.if-turn-thread.true c.if-next-at.true)
    ∙ c.loop-turn.invariant

pub loop-turn-preserved : goal.loop-turn-preserved
loop-turn-preserved c =
    let rest = drop (c.loop-turn.turn-index + 1) c.args.turns.now in
    elim c.if-turn-thread.branch [
      | then-turn-thread+else-next-at w ↦
          ap (λ next. is_left c.args.commands.now c.args.at c.args.thread next rest) (w.next-is ∙ w.index_after-next.ensures)
          ∙ sym (done_later c.args.commands.now c.args.at c.args.thread c.loop-turn.next c.args.turns.now
          c.loop-turn.turn-index _ c.loop-turn-test.true w.if-turn-thread.true w.if-next-at.false)
          ∙ c.loop-turn.invariant
      | else-turn-thread w ↦
          ap (λ next. is_left c.args.commands.now c.args.at c.args.thread next rest) w.next-is
          ∙ sym (done_not_here c.args.commands.now c.args.at c.args.thread c.loop-turn.next c.args.turns.now
          c.loop-turn.turn-index _ c.loop-turn-test.true w.if-turn-thread.false)
          ∙ c.loop-turn.invariant
    ]

pub returns : goal.returns
returns c =
    sym (done_over c.args.commands.now c.args.at c.args.thread c.loop-turn.next c.args.turns.now c.loop-turn.turn-index
    c.loop-turn-test.false)
    ∙ c.loop-turn.invariant
