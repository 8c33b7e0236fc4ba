-- The command is among those that the turns left do, or is not done at all.
use Rattle.std.proofs.Common.{◌≡◌, drop}
use Rattle.outcome_text.proofs.DoneTurns.{is_left}
use Rattle.outcome_text.proofs.chosen.was_done.Given as goal

abbrev pub invariant-loop-turn : goal.invariant-loop-turn
invariant-loop-turn l =
    is_left l.commands l.at l.thread l.next (drop l.turn-index l.turns) ≡ is_left l.commands l.at l.thread 0 l.turns
