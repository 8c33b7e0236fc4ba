-- The threads so far.
use Rattle.std.proofs.Common.{◌≡◌, length}
use Rattle.outcome_text.specs.TurnTexts.{AreBeforeTurns, text_source}
use Rattle.outcome_text.proofs.turn_texts.threads_before_turns.Given as goal

abbrev pub invariant-loop-thread : goal.invariant-loop-thread
invariant-loop-thread g l = record {
  long : length l.threads.items ≡ l.thread;
  each : AreBeforeTurns (text_source l.program) l.threads.items;
}
