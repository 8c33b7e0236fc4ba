-- None of the words so far is the one that is looked for.
use Rattle.std.proofs.Common.{◌≡◌, ◌<◌, ◌≤◌, [], ℕ, bytes_eq, drop, false, get_or, length}
use Rattle.text_lines.specs.Words.{words_left}
use Rattle.text_lines.proofs.words.Words.split_at.Given as goal

abbrev pub invariant-loop-next : goal.invariant-loop-next
invariant-loop-next l = record {
  count : l.count ≤ length (words_left l.self);
  left : words_left l.left ≡ drop l.count (words_left l.self);
  others : (k : ℕ) → k < l.count → bytes_eq (get_or (words_left l.self) k []) l.word ≡ false;
}

abbrev pub decreases-loop-next : goal.decreases-loop-next
decreases-loop-next l = length (words_left l.left)
