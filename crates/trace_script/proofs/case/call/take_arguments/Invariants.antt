-- None of the words so far is `=`, and each is an argument.
use Rattle.std.proofs.Common.{◌≡◌, ◌<◌, ◌≤◌, [], ℕ, drop, false, get_or, length, map, take}
use Rattle.text_lines.specs.Words.{words_left}
use Rattle.trace_script.specs.CaseLine.{is_equals}
use Rattle.trace_script.proofs.case.call.take_arguments.Given as goal

abbrev pub invariant-loop-word : goal.invariant-loop-word
invariant-loop-word l = record {
  few : l.count ≤ 6;
  long : length l.arguments ≡ 6;
  left : words_left l.words ≡ drop l.count (words_left l.fn.words);
  others : (k : ℕ) → k < l.count → is_equals (get_or (words_left l.fn.words) k []) ≡ false;
  kept : map (λ w. w.now) (take l.count l.arguments) ≡ take l.count (words_left l.fn.words);
}

abbrev pub decreases-loop-word : goal.decreases-loop-word
decreases-loop-word l = length (words_left l.words)
