-- The words are parted at the first one that is looked for.
use Rattle.std.proofs.Common.{◌≡◌, ◌∙◌, ◌+◌, [], ℕ, List, Some, ap, arith, bytes_eq, drop, get_or}
use Rattle.std.proofs.Common.{length, length-drop, length-take, option_map, sym, take, true}
use Rattle.text_lines.specs.Lines.{words_in}
use Rattle.text_lines.specs.Words.{words_left}
use Rattle.text_lines.proofs.Cuts.{at_front, first_at, first_nowhere, first_of_first, none_of_more}
use Rattle.text_lines.proofs.words.Words.split_at.Goals as goal

pub returns-then-eq : goal.returns-then-eq
unfolding words_left
returns-then-eq c =
    let line = c.args.self.rest.now in
    let most = c.args.self.most in
    let word = c.args.word.now in
    let count = c.loop-next.count in
    let ws = take most (words_in line) in
    let after = words_left c.next_word.new.self in
    let front = at_front ws after c.in-Some.next.now [] count (sym c.loop-next.invariant.left ∙ c.in-Some.ensures) in
    let is : bytes_eq (get_or ws count []) word ≡ true =
    ap (λ w. bytes_eq w word) front.1 ∙ sym c.eq.ensures ∙ c.if-eq.true in
    let found = first_at (λ w. bytes_eq w word) [] ws count front.0 c.loop-next.invariant.others is in
    let few = length-take most (words_in line) in
    ap (λ (before : List (List ℕ)). Some (before, after))
    (sym (first_of_first count most (words_in line) (omega (arith, front.0, few))))
    ∙ ap (λ (rest : List (List ℕ)). Some (take count ws, rest)) (sym front.2)
    ∙ sym (ap (option_map (λ i. (take i ws, drop (i + 1) ws))) found)

pub overflow_add-count : goal.overflow_add-count
unfolding words_left
overflow_add-count c =
    let ws = words_left c.args.self in
    let front = at_front ws (words_left c.next_word.new.self) c.in-Some.next.now [] c.loop-next.count
    (sym c.loop-next.invariant.left ∙ c.in-Some.ensures) in
    let few = length-take c.args.self.most (words_in c.args.self.rest.now) in
    omega (arith, front.0, few, c.ranges.self)

pub loop-next-preserved : goal.loop-next-preserved
loop-next-preserved c =
    let ws = words_left c.args.self in
    let front = at_front ws (words_left c.next_word.new.self) c.in-Some.next.now [] c.loop-next.count
    (sym c.loop-next.invariant.left ∙ c.in-Some.ensures) in
    record {
      count = omega (arith, front.0);
      left = sym front.2;
      others = none_of_more (λ w. bytes_eq w c.args.word.now) [] ws c.in-Some.next.now c.loop-next.count
          c.loop-next.invariant.others front.1 (sym c.eq.ensures ∙ c.if-eq.false);
    }

pub returns : goal.returns
returns c =
    let ws = words_left c.args.self in
    let none = ap (λ (xs : List (List ℕ)). length xs) (sym c.loop-next.invariant.left ∙ c.in_default.ensures.0) in
    let size = length-drop c.loop-next.count ws in
    sym (ap (option_map (λ i. (take i ws, drop (i + 1) ws)))
    (first_nowhere (λ w. bytes_eq w c.args.word.now) [] ws
    (λ k below. c.loop-next.invariant.others k (omega (arith, none, size, below)))))
