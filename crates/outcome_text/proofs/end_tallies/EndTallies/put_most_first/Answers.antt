-- The closure compares by the counts, the greater one first.
use Rattle.std.proofs.Common.{◌<◌, rules}
use Rattle.std.proofs.lemmas.List.Sorted.{All-permutation, answers_always}
use Rattle.outcome_text.proofs.EndLines.{comes_first, first_orders, sorted_lines}
use Rattle.outcome_text.proofs.EndTallies.{firsts_few}
use Rattle.outcome_text.proofs.end_tallies.EndTallies.put_most_first.Goals as goal

pub returns-clause-lines : goal.returns-clause-lines
returns-clause-lines g c = λ ends are.
    let compares = answers_always _ _ _ (λ f a r q k. search rules) in
    sorted_lines c.args.self.now.tallies.entries c.sort_by.new.self.entries c.args.self.now.outcomes ends are
    c.sort_by.ensures.reordered.0 (c.in_ok-sort_by.ensures.sorted comes_first first_orders compares)
    (c.sort_by.ensures.stable comes_first first_orders compares)

pub returns-clause-firsts : goal.returns-clause-firsts
returns-clause-firsts g c = λ ends are.
    All-permutation (λ entry. entry.1.first < c.args.self.now.outcomes) c.args.self.now.tallies.entries
    c.sort_by.new.self.entries c.sort_by.ensures.reordered.0
    (firsts_few c.args.self.now.tallies.entries c.args.self.now.outcomes ends are)
