-- The next end has its line.
use Rattle.std.proofs.Common.{◌≡◌, ◌∙◌, ◌+◌, ◌<◌, ◌^◌, ◌++◌, ◌∷◌, [], ℕ, List, ap, flat_map, string_bytes, subst}
use Rattle.std.specs.List.{All}
use Rattle.std.specs.Map.Iter.{deref_pair}
use Rattle.std.specs.Prelude.{String}
use Rattle.std.proofs.lemmas.List.Elements.{All-head, All-tail}
use Rattle.std.proofs.lemmas.Map.Iter.{rest_more}
use Rattle.outcome_text.specs.declared.end_tallies.Tally.{Tally}
use Rattle.outcome_text.specs.OutcomeEnds.{end_head, end_line}
use Rattle.outcome_text.proofs.OutcomeLines.{one_piece}
use Rattle.outcome_text.proofs.end_tallies.EndTallies.write_lines.Goals as goal

abbrev Fits : {Z : Type 0} → String Z × Tally → Type 0
Fits entry = entry.1.first + 1 < 2 ^ 64

next_fits : {Z : Type 0} (entry : String Z × Tally) (left rest : List (String Z × Tally)) → left ≡ entry ∷ rest
    → All Fits left → Fits entry
next_fits entry left rest is all = All-head Fits entry rest (subst (All Fits) is all)

rest_fits : {Z : Type 0} (entry : String Z × Tally) (left rest : List (String Z × Tally)) → left ≡ entry ∷ rest
    → All Fits left → All Fits rest
rest_fits entry left rest is all = All-tail Fits entry rest (subst (All Fits) is all)

line_more : {Z : Type 0} (entry : String Z × Tally) (left rest : List (String Z × Tally)) (old bytes new : List ℕ)
    → left ≡ entry ∷ rest → bytes ≡ string_bytes entry.0
    → new ≡ old ++ (end_head entry.1.count entry.1.first ++ (bytes ++ 10 ∷ []))
    → new ++ flat_map end_line rest ≡ old ++ flat_map end_line left
line_more entry left rest old bytes new is same wrote =
    one_piece old (end_line entry) new (flat_map end_line rest) (flat_map end_line left)
    (wrote ∙ ap (λ bs. old ++ (end_head entry.1.count entry.1.first ++ (bs ++ 10 ∷ []))) same)
    (ap (flat_map end_line) is)

pub write_end_line-requires : goal.write_end_line-requires
write_end_line-requires g c =
    let left = rest_more deref_pair c.loop-end.end-iterator c.next.new.self c.next.result
    (c.in-Some.end, c.in-Some.tally) c.in-Some.is c.next.ensures.steps in
    next_fits _ c.loop-end.end-iterator c.next.new.self left c.loop-end.invariant.firsts

pub loop-end-preserved : goal.loop-end-preserved
loop-end-preserved g c =
    let left = rest_more deref_pair c.loop-end.end-iterator c.next.new.self c.next.result
    (c.in-Some.end, c.in-Some.tally) c.in-Some.is c.next.ensures.steps in
    record {
      text =
          line_more _ c.loop-end.end-iterator c.next.new.self (string_bytes c.loop-end.out) c.as_str.result.now
          (string_bytes c.write_end_line.new.out) left c.as_str.ensures.value c.in_ok-write_end_line.ensures
          ∙ c.loop-end.invariant.text;
      firsts = rest_fits _ c.loop-end.end-iterator c.next.new.self left c.loop-end.invariant.firsts;
    }
