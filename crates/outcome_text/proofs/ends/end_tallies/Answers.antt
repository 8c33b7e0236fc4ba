-- The next outcome that is printed is counted by its end.
use Rattle.std.proofs.Common.{◌≡◌, ◌∙◌, ◌+◌, ◌++◌, ◌∷◌, [], ℕ, List, ap, append-nil, append_assoc, arith, drop, length}
use Rattle.std.proofs.Common.{map, refl, string_bytes, subst, sym}
use Rattle.stop_program.specs.Run.{EndedRun}
use Rattle.stop_program.specs.Threads.{commands_in}
use Rattle.outcome_text.specs.Chosen.{chosen_of}
use Rattle.litmus_files.specs.LitmusDraft.{names_kept}
use Rattle.outcome_text.specs.OutcomeEnds.{AreTallied, outcome_end}
use Rattle.outcome_text.proofs.OutcomeLines.{chosen_here, chosen_not_here, chosen_over}
use Rattle.outcome_text.proofs.ends.end_tallies.Goals as goal
use Rattle.outcome_text.proofs.ends.end_tallies.Goals.{then-is_printed+in_ok-outcome_end+in_ok-add, else-is_printed}

-- an end comes to those so far from those that are left
moved : (so_far left all : List (List ℕ)) (bytes end : List ℕ) (rest : List (List ℕ)) → bytes ≡ end
    → left ≡ end ∷ rest → so_far ++ left ≡ all → (so_far ++ bytes ∷ []) ++ rest ≡ all
moved so_far left all bytes end rest same is so =
    append_assoc so_far (bytes ∷ []) rest ∙ ap (λ e. so_far ++ e ∷ rest) same ∙ ap (λ es. so_far ++ es) (sym is) ∙ so

pub loop-number-init : goal.loop-number-init
loop-number-init g c = record {
  so_far = [];
  tallied = c.new-found.ensures;
  few = let counted = c.new-found.ensures.counted in omega (arith, counted);
  all = refl;
}

pub add-requires : goal.add-requires
add-requires g c = record {
  few =
      let few = c.loop-number.invariant.few in
      let within = c.loop-number-test.true in
      omega (arith, few, within);
  tallied = (c.loop-number.invariant.so_far, c.loop-number.invariant.tallied);
}

pub loop-number-preserved : goal.loop-number-preserved
loop-number-preserved g c =
    let threads = length c.args.program.now.commands.now in
    let commands = commands_in c.args.program.now.commands.now in
    let conditions = c.args.conditions.now in
    let runs = c.args.explored.now.runs in
    let number = c.loop-number.number in
    let run = c.read.new.run in
    let end : EndedRun → List ℕ =
    outcome_end c.args.program.now.rows.now (names_kept c.args.program.now.names.now) commands in
    let left : ℕ → List EndedRun = λ n. chosen_of threads commands conditions (drop n runs) in
    let told = sym c.is_printed.ensures in
    let before = c.loop-number.invariant in
    elim c.if-is_printed.branch [
      | then-is_printed+in_ok-outcome_end+in_ok-add w ↦ rw w.found-is (record {
        so_far = before.so_far ++ string_bytes w.in_ok-outcome_end.field-0 ∷ [];
        tallied = w.in_ok-add.ensures.tallied before.so_far before.tallied;
        few =
            let few = before.few in
            let one_more = w.in_ok-add.ensures.outcomes in
            omega (arith, few, one_more);
        all =
            moved before.so_far (map end (left number)) (map end (left 0)) (string_bytes w.in_ok-outcome_end.field-0)
            (end run) (map end (left (number + 1))) w.in_ok-outcome_end.ensures
            (ap (map end) (chosen_here threads commands conditions runs number run c.in_ok-read.ensures
            (told ∙ w.if-is_printed.true)))
            before.all;
      })
      | else-is_printed w ↦ rw w.found-is (record {
        so_far = before.so_far;
        tallied = before.tallied;
        few = let few = before.few in omega (arith, few);
        all =
            ap (λ es. before.so_far ++ map end es)
            (sym (chosen_not_here threads commands conditions runs number run c.in_ok-read.ensures
            (told ∙ w.if-is_printed.false)))
            ∙ before.all;
      })
    ]

pub returns-clause-tallied : goal.returns-clause-tallied
returns-clause-tallied g c =
    let threads = length c.args.program.now.commands.now in
    let commands = commands_in c.args.program.now.commands.now in
    let conditions = c.args.conditions.now in
    let runs = c.args.explored.now.runs in
    let end : EndedRun → List ℕ =
    outcome_end c.args.program.now.rows.now (names_kept c.args.program.now.names.now) commands in
    let before = c.loop-number.invariant in
    let past = c.loop-number-test.false in
    let over = chosen_over threads commands conditions runs c.loop-number.number (omega (arith, past)) in
    subst (λ (ends : List (List ℕ)). AreTallied c.loop-number.found.tallies.entries c.loop-number.found.outcomes ends)
    (sym (ap (λ es. before.so_far ++ map end es) over ∙ append-nil before.so_far) ∙ before.all) before.tallied
