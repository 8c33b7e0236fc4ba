-- The next thread waits, or is left out.
use Rattle.std.proofs.Common.{◌∙◌, ◌+◌, ◌-◌, ◌++◌, ℕ, Bool, List, ap, filter, length, map, string_bytes, sym}
use Rattle.std.specs.List.{range_with_len}
use Rattle.stop_program.specs.Threads.{commands_in}
use Rattle.outcome_text.specs.Conditions.{waits_at_end}
use Rattle.litmus_files.specs.LitmusDraft.{names_kept}
use Rattle.outcome_text.specs.OutcomeText.{name_at, thread_word}
use Rattle.outcome_text.proofs.EndWords.{mapped_push, waiting_less, waiting_more}
use Rattle.outcome_text.proofs.ends.who_waits.Goals as goal
use Rattle.outcome_text.proofs.ends.who_waits.Goals.{then-waits_at_end+in_ok-waiting_word+in_ok-push, else-waits_at_end}

pub loop-thread-preserved : goal.loop-thread-preserved
loop-thread-preserved g c =
    let test : ℕ → Bool = waits_at_end (commands_in c.args.commands.now) c.args.turns.now in
    let word : ℕ → List ℕ = λ thread. thread_word (thread + 1) (name_at (names_kept c.args.names.now) thread) in
    let thread = c.loop-thread.thread in
    let n = length c.args.names.now in
    let rest = map word (filter test (range_with_len (thread + 1) (n - (thread + 1)))) in
    let told = sym c.waits_at_end.ensures in
    elim c.if-waits_at_end.branch [
      | then-waits_at_end+in_ok-waiting_word+in_ok-push w ↦
          rw w.words-is
          (mapped_push string_bytes c.loop-thread.words.items w.push.new.self.items w.in_ok-waiting_word.field-0
          (word thread) rest w.in_ok-push.ensures.items w.in_ok-waiting_word.ensures
          ∙ ap (λ left. map string_bytes c.loop-thread.words.items ++ left)
          (sym (waiting_more test word thread n c.loop-thread-test.true (told ∙ w.if-waits_at_end.true)))
          ∙ c.loop-thread.invariant)
      | else-waits_at_end w ↦
          rw w.words-is
          (ap (λ left. map string_bytes c.loop-thread.words.items ++ left)
          (sym (waiting_less test word thread n c.loop-thread-test.true (told ∙ w.if-waits_at_end.false)))
          ∙ c.loop-thread.invariant)
    ]
