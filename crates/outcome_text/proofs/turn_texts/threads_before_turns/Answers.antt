-- The next thread has its first line.
use Rattle.std.proofs.Common.{◌≡◌, ◌+◌, ◌++◌, [], ◌∙◌, ap, arith, length, string_bytes, subst, sym}
use Rattle.std.proofs.lemmas.List.{length_push}
use Rattle.outcome_text.specs.OutcomeText.{name_at, thread_head}
use Rattle.outcome_text.specs.TurnTexts.{AreBeforeTurns, ThreadText, text_source, thread_so_far}
use Rattle.outcome_text.proofs.TurnTexts.{first_more, thread_first}
use Rattle.outcome_text.proofs.turn_texts.threads_before_turns.Goals as goal

pub loop-thread-preserved : goal.loop-thread-preserved
loop-thread-preserved g c =
    let t = text_source c.args.program.now in
    let threads = c.loop-thread.threads.items in
    let thread = c.loop-thread.thread in
    let first : ThreadText = record { text = string_bytes c.write_thread_head.new.out; next = 0 } in
    let items = c.in_ok-push.ensures.items in
    let long = c.loop-thread.invariant.long in
    let text_is : first.text ≡ thread_head (thread + 1) (name_at t.names thread) =
    c.in_ok-write_thread_head.ensures
    ∙ (λ i. c.in_ok-text.ensures.bytes i ++ thread_head (thread + 1) (c.name_at.ensures.name i)) in
    record {
      long = omega (arith, ap length items, length_push threads first, long);
      each = subst (AreBeforeTurns t) (sym items)
          (first_more t threads first c.loop-thread.invariant.each
          (thread_first t thread first.text text_is ∙ ap (λ n. thread_so_far t n []) (sym long)));
    }
