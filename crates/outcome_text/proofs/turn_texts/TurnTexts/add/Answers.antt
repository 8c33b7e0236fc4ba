-- The thread has the line of the command that it did, if there is one, and so has the order.
use Rattle.std.proofs.Common.{◌≡◌, ◌≤◌, ◌++◌, ◌∷◌, [], ◌∙◌, List, None, Some, ap, append-nil, arith}
use Rattle.std.proofs.Common.{inl, inr, length, refl, slice_get, slice_set, subst, sym}
use Rattle.std.proofs.lemmas.Bool.{cases_lt}
use Rattle.std.proofs.lemmas.Option.{same_Some, slice_get_read}
use Rattle.std.specs.Option.{option_copied}
use Rattle.stop_program.specs.declared.command.ThreadCommand.{ThreadCommand}
use Rattle.outcome_text.specs.declared.turn_texts.WrittenTurn.{WrittenTurn}
use Rattle.outcome_text.specs.KeptLines.{AreLinesKept, LineText, kept_text}
use Rattle.outcome_text.specs.OutcomeText.{done_line, name_at, turn_line}
use Rattle.outcome_text.specs.TurnTexts.{TextsOfTurns, ThreadText, text_source, thread_after_turn}
use Rattle.outcome_text.proofs.TurnTexts.{texts_done, texts_past, thread_same}
use Rattle.outcome_text.proofs.turn_texts.TurnTexts.add.Goals as goal

pub returns-in_default-clause-texts : goal.returns-in_default-clause-texts
returns-in_default-clause-texts g c =
    let turn = c.args.turn.now in
    let threads = c.self.inside.threads in
    let view_is = c.self.view_is in
    let kept : WrittenTurn = record { turn = turn; next = 0; text_len = 0; order_len = c.len-order_len.result } in
    let past : length threads.items ≤ turn.thread = elim (cases_lt turn.thread threads.len) [
      | inl less ↦ let clash = c.in_default.ensures.variant.1 less in cc
      | inr after ↦ omega (arith, after, threads.ok.0)
    ] in
    texts_past (text_source c.args.program.now) c.args.self.now _ kept c.requires.texts
    (c.in_ok-push.ensures.items ∙ ap (λ (s : TextsOfTurns). s.turns ++ kept ∷ []) view_is)
    (ap (λ (s : TextsOfTurns). s.threads) view_is) (ap (λ (s : TextsOfTurns). s.order) view_is)
    (c.len-order_len.ensures ∙ c.self.inside.order.bytes.ok.0 ∙ ap (λ (s : TextsOfTurns). length s.order) view_is)
    (subst (λ (s : TextsOfTurns). length s.threads ≤ turn.thread) view_is past)
    (ap (λ (s : TextsOfTurns). s.lines) view_is)

pub returns-in_ok-push_str-clause-texts : goal.returns-in_ok-push_str-clause-texts
returns-in_ok-push_str-clause-texts g c =
    let turn = c.args.turn.now in
    let threads = c.self.inside.threads in
    let view_is = c.self.view_is in
    let before = c.in-Some.so_far.now in
    let command = c.in-Some-next_of.command.now in
    let kept : WrittenTurn = record {
      turn = turn;
      next = c.so_far.inside.next;
      text_len = c.len.result;
      order_len = c.len-order_len.result;
    } in
    let less = c.in-Some.ensures.variant.0 refl in
    let is : slice_get threads.items turn.thread ≡ Some before =
    slice_get_read threads.items threads.len turn.thread before threads.ok.0 less c.in-Some.ensures.value in
    let t = text_source c.args.program.now in
    let did_is : Some command ≡ slice_get (t.commands turn.thread) before.next =
    ap option_copied (sym c.in-Some-next_of.is) ∙ c.next_of.ensures
    ∙ ap (λ (own : List ThreadCommand). slice_get own before.next) c.thread_commands-own.ensures in
    let at_is : slice_get (t.commands turn.thread) c.so_far.inside.next ≡ Some command =
    ap (λ (b : ThreadText). slice_get (t.commands turn.thread) b.next) c.so_far.view_is ∙ sym did_is in
    let lines_are = subst (λ (s : TextsOfTurns). AreLinesKept t.rows t.names t.commands s.lines) (sym view_is)
    c.requires.texts.lines in
    let lines = kept_text t.rows t.names (record { turn = turn; at = c.so_far.inside.next }) command in
    let kept_is : c.kept-kept.result.now ≡ lines =
    same_Some _ _ (sym c.kept-kept.ensures ∙ c.in_ok-slot.ensures.line t.commands at_is lines_are) in
    let line_is : c.line.result.now ≡ done_line t.rows turn (Some command) =
    c.line.ensures ∙ ap (λ (k : LineText). k.line) kept_is in
    let named_is : c.named.result.now ≡ turn_line t.rows (name_at t.names turn.thread) turn (Some command) =
    c.named.ensures ∙ ap (λ (k : LineText). k.named) kept_is in
    texts_done t c.args.self.now _ kept before c.add.new.self (Some command) c.requires.texts
    (c.in_ok-push-2.ensures.items ∙ ap (λ (s : TextsOfTurns). s.turns ++ kept ∷ []) view_is)
    (ap (λ (s : TextsOfTurns). slice_set s.threads turn.thread c.add.new.self) view_is)
    (ap (λ (s : TextsOfTurns). slice_get s.threads turn.thread) (sym view_is) ∙ is)
    (c.len-order_len.ensures ∙ c.self.inside.order.bytes.ok.0 ∙ ap (λ (s : TextsOfTurns). length s.order) view_is)
    (c.len.ensures ∙ c.so_far.inside.text.bytes.ok.0 ∙ ap (λ (b : ThreadText). length b.text) c.so_far.view_is)
    (ap (λ (b : ThreadText). b.next) c.so_far.view_is)
    did_is
    (c.in_ok-add.ensures
    ∙ (λ i. thread_after_turn (c.is_quiet-quiet.ensures i) (c.thread_commands-own.ensures i) turn (line_is i) before))
    (c.in_ok-push_str.ensures.bytes ∙ (λ i. (view_is i).order ++ named_is i))
    (c.in_ok-slot.ensures.kept t.commands at_is lines_are)

pub returns-in_default-next_of-clause-texts : goal.returns-in_default-next_of-clause-texts
returns-in_default-next_of-clause-texts g c =
    let turn = c.args.turn.now in
    let threads = c.self.inside.threads in
    let view_is = c.self.view_is in
    let t = text_source c.args.program.now in
    let before = c.in-Some.so_far.now in
    let kept : WrittenTurn = record {
      turn = turn;
      next = c.so_far.inside.next;
      text_len = c.len.result;
      order_len = c.len-order_len.result;
    } in
    let less = c.in-Some.ensures.variant.0 refl in
    let is : slice_get threads.items turn.thread ≡ Some before =
    slice_get_read threads.items threads.len turn.thread before threads.ok.0 less c.in-Some.ensures.value in
    let did_is : None ≡ slice_get (t.commands turn.thread) before.next =
    ap option_copied (sym c.in_default-next_of.is) ∙ c.next_of.ensures
    ∙ ap (λ (own : List ThreadCommand). slice_get own before.next) c.thread_commands-own.ensures in
    texts_done t c.args.self.now _ kept before before None c.requires.texts
    (c.in_ok-push-2.ensures.items ∙ ap (λ (s : TextsOfTurns). s.turns ++ kept ∷ []) view_is)
    (ap (λ (s : TextsOfTurns). slice_set s.threads turn.thread before) view_is)
    (ap (λ (s : TextsOfTurns). slice_get s.threads turn.thread) (sym view_is) ∙ is)
    (c.len-order_len.ensures ∙ c.self.inside.order.bytes.ok.0 ∙ ap (λ (s : TextsOfTurns). length s.order) view_is)
    (c.len.ensures ∙ c.so_far.inside.text.bytes.ok.0 ∙ ap (λ (b : ThreadText). length b.text) c.so_far.view_is)
    (ap (λ (b : ThreadText). b.next) c.so_far.view_is) did_is
    (thread_same _ (t.commands turn.thread) turn before (sym did_is))
    (ap (λ (s : TextsOfTurns). s.order) view_is ∙ sym (append-nil c.args.self.now.order))
    (subst (λ (s : TextsOfTurns). AreLinesKept t.rows t.names t.commands s.lines) (sym view_is) c.requires.texts.lines)
