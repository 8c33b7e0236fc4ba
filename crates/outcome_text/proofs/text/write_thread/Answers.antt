-- The text of the thread, and its last line.
use Rattle.std.proofs.Common.{◌≡◌, ◌++◌, ◌∙◌, List, OnOk, ap, append_assoc, slice_get, string_bytes, subst}
use Rattle.std.specs.Option.{option_copied}
use Rattle.stop_program.specs.declared.command.ThreadCommand.{ThreadCommand}
use Rattle.stop_program.specs.Progress.{is_quiet}
use Rattle.outcome_text.specs.OutcomeText.{name_at, thread_text}
use Rattle.outcome_text.specs.TurnTexts.{ThreadText, closing_line, text_source}
use Rattle.outcome_text.proofs.TurnTexts.{thread_whole}
use Rattle.outcome_text.proofs.text.write_thread.Goals as goal

pub returns : goal.returns
returns g c = λ ending states_are told_is.
    let t = text_source c.args.program.now in
    let thread = c.args.thread in
    let so_far = c.args.so_far.now in
    let old = string_bytes c.args.out.now in
    let last : List _ = closing_line t.rows c.args.states.now c.is_quiet.result (option_copied c.next_of-next.result) in
    let next_is = c.next_of-next.ensures ∙ ap (λ (own : List ThreadCommand). slice_get own so_far.next) c.thread_commands.ensures in
    let last_is : last ≡ closing_line t.rows ending.states (is_quiet t.voices thread) (slice_get (t.commands thread) so_far.next) =
    λ i. closing_line t.rows (states_are i) (c.is_quiet.ensures i) (next_is i) in
    let text_is : string_bytes c.push_str.new.self ++ last ≡ old ++ thread_text t.rows t.voices t.commands ending thread
    (name_at t.names thread) =
    (λ i. (c.in_ok-push_str.ensures.bytes ∙ ap (λ text. old ++ text) c.text.ensures) i ++ last_is i)
    ∙ append_assoc old so_far.text (closing_line t.rows ending.states (is_quiet t.voices thread)
    (slice_get (t.commands thread) so_far.next))
    ∙ ap (λ text. old ++ text)
    (ap (λ (th : ThreadText). th.text ++ closing_line t.rows ending.states (is_quiet t.voices thread)
    (slice_get (t.commands thread) th.next)) told_is
    ∙ thread_whole t thread ending) in
    subst (λ text. OnOk c.write_closing_line.result (string_bytes c.write_closing_line.new.out ≡ text)) text_is
    c.write_closing_line.ensures
