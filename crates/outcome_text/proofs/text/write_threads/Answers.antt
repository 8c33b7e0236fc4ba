-- The next thread is written.
use Rattle.std.proofs.Common.{◌<◌, ◌≤◌, ◌∙◌, ap, arith, length, string_bytes, subst, sym}
use Rattle.std.proofs.lemmas.List.{length-map}
use Rattle.std.proofs.lemmas.Option.{same_Some}
use Rattle.stop_program.specs.Program.{Log, own_turns}
use Rattle.stop_program.specs.Threads.{commands_in}
use Rattle.outcome_text.specs.TurnTexts.{text_source, thread_so_far}
use Rattle.outcome_text.proofs.OutcomeLines.{no_piece, threads_more, threads_over}
use Rattle.outcome_text.proofs.text.write_threads.Goals as goal

pub loop-thread-preserved : goal.loop-thread-preserved
loop-thread-preserved g c =
    let program = c.args.program.now in
    let t = text_source program in
    let thread = c.loop-thread.thread in
    let named : length program.names.now ≤ length c.args.texts.now.threads =
    subst (λ n. n ≤ length c.args.texts.now.threads) (length-map program.names.now _) c.requires.texts.names in
    let within : thread < length c.args.texts.now.threads = omega (arith, c.loop-thread-test.true, named) in
    let told_is = same_Some _ _ (sym c.thread.ensures ∙ c.requires.texts.threads thread within)
    ∙ ap (λ (log : Log). thread_so_far t thread (own_turns thread log)) c.requires.turns in
    threads_more t.rows t.voices t.commands c.args.run.now program.names.now thread (string_bytes c.loop-thread.out)
    (string_bytes c.write_thread.new.out) c.loop-thread-test.true
    (c.in_ok-write_thread.ensures c.args.run.now c.states.ensures told_is)
    ∙ c.loop-thread.invariant

pub returns : goal.returns
returns g c =
    let program = c.args.program.now in
    sym (no_piece (string_bytes c.loop-thread.out) _
    (threads_over program.rows.now program.voices.now (commands_in program.commands.now) c.args.run.now
    program.names.now c.loop-thread.thread c.loop-thread.thread c.loop-thread-test.false))
    ∙ c.loop-thread.invariant
