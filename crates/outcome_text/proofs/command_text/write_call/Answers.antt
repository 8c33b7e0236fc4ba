-- Each call's words are those that were written.
use Rattle.std.proofs.Common.{◌∷◌, ◌∙◌, [], ap, codes, decimal, sym}
use Rattle.litmus_files.specs.CommandText.{board_call_words, tracee_word}
use Rattle.replay_files.specs.Spelling.{death_words, kind_word, stop_words}
use Rattle.outcome_text.proofs.WordsWritten.{parts_written, words_written}
use Rattle.outcome_text.proofs.command_text.write_call.Goals as goal

pub returns-in_ok-write_verb-in-Publish : goal.returns-in_ok-write_verb-in-Publish
returns-in_ok-write_verb-in-Publish g c =
    let tracee = tracee_word c.args.rows.now c.args.which in
    parts_written _ _ (codes "publish") _ _ (tracee ∷ []) (stop_words c.in-Publish.stop) _
    (ap (board_call_words tracee c.args.waits) c.in-Publish.is)
    c.in_ok-write_verb-in-Publish.ensures c.write_stop.ensures

pub returns-in-State : goal.returns-in-State
returns-in-State g c =
    let tracee = tracee_word c.args.rows.now c.args.which in
    words_written _ _ (codes "state") _ (tracee ∷ []) _
    (ap (board_call_words tracee c.args.waits) c.in-State.is) c.write_verb-in-State.ensures

pub returns-in-Look : goal.returns-in-Look
returns-in-Look g c =
    let tracee = tracee_word c.args.rows.now c.args.which in
    words_written _ _ c.look_verb.result.now _ (tracee ∷ decimal c.in-Look.tracer ∷ []) _
    (ap (board_call_words tracee c.args.waits) c.in-Look.is ∙ c.look_verb.ensures tracee c.in-Look.tracer)
    c.write_with_number.ensures

pub returns-in-Claim : goal.returns-in-Claim
returns-in-Claim g c =
    let tracee = tracee_word c.args.rows.now c.args.which in
    words_written _ _ c.claim_verb.result.now _ (tracee ∷ decimal c.in-Claim.tracer ∷ []) _
    (ap (board_call_words tracee c.args.waits) c.in-Claim.is ∙ c.claim_verb.ensures tracee c.in-Claim.tracer)
    c.write_with_number-in-Claim.ensures

pub returns-in_ok-write_with_number-in-Resume : goal.returns-in_ok-write_with_number-in-Resume
returns-in_ok-write_with_number-in-Resume g c =
    let tracee = tracee_word c.args.rows.now c.args.which in
    let how = c.in-Resume.how in
    parts_written _ _ (codes "resume") _ _ (tracee ∷ decimal c.in-Resume.tracer ∷ [])
    (kind_word how.kind ∷ decimal how.signal ∷ []) _
    (ap (board_call_words tracee c.args.waits) c.in-Resume.is)
    c.in_ok-write_with_number-in-Resume.ensures c.write_restart.ensures

pub returns-in_ok-write_verb-in-Exit : goal.returns-in_ok-write_verb-in-Exit
returns-in_ok-write_verb-in-Exit g c =
    let tracee = tracee_word c.args.rows.now c.args.which in
    parts_written _ _ (codes "exit") _ _ (tracee ∷ []) (death_words c.in-Exit.death) _
    (ap (board_call_words tracee c.args.waits) c.in-Exit.is) c.in_ok-write_verb-in-Exit.ensures c.write_death.ensures

pub returns-in-ExitGroup : goal.returns-in-ExitGroup
returns-in-ExitGroup g c =
    let tracee = tracee_word c.args.rows.now c.args.which in
    words_written _ _ (codes "exit_group") _ (tracee ∷ decimal c.from.result ∷ []) _
    (ap (board_call_words tracee c.args.waits) c.in-ExitGroup.is
    ∙ ap (λ code. codes "exit_group" ∷ tracee ∷ decimal code ∷ []) (sym c.from.ensures))
    c.write_with_number-in-ExitGroup.ensures
