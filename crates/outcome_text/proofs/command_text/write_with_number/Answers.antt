-- The tracer is one word more.
use Rattle.std.proofs.Common.{◌∷◌, [], decimal}
use Rattle.litmus_files.specs.CommandText.{tracee_word}
use Rattle.outcome_text.proofs.WordsWritten.{in_words}
use Rattle.outcome_text.proofs.command_text.write_with_number.Goals as goal

pub returns : goal.returns
returns g c =
    in_words _ _ (tracee_word c.args.rows.now c.args.which ∷ []) (decimal c.args.number ∷ []) _ _
    c.in_ok-write_verb.ensures c.in_ok-write_number.ensures
