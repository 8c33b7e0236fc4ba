-- Lines that are kept: none yet.
use Rattle.std.proofs.Common.{[], ℕ, List, Option, None, ◌∙◌, sym}
use Rattle.std.specs.List.{All}
use Rattle.std.proofs.lemmas.List.Elements.{All-from_get_or, All-get_or}
use Rattle.stop_history.specs.declared.roster.Row.{Row}
use Rattle.stop_program.specs.declared.command.ThreadCommand.{ThreadCommand}
use Rattle.outcome_text.specs.KeptLines.{AreLinesKept, IsEmptyLine, IsLineKept, LineText}

pub empty_lines : (rows : List Row) (names : List (Option (List ℕ))) (commands : ℕ → List ThreadCommand)
    (lines : List LineText) → All IsEmptyLine lines → AreLinesKept rows names commands lines
empty_lines rows names commands lines none =
    let any : LineText = record { made = None; line = []; named = [] } in
    All-from_get_or (IsLineKept rows names commands) lines any (λ i within done command made did.
    let clash = sym (All-get_or IsEmptyLine lines i any within none) ∙ made in cc)
