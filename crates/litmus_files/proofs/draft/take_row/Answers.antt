-- A row that was taken has no fault.
use Rattle.std.proofs.Common.{◌∙◌, ◌++◌, ◌∷◌, [], List, Ok, ap, sym}
use Rattle.stop_history.specs.Roster.{push_fault}
use Rattle.stop_history.specs.declared.roster.Row.{Row}
use Rattle.trace_script.specs.CaseFile.{roster_cause, unless_fault}
use Rattle.trace_script.proofs.Refusals.{none_refused}
use Rattle.litmus_files.specs.LitmusDraft.{litmus_reading_of}
use Rattle.litmus_files.specs.LitmusFile.{LitmusReading}
use Rattle.litmus_files.proofs.draft.take_row.Goals as goal

pub returns : goal.returns
returns g c =
    let old = litmus_reading_of c.args.draft.now in
    let with_rows : List Row → LitmusReading = λ rows. record old { rows = rows } in
    ap (λ f. unless_fault (roster_cause f) (with_rows (old.rows ++ c.args.row ∷ [])))
    (none_refused c.in_ok-push.field-0 (push_fault c.args.draft.now.rows c.args.row) c.in_ok-push.ensures.fault)
    ∙ ap (λ rows. Ok (with_rows rows)) (sym c.in_ok-push.ensures.ok)
