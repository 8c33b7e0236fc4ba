-- A row that was taken has no fault.
use Rattle.std.proofs.Common.{◌∙◌, List, Ok, ap, sym}
use Rattle.stop_history.specs.declared.roster.Row.{Row}
use Rattle.stop_history.specs.Roster.{push_fault}
use Rattle.trace_script.specs.declared.case.keyword.Place.TheVariants.{Loading}
use Rattle.trace_script.specs.CaseFile.{Reading, no_script, roster_cause, unless_fault, with_block}
use Rattle.trace_script.specs.Draft.{reading_of}
use Rattle.trace_script.specs.Script.{Script}
use Rattle.trace_script.proofs.Refusals.{none_refused}
use Rattle.trace_script.proofs.case.draft.open_block.Goals as goal

pub returns-clause-line : goal.returns-clause-line
returns-clause-line g c =
    let old = reading_of c.args.draft.now in
    let with_rows : List Row → Script → Reading = λ rows script.
    record { place = Loading; rows = rows; scripts = old.scripts; script = script; late = old.late } in
    ap (λ f. unless_fault (roster_cause f) (with_block old c.args.row))
    (none_refused c.in_ok-push.field-0 (push_fault c.args.draft.now.rows c.args.row) c.in_ok-push.ensures.fault)
    ∙ ap (λ rows. Ok (with_rows rows no_script)) (sym c.in_ok-push.ensures.ok)
    ∙ ap (λ script. Ok (with_rows c.push.new.self script)) (sym c.new_block.ensures.script)
