-- A fault of a line refuses the file.
use Rattle.std.proofs.Common.{subst}
use Rattle.trace_script.specs.CaseFile.{Reading, line_read}
use Rattle.trace_script.specs.Reading.{Refuses, read_file}
use Rattle.trace_script.proofs.Cases.{refused_in}
use Rattle.trace_script.proofs.case.Case.read.Goals as goal

pub returns-in-Err-clause-err : goal.returns-in-Err-clause-err
returns-in-Err-clause-err g c =
    let text = c.args.text.now in
    let cause = c.in-Err.error.cause in
    let line = c.in-Err.error.line in
    let Refused : Reading → Type 0 = λ nothing. let read = read_file line_read nothing text in
    Refuses text cause line read read in
    refused_in text cause line (subst Refused c.new_draft.ensures.reading c.in-Err.ensures.err)
