-- What was read, and no fault after the last line, are the case.
use Rattle.std.proofs.Common.{◌≡◌, ◌∙◌, None, sym}
use Rattle.text_lines.specs.Lines.{last_line}
use Rattle.trace_script.specs.CaseFile.{closing_fault}
use Rattle.trace_script.specs.Draft.{reading_of}
use Rattle.trace_script.proofs.Cases.{case_is, is_none, refused_at_end}
use Rattle.trace_script.proofs.ReadFacts.{IsRead, file_case, file_read}
use Rattle.trace_script.proofs.case.finish.Goals as goal

pub closing_fault-requires-clause-late : goal.closing_fault-requires-clause-late
closing_fault-requires-clause-late g c =
    let is : IsRead (reading_of c.args.draft) = rw c.requires.lines at (file_read c.args.text.now) in
    is.late

pub returns-in-Some-clause-err : goal.returns-in-Some-clause-err
returns-in-Some-clause-err g c =
    refused_at_end c.args.text.now (reading_of c.args.draft) c.in-Some.error c.requires.lines c.in-Some.ensures

pub invariant_of-result : goal.invariant_of-result
invariant_of-result g c =
    let text = c.args.text.now in
    let all = reading_of c.args.draft in
    let none : closing_fault (last_line text) all ≡ None =
    sym c.closing_fault.ensures ∙ is_none c.closing_fault.result c.in_default.not-Some in
    rw (case_is text all c.requires.lines none) at (file_case text)
