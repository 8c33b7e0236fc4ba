-- The commands of a repeat are written out.
use Rattle.std.proofs.Common.{◌≡◌, ◌∙◌, ◌++◌, Err, IsOk, None, Result, ap, arith, length, map, subst, sym}
use Rattle.std.proofs.lemmas.Result.{err_from_is_err_and}
use Rattle.trace_script.specs.Reading.{TakesLine}
use Rattle.trace_script.specs.declared.cause.Cause.{Cause}
use Rattle.litmus_files.specs.LitmusDraft.{litmus_reading_of}
use Rattle.litmus_files.specs.LitmusFile.{LitmusReading, copies_of, leaving_line}
use Rattle.litmus_files.proofs.LitmusSteps.{added, at_ok, ends_with, fits, place_of_copies, room_refused}
use Rattle.litmus_files.proofs.draft.end_repeat.Goals as goal

pub returns-in_err-leave_to : goal.returns-in_err-leave_to
returns-in_err-leave_to g c =
    let draft = c.args.draft.now in
    let old = litmus_reading_of draft in
    let body = draft.body.items in
    let n = c.in-Some.times in
    let len : c.len.result ≡ length body = omega (arith, c.len.ensures, draft.body.ok.0) in
    let cause = c.in_err-leave_to.field-0.0 in
    let Takes : Result LitmusReading Cause → Type 0 = λ read. TakesLine (Err cause) old read in
    let failed = err_from_is_err_and c.from_residual-in_err-leave_to.result
    c.from_residual-in_err-leave_to.ensures.1 in
    rw (failed.1, failed.2) (
    subst Takes (sym (ends_with old draft.times n body c.in-Some.is))
    (room_refused (record old { repeat = None }) old (copies_of n body) c.in_ok-thread.thread cause
    c.in_ok-thread.ensures (c.in_err-leave_to.ensures ∙ place_of_copies old n body c.len.result len)))

pub returns-then-is_err : goal.returns-then-is_err
returns-then-is_err g c =
    let draft = c.args.draft.now in
    let old = litmus_reading_of draft in
    let body = draft.body.items in
    let n = c.in-Some.times in
    let len : c.len.result ≡ length body = omega (arith, c.len.ensures, draft.body.ok.0) in
    let Fits : Result LitmusReading Cause → Type 0 = λ read. IsOk read in
    subst Fits (sym (ends_with old draft.times n body c.in-Some.is))
    (fits (record old { repeat = None }) (copies_of n body) c.in_ok-thread.thread c.in_ok-leave_to.leave_to
    c.in_ok-thread.ensures (c.in_ok-leave_to.ensures ∙ place_of_copies old n body c.len.result len))

pub returns : goal.returns
returns g c =
    let draft = c.args.draft.now in
    let old = litmus_reading_of draft in
    let body = draft.body.items in
    let n = c.in-Some.times in
    let len : c.len.result ≡ length body = omega (arith, c.len.ensures, draft.body.ok.0) in
    let lines_are = at_ok c.add_copies.result c.if-is_err.ensures.negation c.add_copies.ensures
    ∙ ap (λ b. draft.lines.items
    ++ map (leaving_line c.in_ok-thread.thread c.in_ok-leave_to.leave_to) (copies_of n b))
    c.as_slice-body.ensures.value in
    ends_with old draft.times n body c.in-Some.is
    ∙ added (record old { repeat = None }) (copies_of n body) c.in_ok-thread.thread c.in_ok-leave_to.leave_to
    c.add_copies.new.lines.items c.in_ok-thread.ensures
    (c.in_ok-leave_to.ensures ∙ place_of_copies old n body c.len.result len) lines_are
