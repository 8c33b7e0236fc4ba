-- A command is one more line of the last thread.
use Rattle.std.proofs.Common.{◌≡◌, ◌∙◌, ◌++◌, ◌∷◌, [], Ok, ap, sym}
use Rattle.std.proofs.lemmas.Result.{err_from_is_err_and}
use Rattle.litmus_files.specs.LitmusDraft.{litmus_reading_of}
use Rattle.litmus_files.specs.LitmusFile.{commands_added, current_thread, numbered_command, place_past, reply_required}
use Rattle.litmus_files.proofs.LitmusSteps.{added, fits, room_refused, thread_refused}
use Rattle.litmus_files.proofs.draft.take_once.Goals as goal

pub returns-in_err-thread : goal.returns-in_err-thread
returns-in_err-thread g c =
    let old = litmus_reading_of c.args.draft.now in
    let failed = err_from_is_err_and c.from_residual.result c.from_residual.ensures.1 in
    rw (failed.1, failed.2)
    (thread_refused (reply_required c.args.number old c.args.command) old
    (numbered_command old c.args.command ∷ []) c.in_err-thread.field-0.0 c.in_err-thread.ensures)

pub returns-in_err-leave_to : goal.returns-in_err-leave_to
returns-in_err-leave_to g c =
    let old = litmus_reading_of c.args.draft.now in
    let failed = err_from_is_err_and c.from_residual-in_err-leave_to.result
    c.from_residual-in_err-leave_to.ensures.1 in
    rw (failed.1, failed.2)
    (room_refused (reply_required c.args.number old c.args.command) old
    (numbered_command old c.args.command ∷ []) c.in_ok-thread.thread c.in_err-leave_to.field-0.0
    c.in_ok-thread.ensures c.in_err-leave_to.ensures)

pub returns-in_default : goal.returns-in_default
returns-in_default g c =
    let old = litmus_reading_of c.args.draft.now in
    fits (reply_required c.args.number old c.args.command) (numbered_command old c.args.command ∷ [])
    c.in_ok-thread.thread c.in_ok-leave_to.leave_to c.in_ok-thread.ensures c.in_ok-leave_to.ensures

pub returns-then-is_err : goal.returns-then-is_err
returns-then-is_err g c =
    let old = litmus_reading_of c.args.draft.now in
    fits (reply_required c.args.number old c.args.command) (numbered_command old c.args.command ∷ [])
    c.in_ok-thread.thread c.in_ok-leave_to.leave_to c.in_ok-thread.ensures c.in_ok-leave_to.ensures

pub returns : goal.returns
returns g c =
    let old = litmus_reading_of c.args.draft.now in
    let mid = litmus_reading_of c.require_reply.new.draft in
    let required = reply_required c.args.number old c.args.command in
    let mid_is : mid ≡ required = c.in-Ok.ensures.ok.1 in
    let at : Ok c.in_ok-thread.thread ≡ current_thread mid = c.in_ok-thread.ensures ∙ sym (ap current_thread mid_is) in
    let past : Ok c.in_ok-leave_to.leave_to ≡ place_past mid 1 =
    c.in_ok-leave_to.ensures ∙ sym (ap (λ s. place_past s 1) mid_is) in
    let pushed = rw c.if-is_err.ensures.negation at c.push.ensures.items in
    ap (λ s. commands_added s (numbered_command old c.args.command ∷ [])) (sym mid_is)
    ∙ ap (λ n. commands_added mid (n ∷ [])) (sym c.in-Ok.ensures.ok.0)
    ∙ added mid (c.in-Ok.numbered ∷ []) c.in_ok-thread.thread c.in_ok-leave_to.leave_to c.push.new.self.items at past
    (pushed ∙ ap (λ line. mid.lines ++ line ∷ []) c.leaving_line-line.ensures)
