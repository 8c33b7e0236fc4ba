-- A command is one of the repeat that is open, or else is done once.
use Rattle.std.proofs.Common.{refl, Result, ap, subst, sym}
use Rattle.trace_script.specs.Reading.{TakesLine}
use Rattle.trace_script.specs.declared.cause.Cause.{Cause}
use Rattle.litmus_files.specs.LitmusDraft.{litmus_reading_of, repeat_kept}
use Rattle.litmus_files.specs.LitmusFile.{LitmusReading}
use Rattle.litmus_files.proofs.LitmusSteps.{fits_in_repeat, taken_in_repeat, taken_once, times_kept}
use Rattle.litmus_files.proofs.draft.take_command.Goals as goal

pub returns-in-None : goal.returns-in-None
returns-in-None g c =
    let old = litmus_reading_of c.args.draft.now in
    let Takes : Result LitmusReading Cause → Type 0 = λ read.
    TakesLine c.take_once.result (litmus_reading_of c.take_once.new.draft) read in
    subst Takes
    (sym (taken_once c.args.number old c.args.command c.in_ok-command.command c.in_ok-command.ensures
    (ap (λ t. repeat_kept t c.args.draft.now.body.items) c.in-None.is))) c.take_once.ensures

pub returns-in_default : goal.returns-in_default
returns-in_default g c =
    fits_in_repeat c.args.number (litmus_reading_of c.args.draft.now) c.args.command c.in_ok-command.command
    c.args.draft.now.times c.in-Some.field-0 c.args.draft.now.body.items c.in_ok-command.ensures c.in-Some.is refl

pub returns-then-is_err : goal.returns-then-is_err
returns-then-is_err g c =
    fits_in_repeat c.args.number (litmus_reading_of c.args.draft.now) c.args.command c.in_ok-command.command
    c.args.draft.now.times c.in-Some.field-0 c.args.draft.now.body.items c.in_ok-command.ensures c.in-Some.is refl

pub returns-else-is_err : goal.returns-else-is_err
returns-else-is_err g c =
    let old = litmus_reading_of c.args.draft.now in
    let pushed = rw c.if-is_err.ensures.negation at c.push.ensures.items in
    taken_in_repeat c.args.number old (litmus_reading_of c.require_reply.new.draft) c.args.command
    c.in_ok-command.command c.in-Ok.command c.require_reply.new.draft.times c.in-Some.field-0
    c.require_reply.new.draft.body.items c.push.new.self.items c.in_ok-command.ensures
    (times_kept c.args.draft.now.times c.require_reply.new.draft.times c.in-Some.field-0 c.args.draft.now.body.items
    c.require_reply.new.draft.body.items c.in-Some.is (ap (λ (r : LitmusReading). r.repeat) c.in-Ok.ensures.ok.1))
    (sym (ap (λ (r : LitmusReading). r.repeat) c.in-Ok.ensures.ok.1))
    c.in-Ok.ensures.ok.1 c.in-Ok.ensures.ok.0 pushed
