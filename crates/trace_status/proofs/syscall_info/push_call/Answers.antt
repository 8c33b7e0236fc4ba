-- A call's number and six arguments are eight bytes each.
use Rattle.trace_status.proofs.Layouts.{call_behind}
use Rattle.trace_status.proofs.syscall_info.push_call.Goals as goal

pub returns : goal.returns
returns c =
    call_behind _ _ _ _ _ _ _ _ c.args.nr c.args.args.now c.push_word.ensures c.push_word-2.ensures
    c.push_word-3.ensures c.push_word-4.ensures c.push_word-5.ensures c.push_word-6.ensures c.push_word-7.ensures
