-- The bytes that are put together are the layout's.
use Rattle.std.proofs.Common.{sym, append-nil}
use Rattle.trace_status.specs.SyscallInfo.{info_bytes}
use Rattle.trace_status.proofs.Layouts.{drafted, exit_behind, head_drafted, ret_data_behind}
use Rattle.trace_status.proofs.syscall_info.SyscallInfo.draft.Goals as goal

pub returns-in-Quiet : goal.returns-in-Quiet
unfolding info_bytes
returns-in-Quiet c =
    let whole = head_drafted _ _ _ _ _ _ c.op.result c.args.self.now.arch c.args.self.now.ip c.args.self.now.sp
    c.new-draft.ensures c.push.ensures c.to_le_bytes.ensures c.push-2.ensures c.push_word.ensures
    c.push_word-2.ensures in
    drafted _ _ _ _ _ _ _ _ whole c.op.ensures c.in-Quiet.is (sym (append-nil _))

pub returns-in-Entry : goal.returns-in-Entry
unfolding info_bytes
returns-in-Entry c =
    let whole = head_drafted _ _ _ _ _ _ c.op.result c.args.self.now.arch c.args.self.now.ip c.args.self.now.sp
    c.new-draft.ensures c.push.ensures c.to_le_bytes.ensures c.push-2.ensures c.push_word.ensures
    c.push_word-2.ensures in
    drafted _ _ _ _ _ _ _ _ whole c.op.ensures c.in-Entry.is c.push_call.ensures

pub returns-in-Exit : goal.returns-in-Exit
unfolding info_bytes
returns-in-Exit c =
    let whole = head_drafted _ _ _ _ _ _ c.op.result c.args.self.now.arch c.args.self.now.ip c.args.self.now.sp
    c.new-draft.ensures c.push.ensures c.to_le_bytes.ensures c.push-2.ensures c.push_word.ensures
    c.push_word-2.ensures in
    drafted _ _ _ _ _ _ _ _ whole c.op.ensures c.in-Exit.is
    (exit_behind _ _ _ c.in-Exit.rval c.in-Exit.is_error _ c.from.ensures c.push_result.ensures
    c.push-in-Exit.ensures)

pub returns-in-Seccomp : goal.returns-in-Seccomp
unfolding info_bytes
returns-in-Seccomp c =
    let whole = head_drafted _ _ _ _ _ _ c.op.result c.args.self.now.arch c.args.self.now.ip c.args.self.now.sp
    c.new-draft.ensures c.push.ensures c.to_le_bytes.ensures c.push-2.ensures c.push_word.ensures
    c.push_word-2.ensures in
    drafted _ _ _ _ _ _ _ _ whole c.op.ensures c.in-Seccomp.is
    (ret_data_behind _ _ _ c.in-Seccomp.nr c.in-Seccomp.args c.in-Seccomp.ret_data _ c.to_le_bytes-in-Seccomp.ensures
    c.push_call-in-Seccomp.ensures c.push-in-Seccomp.ensures)
