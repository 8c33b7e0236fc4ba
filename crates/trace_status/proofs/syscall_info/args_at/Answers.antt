-- Six words are read from their places.
use Rattle.trace_status.proofs.Layouts.{arguments_read}
use Rattle.trace_status.proofs.syscall_info.args_at.Goals as goal

pub returns : goal.returns
returns c =
    arguments_read c.args.bytes.now _ _ _ _ _ _ c.word_at.ensures c.word_at-2.ensures c.word_at-3.ensures
    c.word_at-4.ensures c.word_at-5.ensures c.word_at-6.ensures
