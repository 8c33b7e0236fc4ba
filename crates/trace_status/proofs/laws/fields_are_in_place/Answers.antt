-- Each field of the layout is at its place.
use Rattle.trace_status.specs.SyscallInfo.{info_bytes}
use Rattle.trace_status.proofs.Layouts.{in_place}
use Rattle.trace_status.proofs.laws.fields_are_in_place.Goals as goal

pub returns : goal.returns
unfolding info_bytes
returns c = λ info. in_place info.arch info.ip info.sp info.part
