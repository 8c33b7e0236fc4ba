-- The last address is that of a fault where it is not mapped, and otherwise the address space has ended.
use Rattle.std.proofs.Common.{◌≡◌, false, arith}
use Rattle.std.specs.Prelude.{IsSome, is_some}
use Rattle.trace_pages.specs.FlatMemory.{byte_at}
use Rattle.mem_views.proofs.Ends.{fault_is, none_is, top_is}
use Rattle.mem_views.proofs.runs.end_at.Goals as goal
use Rattle.mem_views.proofs.runs.end_at.Goals.{else-fault-eq18446744073709551615-via-then-fault-eq18446744073709551615+else-is_some, else-fault-eq18446744073709551615-via-else-fault-eq18446744073709551615}

pub returns-then-is_some : goal.returns-then-is_some
returns-then-is_some g c = λ addr count below answer.
    let some : IsSome (byte_at c.args.memory.now c.args.fault.addr) = cc in
    top_is c.args.memory.now addr count c.args.fault some answer

pub returns-else-fault-eq18446744073709551615 : goal.returns-else-fault-eq18446744073709551615
returns-else-fault-eq18446744073709551615 g c = λ addr count below answer.
    fault_is c.args.memory.now addr count c.args.fault below (λ last.
    elim c.else-fault-eq18446744073709551615.branch [
      | else-fault-eq18446744073709551615-via-then-fault-eq18446744073709551615+else-is_some w ↦
          let none : is_some (byte_at c.args.memory.now c.args.fault.addr) ≡ false = cc in none_is _ none
      | else-fault-eq18446744073709551615-via-else-fault-eq18446744073709551615 w ↦ absurd (omega arith)
    ]) answer
