-- Sets of system calls by their numbers: some of those below NAMED_CALLS, and all others or none of them.
use Rattle.std.specs.Prelude.{ℕ, ◌==◌, Bool, nat_lt, if◌then◌else◌}
use Rattle.std.specs.Int.{bit_at}
use Rattle.trace_options.specs.declared.call_set.TheConstants.{NAMED_CALLS}

-- the calls below NAMED_CALLS, each by its bit in a number, and whether all others are in the set
pub record Calls : Type 0 where
  pub named : ℕ
  pub others : Bool

-- whether a call is in the set
abbrev pub has_call : Calls → ℕ → Bool
has_call calls nr = if nat_lt nr NAMED_CALLS then bit_at calls.named nr == 1 else calls.others
