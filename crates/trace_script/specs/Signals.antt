-- The signals that may arrive at a tracee of a case.
use Rattle.std.specs.Prelude.{◌==◌, ◌&&◌, ◌||◌, ℕ, Bool, not, nat_le}
use Rattle.trace_script.specs.declared.case.signals.TheConstants.{LAST_STANDARD, SIGKILL, SIGSTOP, SIGTSTP, SIGTTIN}
use Rattle.trace_script.specs.declared.case.signals.TheConstants.{SIGTTOU}

-- a tracer never sees SIGKILL, and four signals stop the tracee's whole group (signal(7); ptrace(2), "Group-stop")
abbrev pub kills_or_stops : ℕ → Bool
kills_or_stops signal =
    signal == SIGKILL || (signal == SIGSTOP || (signal == SIGTSTP || (signal == SIGTTIN || signal == SIGTTOU)))

-- the other standard signals
abbrev pub can_arrive : ℕ → Bool
can_arrive signal = nat_le 1 signal && (nat_le signal LAST_STANDARD && not (kills_or_stops signal))
