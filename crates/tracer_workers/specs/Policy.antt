-- How tracers restart their tracees: plainly, from one syscall-stop to the next (ptrace(2), PTRACE_SYSCALL), or with a
-- filter that stops the calls that are shown (seccomp(2), SECCOMP_RET_TRACE), from whose stops alone they go on to the
-- end of the call.
use Rattle.std.specs.Prelude.{ℕ, Bool, true, false}
use Rattle.trace_options.specs.Calls.{Calls, has_call}
use Rattle.trace_record.specs.declared.resume.Kind.{Kind}
use Rattle.trace_record.specs.declared.resume.Kind.TheVariants.{Cont, Syscall}
use Rattle.trace_record.specs.declared.stop.Stop.{Stop}
use Rattle.trace_record.specs.declared.stop.Stop.TheVariants as stop
use Rattle.trace_script.specs.StopTrace.{Policy}

-- the signal that a restart hands over: that of a signal-delivery-stop
abbrev pub passed : Stop → ℕ
passed (stop.Signal signal) = signal
passed stop.Start = 0
passed stop.Enter = 0
passed stop.Exit = 0
passed (stop.Seccomp ret_data) = 0
passed (stop.Fork child) = 0
passed (stop.Clone child) = 0
passed (stop.Exec former) = 0
passed (stop.Ending death) = 0

abbrev pub plain_policy : Policy
plain_policy content = record { kind = Syscall; signal = passed content.stop }

-- to the syscall-exit-stop of a call that is shown
abbrev pub to_its_end : Bool → Kind
to_its_end true = Syscall
to_its_end false = Cont

abbrev pub filtered_kind : Bool → Stop → Kind
filtered_kind shown (stop.Seccomp ret_data) = Syscall
filtered_kind shown (stop.Fork child) = to_its_end shown
filtered_kind shown (stop.Clone child) = to_its_end shown
filtered_kind shown (stop.Exec former) = to_its_end shown
filtered_kind shown (stop.Signal signal) = Cont
filtered_kind shown stop.Start = Cont
filtered_kind shown stop.Enter = Cont
filtered_kind shown stop.Exit = Cont
filtered_kind shown (stop.Ending death) = Cont

abbrev pub seccomp_policy : Calls → Policy
seccomp_policy calls content = record {
  kind = filtered_kind (has_call calls content.regs.orig_rax) content.stop;
  signal = passed content.stop;
}
