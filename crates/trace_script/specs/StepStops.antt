-- The stops of a step (ptrace(2), "Syscall-stops", "PTRACE_EVENT stops", "Signal-delivery-stop"; seccomp(2),
-- SECCOMP_RET_TRACE). A step is the list of what it does, one act after the other; the places at which its tracee may
-- stop are acts among them.
use Rattle.std.specs.Prelude.{◌==◌, ◌&&◌, ◌%◌, ◌∷◌, ◌++◌, [], ℕ, Bool, true, false, List, Option, Some, None}
use Rattle.std.specs.Prelude.{if◌then◌else◌}
use Rattle.std.specs.Int.RustNames.{bit_and}
use Rattle.trace_options.specs.Calls.{has_call}
use Rattle.trace_options.specs.Options.{option_bits}
use Rattle.trace_options.specs.declared.filter.Filter.{Filter}
use Rattle.trace_options.specs.declared.options.Options.{Options}
use Rattle.trace_options.specs.declared.options.TheConstants.Options.{TRACEFORK, TRACECLONE, TRACEEXEC, TRACESECCOMP}
use Rattle.trace_record.specs.declared.death.Death.{Death}
use Rattle.trace_record.specs.declared.death.Death.TheVariants.{Exited}
use Rattle.trace_record.specs.declared.resume.Kind.{Kind}
use Rattle.trace_record.specs.declared.resume.Kind.TheVariants.{Syscall, Cont}
use Rattle.trace_record.specs.declared.resume.Resume.{Resume}
use Rattle.trace_record.specs.declared.stop.Stop.{Stop}
use Rattle.trace_record.specs.declared.stop.Stop.TheVariants as stop
use Rattle.trace_script.specs.Script.{Fill, Image, Script, Step}
use Rattle.trace_script.specs.Script as step
use Rattle.trace_script.specs.declared.calls.TheConstants.{CLONE, CLONE_THREAD_FLAGS, EXECVE, EXIT, FORK}
use Rattle.trace_script.specs.declared.setting.Setting.{Setting}

-- when a tracee stops at a place
pub data When : Type 0 where
  -- always
  Always : When
  -- where the last restart before the place was PTRACE_SYSCALL
  Traced : When
  -- where PTRACE_O_TRACESECCOMP is set and the filter has the call
  Filtered : (nr : ℕ) → When
  -- where the option is set
  ByOption : (option : Options) → When

pub data Act : Type 0 where
  -- stops, if it does at this place
  Halts : (when : When) → (at : Stop) → Act
  -- a new process: its memory and all its registers
  Loads : (image : Image) → Act
  -- the registers at the entry to a call
  Calls : (nr : ℕ) → (arguments : List ℕ) → Act
  -- the program of an exec: its memory and where it starts
  Becomes : (image : Image) → Act
  -- the bytes that a call writes
  Stores : (fill : Fill) → Act
  -- the answer of a call
  Answers : (answer : ℕ) → Act
  -- the signal of the restart kills, where it is not 0
  Delivers : Act
  -- an exit: the tracee stops before its death, where PTRACE_O_TRACEEXIT is set, and dies
  Exits : (death : Death) → Act
  Dies : (death : Death) → Act

abbrev pub is_traced : Kind → Bool
is_traced Syscall = true
is_traced Cont = false

abbrev pub has_option : Setting → Options → Bool
has_option s option = bit_and (option_bits s.options) (option_bits option) == option_bits option

-- the filter stops a call
abbrev pub is_filtered : Setting → (nr : ℕ) → Bool
is_filtered s nr = has_option s TRACESECCOMP && has_call s.filter.calls nr

abbrev pub halts : Setting → Resume → When → Bool
halts s how Always = true
halts s how Traced = is_traced how.kind
halts s how (Filtered nr) = is_filtered s nr
halts s how (ByOption option) = has_option s option

-- the system call that a step makes, and its six arguments (syscalls(2)); a signal makes none
abbrev pub nr_of : Step → ℕ
nr_of (step.Call nr arguments answer fill) = nr
nr_of (step.Fork child) = FORK
nr_of (step.Thread child) = CLONE
nr_of (step.Exec path image) = EXECVE
nr_of (step.Signal signal deadly) = 0
nr_of (step.Exit status) = EXIT

abbrev pub one_argument : ℕ → List ℕ
one_argument first = first ∷ 0 ∷ 0 ∷ 0 ∷ 0 ∷ 0 ∷ []

abbrev pub step_arguments : Step → List ℕ
step_arguments (step.Call nr arguments answer fill) = arguments
step_arguments (step.Fork child) = one_argument 0
step_arguments (step.Thread child) = one_argument CLONE_THREAD_FLAGS
step_arguments (step.Exec path image) = one_argument path
step_arguments (step.Signal signal deadly) = one_argument 0
step_arguments (step.Exit status) = one_argument status

-- ---- the acts of a step, from each place on at which its tracee may stop

abbrev pub stores : Option Fill → List Act
stores None = []
stores (Some fill) = Stores fill ∷ []

abbrev pub answers : ℕ → List Act
answers answer = Answers answer ∷ Halts Traced stop.Exit ∷ []

-- after the event of a fork, a clone or an exec, and in a call where no event is
abbrev pub after_event : Step → List Act
after_event (step.Call nr arguments answer fill) = stores fill ++ answers answer
after_event (step.Fork child) = answers child
after_event (step.Thread child) = answers child
after_event (step.Exec path image) = answers 0
after_event (step.Signal signal deadly) = []
after_event (step.Exit status) = []

-- after the seccomp stop; the exit code is the status's low byte (exit(3))
abbrev pub after_filter : Setting → Step → List Act
after_filter s (step.Call nr arguments answer fill) = stores fill ++ answers answer
after_filter s (step.Fork child) = Halts (ByOption TRACEFORK) (stop.Fork child) ∷ answers child
after_filter s (step.Thread child) = Halts (ByOption TRACECLONE) (stop.Clone child) ∷ answers child
after_filter s (step.Exec path image) = Becomes image ∷ Halts (ByOption TRACEEXEC) (stop.Exec s.tid) ∷ answers 0
after_filter s (step.Signal signal deadly) = []
after_filter s (step.Exit status) = Exits (Exited (status % 256)) ∷ []

-- after the syscall-enter-stop
abbrev pub after_enter : Setting → Step → List Act
after_enter s step = Halts (Filtered (nr_of step)) (stop.Seccomp s.filter.ret_data) ∷ after_filter s step

-- after the signal-delivery-stop
abbrev pub after_signal : Bool → List Act
after_signal deadly = if deadly then Delivers ∷ [] else []

-- from the syscall-enter-stop on
abbrev pub from_entry : Setting → Step → List Act
from_entry s step = Halts Traced stop.Enter ∷ after_enter s step

abbrev pub call_acts : Setting → Step → List Act
call_acts s step = Calls (nr_of step) (step_arguments step) ∷ from_entry s step

-- the whole step
abbrev pub acts_of : Setting → Step → List Act
acts_of s (step.Signal signal deadly) = Halts Always (stop.Signal signal) ∷ after_signal deadly
acts_of s (step.Call nr arguments answer fill) = call_acts s (step.Call nr arguments answer fill)
acts_of s (step.Fork child) = call_acts s (step.Fork child)
acts_of s (step.Thread child) = call_acts s (step.Thread child)
acts_of s (step.Exec path image) = call_acts s (step.Exec path image)
acts_of s (step.Exit status) = call_acts s (step.Exit status)

-- steps that run out: the tracee exits with code 0, without a call
abbrev pub last_acts : List Act
last_acts = Exits (Exited 0) ∷ []

unfoldable pub acts_of_steps : Setting → List Step → List Act
acts_of_steps s [] = last_acts
acts_of_steps s (step ∷ steps) = acts_of s step ++ acts_of_steps s steps

-- the whole script: its program is loaded, and the tracee's first stop is made
abbrev pub acts_of_script : Setting → Script → List Act
acts_of_script s script = Loads script.image ∷ Halts Always stop.Start ∷ acts_of_steps s script.steps

-- ---- another filter

-- a stop by this filter: a seccomp stop has its data (seccomp(2), SECCOMP_RET_TRACE)
abbrev pub stop_by : Filter → Stop → Stop
stop_by filter (stop.Seccomp ret_data) = stop.Seccomp filter.ret_data
stop_by filter other = other

abbrev pub act_by : Filter → Act → Act
act_by filter (Halts when at) = Halts when (stop_by filter at)
act_by filter other = other
