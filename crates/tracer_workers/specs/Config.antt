-- How a case is traced and printed: the options and the filter of its tracees, the restarts, what is shown, and the text
-- (ptrace(2), PTRACE_SETOPTIONS; seccomp(2); strace(1)).
use Rattle.std.specs.Prelude.{◌+◌, ℕ, Bool, false, List, if◌then◌else◌}
use Rattle.trace_options.specs.Options.{option_bits}
use Rattle.trace_options.specs.declared.filter.Filter.{Filter}
use Rattle.trace_options.specs.declared.options.Options.{Options}
use Rattle.trace_options.specs.declared.options.TheConstants.Options.{TRACECLONE, TRACEEXEC, TRACEEXIT, TRACEFORK}
use Rattle.trace_options.specs.declared.options.TheConstants.Options.{TRACESECCOMP, TRACESYSGOOD}
use Rattle.trace_script.specs.CaseFile.{CaseContent}
use Rattle.trace_script.specs.StopTrace.{Policy}
use Rattle.record_printer.specs.declared.call.show.Show.{Show}
use Rattle.tracer_workers.specs.CaseText.{case_text}
use Rattle.tracer_workers.specs.Plan.{Plan, case_plan}
use Rattle.tracer_workers.specs.Policy.{plain_policy, seccomp_policy}
use Rattle.tracer_workers.specs.Printing.{printed_lines}
use Rattle.tracer_workers.specs.declared.config.Config.{Config}

-- syscall-stops are told apart and execs stop, in any case; the numbers of options add up, since each is a bit of its own
abbrev pub option_sum : (follow seccomp exits : Bool) → ℕ
option_sum follow seccomp exits =
    option_bits TRACESYSGOOD + option_bits TRACEEXEC
    + (if follow then option_bits TRACEFORK + option_bits TRACECLONE else 0)
    + (if seccomp then option_bits TRACESECCOMP else 0)
    + (if exits then option_bits TRACEEXIT else 0)

abbrev pub options_of : Config → Options
options_of config = record { 0 = option_sum config.follow config.seccomp config.exits }

abbrev pub filter_of : Config → Filter
filter_of config = record { calls = config.shown; ret_data = 0 }

abbrev pub policy_of : Config → Policy
policy_of config = if config.seccomp then seccomp_policy config.shown else plain_policy

abbrev pub show_of : Config → Show
show_of config = record { limit = config.limit; calls = config.shown }

-- the case as it is traced
abbrev pub plan_of : Config → CaseContent → Plan
plan_of config content = case_plan content (options_of config) (filter_of config) (policy_of config)

-- the text of the case
abbrev pub text_of : Config → CaseContent → List ℕ
text_of config content = case_text (printed_lines (show_of config)) (plan_of config content)

-- the same without a filter, and without the stops before deaths
abbrev pub plain : Config → Config
plain config = record config { seccomp = false; exits = false }
