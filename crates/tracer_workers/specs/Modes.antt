-- Two ways to trace a script: plainly, and with a filter; each with or without stops before deaths. What they have in
-- common.
use Rattle.std.specs.Prelude.{◌≡◌, ◌==◌, ℕ, Bool, true, false, List, Some}
use Rattle.std.specs.Int.RustNames.{bit_and}
use Rattle.trace_options.specs.Options.{option_bits}
use Rattle.trace_options.specs.declared.filter.Filter.{Filter}
use Rattle.trace_options.specs.declared.options.Options.{Options}
use Rattle.trace_options.specs.declared.options.TheConstants.Options.{TRACECLONE, TRACEEXEC, TRACEFORK, TRACESECCOMP}
use Rattle.trace_script.specs.Script.{Script}
use Rattle.trace_script.specs.StopTrace.{Trace, trace_of}
use Rattle.trace_script.specs.declared.setting.Setting.{Setting}
use Rattle.record_printer.specs.declared.call.show.Show.{Show}
use Rattle.tracer_workers.specs.CaseText.{death_of}
use Rattle.tracer_workers.specs.Printing.{printed_lines}
use Rattle.tracer_workers.specs.Policy.{plain_policy, seccomp_policy}

abbrev pub setting : ℕ → Options → Filter → Setting
setting tid options filter = record { tid = tid; options = options; filter = filter }

abbrev pub asks : Options → Options → Bool
asks options option = bit_and (option_bits options) (option_bits option) == option_bits option

-- options that ask for the same stops but for those of a filter and those before deaths
pub record AgreeButFilter (options more : Options) : Type 0 where
  pub off : asks options TRACESECCOMP ≡ false
  pub on : asks more TRACESECCOMP ≡ true
  pub forks : asks options TRACEFORK ≡ asks more TRACEFORK
  pub clones : asks options TRACECLONE ≡ asks more TRACECLONE
  pub execs : asks options TRACEEXEC ≡ asks more TRACEEXEC

abbrev pub plain_trace : ℕ → Options → Filter → Script → Trace
plain_trace tid options filter script = trace_of plain_policy (setting tid options filter) script

abbrev pub filtered_trace : ℕ → Options → Filter → Script → Trace
filtered_trace tid options filter script =
    trace_of (seccomp_policy filter.calls) (setting tid options filter) script

-- the filter that stops what is shown
abbrev pub shown_filter : Show → (ret_data : ℕ) → Filter
shown_filter show ret_data = record { calls = show.calls; ret_data = ret_data }

-- the lines of a whole trace
abbrev pub trace_lines : Show → ℕ → Trace → List ℕ
trace_lines show tid trace = printed_lines show tid trace.stops (Some (death_of trace.ending))
