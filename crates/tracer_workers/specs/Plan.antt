-- A case as it is traced: its rows, the script and the setting of each, and how the tracers restart their tracees.
use Rattle.std.specs.Prelude.{◌≡◌, ℕ, List}
use Rattle.stop_history.specs.declared.roster.Row.{Row}
use Rattle.stop_history.specs.Roster.{row_at}
use Rattle.trace_options.specs.Options.{AreValidOptions, option_bits}
use Rattle.trace_options.specs.declared.filter.Filter.{Filter}
use Rattle.trace_options.specs.declared.options.Options.{Options}
use Rattle.trace_script.specs.CaseFacts.{IsCase}
use Rattle.trace_script.specs.CaseFile.{CaseContent, script_at}
use Rattle.trace_script.specs.Script.{Script}
use Rattle.trace_script.specs.StopTrace.{Policy, Position, Trace, opening_position, trace_of}
use Rattle.trace_script.specs.declared.setting.Setting.{Setting}

pub record Plan : Type 0 where
  pub rows : List Row
  -- by row
  pub script : ℕ → Script
  pub setting : ℕ → Setting
  pub policy : Policy

-- a case that is traced with these options (ptrace(2), PTRACE_SETOPTIONS) and this filter (seccomp(2))
abbrev pub case_plan : CaseContent → Options → Filter → Policy → Plan
case_plan content options filter policy = record {
  rows = content.rows;
  script = script_at content.scripts;
  setting = λ row. record { tid = (row_at content.rows row).tid; options = options; filter = filter };
  policy = policy;
}

-- a plan of a case, with options that a tracer takes, whatever the filter and the restarts are
pub record IsCasePlan (plan : Plan) : Type 0 where
  pub content : CaseContent
  pub options : Options
  pub filter : Filter
  pub is_case : IsCase content
  pub taken : AreValidOptions (option_bits options)
  pub is_plan : plan ≡ case_plan content options filter plan.policy

-- where the tracee of a row begins
abbrev pub opening_of : Plan → ℕ → Position
opening_of plan row = opening_position (plan.setting row) (plan.script row)

-- the trace of a row's script
abbrev pub row_trace : Plan → ℕ → Trace
row_trace plan row = trace_of plan.policy (plan.setting row) (plan.script row)
