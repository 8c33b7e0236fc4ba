-- How a refusal is printed.
use Rattle.std.specs.Prelude.{◌++◌, ℕ, List, codes, decimal}
use Rattle.trace_script.specs.declared.cause.CaseError.{CaseError}
use Rattle.trace_script.specs.Cause.{cause_name}

abbrev pub case_error_text : CaseError → List ℕ
case_error_text error = codes "line " ++ (decimal error.line ++ (codes ": " ++ cause_name error.cause))
