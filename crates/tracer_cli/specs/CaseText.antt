-- The text of a case file: what its tracees print as they are traced by the options of a run (strace(1)).
use Rattle.std.specs.Prelude.{◌≡◌, ℕ, false, List, Result, Ok, Err, IsOk}
use Rattle.text_lines.specs.Ranges.{◌>>=◌}
use Rattle.trace_options.specs.Calls.{Calls}
use Rattle.trace_script.specs.declared.cause.CaseError.{CaseError}
use Rattle.trace_script.specs.CaseFile.{case_of}
use Rattle.tracer_cli.specs.declared.arguments.RunOptions.{RunOptions}
use Rattle.tracer_workers.specs.Config.{plain, text_of}
use Rattle.tracer_workers.specs.declared.config.Config.{Config}
use Rattle.tracer_cli.specs.declared.failure.Failure.{Failure}
use Rattle.tracer_cli.specs.declared.failure.Failure.TheVariants.{Refused, NoMemory, NoThreads}
use Rattle.tracer_cli.specs.Shown.{AreShown}

abbrev pub config_of : RunOptions → Calls → Config
config_of options calls = record {
  follow = options.follow;
  seccomp = options.seccomp;
  exits = false;
  workers = options.workers;
  limit = options.limit;
  shown = calls;
}

-- the text of a case does not depend on `--seccomp-bpf`
abbrev pub case_text_of : Config → List ℕ → Result (List ℕ) CaseError
case_text_of config text = case_of text >>= λ content. Ok (text_of (plain config) content)

-- the options as a config, with the calls that they name
abbrev pub HasConfig : RunOptions → Config → Type 0
HasConfig options config = (calls : Calls) × AreShown options.names calls × (config ≡ config_of options calls)

-- the failures of a run of a case file: the file is refused, memory ran out, or the file is taken and a thread could
-- not be started
abbrev pub IsTextFailure : (text : List ℕ) → Failure → Type 0
IsTextFailure text (Refused error) = case_of text ≡ Err error
IsTextFailure text NoMemory = Unit {0}
IsTextFailure text NoThreads = IsOk (case_of text)
IsTextFailure text failure = ⊥
