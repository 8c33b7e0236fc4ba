-- What is left to do once the words are understood and the file is read.
use Rattle.std.specs.Prelude.{◌≡◌, ◌≤◌, ℕ, List, Option, None, Result, string_bytes}
use Rattle.stop_history.specs.declared.limits.TheConstants.{TRACERS}
use Rattle.tracer_cli.specs.declared.arguments.Request.{Request}
use Rattle.tracer_cli.specs.declared.arguments.Request.TheVariants.{Replay, Run, Explore, Help}
use Rattle.tracer_cli.specs.declared.failure.Failure.{Failure}
use Rattle.tracer_cli.specs.declared.failure.Failure.TheVariants.{CannotRead}
use Rattle.tracer_cli.specs.declared.job.Job.{Job}
use Rattle.tracer_cli.specs.declared.job.Job.TheVariants as job
use Rattle.tracer_cli.specs.CaseText.{HasConfig, case_text_of}
use Rattle.tracer_cli.specs.Explored.{PrintsOutcomes}
use Rattle.litmus_files.specs.LitmusFile.{litmus_content_of}
use Rattle.replay_files.specs.Replay.{replay_of}
use Rattle.tracer_cli.specs.Run.{IsReadFailure, IsReadOf, Prints, PrintsCase, Writes}
use Rattle.tracer_cli.specs.Shown.{IsNamesFailure, unknown_name}

-- the job of a request: a text, or what was read of a file; what that is, is known of standard input alone
abbrev pub IsJob : Request → (input : Option (List ℕ)) → Job → Type 0
IsJob (Help text) input (job.Print told) = string_bytes told ≡ string_bytes text
IsJob (Replay file) input (job.Replay bytes) = file ≡ None → IsReadOf input bytes.items
IsJob (Run options file) input (job.Run config bytes) =
    (unknown_name options.names ≡ None) × HasConfig options config × (file ≡ None → IsReadOf input bytes.items)
IsJob (Explore options file) input (job.Explore asked bytes) =
    (asked ≡ options) × (file ≡ None → IsReadOf input bytes.items)
IsJob request input other = ⊥

-- why a request has no job: of a run, a name is unknown; all names are known, and the file cannot be read; or there is
-- no memory
abbrev pub HasNoJob : Request → Failure → Type 0
HasNoJob (Help text) failure = ⊥
HasNoJob (Replay file) failure = IsReadFailure failure
HasNoJob (Explore options file) failure = IsReadFailure failure
HasNoJob (Run options file) CannotRead = unknown_name options.names ≡ None
HasNoJob (Run options file) failure = IsNamesFailure (unknown_name options.names) failure

-- a run has a number of workers that there may be

abbrev pub AreWorkersInRange : Request → Type 0
AreWorkersInRange (Run options file) = (1 ≤ options.workers) × (options.workers ≤ TRACERS)
AreWorkersInRange other = Unit {0}

abbrev pub HasWorkers : Job → Type 0
HasWorkers (job.Run config bytes) = (1 ≤ config.workers) × (config.workers ≤ TRACERS)
HasWorkers other = Unit {0}

-- how a job is done
abbrev pub IsDone : Job → (before after : Option (List ℕ)) → Result (Unit {0}) Failure → Type 0
IsDone (job.Print text) before after result = Writes (string_bytes text) before after result
IsDone (job.Replay bytes) before after result = Prints (replay_of bytes.items) before after result
IsDone (job.Run config bytes) before after result = PrintsCase (case_text_of config bytes.items) before after result
IsDone (job.Explore options bytes) before after result =
    PrintsOutcomes options (litmus_content_of bytes.items) before after result
