-- What is printed of a litmus file, once it is known what is shown of it.
use Rattle.std.proofs.Common.{◌≡◌, ℕ, true, false, List, Option, Result, Ok, Err, subst}
use Rattle.litmus_files.specs.LitmusFile.{LitmusContent}
use Rattle.tracer_cli.specs.declared.arguments.ExploreOptions.{ExploreOptions}
use Rattle.tracer_cli.specs.declared.failure.Failure.{Failure}
use Rattle.tracer_cli.specs.declared.failure.Failure.TheVariants.{CannotWrite, Forbidden, NoMemory}
use Rattle.tracer_cli.specs.Explored.{IsShown, PrintsOutcomes, WritesShown}
use Rattle.tracer_cli.specs.Run.{Writes, WritesIfMemory}

pub writes_if_memory : (text : List ℕ) (before after : Option (List ℕ)) (result : Result (Unit {0}) Failure)
    → Writes text before after result → WritesIfMemory text before after result
writes_if_memory text before after (Err NoMemory) writes = tt
writes_if_memory text before after other writes = writes

pub shown_printed : (options : ExploreOptions) (content : LitmusContent) (text : List ℕ)
    (before after : Option (List ℕ)) (result : Result (Unit {0}) Failure) → IsShown options content text false
    → WritesIfMemory text before after result → PrintsOutcomes options (Ok content) before after result
shown_printed options content text before after (Ok done) shown writes = (text, (false, shown, writes))
shown_printed options content text before after (Err CannotWrite) shown writes = (text, (false, shown, writes))
shown_printed options content text before after (Err NoMemory) shown writes = tt
shown_printed options content text before after (Err failure) shown writes = absurd writes

pub writes_as : (said text : List ℕ) (before after : Option (List ℕ)) (result : Result (Unit {0}) Failure) → said ≡ text
    → Writes said before after result → WritesIfMemory text before after result
writes_as said text before after result same writes =
    writes_if_memory text before after result (subst (λ t. Writes t before after result) same writes)

pub forbidden_printed : (options : ExploreOptions) (content : LitmusContent) (text : List ℕ)
    (before after : Option (List ℕ)) (result : Result (Unit {0}) Failure) → IsShown options content text true
    → WritesShown text true before after result → PrintsOutcomes options (Ok content) before after result
forbidden_printed options content text before after (Err Forbidden) shown writes = (text, (true, shown, writes))
forbidden_printed options content text before after (Err CannotWrite) shown writes = (text, (true, shown, writes))
forbidden_printed options content text before after (Ok done) shown writes = absurd writes
forbidden_printed options content text before after (Err failure) shown writes = absurd writes
