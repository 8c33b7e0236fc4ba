-- What is shown of a litmus file: one outcome, all of them, or that none has all that the file requires.
use Rattle.std.proofs.Common.{◌≡◌, ◌∙◌, ℕ, Bool, true, false, List, Option, Some, None, ap, sym}
use Rattle.std.proofs.Math.Path.{fun_ext}
use Rattle.std.specs.Prelude.{cond, length}
use Rattle.stop_history.specs.declared.roster.Row.{Row}
use Rattle.stop_program.specs.declared.command.ThreadCommand.{ThreadCommand}
use Rattle.stop_program.specs.Run.{EndedRun}
use Rattle.litmus_files.specs.declared.required.Condition.{Condition}
use Rattle.litmus_files.specs.LitmusFile.{LitmusContent}
use Rattle.litmus_files.specs.Required.{conditions_with}
use Rattle.outcome_text.specs.declared.searched.Searched.{Searched}
use Rattle.outcome_text.specs.Chosen.{chosen_of}
use Rattle.outcome_text.specs.Halving.{IsForbiddenText}
use Rattle.outcome_text.specs.OutcomeOrder.{outcome_replay}
use Rattle.outcome_text.specs.Searched.{CanMeet, HasMorePlacesWith, IsSearched, all_required, all_text, chosen_with}
use Rattle.outcome_text.specs.Searched.{commands_with, forbids}
use Rattle.outcome_text.proofs.SearchedFiles.{chosen_is}
use Rattle.tracer_cli.specs.declared.arguments.ExploreOptions.{ExploreOptions}
use Rattle.tracer_cli.specs.declared.arguments.Listing.{Listing}
use Rattle.tracer_cli.specs.declared.arguments.Listing.TheVariants as listing
use Rattle.tracer_cli.specs.Explored.{IsShown, asked_text, number_asked, shows_ends}

-- ---- one outcome

pub order_is : (content : LitmusContent) (number threads places : ℕ) (lists : ℕ → List ThreadCommand)
    (conditions : List Condition) (rows : List Row) (found : List EndedRun) (shown : Option (List ℕ))
    → rows ≡ content.rows → threads ≡ length content.names
    → ((thread : ℕ) → lists thread ≡ commands_with content (all_required content) thread)
    → conditions ≡ conditions_with (all_required content) content.conditions
    → shown ≡ outcome_replay rows lists number (chosen_of threads lists conditions found)
    → shown ≡ asked_text (listing.Replay number) content found places
order_is content number threads places lists conditions rows found shown rows_are long own conditions_are is =
    is ∙ ap (λ r. outcome_replay r lists number (chosen_of threads lists conditions found)) rows_are
    ∙ ap (λ l. outcome_replay content.rows l number (chosen_of threads lists conditions found)) (fun_ext own)
    ∙ ap (outcome_replay content.rows (commands_with content (all_required content)) number)
    (chosen_is content (all_required content) threads lists conditions found long own conditions_are)

-- ---- all outcomes

all_listed : (asked : Listing) (content : LitmusContent) (found : List EndedRun) (places : ℕ) (text : List ℕ)
    → number_asked asked ≡ None
    → forbids content.requirements (chosen_with content (all_required content) found) ≡ false
    → text ≡ all_text (shows_ends asked) content places (chosen_with content (all_required content) found)
    → asked_text asked content found places ≡ Some text
all_listed (listing.Replay number) content found places text none allowed is =
    absurd (let clash : Some number ≡ None = none in cc)
all_listed listing.Outcomes content found places text none allowed is =
    ap (λ (b : Bool). cond b None (Some (all_text false content places (chosen_with content (all_required content) found))))
    allowed ∙ ap Some (sym is)
all_listed listing.Ends content found places text none allowed is =
    ap (λ (b : Bool). cond b None (Some (all_text true content places (chosen_with content (all_required content) found))))
    allowed ∙ ap Some (sym is)

pub all_shown : (options : ExploreOptions) (content : LitmusContent) (searched : Searched) (text : List ℕ)
    → IsSearched content options.budget (all_required content) searched → number_asked options.listing ≡ None
    → forbids content.requirements (chosen_with content (all_required content) searched.explored.runs) ≡ false
    → text ≡ all_text (shows_ends options.listing) content searched.explored.places
    (chosen_with content (all_required content) searched.explored.runs)
    → IsShown options content text false
all_shown options content searched text known none allowed is = record {
  found = searched.explored.runs;
  places = searched.explored.places;
  all = known.all;
  few = known.few;
  shows = all_listed options.listing content searched.explored.runs searched.explored.places text none allowed is;
}

-- ---- that nothing has all that the file requires

pub forbidden_shown : (options : ExploreOptions) (content : LitmusContent) (text : List ℕ)
    → number_asked options.listing ≡ None
    → (HasMorePlacesWith content (all_required content) options.budget → ⊥)
    → (CanMeet content (all_required content) → ⊥) → IsForbiddenText options.budget content text
    → IsShown options content text true
forbidden_shown options content text none few unmet says =
    record { lists = none; few = few; unmet = unmet; says = says }
