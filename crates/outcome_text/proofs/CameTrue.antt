-- The test for replies that came true says that each command with a reply was done, and says it where it is so.
use Rattle.std.proofs.Common.{refl, ◌≡◌, ◌≤◌, ◌||◌, ◌&&◌, ◌∷◌, ◌==◌, [], ℕ, Bool, true, false, not, List, Option, Some, None}
use Rattle.std.proofs.Common.{IsSome, is_some, length, slice_get, arith, ◌∙◌, ap, sym, inl, inr}
use Rattle.std.proofs.lemmas.Bool.{and_parts, cases_Bool, cases_lt, eq-eqb, eqb-true, false≢true, not_from_false, or_cases}
use Rattle.std.proofs.lemmas.Bool.{or_left, or_right}
use Rattle.std.proofs.lemmas.Option.{none-some, slice_get_within}
use Rattle.stop_program.specs.declared.command.ThreadCommand.{ThreadCommand}
use Rattle.stop_program.specs.Program.{Log}
use Rattle.stop_program.specs.Replies.{DoneCommand, HaveComeTrue, WasDone, done_by_thread}
use Rattle.stop_program.specs.Progress.{has_reply}
use Rattle.stop_program.specs.Run.{EndedRun}
use Rattle.litmus_files.specs.declared.required.Condition.{Condition}
use Rattle.outcome_text.specs.Chosen.{has_come_true, has_thread_come_true, have_come_true, is_chosen, was_done}
use Rattle.outcome_text.specs.Conditions.{conditions_hold}
use Rattle.outcome_text.proofs.AllOf.{all_pass, passes_at}

-- ---- a command that was done

is_done : (at : ℕ) (dones : List DoneCommand) → was_done at dones ≡ true → WasDone at dones
unfolding was_done WasDone
is_done at [] is = absurd (false≢true is)
is_done at (done ∷ more) is =
    elim (or_cases (done.0 == at) (was_done at more) is) as (λ _. WasDone at (done ∷ more)) [
      | inl here ↦ inl (eqb-true done.0 at here)
      | inr later ↦ inr (is_done at more later)
    ]

done_is : (at : ℕ) (dones : List DoneCommand) → WasDone at dones → was_done at dones ≡ true
unfolding was_done WasDone
done_is at [] is = absurd is
done_is at (done ∷ more) (inl here) = or_left (done.0 == at) (was_done at more) (eq-eqb done.0 at here)
done_is at (done ∷ more) (inr later) = or_right (done.0 == at) (was_done at more) (done_is at more later)

-- ---- a command at a place

replied : (found : Option ThreadCommand) (command : ThreadCommand) → found ≡ Some command → IsSome command.wanted
    → has_reply found ≡ true
replied found command is wanted = ap has_reply is ∙ wanted

must_be_done : (reply done : Bool) → reply ≡ true → (not reply || done) ≡ true → done ≡ true
must_be_done true done is either = either
must_be_done false done is either = absurd (false≢true is)

came_at : (found : Option ThreadCommand) (done : Bool)
    → ((command : ThreadCommand) → found ≡ Some command → IsSome command.wanted → done ≡ true)
    → (not (has_reply found) || done) ≡ true
came_at None done each = refl
came_at (Some command) done each =
    elim (cases_Bool (is_some command.wanted)) as (λ _. (not (is_some command.wanted) || done) ≡ true) [
      | inl some ↦ or_right (not (is_some command.wanted)) done (each command refl some)
      | inr none ↦ or_left (not (is_some command.wanted)) done (not_from_false (is_some command.wanted) none)
    ]

-- ---- all commands of all threads

pub came_true : (threads : ℕ) (commands : ℕ → List ThreadCommand)
    → ((thread : ℕ) → threads ≤ thread → commands thread ≡ []) → (log : Log)
    → have_come_true threads commands log ≡ true → HaveComeTrue commands log
unfolding have_come_true has_thread_come_true
came_true threads commands past log all thread at command is wanted =
    elim (cases_lt thread threads) as (λ _. WasDone at (done_by_thread commands log thread)) [
      | inl below ↦
          let dones : List DoneCommand = done_by_thread commands log thread in
          let own : has_thread_come_true (commands thread) dones ≡ true =
          passes_at (λ t. has_thread_come_true (commands t) (done_by_thread commands log t)) 0 threads all thread
          (omega arith) (omega arith) in
          let within = slice_get_within (commands thread) at command is in
          let one : has_come_true (commands thread) dones at ≡ true =
          passes_at (has_come_true (commands thread) dones) 0 (length (commands thread)) own at (omega arith)
          (omega arith) in
          is_done at dones
          (must_be_done (has_reply (slice_get (commands thread) at)) (was_done at dones)
          (replied (slice_get (commands thread) at) command is wanted) one)
      | inr over ↦ absurd (none-some command (ap (λ own. slice_get own at) (sym (past thread over)) ∙ is))
    ]

pub true_came : (threads : ℕ) (commands : ℕ → List ThreadCommand) (log : Log) → HaveComeTrue commands log
    → have_come_true threads commands log ≡ true
unfolding have_come_true has_thread_come_true
true_came threads commands log all =
    all_pass (λ t. has_thread_come_true (commands t) (done_by_thread commands log t)) 0 threads
    (λ thread low high.
    all_pass (has_come_true (commands thread) (done_by_thread commands log thread)) 0 (length (commands thread))
    (λ at least most.
    came_at (slice_get (commands thread) at) (was_done at (done_by_thread commands log thread))
    (λ command is wanted. done_is at (done_by_thread commands log thread) (all thread at command is wanted))))

-- an outcome is chosen where all replies came true, and all conditions hold
pub chosen_by : (threads : ℕ) (commands : ℕ → List ThreadCommand) (conditions : List Condition) (ending : EndedRun)
    → have_come_true threads commands ending.turns ≡ true → conditions_hold commands conditions ending ≡ true
    → is_chosen threads commands conditions ending ≡ true
unfolding is_chosen
chosen_by threads commands conditions ending came hold =
    ap (λ b. b && conditions_hold commands conditions ending) came ∙ hold

pub chosen_parts : (threads : ℕ) (commands : ℕ → List ThreadCommand) (conditions : List Condition) (ending : EndedRun)
    → is_chosen threads commands conditions ending ≡ true
    → (have_come_true threads commands ending.turns ≡ true) × (conditions_hold commands conditions ending ≡ true)
unfolding is_chosen
chosen_parts threads commands conditions ending chosen =
    and_parts (have_come_true threads commands ending.turns) (conditions_hold commands conditions ending) chosen
