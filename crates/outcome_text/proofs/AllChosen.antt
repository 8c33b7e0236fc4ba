-- Where a program asks nothing of its outcomes, each of them is chosen.
use Rattle.std.proofs.Common.{refl, ◌≡◌, ◌∙◌, ◌==◌, ◌∷◌, [], ℕ, suc, zero, Bool, true, false, List, Vec, ap, length}
use Rattle.std.proofs.Common.{None, Option, Some, sym}
use Rattle.std.proofs.Math.Dec.{eqb-suc-zero}
use Rattle.std.specs.Prelude.{filter, is_none, is_some, slice_get}
use Rattle.std.proofs.lemmas.Bool.{and_from, and_parts, false≢true}
use Rattle.stop_program.specs.declared.command.ThreadCommand.{ThreadCommand}
use Rattle.stop_program.specs.Progress.{has_reply}
use Rattle.stop_program.specs.Replies.{DoneCommand, done_by_thread}
use Rattle.stop_program.specs.Run.{EndedRun}
use Rattle.stop_program.specs.Threads.{commands_in}
use Rattle.litmus_files.specs.declared.required.Condition.{Condition}
use Rattle.outcome_text.specs.Chosen.{asks_nothing, chosen_of, has_come_true, has_no_reply, has_thread_come_true}
use Rattle.outcome_text.specs.Chosen.{have_come_true, is_chosen, lacks_replies}
use Rattle.outcome_text.proofs.AllOf.{all_pass}

none_is : {X : Type 0} (wanted : Option X) → is_none wanted ≡ true → is_some wanted ≡ false
none_is None none = refl
none_is (Some x) none = sym none

no_reply_at : (commands : List ThreadCommand) → has_no_reply commands ≡ true → (at : ℕ)
    → has_reply (slice_get commands at) ≡ false
no_reply_at [] none at = refl
no_reply_at (command ∷ more) none zero =
    none_is command.wanted (and_parts (is_none command.wanted) (has_no_reply more) none).0
no_reply_at (command ∷ more) none (suc at) =
    no_reply_at more (and_parts (is_none command.wanted) (has_no_reply more) none).1 at

no_reply_in : {Z : Type 0} (lists : List (Vec ThreadCommand Z)) → lacks_replies lists ≡ true
    → (thread : ℕ) → has_no_reply (commands_in lists thread) ≡ true
no_reply_in [] none thread = refl
no_reply_in (own ∷ more) none zero =
    (and_parts (has_no_reply own.items) (lacks_replies more) none).0
no_reply_in (own ∷ more) none (suc thread) =
    no_reply_in more (and_parts (has_no_reply own.items) (lacks_replies more) none).1 thread

thread_is_true : (commands : List ThreadCommand) (dones : List DoneCommand) → has_no_reply commands ≡ true
    → has_thread_come_true commands dones ≡ true
unfolding has_thread_come_true
thread_is_true commands dones none =
    all_pass (has_come_true commands dones) 0 (length commands) (λ at low high. rw (no_reply_at commands none at) refl)

pub each_is_chosen : {Z : Type 0} (lists : List (Vec ThreadCommand Z)) (conditions : List Condition)
    → asks_nothing lists conditions ≡ true → (ending : EndedRun)
    → is_chosen (length lists) (commands_in lists) conditions ending ≡ true
unfolding is_chosen have_come_true
each_is_chosen {Z} lists [] nothing ending =
    let all = all_pass
    (λ thread. has_thread_come_true (commands_in lists thread)
    (done_by_thread (commands_in lists) ending.turns thread)) 0 (length lists)
    (λ thread low high. thread_is_true (commands_in lists thread)
    (done_by_thread (commands_in lists) ending.turns thread) (no_reply_in lists nothing thread)) in
    and_from _ _ all refl
each_is_chosen {Z} lists (condition ∷ more) nothing ending =
    absurd (false≢true (sym (eqb-suc-zero (length more))
    ∙ (and_parts (length (condition ∷ more) == 0) (lacks_replies lists) nothing).0))

all_kept : {X : Type 0} (test : X → Bool) → ((x : X) → test x ≡ true) → (xs : List X) → filter test xs ≡ xs
all_kept test passes [] = refl
all_kept test passes (x ∷ xs) = rw (passes x) (ap (λ ys. x ∷ ys) (all_kept test passes xs))

pub all_chosen : {Z : Type 0} (lists : List (Vec ThreadCommand Z)) (conditions : List Condition)
    → asks_nothing lists conditions ≡ true → (endings : List EndedRun)
    → chosen_of (length lists) (commands_in lists) conditions endings ≡ endings
all_chosen lists conditions nothing endings =
    all_kept (is_chosen (length lists) (commands_in lists) conditions) (each_is_chosen lists conditions nothing) endings
