-- The outcomes that are printed: those in which every command with a reply was done, and every condition holds. A law
-- says that the test for replies is `HaveComeTrue` of `stop_program`.
use Rattle.std.specs.Prelude.{◌==◌, ◌&&◌, ◌||◌, ℕ, suc, zero, Bool, not, List, length, filter, Option, None, Vec}
use Rattle.std.specs.Prelude.{is_none, slice_get}
use Rattle.std.specs.List.{list_all, list_any, range_with_len}
use Rattle.stop_program.specs.declared.command.ThreadCommand.{ThreadCommand}
use Rattle.stop_program.specs.Program.{Log}
use Rattle.stop_program.specs.Progress.{has_reply}
use Rattle.stop_program.specs.Replies.{DoneCommand, done_by_thread}
use Rattle.stop_program.specs.Run.{EndedRun}
use Rattle.litmus_files.specs.declared.required.Condition.{Condition}
use Rattle.outcome_text.specs.Conditions.{conditions_hold}

-- ---- replies that came true

-- the command at a place was done
unfoldable pub was_done : (at : ℕ) → List DoneCommand → Bool
was_done at dones = list_any (λ done. done.0 == at) dones

-- the command at a place has no reply, or was done
abbrev pub has_come_true : List ThreadCommand → List DoneCommand → (at : ℕ) → Bool
has_come_true commands dones at = not (has_reply (slice_get commands at)) || was_done at dones

-- each command of a thread that has a reply was done
unfoldable pub has_thread_come_true : List ThreadCommand → List DoneCommand → Bool
has_thread_come_true commands dones = list_all (has_come_true commands dones) (range_with_len 0 (length commands))

-- each command of these threads that has a reply was done
unfoldable pub have_come_true : (threads : ℕ) → (commands : ℕ → List ThreadCommand) → Log → Bool
have_come_true threads commands log =
    list_all (λ thread. has_thread_come_true (commands thread) (done_by_thread commands log thread))
    (range_with_len 0 threads)

-- ---- the outcomes

-- each reply came true, and each condition holds
unfoldable pub is_chosen : (threads : ℕ) → (commands : ℕ → List ThreadCommand) → List Condition → EndedRun → Bool
is_chosen threads commands conditions ending =
    have_come_true threads commands ending.turns && conditions_hold commands conditions ending

abbrev pub chosen_of : (threads : ℕ) → (commands : ℕ → List ThreadCommand) → List Condition → List EndedRun
    → List EndedRun
chosen_of threads commands conditions endings = filter (is_chosen threads commands conditions) endings

-- no command has a reply
abbrev pub has_no_reply : List ThreadCommand → Bool
has_no_reply commands = list_all (λ command. is_none command.wanted) commands

-- no command of any thread has a reply
abbrev pub lacks_replies : {Z : Type 0} → (lists : List (Vec ThreadCommand Z)) → Bool
lacks_replies lists = list_all (λ own. has_no_reply own.items) lists

-- no command of any thread has a reply, and there is no condition
abbrev pub asks_nothing : {Z : Type 0} → (lists : List (Vec ThreadCommand Z)) → List Condition → Bool
asks_nothing lists conditions = length conditions == 0 && lacks_replies lists

-- outcomes are numbered from 1
abbrev pub ending_numbered : (number : ℕ) → List EndedRun → Option EndedRun
ending_numbered zero endings = None
ending_numbered (suc before) endings = slice_get endings before
