-- Which stops of a row start a call, and which stop ends it (ptrace(2), "Syscall-stops", "PTRACE_EVENT stops"). A stop
-- is named by its place in the list of the row's stops, the first stop first.
use Rattle.std.specs.Prelude.{◌≡◌, ◌<◌, ◌+◌, ◌-◌, ◌&&◌, ◌||◌, ◌⊎◌, ℕ, Bool, true, false, not, Option, List, [], ◌∷◌}
use Rattle.std.specs.Prelude.{length, take, slice_index_or}
use Rattle.std.specs.List.{find, list_any, range_with_len}
use Rattle.record_printer.specs.Note.{Note, Enter, Seccomp, Exit, Quiet}

abbrev pub note_at : List Note → ℕ → Note
note_at notes i = slice_index_or notes i Quiet

abbrev pub is_enter : Note → Bool
is_enter (Enter start) = true
is_enter _ = false

abbrev pub is_seccomp : Note → Bool
is_seccomp (Seccomp start) = true
is_seccomp _ = false

abbrev pub is_exit : Note → Bool
is_exit (Exit end) = true
is_exit _ = false

-- a syscall-enter-stop has no syscall-exit-stop after it
abbrev pub is_entered : List Note → Bool
is_entered [] = false
is_entered (note ∷ notes) = (is_enter note && not (list_any is_exit notes)) || is_entered notes

-- a call starts at a syscall-enter-stop, and at a seccomp stop after stops of which no syscall-enter-stop lacks its
-- syscall-exit-stop
abbrev pub starts_after : List Note → Note → Bool
starts_after before note = is_enter note || (is_seccomp note && not (is_entered before))

abbrev pub is_call_start : List Note → ℕ → Bool
is_call_start notes i = starts_after (take i notes) (note_at notes i)

-- a stop that an earlier call does not go on over: a syscall-exit-stop, or the start of a call
abbrev pub is_bound : List Note → ℕ → Bool
is_bound notes i = is_exit (note_at notes i) || is_call_start notes i

-- the first of them after a stop
abbrev pub next_bound : List Note → ℕ → Option ℕ
next_bound notes i = find (is_bound notes) (range_with_len (i + 1) (length notes - (i + 1)))

-- ---- the same, said of places alone

-- a syscall-exit-stop is between two places
pub record ExitBetween (notes : List Note) (i k : ℕ) : Type 0 where
  pub place : ℕ
  pub behind : i < place
  pub ahead : place < k
  pub exit : is_exit (note_at notes place) ≡ true

-- a call starts at a syscall-enter-stop, and at a seccomp stop where a syscall-exit-stop is between it and each
-- syscall-enter-stop before it
abbrev pub IsCallStart : List Note → ℕ → Type 0
IsCallStart notes i =
    (is_enter (note_at notes i) ≡ true)
    ⊎ ((is_seccomp (note_at notes i) ≡ true)
    × ((k : ℕ) → k < i → is_enter (note_at notes k) ≡ true → ExitBetween notes k i))

-- a call and its end: the first syscall-exit-stop after the start, where no other call starts before it
pub record IsPair (notes : List Note) (i j : ℕ) : Type 0 where
  pub start : IsCallStart notes i
  pub later : i < j
  pub exit : is_exit (note_at notes j) ≡ true
  pub first : (k : ℕ) → i < k → k < j → (is_exit (note_at notes k) ≡ false) × (IsCallStart notes k → ⊥)
