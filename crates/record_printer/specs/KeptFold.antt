-- The fold of a row as the program keeps it, and the room that it needs for its texts to grow.
use Rattle.std.specs.Prelude.{◌+◌, ◌≤◌, ℕ, Option, Some, None, List, length}
use Rattle.std.specs.Vec.{vec_capacity, vec_len}
use Rattle.record_printer.specs.Note.{CallStart, CallEnd, Note, Enter, Seccomp, Exit, Signal, Birth, Quiet}
use Rattle.record_printer.specs.RowFold.{Fold}
use Rattle.record_printer.specs.declared.fold.row_fold.RowFold.{RowFold}

abbrev pub fold_of : {Z : Type 0} → RowFold Z → Fold
fold_of fold = record {
  text = fold.text.items;
  pending = fold.pending;
  behind = fold.behind.items;
  entered = fold.entered;
}

-- ---- how many bytes a note adds to the texts at most

abbrev pub text_len : Option (List ℕ) → ℕ
text_len None = 0
text_len (Some text) = length text

abbrev pub start_len : CallStart → ℕ
start_len start = length start.before + (text_len start.out + length start.after)

abbrev pub end_len : CallEnd → ℕ
end_len end = text_len end.out + (length end.result + 1)

-- the start and the end of a call have parts of its line each
abbrev pub note_len : Note → ℕ
note_len (Enter start) = start_len start
note_len (Seccomp start) = start_len start
note_len (Exit end) = end_len end
note_len (Signal line) = length line
note_len (Birth child) = 0
note_len Quiet = 0

-- the line of a signal follows that of the call that is pending
abbrev pub behind_len : Note → ℕ
behind_len (Signal line) = length line
behind_len _ = 0

-- ---- the room that a fold has

-- what a fold holds that its text may still take in: the parts of the line of the pending call, and what follows it
abbrev pub pending_len : Option CallStart → ℕ
pending_len None = 0
pending_len (Some start) = start_len start

abbrev pub held_len : Fold → ℕ
held_len fold = pending_len fold.pending + length fold.behind

-- notes that add no more than this to the texts are folded without a growth
pub record HasRoom {Z : Type 0} (fold : RowFold Z) (lines behind : ℕ) : Type 0 where
  pub text_fits : vec_len fold.text + (held_len (fold_of fold) + lines) ≤ vec_capacity fold.text
  pub behind_fits : vec_len fold.behind + behind ≤ vec_capacity fold.behind
