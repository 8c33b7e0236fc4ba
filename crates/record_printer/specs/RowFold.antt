-- The lines of a row, stop by stop: the text that is fixed, the call that has no end yet, and the lines that follow
-- that call's line.
use Rattle.std.specs.Prelude.{◌++◌, Bool, true, false, Option, Some, None, List, ℕ, [], ◌∷◌, if◌then◌else◌}
use Rattle.record_printer.specs.Note.{CallStart, CallEnd, Note, Enter, Seccomp, Exit, Signal, Birth, Quiet, ended_line}
use Rattle.record_printer.specs.PrintedRow.{death_line, line_left}

pub record Fold : Type 0 where
  pub text : List ℕ
  pub pending : Option CallStart
  pub behind : List ℕ
  -- a syscall-enter-stop has no syscall-exit-stop after it
  pub entered : Bool

abbrev pub empty_fold : Fold
empty_fold = record { text = []; pending = None; behind = []; entered = false }

-- a call starts: one that is pending has no line
abbrev pub started : Fold → Bool → CallStart → Fold
started fold entered start =
    record { text = fold.text ++ fold.behind; pending = Some start; behind = []; entered = entered }

-- the line of the call that ends
abbrev pub pending_line : Option CallStart → CallEnd → List ℕ
pending_line None end = []
pending_line (Some start) end = ended_line start end

abbrev pub ended_fold : Fold → CallEnd → Fold
ended_fold fold end = record {
  text = fold.text ++ (pending_line fold.pending end ++ fold.behind);
  pending = None;
  behind = [];
  entered = false;
}

abbrev pub fold_after : Fold → Note → Fold
fold_after fold (Enter start) = started fold true start
fold_after fold (Seccomp start) = if fold.entered then fold else started fold false start
fold_after fold (Exit end) = ended_fold fold end
fold_after fold (Signal line) = record fold { behind = fold.behind ++ line }
fold_after fold (Birth child) = fold
fold_after fold Quiet = fold

abbrev pub fold_after_all : Fold → List Note → Fold
fold_after_all fold [] = fold
fold_after_all fold (note ∷ notes) = fold_after_all (fold_after fold note) notes

-- the line of the call that is pending once all stops are folded
abbrev pub left_line : Option (List ℕ) → Option CallStart → List ℕ
left_line death None = []
left_line death (Some start) = line_left death start

abbrev pub fold_text : Fold → Option (List ℕ) → List ℕ
fold_text fold death = fold.text ++ (left_line death fold.pending ++ (fold.behind ++ death_line death))
