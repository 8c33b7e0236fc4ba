-- What a folder keeps of a row, as the program keeps it.
use Rattle.std.specs.Prelude.{◌≡◌, ◌+◌, ◌<◌, ◌≤◌, ℕ, Some, None}
use Rattle.record_printer.specs.Early.{early_note, early_of}
use Rattle.record_printer.specs.Kept.{Kept}
use Rattle.record_printer.specs.KeptFold.{fold_of}
use Rattle.record_printer.specs.declared.fold.ending.Ending.{Ending}
use Rattle.record_printer.specs.declared.fold.kept_row.KeptRow.TheInside.{Inside}

abbrev pub kept_of : {Z : Type 0} → Inside Z → Kept
kept_of kept = record {
  named = kept.named;
  ending = kept.ending;
  last = kept.last;
  done = kept.done;
  fold = fold_of kept.fold;
  early = early_of kept.early;
}

-- what is true of each row that is kept: all stops that are folded have come, no stop has a greater number than the
-- death, and those that wait come after the next one
pub record IsKept {Z : Type 0} (kept : Inside Z) : Type 0 where
  pub done_in : kept.done ≤ kept.last
  pub ended_in : (ending : Ending) → kept.ending ≡ Some ending → kept.last ≤ ending.number
  pub below : (n : ℕ) → n ≤ kept.done + 1 → early_note kept.early n ≡ None
  pub above : (n : ℕ) → kept.last < n → early_note kept.early n ≡ None
