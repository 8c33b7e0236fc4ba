-- The stops from the number on are left, and their fold is that of all.
use Rattle.std.proofs.Common.{◌≡◌, ◌+◌, ◌<◌, ◌≤◌, ℕ, None}
use Rattle.record_printer.specs.Chain.{notes_behind, notes_len, notes_until}
use Rattle.record_printer.specs.Early.{early_note}
use Rattle.record_printer.specs.KeptFold.{HasRoom, fold_of}
use Rattle.record_printer.specs.RowFold.{fold_after_all}
use Rattle.record_printer.proofs.fold.chain.fold_chain.Given as goal

abbrev pub invariant-loop-before : goal.invariant-loop-before
invariant-loop-before g l = record {
  fold : fold_after_all (fold_of l.fold)
      (notes_until (early_note l.fn.early) (l.before + 1) (l.fn.last + 1))
      ≡ fold_after_all (fold_of l.fn.fold) (notes_until (early_note l.fn.early) (l.fn.done + 1) (l.fn.last + 1));
  room : HasRoom l.fold (notes_len (notes_until (early_note l.fn.early) (l.before + 1) (l.fn.last + 1)))
      (notes_behind (notes_until (early_note l.fn.early) (l.before + 1) (l.fn.last + 1)));
  gone : (n : ℕ) → n < l.before + 1 → early_note l.early n ≡ None;
  left : (n : ℕ) → l.before + 1 ≤ n → early_note l.early n ≡ early_note l.fn.early n;
}
