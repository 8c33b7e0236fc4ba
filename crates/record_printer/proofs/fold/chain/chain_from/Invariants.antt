-- The stops before the number are all there.
use Rattle.std.proofs.Common.{◌≡◌, ◌+◌, ◌<◌, ◌≤◌, ℕ, IsSome}
use Rattle.record_printer.specs.Chain.{notes_behind, notes_len, notes_until}
use Rattle.record_printer.specs.Early.{early_note}
use Rattle.record_printer.proofs.fold.chain.chain_from.Given as goal

abbrev pub invariant-loop-before : goal.invariant-loop-before
invariant-loop-before g l = record {
  last : l.chain.last ≡ l.before;
  forward : l.fn.done ≤ l.before;
  each : (n : ℕ) → l.fn.done + 1 ≤ n → n < l.before + 1 → IsSome (early_note l.fn.early n);
  lines : l.chain.room.lines
      ≡ l.fn.room.lines + notes_len (notes_until (early_note l.fn.early) (l.fn.done + 1) (l.before + 1));
  behind : l.chain.room.behind
      ≡ l.fn.room.behind
      + notes_behind (notes_until (early_note l.fn.early) (l.fn.done + 1) (l.before + 1));
}
