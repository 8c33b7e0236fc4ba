-- A row as the program keeps it, after one more stop.
use Rattle.std.proofs.Common.{◌≡◌, ◌+◌, ◌-◌, ◌<◌, ◌≤◌, ℕ, Some, sym, ap, ◌∙◌, max, cond, eqb}
use Rattle.std.specs.BTreeMap.{is_at}
use Rattle.std.specs.BTreeMap as tree
use Rattle.std.specs.Ordering.{nat_cmp}
use Rattle.record_printer.proofs.Early.{note_seen, note_set}
use Rattle.record_printer.proofs.Following.{folds_on, waits}
use Rattle.record_printer.specs.Chain.{IsChain, notes_until}
use Rattle.record_printer.specs.Early.{early_note}
use Rattle.record_printer.specs.Kept.{AddsStop}
use Rattle.record_printer.specs.KeptFold.{fold_of}
use Rattle.record_printer.specs.KeptRow.{kept_of}
use Rattle.record_printer.specs.NoteOf.{note_of}
use Rattle.record_printer.specs.RowFold.{fold_after, fold_after_all}
use Rattle.record_printer.specs.declared.fold.kept_row.KeptRow.TheInside.{Inside}
use Rattle.record_printer.specs.declared.piece.note.Note.{Note as KeptNote}

pub waits_kept : {Z : Type 0} (old new : Inside Z) (number : ℕ) (note : KeptNote Z) → old.done + 1 < number
    → new.named ≡ old.named → new.ending ≡ old.ending → new.last ≡ max old.last number → new.done ≡ old.done
    → fold_of new.fold ≡ fold_of old.fold
    → ((q : ℕ) → tree.get nat_cmp new.early q
    ≡ cond (is_at (nat_cmp number) q) (Some note) (tree.get nat_cmp old.early q))
    → AddsStop (kept_of old) (kept_of new) number (note_of note)
waits_kept old new number note later named ending last done fold put = record {
  named = named;
  ending = ending;
  last = last;
  follows = λ stops follows. waits (kept_of old) (kept_of new) stops number (note_of note) follows later done fold
      (λ n. note_seen new.early n ∙ note_set old.early new.early number (Some note) put n
      ∙ ap (λ x. cond (eqb number n) (Some (note_of note)) x) (sym (note_seen old.early n)));
}

pub folds_kept : {Z : Type 0} (old new : Inside Z) (next : ℕ) (note : KeptNote Z)
    → new.named ≡ old.named → new.ending ≡ old.ending → new.last ≡ max old.last (old.done + 1)
    → IsChain (early_note old.early) (old.done + 2) next → new.done ≡ next - 1
    → fold_of new.fold
    ≡ fold_after_all (fold_after (fold_of old.fold) (note_of note))
    (notes_until (early_note old.early) (old.done + 2) next)
    → ((n : ℕ) → next ≤ n → early_note new.early n ≡ early_note old.early n)
    → AddsStop (kept_of old) (kept_of new) (old.done + 1) (note_of note)
folds_kept old new next note named ending last chain done fold left = record {
  named = named;
  ending = ending;
  last = last;
  follows = λ stops follows. folds_on (kept_of old) (kept_of new) stops (early_note old.early)
      (early_note new.early) next
      (note_of note) follows (note_seen old.early) (note_seen new.early) chain done fold left;
}
