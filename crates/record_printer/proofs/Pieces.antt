-- What is kept of a row, after one more piece.
use Rattle.std.proofs.Common.{◌≡◌, ◌≤◌, ◌∷◌, [], ◌||◌, ℕ, List, Some, refl, ap, ◌∙◌}
use Rattle.std.proofs.Common.{arith, eqb, true, false, max, nat_lt, eq-eqb, lt-ltb}
use Rattle.record_printer.proofs.Options.{or_true}
use Rattle.record_printer.specs.Came.{child_noted, is_child, stop_of}
use Rattle.record_printer.specs.Kept.{AddsStop, KeepsStops, Kept, empty_row, stops_with}
use Rattle.record_printer.specs.Note.{Note, Stops}
use Rattle.record_printer.specs.Piece.{Piece, Stopped, Died}
use Rattle.record_printer.specs.Represents.{KeepsRow, with_name}
use Rattle.trace_record.specs.declared.death.Death.{Death}

-- a row follows stops that are the same at each number, whatever it has beside them
follows_same : (kept other : Kept) (stops others : Stops) → KeepsStops kept stops → kept.fold ≡ other.fold
    → kept.done ≡ other.done → kept.early ≡ other.early → ((n : ℕ) → stops n ≡ others n) → KeepsStops other others
follows_same kept other stops others follows fold done early same =
    let e : stops ≡ others = λ i n. same n i in
    record {
      folded = rw (← fold, ← done, ← e) follows.folded;
      each = rw (← done, ← e) follows.each;
      next = rw (← done, ← e) follows.next;
      waiting = rw (← done, ← e, ← early) follows.waiting;
    }

-- no piece has come
pub keeps_none : (tid : ℕ) → KeepsRow empty_row tid []
keeps_none tid = record {
  named = refl;
  ending = refl;
  last = refl;
  any = refl;
  stops = record {
    folded = refl;
    each = λ n low high. absurd (omega (arith, low, high));
    next = refl;
    waiting = λ n late. refl;
  };
}

-- the stop is of the row
pub keeps_stop : (old new : Kept) (tid number : ℕ) (note : Note) (came : List Piece) → KeepsRow old tid came
    → AddsStop old new number note → 1 ≤ number
    → KeepsRow (with_name (is_child tid (child_noted note)) new) tid (Stopped tid number note ∷ came)
keeps_stop old new tid number note came keeps added positive =
    let here : eqb tid tid ≡ true = eq-eqb tid tid refl in
    let some : nat_lt 0 new.last ≡ true = lt-ltb 0 new.last (rw added.last (omega (arith, positive))) in
    record {
      named = ap (λ b. is_child tid (child_noted note) || b) (added.named ∙ keeps.named);
      ending = added.ending ∙ keeps.ending;
      last = rw here (added.last ∙ ap (λ n. max n number) keeps.last);
      any = rw (here, some) refl;
      stops = follows_same new (with_name (is_child tid (child_noted note)) new)
          (stops_with (stop_of tid came) number note) (stop_of tid (Stopped tid number note ∷ came))
          (added.follows (stop_of tid came) keeps.stops) refl refl refl (λ n. rw here refl);
    }

-- the stop is of another row
pub keeps_other : (kept : Kept) (tid other number : ℕ) (note : Note) (came : List Piece) → KeepsRow kept tid came
    → eqb other tid ≡ false
    → KeepsRow (with_name (is_child tid (child_noted note)) kept) tid (Stopped other number note ∷ came)
keeps_other kept tid other number note came keeps apart =
    record {
      named = ap (λ b. is_child tid (child_noted note) || b) keeps.named;
      ending = keeps.ending;
      last = rw apart keeps.last;
      any = rw apart keeps.any;
      stops = follows_same kept (with_name (is_child tid (child_noted note)) kept) (stop_of tid came)
          (stop_of tid (Stopped other number note ∷ came)) keeps.stops refl refl refl (λ n. rw apart refl);
    }

-- the death is that of the row
pub keeps_death : (kept : Kept) (tid number : ℕ) (death : Death) (came : List Piece) → KeepsRow kept tid came
    → KeepsRow (record kept { ending = Some (record { number = number; death = death }) }) tid
    (Died tid number death ∷ came)
keeps_death kept tid number death came keeps =
    let here : eqb tid tid ≡ true = eq-eqb tid tid refl in
    record {
      named = keeps.named;
      ending = rw here refl;
      last = keeps.last;
      any = rw here (or_true (nat_lt 0 kept.last));
      stops = follows_same kept (record kept { ending = Some (record { number = number; death = death }) })
          (stop_of tid came) (stop_of tid came) keeps.stops refl refl refl (λ n. refl);
    }

-- the death is another row's
pub keeps_other_death : (kept : Kept) (tid other number : ℕ) (death : Death) (came : List Piece)
    → KeepsRow kept tid came → eqb other tid ≡ false → KeepsRow kept tid (Died other number death ∷ came)
keeps_other_death kept tid other number death came keeps apart =
    record {
      named = keeps.named;
      ending = rw apart keeps.ending;
      last = keeps.last;
      any = rw apart keeps.any;
      stops = follows_same kept kept (stop_of tid came) (stop_of tid came) keeps.stops refl refl refl (λ n. refl);
    }
