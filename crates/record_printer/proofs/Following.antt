-- A row follows its stops, also after one more.
use Rattle.std.proofs.Common.{◌≡◌, ◌+◌, ◌-◌, ◌<◌, ◌≤◌, ◌++◌, ◌∷◌, ℕ, zero, suc, Option, Some, None}
use Rattle.std.proofs.Common.{refl, sym, ap, ◌∙◌, arith, inl, inr, not, find, is_some, IsSome}
use Rattle.std.proofs.Common.{eqb, cond, nat_lt, lt-ltb}
use Rattle.std.proofs.lemmas.Bool.{le-ltb}
use Rattle.std.proofs.lemmas.Bool.{cases_order, cases_lt}
use Rattle.std.specs.List.{range_with_len}
use Rattle.record_printer.proofs.Options.{some_none}
use Rattle.record_printer.proofs.Early.{at_other, at_same}
use Rattle.record_printer.proofs.Stops.{fold_after_all-append, notes_join, notes_same}
use Rattle.record_printer.specs.Chain.{IsChain, notes_until}
use Rattle.record_printer.specs.Kept.{KeepsStops, Kept, note_in, stops_with}
use Rattle.record_printer.specs.DeathLine.{death_text}
use Rattle.record_printer.specs.Note.{Note, Stops}
use Rattle.record_printer.specs.declared.fold.ending.Ending.{Ending}
use Rattle.record_printer.proofs.RowLines.{lines_folded}
use Rattle.record_printer.specs.RowAnswers.{due, missing_in, notes_from, text_in}
use Rattle.record_printer.specs.RowFold.{empty_fold, fold_after, fold_after_all, fold_text}

-- the notes up to the next stop, with it, and with those that follow it
notes_on : (stops early : ℕ → Option Note) (done next : ℕ) (note : Note) → done + 2 ≤ next
    → ((n : ℕ) → done + 2 ≤ n → n < next → early n ≡ stops n)
    → notes_from (stops_with stops (done + 1) note) 1 (next - 1)
    ≡ notes_from stops 1 done ++ (note ∷ notes_until early (done + 2) next)
notes_on stops early done next note forward waiting =
    let more = stops_with stops (done + 1) note in
    let rest = next - (done + 2) in
    let e : next - 1 ≡ done + suc rest = omega arith in
    let f : 1 + done ≡ done + 1 = omega arith in
    let g : (done + 1) + 1 ≡ done + 2 = omega arith in
    let before = notes_same more stops 1 done
    (λ n low high. at_other (done + 1) n (Some note) (stops n) (λ same. omega (arith, same, high))) in
    let here : more (done + 1) ≡ Some note = at_same (done + 1) (done + 1) (Some note) (stops (done + 1)) refl in
    let after = notes_same more early (done + 2) rest
    (λ n low high. at_other (done + 1) n (Some note) (stops n) (λ same. omega (arith, same, low))
    ∙ sym (waiting n low (omega (arith, high, forward)))) in
    rw (e, notes_join more 1 done (suc rest), before, f, here, g, after) refl

-- a fold that goes on with the next stop and those that follow it
pub folds_on : (old new : Kept) (stops early left : ℕ → Option Note) (next : ℕ) (note : Note) → KeepsStops old stops
    → ((n : ℕ) → note_in old.early n ≡ early n) → ((n : ℕ) → note_in new.early n ≡ left n)
    → IsChain early (old.done + 2) next → new.done ≡ next - 1
    → new.fold ≡ fold_after_all (fold_after old.fold note) (notes_until early (old.done + 2) next)
    → ((n : ℕ) → next ≤ n → left n ≡ early n) → KeepsStops new (stops_with stops (old.done + 1) note)
folds_on old new stops early left next note follows old_seen new_seen chain done fold rest =
    let forward = chain.forward in
    let waiting : (n : ℕ) → old.done < n → early n ≡ stops n = λ n late. sym (old_seen n) ∙ follows.waiting n late in
    let other : (n : ℕ) → (old.done + 1 ≡ n → ⊥) → stops_with stops (old.done + 1) note n ≡ stops n =
    λ n apart. at_other (old.done + 1) n (Some note) (stops n) apart in
    record {
      folded = rw (
        done,
        notes_on stops early old.done next note forward (λ n low high. waiting n (omega (arith, low))),
        fold_after_all-append empty_fold (notes_from stops 1 old.done) (note ∷ notes_until early (old.done + 2) next),
        ← follows.folded,
      ) fold;
      each = λ n low high. elim (cases_order n (old.done + 1)) [
        | inl same ↦ rw (at_same (old.done + 1) n (Some note) (stops n) (sym same)) refl
        | inr (inl less) ↦ rw (other n (λ same. omega (arith, same, less))) (follows.each n low (omega (arith, less)))
        | inr (inr more) ↦ rw (other n (λ same. omega (arith, same, more)), ← waiting n (omega (arith, more)))
            (chain.each n (omega (arith, more)) (omega (arith, high, done, forward)))
      ];
      next =
          let e : new.done + 1 ≡ next = omega (arith, done, forward) in
          rw (e, other next (λ same. omega (arith, same, forward)), ← waiting next (omega (arith, forward))) chain.over;
      waiting = λ n late. new_seen n ∙ rest n (omega (arith, late, done, forward)) ∙ waiting n
          (omega (arith, late, done, forward))
          ∙ sym (other n (λ same. omega (arith, same, late, done, forward)));
    }

-- a stop that waits
pub waits : (old new : Kept) (stops : ℕ → Option Note) (number : ℕ) (note : Note) → KeepsStops old stops
    → old.done + 1 < number → new.done ≡ old.done → new.fold ≡ old.fold
    → ((n : ℕ) → note_in new.early n ≡ cond (eqb number n) (Some note) (note_in old.early n))
    → KeepsStops new (stops_with stops number note)
waits old new stops number note follows later done fold put =
    let other : (n : ℕ) → n ≤ old.done + 1 → stops_with stops number note n ≡ stops n =
    λ n low. at_other number n (Some note) (stops n) (λ same. omega (arith, same, low, later)) in
    record {
      folded = rw (
        fold,
        done,
        notes_same (stops_with stops number note) stops 1 old.done
            (λ n low high. other n (omega (arith, high))),
      ) follows.folded;
      each = λ n low high. rw (other n (omega (arith, high, done))) (follows.each n low (omega (arith, high, done)));
      next = rw (done, other (old.done + 1) (omega arith)) follows.next;
      waiting = λ n late. put n ∙ ap (λ x. cond (eqb number n) (Some note) x)
          (follows.waiting n (omega (arith, late, done)));
    }

-- ---- the least number without a stop

no_hole : (stops : ℕ → Option Note) (from count : ℕ)
    → ((n : ℕ) → from ≤ n → n < from + count → IsSome (stops n))
    → find (λ n. not (is_some (stops n))) (range_with_len from count) ≡ None
no_hole stops from zero all = refl
no_hole stops from (suc count) all =
    rw (all from (omega arith) (omega arith)) (no_hole stops (from + 1) count
    (λ n low high. all n (omega (arith, low)) (omega (arith, high))))

first_hole : (stops : ℕ → Option Note) (from count hole : ℕ) → from ≤ hole → hole < from + count
    → stops hole ≡ None → ((n : ℕ) → from ≤ n → n < hole → IsSome (stops n))
    → find (λ n. not (is_some (stops n))) (range_with_len from count) ≡ Some hole
first_hole stops from zero hole low high none all = absurd (omega (arith, low, high))
first_hole stops from (suc count) hole low high none all =
    elim (cases_lt from hole) [
      | inl less ↦ rw (all from (omega arith) less)
          (first_hole stops (from + 1) count hole (omega (arith, less)) (omega (arith, high)) none
          (λ n over under. all n (omega (arith, over)) under))
      | inr same ↦
          let e : from ≡ hole = omega (arith, low, same) in
          rw (e, none) refl
    ]

pub missing_is : (kept : Kept) (stops : ℕ → Option Note) (number : ℕ) → KeepsStops kept stops
    → find (λ n. not (is_some (stops n))) (range_with_len 1 number)
    ≡ cond (nat_lt kept.done number) (Some (kept.done + 1)) None
missing_is kept stops number follows =
    elim (cases_lt kept.done number) [
      | inl less ↦ rw (lt-ltb kept.done number less)
          (first_hole stops 1 number (kept.done + 1) (omega arith) (omega (arith, less)) follows.next
          (λ n low high. follows.each n low (omega (arith, high))))
      | inr all ↦ rw (le-ltb kept.done number all)
          (no_hole stops 1 number (λ n low high. follows.each n low (omega (arith, high, all))))
    ]

pub missing_some : (kept : Kept) (stops : Stops) (number : ℕ) (ending : Option Ending) (last : ℕ)
    → KeepsStops kept stops
    → number ≡ due ending last → kept.done < number → Some (kept.done + 1) ≡ missing_in stops ending last
missing_some kept stops number ending last follows is less =
    sym (missing_is kept stops (due ending last) follows ∙ rw (← is, lt-ltb kept.done number less) refl)

pub missing_none : (kept : Kept) (stops : Stops) (number : ℕ) (ending : Option Ending) (last : ℕ)
    → KeepsStops kept stops
    → number ≡ due ending last → number ≤ kept.done → None ≡ missing_in stops ending last
missing_none kept stops number ending last follows is all =
    sym (missing_is kept stops (due ending last) follows ∙ rw (← is, le-ltb kept.done number all) refl)

-- the text of a row that lacks no stop
pub text_is : (kept : Kept) (tid : ℕ) (stops : Stops) (ending : Ending) → kept.done ≤ kept.last
    → kept.last ≤ ending.number → KeepsStops kept stops → missing_in stops (Some ending) kept.last ≡ None
    → fold_text kept.fold (Some (death_text tid ending.death)) ≡ text_in tid stops (Some ending)
text_is kept tid stops ending done last follows complete =
    let all : kept.done ≡ ending.number = elim (cases_lt kept.done ending.number) [
      | inl less ↦ absurd (some_none
          (missing_some kept stops ending.number (Some ending) kept.last follows refl less ∙ complete))
      | inr more ↦ omega (arith, more, done, last)
    ] in
    rw (follows.folded, all)
    (sym (lines_folded (notes_from stops 1 ending.number) (Some (death_text tid ending.death))))
