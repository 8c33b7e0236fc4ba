-- The starts and the ends of calls: what is computed of the stops before a place is what holds of the places before it.
use Rattle.std.proofs.Common.{◌≡◌, ◌⊎◌, ℕ, zero, suc, ◌+◌, ◌-◌, ◌<◌, ◌≤◌, Bool, true, false, not, ◌&&◌, ◌||◌}
use Rattle.std.proofs.Common.{Some, List, [], ◌∷◌, length, take, inl, inr, refl, sym, ap, ◌∙◌}
use Rattle.std.proofs.Common.{arith}
use Rattle.std.specs.List.{find, list_any, range_with_len}
use Rattle.std.proofs.lemmas.Bool.{cases_lt, false≢true}
use Rattle.std.proofs.lemmas.List.{get_or-take, get_or_past, length-take}
use Rattle.record_printer.specs.Note.{Note, Quiet}
use Rattle.record_printer.specs.CallStarts.{ExitBetween, IsCallStart, IsPair, is_bound, is_call_start, is_enter}
use Rattle.record_printer.specs.CallStarts.{is_entered, is_exit, is_seccomp, next_bound, note_at}

-- ---- truth values
or_is : (a b : Bool) → (a || b) ≡ true → (a ≡ true) ⊎ (b ≡ true)
or_is true b h = inl refl
or_is false b h = inr h

or_left : (a b : Bool) → a ≡ true → (a || b) ≡ true
or_left true b h = refl
or_left false b h = cc

or_right : (a b : Bool) → b ≡ true → (a || b) ≡ true
or_right true b h = refl
or_right false b h = h

or_neither : (a b : Bool) → (a || b) ≡ false → (a ≡ false) × (b ≡ false)
or_neither true b h = cc
or_neither false b h = (refl, h)

and_both : (a b : Bool) → (a && b) ≡ true → (a ≡ true) × (b ≡ true)
and_both true b h = (refl, h)
and_both false b h = cc

and_not : (a b : Bool) → (a && not b) ≡ false → a ≡ true → b ≡ true
and_not true true h is = refl
and_not true false h is = cc
and_not false b h is = cc

not_is : (b : Bool) → not b ≡ true → b ≡ false
not_is true h = cc
not_is false h = refl

cases_bool : (b : Bool) → (b ≡ true) ⊎ (b ≡ false)
cases_bool true = inl refl
cases_bool false = inr refl

-- ---- a syscall-exit-stop somewhere
record ExitAt (notes : List Note) : Type 0 where
  place : ℕ
  within : place < length notes
  exit : is_exit (note_at notes place) ≡ true

some_exit : (notes : List Note) → list_any is_exit notes ≡ true → ExitAt notes
some_exit [] h = cc
some_exit (note ∷ notes) h = elim (or_is (is_exit note) (list_any is_exit notes) h) [
  | inl here ↦ record { place = 0; within = omega arith; exit = here }
  | inr there ↦
      let found = some_exit notes there in
      record { place = suc found.place; within = omega (arith, found.within); exit = found.exit }
]

no_exit : (notes : List Note) → list_any is_exit notes ≡ false → (j : ℕ) → is_exit (note_at notes j) ≡ false
no_exit [] none j = refl
no_exit (note ∷ notes) none zero = (or_neither (is_exit note) (list_any is_exit notes) none).0
no_exit (note ∷ notes) none (suc j) = no_exit notes (or_neither (is_exit note) (list_any is_exit notes) none).1 j

-- ---- a syscall-enter-stop without its end, and none
record EnteredAt (notes : List Note) : Type 0 where
  place : ℕ
  within : place < length notes
  enter : is_enter (note_at notes place) ≡ true
  open_end : (j : ℕ) → place < j → is_exit (note_at notes j) ≡ false

open_after : (note : Note) (notes : List Note) (k : ℕ) → ((j : ℕ) → k < j → is_exit (note_at notes j) ≡ false)
    → (j : ℕ) → suc k < j → is_exit (note_at (note ∷ notes) j) ≡ false
open_after note notes k none zero h = absurd (omega arith)
open_after note notes k none (suc j) h = none j (omega arith)

open_first : (note : Note) (notes : List Note) → list_any is_exit notes ≡ false
    → (j : ℕ) → 0 < j → is_exit (note_at (note ∷ notes) j) ≡ false
open_first note notes none zero h = absurd (omega arith)
open_first note notes none (suc j) h = no_exit notes none j

entered_at : (notes : List Note) → is_entered notes ≡ true → EnteredAt notes
entered_at [] h = cc
entered_at (note ∷ notes) h =
    elim (or_is (is_enter note && not (list_any is_exit notes)) (is_entered notes) h) [
      | inl here ↦
          let both = and_both (is_enter note) (not (list_any is_exit notes)) here in
          record {
            place = 0;
            within = omega arith;
            enter = both.0;
            open_end = open_first note notes (not_is (list_any is_exit notes) both.1);
          }
      | inr there ↦
          let found = entered_at notes there in
          record {
            place = suc found.place;
            within = omega (arith, found.within);
            enter = found.enter;
            open_end = open_after note notes found.place found.open_end;
          }
    ]

record ExitAfter (notes : List Note) (k : ℕ) : Type 0 where
  place : ℕ
  behind : k < place
  within : place < length notes
  exit : is_exit (note_at notes place) ≡ true

ended_after : (notes : List Note) → is_entered notes ≡ false → (k : ℕ) → is_enter (note_at notes k) ≡ true
    → ExitAfter notes k
ended_after [] h k is = cc
ended_after (note ∷ notes) h zero is =
    let parts = or_neither (is_enter note && not (list_any is_exit notes)) (is_entered notes) h in
    let found = some_exit notes (and_not (is_enter note) (list_any is_exit notes) parts.0 is) in
    record {
      place = suc found.place;
      behind = omega arith;
      within = omega (arith, found.within);
      exit = found.exit;
    }
ended_after (note ∷ notes) h (suc k) is =
    let parts = or_neither (is_enter note && not (list_any is_exit notes)) (is_entered notes) h in
    let found = ended_after notes parts.1 k is in
    record {
      place = suc found.place;
      behind = omega (arith, found.behind);
      within = omega (arith, found.within);
      exit = found.exit;
    }

-- ---- the stops before a place
before_at : (notes : List Note) (i k : ℕ) → k < i → note_at (take i notes) k ≡ note_at notes k
before_at notes i k h = get_or-take i notes k Quiet h

inside : (notes : List Note) (k : ℕ) → is_enter (note_at notes k) ≡ true → k < length notes
inside notes k is = elim (cases_lt k (length notes)) [
  | inl below ↦ below
  | inr above ↦ absurd (false≢true (sym (ap is_enter (get_or_past notes k Quiet above)) ∙ is))
]

ends_before : (notes : List Note) (i k : ℕ) → is_entered (take i notes) ≡ false → k < i
    → is_enter (note_at notes k) ≡ true → ExitBetween notes k i
ends_before notes i k h low is =
    let found = ended_after (take i notes) h k (ap is_enter (before_at notes i k low) ∙ is) in
    let long = length-take i notes in
    let ahead : found.place < i = omega (arith, found.within) in
    record {
      place = found.place;
      behind = found.behind;
      ahead = ahead;
      exit = ap is_exit (sym (before_at notes i found.place ahead)) ∙ found.exit;
    }

none_entered : (notes : List Note) (i : ℕ)
    → ((k : ℕ) → k < i → is_enter (note_at notes k) ≡ true → ExitBetween notes k i)
    → is_entered (take i notes) ≡ false
none_entered notes i each = elim (cases_bool (is_entered (take i notes))) [
  | inr none ↦ none
  | inl some ↦
      let found = entered_at (take i notes) some in
      let long = length-take i notes in
      let low : found.place < i = omega (arith, found.within) in
      let end = each found.place low (ap is_enter (sym (before_at notes i found.place low)) ∙ found.enter) in
      absurd (false≢true (sym (found.open_end end.place end.behind)
      ∙ ap is_exit (before_at notes i end.place end.ahead) ∙ end.exit))
]

-- ---- the starts of calls
pub start_is : (notes : List Note) (i : ℕ) → is_call_start notes i ≡ true → IsCallStart notes i
start_is notes i h =
    elim (or_is (is_enter (note_at notes i)) (is_seccomp (note_at notes i) && not (is_entered (take i notes))) h) [
      | inl enter ↦ inl enter
      | inr other ↦
          let both = and_both (is_seccomp (note_at notes i)) (not (is_entered (take i notes))) other in
          inr (both.0, λ k low is. ends_before notes i k (not_is (is_entered (take i notes)) both.1) low is)
    ]

pub is_start : (notes : List Note) (i : ℕ) → IsCallStart notes i → is_call_start notes i ≡ true
is_start notes i (inl enter) =
    or_left (is_enter (note_at notes i)) (is_seccomp (note_at notes i) && not (is_entered (take i notes))) enter
is_start notes i (inr other) =
    or_right (is_enter (note_at notes i)) (is_seccomp (note_at notes i) && not (is_entered (take i notes)))
    (rw (other.0, none_entered notes i other.1) refl)

-- ---- the first place of a range that passes
record FirstOf (test : ℕ → Bool) (from j : ℕ) : Type 0 where
  low : from ≤ j
  yes : test j ≡ true
  before : (k : ℕ) → from ≤ k → k < j → test k ≡ false

first_later : (test : ℕ → Bool) (from j : ℕ) → test from ≡ false → FirstOf test (from + 1) j → FirstOf test from j
first_later test from j not_here first = record {
  low = omega (arith, first.low);
  yes = first.yes;
  before = λ k low high. elim (cases_lt from k) [
    | inl above ↦ first.before k (omega arith) high
    | inr at ↦ let same : k ≡ from = omega arith in rw same not_here
  ];
}

found_first : (test : ℕ → Bool) (n from j : ℕ) → find test (range_with_len from n) ≡ Some j → FirstOf test from j
found_first test zero from j found = cc
found_first test (suc n) from j found = elim (test from) as (λ t. test from ≡ t → FirstOf test from j) [
  | true ↦ λ is.
      let here : find test (range_with_len from (suc n)) ≡ Some from = rw is refl in
      let both : Some from ≡ Some j = sym here ∙ found in
      let same : from ≡ j = cc in
      record { low = omega arith; yes = rw same at is; before = λ k low high. absurd (omega arith) }
  | false ↦ λ is.
      let rest : find test (range_with_len from (suc n)) ≡ find test (range_with_len (from + 1) n) = rw is refl in
      first_later test from j is (found_first test n (from + 1) j (sym rest ∙ found))
] refl

first_found : (test : ℕ → Bool) (n from j : ℕ) → j < from + n → FirstOf test from j
    → find test (range_with_len from n) ≡ Some j
first_found test zero from j high first = absurd (omega (arith, first.low))
first_found test (suc n) from j high first = elim (cases_lt from j) [
  | inl below ↦
      let is : test from ≡ false = first.before from (omega arith) below in
      let rest : find test (range_with_len from (suc n)) ≡ find test (range_with_len (from + 1) n) = rw is refl in
      rest ∙ first_found test n (from + 1) j (omega arith) (record {
        low = omega arith;
        yes = first.yes;
        before = λ k low h. first.before k (omega arith) h;
      })
  | inr at ↦
      let same : j ≡ from = omega (arith, first.low) in
      let is : test from ≡ true = rw same at first.yes in
      let here : find test (range_with_len from (suc n)) ≡ Some from = rw is refl in
      here ∙ ap (λ (k : ℕ). Some k) (sym same)
]

-- ---- pairs
exit_inside : (notes : List Note) (j : ℕ) → is_exit (note_at notes j) ≡ true → j < length notes
exit_inside notes j is = elim (cases_lt j (length notes)) [
  | inl below ↦ below
  | inr above ↦ absurd (false≢true (sym (ap is_exit (get_or_past notes j Quiet above)) ∙ is))
]

pub pair_bound : (notes : List Note) (i j : ℕ) → IsPair notes i j → next_bound notes i ≡ Some j
pair_bound notes i j pair =
    let within = exit_inside notes j pair.exit in
    let later = pair.later in
    first_found (is_bound notes) (length notes - (i + 1)) (i + 1) j (omega arith) (record {
      low = omega arith;
      yes = or_left (is_exit (note_at notes j)) (is_call_start notes j) pair.exit;
      before = λ k low high.
          let none = pair.first k (omega arith) high in
          rw none.0 (elim (cases_bool (is_call_start notes k)) [
            | inl start ↦ absurd (none.1 (start_is notes k start))
            | inr no_start ↦ no_start
          ]);
    })

pub bound_pair : (notes : List Note) (i j : ℕ) → IsCallStart notes i → is_exit (note_at notes j) ≡ true
    → next_bound notes i ≡ Some j → IsPair notes i j
bound_pair notes i j start exit found =
    let first = found_first (is_bound notes) (length notes - (i + 1)) (i + 1) j found in
    record {
      start = start;
      later = omega (arith, first.low);
      exit = exit;
      first = λ k low high.
          let none = or_neither (is_exit (note_at notes k)) (is_call_start notes k) (first.before k (omega arith) high) in
          (none.0, λ other. absurd (false≢true (sym none.1 ∙ is_start notes k other)));
    }
