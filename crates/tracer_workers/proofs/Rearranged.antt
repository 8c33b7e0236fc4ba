-- Pieces of which none is refused: in any other order none of them is refused either.
use Rattle.std.proofs.Common.{refl, ◌≡◌, ◌≤◌, ◌⊎◌, ◌+◌, ◌==◌, ◌&&◌, ◌||◌, ◌∷◌, [], ℕ, zero, suc, Bool, true, false}
use Rattle.std.proofs.Common.{List, Option}
use Rattle.std.proofs.Common.{Some, None, is_some, nat_lt, cond, sum_by, if◌then◌else◌, ◌∙◌, sym, ap, subst, arith}
use Rattle.std.proofs.Common.{inl, inr}
use Rattle.std.proofs.Common.{eq-eqb, eqb-true, le-ltb, lt-ltb, ltb-false}
use Rattle.std.specs.List.{Contains}
use Rattle.std.specs.List.Sorted.{IsPermutation}
use Rattle.std.proofs.lemmas.Bool.{and_parts, cases_Bool}
use Rattle.std.proofs.lemmas.List.Sorted.{Contains-permutation, IsPermutation-sym, sum_by-IsPermutation}
use Rattle.std.proofs.lemmas.List.Sums.{sum_by-cons}
use Rattle.stop_history.specs.Roster.{row_of}
use Rattle.stop_history.specs.declared.roster.Row.{Row}
use Rattle.record_printer.specs.Came.{ending_of, last_of, stop_of}
use Rattle.record_printer.specs.FolderAnswers.{of_row, refusal}
use Rattle.record_printer.specs.Note.{Note}
use Rattle.record_printer.specs.Piece.{Died, Piece, Stopped}
use Rattle.record_printer.specs.Represents.{AreTaken}
use Rattle.record_printer.specs.RowAnswers.{death_fault, is_past, stop_fault}
use Rattle.record_printer.specs.declared.fold.ending.Ending.{Ending}
use Rattle.record_printer.specs.declared.fold.error.FoldError.{FoldError}
use Rattle.record_printer.specs.declared.fold.error.FoldError.TheVariants as error
use Rattle.record_printer.proofs.Arrival.{ending_came, ending_one, last_least}
use Rattle.trace_record.specs.declared.death.Death.{Death}

-- ---- pieces of the same stop or death

abbrev is_same : Piece → Piece → Bool
is_same (Stopped tid number note) (Stopped t n other) = t == tid && n == number
is_same (Stopped tid number note) (Died t n death) = false
is_same (Died tid number death) (Stopped t n note) = false
is_same (Died tid number death) (Died t n other) = t == tid

-- one, if it is here
abbrev weight : Bool → ℕ
weight here = if here then 1 else 0

abbrev count : Piece → List Piece → ℕ
count piece pieces = sum_by (λ x. weight (is_same piece x)) pieces

count_cons : (piece x : Piece) (pieces : List Piece)
    → count piece (x ∷ pieces) ≡ weight (is_same piece x) + count piece pieces
count_cons piece x pieces = sum_by-cons (λ y. weight (is_same piece y)) x pieces

counted_more : (here : Bool) (n : ℕ) → nat_lt 0 (weight here + n) ≡ cond here true (nat_lt 0 n)
counted_more true n = lt-ltb 0 (1 + n) (omega arith)
counted_more false n = let same : 0 + n ≡ n = omega arith in ap (nat_lt 0) same

some_if : {X : Type 0} (here : Bool) (x : X) (o : Option X)
    → is_some (cond here (Some x) o) ≡ cond here true (is_some o)
some_if true x o = refl
some_if false x o = refl

-- a stop is found where it is counted
stops_counted : (tid number : ℕ) (note : Note) (pieces : List Piece)
    → nat_lt 0 (count (Stopped tid number note) pieces) ≡ is_some (stop_of tid pieces number)
stops_counted tid number note [] = refl
stops_counted tid number note (Stopped t n other ∷ pieces) =
    let here = t == tid && n == number in
    ap (nat_lt 0) (count_cons (Stopped tid number note) (Stopped t n other) pieces)
    ∙ counted_more here (count (Stopped tid number note) pieces)
    ∙ ap (cond here true) (stops_counted tid number note pieces)
    ∙ sym (some_if here other (stop_of tid pieces number))
stops_counted tid number note (Died t n death ∷ pieces) =
    ap (nat_lt 0) (count_cons (Stopped tid number note) (Died t n death) pieces)
    ∙ counted_more false (count (Stopped tid number note) pieces)
    ∙ stops_counted tid number note pieces

-- and so is a death
deaths_counted : (tid number : ℕ) (death : Death) (pieces : List Piece)
    → nat_lt 0 (count (Died tid number death) pieces) ≡ is_some (ending_of tid pieces)
deaths_counted tid number death [] = refl
deaths_counted tid number death (Stopped t n note ∷ pieces) =
    ap (nat_lt 0) (count_cons (Died tid number death) (Stopped t n note) pieces)
    ∙ counted_more false (count (Died tid number death) pieces)
    ∙ deaths_counted tid number death pieces
deaths_counted tid number death (Died t n other ∷ pieces) =
    let here = t == tid in
    let ending : Ending = record { number = n; death = other } in
    ap (nat_lt 0) (count_cons (Died tid number death) (Died t n other) pieces)
    ∙ counted_more here (count (Died tid number death) pieces)
    ∙ ap (cond here true) (deaths_counted tid number death pieces)
    ∙ sym (some_if here ending (ending_of tid pieces))

-- ---- what is asked of pieces in no order

abbrev IsKnown : List Row → Piece → Type 0
IsKnown rows (Stopped tid number note) = (is_some (row_of rows tid) ≡ true) × ((number == 0) ≡ false)
IsKnown rows (Died tid number death) = is_some (row_of rows tid) ≡ true

record IsSound (rows : List Row) (pieces : List Piece) : Type 0 where
  known : (piece : Piece) → Contains pieces piece → IsKnown rows piece
  ordered : (tid number last : ℕ) (note : Note) (death : Death) → Contains pieces (Stopped tid number note)
      → Contains pieces (Died tid last death) → number ≤ last
  once : (piece : Piece) → count piece pieces ≤ 1

-- ---- faults

of_free : (place : Option ℕ) (fault : Option FoldError) → of_row place fault ≡ None
    → (is_some place ≡ true) × (fault ≡ None)
of_free None fault none = cc
of_free (Some row) fault none = (refl, none)

of_fits : (place : Option ℕ) (fault : Option FoldError) → is_some place ≡ true → fault ≡ None
    → of_row place fault ≡ None
of_fits None fault there none = cc
of_fits (Some row) fault there none = none

fault_free : (a b c : Bool) → cond (a || b) (Some error.Stranger) (cond c (Some error.Twice) None) ≡ None
    → (a ≡ false) × (b ≡ false) × (c ≡ false)
fault_free true b c none = cc
fault_free false true c none = cc
fault_free false false true none = cc
fault_free false false false none = (refl, refl, refl)

no_fault : (a b c : Bool) → a ≡ false → b ≡ false → c ≡ false
    → cond (a || b) (Some error.Stranger) (cond c (Some error.Twice) None) ≡ None
no_fault a b c first second third = rw (first, second, third) refl

not_past : (ending : Option Ending) (number : ℕ) → ((e : Ending) → ending ≡ Some e → number ≤ e.number)
    → is_past ending number ≡ false
not_past None number within = refl
not_past (Some e) number within = le-ltb e.number number (within e refl)

-- ---- lists

in_cases : (x piece : Piece) (pieces : List Piece) → Contains (x ∷ pieces) piece → (x ≡ piece) ⊎ Contains pieces piece
in_cases x piece pieces (zero, within, is) = inl is
in_cases x piece pieces (suc k, within, is) = inr (k, omega (arith, within), is)

in_rest : (x piece : Piece) (pieces : List Piece) → Contains pieces piece → Contains (x ∷ pieces) piece
in_rest x piece pieces there = (suc there.0, omega (arith, there.1), there.2)

-- ---- pieces that are taken are sound

once_more : (piece x : Piece) (pieces : List Piece) → (is_same piece x ≡ true → count piece pieces ≡ 0)
    → count piece pieces ≤ 1 → count piece (x ∷ pieces) ≤ 1
once_more piece x pieces new before =
    let all = count_cons piece x pieces in
    elim (cases_Bool (is_same piece x)) [
      | inl same ↦
          (let one : weight (is_same piece x) ≡ 1 = ap weight same in
          let none = new same in omega (arith, all, one, none))
      | inr other ↦
          (let none : weight (is_same piece x) ≡ 0 = ap weight other in omega (arith, all, none, before))
    ]

new_stop : (tid number : ℕ) (note : Note) (pieces : List Piece) → is_some (stop_of tid pieces number) ≡ false
    → (piece : Piece) → is_same piece (Stopped tid number note) ≡ true → count piece pieces ≡ 0
new_stop tid number note pieces none (Stopped t n other) same =
    let both = and_parts (tid == t) (number == n) same in
    let at : is_some (stop_of t pieces n) ≡ false =
    ap (λ r. is_some (stop_of r pieces n)) (sym (eqb-true tid t both.0))
    ∙ ap (λ k. is_some (stop_of tid pieces k)) (sym (eqb-true number n both.1)) ∙ none in
    let few = ltb-false 0 (count (Stopped t n other) pieces) (stops_counted t n other pieces ∙ at) in
    omega (arith, few)
new_stop tid number note pieces none (Died t n death) same = cc

new_death : (tid number : ℕ) (death : Death) (pieces : List Piece) → is_some (ending_of tid pieces) ≡ false
    → (piece : Piece) → is_same piece (Died tid number death) ≡ true → count piece pieces ≡ 0
new_death tid number death pieces none (Stopped t n note) same = cc
new_death tid number death pieces none (Died t n other) same =
    let at : is_some (ending_of t pieces) ≡ false =
    ap (λ r. is_some (ending_of r pieces)) (sym (eqb-true tid t same)) ∙ none in
    let few = ltb-false 0 (count (Died t n other) pieces) (deaths_counted t n other pieces ∙ at) in
    omega (arith, few)

sound_more : (rows : List Row) (piece : Piece) (pieces : List Piece) → refusal rows pieces piece ≡ None
    → AreTaken rows pieces → IsSound rows pieces → IsSound rows (piece ∷ pieces)
sound_more rows (Stopped tid number note) pieces free taken s =
    let there =
    of_free (row_of rows tid) (stop_fault (ending_of tid pieces) (is_some (stop_of tid pieces number)) number) free in
    let fits =
    fault_free (number == 0) (is_past (ending_of tid pieces) number) (is_some (stop_of tid pieces number)) there.1 in
    record {
      known = λ piece came. elim (in_cases (Stopped tid number note) piece pieces came) [
        | inl here ↦ subst (IsKnown rows) here (there.0, fits.0)
        | inr before ↦ s.known piece before
      ];
      ordered = λ t n last other death stop died.
          elim (in_cases (Stopped tid number note) (Died t last death) pieces died) [
            | inl here ↦ cc
            | inr dead ↦
                elim (in_cases (Stopped tid number note) (Stopped t n other) pieces stop) [
                  | inl here ↦
                      (let same : tid ≡ t = cc in
                      let number_same : number ≡ n = cc in
                      let past : nat_lt last number ≡ false =
                      sym (ap (λ o. is_past o number) (ap (λ r. ending_of r pieces) same
                      ∙ ending_one rows t pieces last death taken dead)) ∙ fits.1 in
                      let within = ltb-false last number past in
                      omega (arith, within, number_same))
                  | inr before ↦ s.ordered t n last other death before dead
                ]
          ];
      once = λ piece.
          once_more piece (Stopped tid number note) pieces (new_stop tid number note pieces fits.2 piece) (s.once piece);
    }
sound_more rows (Died tid number death) pieces free taken s =
    let there = of_free (row_of rows tid) (death_fault (ending_of tid pieces) (last_of tid pieces) number) free in
    let fits =
    fault_free false (nat_lt number (last_of tid pieces)) (is_some (ending_of tid pieces)) there.1 in
    record {
      known = λ piece came. elim (in_cases (Died tid number death) piece pieces came) [
        | inl here ↦ subst (IsKnown rows) here there.0
        | inr before ↦ s.known piece before
      ];
      ordered = λ t n last other dies stop died.
          elim (in_cases (Died tid number death) (Stopped t n other) pieces stop) [
            | inl here ↦ cc
            | inr stopped ↦
                elim (in_cases (Died tid number death) (Died t last dies) pieces died) [
                  | inl here ↦
                      (let same : tid ≡ t = cc in
                      let number_same : number ≡ last = cc in
                      let most = last_least t pieces n other stopped in
                      let above = ltb-false number (last_of tid pieces) fits.1 in
                      let least = ap (λ r. last_of r pieces) same in
                      omega (arith, most, above, least, number_same))
                  | inr before ↦ s.ordered t n last other dies stopped before
                ]
          ];
      once = λ piece.
          once_more piece (Died tid number death) pieces (new_death tid number death pieces fits.2 piece) (s.once piece);
    }

taken_sound : (rows : List Row) (pieces : List Piece) → AreTaken rows pieces → IsSound rows pieces
taken_sound rows [] taken = record {
  known = λ piece came. absurd (omega (arith, came.1));
  ordered = λ tid number last note death stop died. absurd (omega (arith, died.1));
  once = λ piece. omega arith;
}
taken_sound rows (piece ∷ pieces) taken =
    sound_more rows piece pieces taken.0 taken.1 (taken_sound rows pieces taken.1)

-- ---- sound pieces are taken

last_within : (tid : ℕ) (pieces : List Piece) (most : ℕ)
    → ((number : ℕ) (note : Note) → Contains pieces (Stopped tid number note) → number ≤ most)
    → last_of tid pieces ≤ most
last_within tid [] most each = omega arith
last_within tid (Stopped t n note ∷ pieces) most each =
    let rest = last_within tid pieces most
    (λ number other there. each number other (in_rest (Stopped t n note) (Stopped tid number other) pieces there)) in
    elim (cases_Bool (t == tid)) [
      | inl here ↦
          (let first = each n note (0, omega arith, ap (λ r. Stopped r n note) (eqb-true t tid here)) in
          rw here (omega (arith, rest, first)))
      | inr other ↦ rw other rest
    ]
last_within tid (Died t n death ∷ pieces) most each =
    last_within tid pieces most
    (λ number note there. each number note (in_rest (Died t n death) (Stopped tid number note) pieces there))

-- a piece has no other like it among the rest
none_like : (piece : Piece) (pieces : List Piece) → is_same piece piece ≡ true → count piece (piece ∷ pieces) ≤ 1
    → nat_lt 0 (count piece pieces) ≡ false
none_like piece pieces same once =
    let all = count_cons piece piece pieces in
    let one : weight (is_same piece piece) ≡ 1 = ap weight same in
    le-ltb 0 (count piece pieces) (omega (arith, all, one, once))

sound_free : (rows : List Row) (piece : Piece) (pieces : List Piece) → IsSound rows (piece ∷ pieces)
    → refusal rows pieces piece ≡ None
sound_free rows (Stopped tid number note) pieces s =
    let piece = Stopped tid number note in
    let known = s.known piece (0, omega arith, refl) in
    let same : is_same piece piece ≡ true = rw (eq-eqb tid tid refl, eq-eqb number number refl) refl in
    of_fits (row_of rows tid) (stop_fault (ending_of tid pieces) (is_some (stop_of tid pieces number)) number) known.0
    (no_fault (number == 0) (is_past (ending_of tid pieces) number) (is_some (stop_of tid pieces number)) known.1
    (not_past (ending_of tid pieces) number (λ e found.
    s.ordered tid number e.number note e.death (0, omega arith, refl)
    (in_rest piece (Died tid e.number e.death) pieces (ending_came tid pieces e found))))
    (sym (stops_counted tid number note pieces) ∙ none_like piece pieces same (s.once piece)))
sound_free rows (Died tid number death) pieces s =
    let piece = Died tid number death in
    let known = s.known piece (0, omega arith, refl) in
    let within = last_within tid pieces number (λ n note stopped.
    s.ordered tid n number note death (in_rest piece (Stopped tid n note) pieces stopped) (0, omega arith, refl)) in
    of_fits (row_of rows tid) (death_fault (ending_of tid pieces) (last_of tid pieces) number) known
    (no_fault false (nat_lt number (last_of tid pieces)) (is_some (ending_of tid pieces)) refl
    (le-ltb number (last_of tid pieces) within)
    (sym (deaths_counted tid number death pieces) ∙ none_like piece pieces (eq-eqb tid tid refl) (s.once piece)))

sound_rest : (rows : List Row) (piece : Piece) (pieces : List Piece) → IsSound rows (piece ∷ pieces)
    → IsSound rows pieces
sound_rest rows piece pieces s = record {
  known = λ x came. s.known x (in_rest piece x pieces came);
  ordered = λ tid number last note death stop died.
      s.ordered tid number last note death (in_rest piece (Stopped tid number note) pieces stop)
      (in_rest piece (Died tid last death) pieces died);
  once = λ x. let all = count_cons x piece pieces in let few = s.once x in omega (arith, all, few);
}

sound_taken : (rows : List Row) (pieces : List Piece) → IsSound rows pieces → AreTaken rows pieces
sound_taken rows [] s = tt
sound_taken rows (piece ∷ pieces) s =
    (sound_free rows piece pieces s, sound_taken rows pieces (sound_rest rows piece pieces s))

-- ---- another order

sound_moved : (rows : List Row) (came other : List Piece) → IsPermutation came other → IsSound rows came
    → IsSound rows other
sound_moved rows came other moved s =
    let back = IsPermutation-sym came other moved in
    record {
      known = λ piece there. s.known piece (Contains-permutation other came piece back there);
      ordered = λ tid number last note death stop died.
          s.ordered tid number last note death (Contains-permutation other came (Stopped tid number note) back stop)
          (Contains-permutation other came (Died tid last death) back died);
      once = λ piece.
          let same = sum_by-IsPermutation (λ x. weight (is_same piece x)) came other moved in
          let few = s.once piece in
          omega (arith, same, few);
    }

pub taken_moved : (rows : List Row) (came other : List Piece) → AreTaken rows came → IsPermutation came other
    → AreTaken rows other
taken_moved rows came other taken moved =
    sound_taken rows other (sound_moved rows came other moved (taken_sound rows came taken))
