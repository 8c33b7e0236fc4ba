-- The order in which pieces came changes nothing that they say of a row.
use Rattle.std.proofs.Common.{◌≡◌, ◌≤◌, ◌∷◌, [], ◌||◌, ◌&&◌, ℕ, zero, suc, Bool, List, Option, Some, None}
use Rattle.std.proofs.Common.{refl, sym, ap, ◌∙◌, length, arith, true, is_some, eqb, eqb-true, eq-eqb, nat_lt}
use Rattle.std.proofs.Common.{inl, inr}
use Rattle.std.proofs.lemmas.Bool.{and_parts, cases_Bool}
use Rattle.std.proofs.lemmas.List.Sorted.{Contains-permutation, IsPermutation-sym, list_any-IsPermutation}
use Rattle.std.specs.List.{Contains, flat_map, range_with_len}
use Rattle.std.specs.List.Sorted.{IsPermutation}
use Rattle.record_printer.proofs.Options.{some_none}
use Rattle.record_printer.specs.Came.{ending_of, is_of, last_of, names, stop_of}
use Rattle.record_printer.specs.FolderAnswers.{first_row_fault, lost, lost_at, of_row, pieces_text, refusal, row_text}
use Rattle.record_printer.specs.Note.{Note}
use Rattle.record_printer.specs.Piece.{Piece, Stopped, Died}
use Rattle.record_printer.specs.Represents.{AreTaken}
use Rattle.record_printer.specs.RowAnswers.{death_fault, is_past, stop_fault}
use Rattle.record_printer.specs.declared.fold.ending.Ending.{Ending}
use Rattle.stop_history.specs.Roster.{row_at, row_of}
use Rattle.stop_history.specs.declared.roster.Row.{Row}
use Rattle.trace_record.specs.declared.death.Death.{Death}

the_note : (a b : Note) → Some a ≡ Some b → a ≡ b
the_note a b e = cc

in_tail : (piece x : Piece) (pieces : List Piece) → Contains pieces x → Contains (piece ∷ pieces) x
in_tail piece x pieces there = (suc there.0, omega (arith, there.1), there.2)

-- ---- a stop that is found has come, and one that has come is found

pub stop_came : (tid : ℕ) (pieces : List Piece) (number : ℕ) (note : Note) → stop_of tid pieces number ≡ Some note
    → Contains pieces (Stopped tid number note)
stop_came tid [] number note found = absurd (some_none (sym found))
stop_came tid (Stopped t n other ∷ pieces) number note found =
    elim (cases_Bool (eqb t tid && eqb n number)) [
      | inl here ↦
          let both = and_parts (eqb t tid) (eqb n number) here in
          let same : Stopped t n other ≡ Stopped tid number note =
          rw (eqb-true t tid both.0, eqb-true n number both.1)
          (ap (Stopped tid number) (the_note other note (sym (rw here refl) ∙ found))) in
          (0, omega arith, same)
      | inr there ↦ in_tail (Stopped t n other) (Stopped tid number note) pieces
          (stop_came tid pieces number note (sym (rw there refl) ∙ found))
    ]
stop_came tid (Died t n death ∷ pieces) number note found =
    in_tail (Died t n death) (Stopped tid number note) pieces (stop_came tid pieces number note found)

some_still : (tid : ℕ) (piece : Piece) (pieces : List Piece) (number : ℕ) → is_some (stop_of tid pieces number) ≡ true
    → is_some (stop_of tid (piece ∷ pieces) number) ≡ true
some_still tid (Stopped t n other) pieces number some =
    elim (cases_Bool (eqb t tid && eqb n number)) [ inl here ↦ rw here refl | inr there ↦ rw there some ]
some_still tid (Died t n death) pieces number some = some

stop_some : (tid : ℕ) (pieces : List Piece) (number : ℕ) (note : Note) → Contains pieces (Stopped tid number note)
    → is_some (stop_of tid pieces number) ≡ true
stop_some tid [] number note (k, within, is) = absurd (omega (arith, within))
stop_some tid (piece ∷ pieces) number note (zero, within, is) =
    rw (is, eq-eqb tid tid refl, eq-eqb number number refl) refl
stop_some tid (piece ∷ pieces) number note (suc k, within, is) =
    some_still tid piece pieces number (stop_some tid pieces number note (k, omega (arith, within), is))

held_refused : (place : Option ℕ) (ending : Option Ending) (held : Bool) (number : ℕ) → held ≡ true
    → of_row place (stop_fault ending held number) ≡ None → ⊥
held_refused None ending held number there taken = some_none taken
held_refused (Some row) ending held number there taken =
    elim (cases_Bool (eqb number 0 || is_past ending number)) [
      | inl strange ↦ some_none (rw strange at taken)
      | inr known ↦ some_none (rw (known, there) at taken)
    ]

-- a stop that is not refused has no other of its number before it
pub stop_one : (rows : List Row) (tid : ℕ) (pieces : List Piece) (number : ℕ) (note : Note) → AreTaken rows pieces
    → Contains pieces (Stopped tid number note) → stop_of tid pieces number ≡ Some note
stop_one rows tid [] number note taken (k, within, is) = absurd (omega (arith, within))
stop_one rows tid (piece ∷ pieces) number note taken (zero, within, is) =
    rw (is, eq-eqb tid tid refl, eq-eqb number number refl) refl
stop_one rows tid (Stopped t n other ∷ pieces) number note taken (suc k, within, is) =
    let found = stop_one rows tid pieces number note taken.1 (k, omega (arith, within), is) in
    elim (cases_Bool (eqb t tid && eqb n number)) [
      | inl here ↦
          let both = and_parts (eqb t tid) (eqb n number) here in
          let held : is_some (stop_of t pieces n) ≡ true = rw
          (eqb-true t tid both.0, eqb-true n number both.1, found) refl in
          absurd (held_refused (row_of rows t) (ending_of t pieces) (is_some (stop_of t pieces n)) n held taken.0)
      | inr there ↦ rw there found
    ]
stop_one rows tid (Died t n death ∷ pieces) number note taken (suc k, within, is) =
    stop_one rows tid pieces number note taken.1 (k, omega (arith, within), is)

-- ---- the same of deaths

the_ending : (a b : Ending) → Some a ≡ Some b → a ≡ b
the_ending a b e = cc

pub ending_came : (tid : ℕ) (pieces : List Piece) (ending : Ending) → ending_of tid pieces ≡ Some ending
    → Contains pieces (Died tid ending.number ending.death)
ending_came tid [] ending found = absurd (some_none (sym found))
ending_came tid (Stopped t n note ∷ pieces) ending found =
    in_tail (Stopped t n note) (Died tid ending.number ending.death) pieces (ending_came tid pieces ending found)
ending_came tid (Died t n death ∷ pieces) ending found =
    elim (cases_Bool (eqb t tid)) [
      | inl here ↦
          let made : Ending = record { number = n; death = death } in
          let same : made ≡ ending = the_ending made ending (sym (rw here refl) ∙ found) in
          (0, omega arith, rw (eqb-true t tid here, ← same) refl)
      | inr there ↦ in_tail (Died t n death) (Died tid ending.number ending.death) pieces
          (ending_came tid pieces ending (sym (rw there refl) ∙ found))
    ]

death_still : (tid : ℕ) (piece : Piece) (pieces : List Piece) → is_some (ending_of tid pieces) ≡ true
    → is_some (ending_of tid (piece ∷ pieces)) ≡ true
death_still tid (Stopped t n note) pieces some = some
death_still tid (Died t n death) pieces some =
    elim (cases_Bool (eqb t tid)) [ inl here ↦ rw here refl | inr there ↦ rw there some ]

ending_some : (tid : ℕ) (pieces : List Piece) (number : ℕ) (death : Death) → Contains pieces (Died tid number death)
    → is_some (ending_of tid pieces) ≡ true
ending_some tid [] number death (k, within, is) = absurd (omega (arith, within))
ending_some tid (piece ∷ pieces) number death (zero, within, is) = rw (is, eq-eqb tid tid refl) refl
ending_some tid (piece ∷ pieces) number death (suc k, within, is) =
    death_still tid piece pieces (ending_some tid pieces number death (k, omega (arith, within), is))

dead_refused : (place : Option ℕ) (ending : Option Ending) (last number : ℕ) → is_some ending ≡ true
    → of_row place (death_fault ending last number) ≡ None → ⊥
dead_refused None ending last number there taken = some_none taken
dead_refused (Some row) ending last number there taken =
    elim (cases_Bool (nat_lt number last)) [
      | inl strange ↦ some_none (rw strange at taken)
      | inr known ↦ some_none (rw (known, there) at taken)
    ]

pub ending_one : (rows : List Row) (tid : ℕ) (pieces : List Piece) (number : ℕ) (death : Death) → AreTaken rows pieces
    → Contains pieces (Died tid number death)
    → ending_of tid pieces ≡ Some (record { number = number; death = death })
ending_one rows tid [] number death taken (k, within, is) = absurd (omega (arith, within))
ending_one rows tid (piece ∷ pieces) number death taken (zero, within, is) = rw (is, eq-eqb tid tid refl) refl
ending_one rows tid (Stopped t n note ∷ pieces) number death taken (suc k, within, is) =
    ending_one rows tid pieces number death taken.1 (k, omega (arith, within), is)
ending_one rows tid (Died t n other ∷ pieces) number death taken (suc k, within, is) =
    let found = ending_one rows tid pieces number death taken.1 (k, omega (arith, within), is) in
    elim (cases_Bool (eqb t tid)) [
      | inl here ↦
          let held : is_some (ending_of t pieces) ≡ true = rw (eqb-true t tid here, found) refl in
          absurd (dead_refused (row_of rows t) (ending_of t pieces) (last_of t pieces) n held taken.0)
      | inr there ↦ rw there found
    ]

-- ---- the greatest number of a stop

last_still : (tid : ℕ) (piece : Piece) (pieces : List Piece) → last_of tid pieces ≤ last_of tid (piece ∷ pieces)
last_still tid (Stopped t n note) pieces =
    elim (cases_Bool (eqb t tid)) [ inl here ↦ rw here (omega arith) | inr there ↦ rw there (omega arith) ]
last_still tid (Died t n death) pieces = omega arith

pub last_least : (tid : ℕ) (pieces : List Piece) (number : ℕ) (note : Note) → Contains pieces (Stopped tid number note)
    → number ≤ last_of tid pieces
last_least tid [] number note (k, within, is) = absurd (omega (arith, within))
last_least tid (piece ∷ pieces) number note (zero, within, is) = rw (is, eq-eqb tid tid refl) (omega arith)
last_least tid (piece ∷ pieces) number note (suc k, within, is) =
    let less = last_least tid pieces number note (k, omega (arith, within), is) in
    let more = last_still tid piece pieces in
    omega (arith, less, more)

-- all stops of the first pieces are among the second
last_le : (tid : ℕ) (pieces others : List Piece)
    → ((number : ℕ) (note : Note) → Contains pieces (Stopped tid number note) → number ≤ last_of tid others)
    → last_of tid pieces ≤ last_of tid others
last_le tid [] others each = omega arith
last_le tid (Stopped t n note ∷ pieces) others each =
    let rest = last_le tid pieces others
    (λ number other there. each number other
    (in_tail (Stopped t n note) (Stopped tid number other) pieces there)) in
    elim (cases_Bool (eqb t tid)) [
      | inl here ↦
          let first = each n note (0, omega arith, rw (eqb-true t tid here) refl) in
          rw here (omega (arith, rest, first))
      | inr there ↦ rw there rest
    ]
last_le tid (Died t n death ∷ pieces) others each =
    last_le tid pieces others
    (λ number other there. each number other (in_tail (Died t n death) (Stopped tid number other) pieces there))

-- ---- pieces in another order

same_option : {X : Type 0} (a b : Option X) → ((x : X) → a ≡ Some x → b ≡ Some x)
    → ((y : X) → b ≡ Some y → is_some a ≡ true) → a ≡ b
same_option None None forth back = refl
same_option None (Some y) forth back = let wrong = back y refl in cc
same_option (Some x) b forth back = sym (forth x refl)

pub same_stop : (rows : List Row) (came other : List Piece) → AreTaken rows came → IsPermutation came other
    → (tid number : ℕ) → stop_of tid other number ≡ stop_of tid came number
same_stop rows came other taken moved tid number =
    same_option (stop_of tid other number) (stop_of tid came number)
    (λ note found. stop_one rows tid came number note taken
    (Contains-permutation other came (Stopped tid number note) (IsPermutation-sym came other moved)
    (stop_came tid other number note found)))
    (λ note found. stop_some tid other number note
    (Contains-permutation came other (Stopped tid number note) moved (stop_came tid came number note found)))

pub same_ending : (rows : List Row) (came other : List Piece) → AreTaken rows came → IsPermutation came other
    → (tid : ℕ) → ending_of tid other ≡ ending_of tid came
same_ending rows came other taken moved tid =
    same_option (ending_of tid other) (ending_of tid came)
    (λ ending found. ending_one rows tid came ending.number ending.death taken
    (Contains-permutation other came (Died tid ending.number ending.death) (IsPermutation-sym came other moved)
    (ending_came tid other ending found)))
    (λ ending found. ending_some tid other ending.number ending.death
    (Contains-permutation came other (Died tid ending.number ending.death) moved (ending_came tid came ending found)))

pub same_last : (came other : List Piece) → IsPermutation came other → (tid : ℕ) → last_of tid other ≡ last_of tid came
same_last came other moved tid =
    let less = last_le tid other came (λ number note there. last_least tid came number note
    (Contains-permutation other came (Stopped tid number note) (IsPermutation-sym came other moved) there)) in
    let more = last_le tid came other (λ number note there. last_least tid other number note
    (Contains-permutation came other (Stopped tid number note) moved there)) in
    omega (arith, less, more)

-- ---- the answers

pub same_text : (rows : List Row) (came other : List Piece) → AreTaken rows came → IsPermutation came other
    → pieces_text rows other ≡ pieces_text rows came
same_text rows came other taken moved =
    let e : (row : Row) → row_text other row ≡ row_text came row = λ row.
    let stops : stop_of row.tid other ≡ stop_of row.tid came = λ i n. same_stop rows came other taken moved row.tid
    n i in
    rw (stops, same_ending rows came other taken moved row.tid) refl in
    let f : row_text other ≡ row_text came = λ i row. e row i in
    ap (λ text. flat_map text rows) f

pub same_lost : (rows : List Row) (came other : List Piece) → AreTaken rows came → IsPermutation came other
    → lost rows other ≡ lost rows came
same_lost rows came other taken moved =
    let e : (row : ℕ) → lost_at rows other row ≡ lost_at rows came row = λ row.
    let tid = (row_at rows row).tid in
    let stops : stop_of tid other ≡ stop_of tid came = λ i n. same_stop rows came other taken moved tid n i in
    rw (
      stops,
      same_ending rows came other taken moved tid,
      same_last came other moved tid,
      ← list_any-IsPermutation (names tid) came other moved,
      ← list_any-IsPermutation (is_of tid) came other moved,
    ) refl in
    let f : lost_at rows other ≡ lost_at rows came = λ i row. e row i in
    ap (λ fault. first_row_fault fault (range_with_len 0 (length rows))) f

pub same_refusal : (rows : List Row) (came other : List Piece) → AreTaken rows came → IsPermutation came other
    → (piece : Piece) → refusal rows other piece ≡ refusal rows came piece
same_refusal rows came other taken moved (Stopped tid number note) =
    rw (same_stop rows came other taken moved tid number, same_ending rows came other taken moved tid) refl
same_refusal rows came other taken moved (Died tid number death) =
    rw (same_ending rows came other taken moved tid, same_last came other moved tid) refl
