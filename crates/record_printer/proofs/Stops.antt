-- Lists of the notes of stops by their numbers.
use Rattle.std.proofs.Common.{◌≡◌, ◌+◌, ◌-◌, ◌<◌, ◌≤◌, ◌++◌, ◌∷◌, [], ℕ, zero, suc, List, Option, Some, refl, sym}
use Rattle.std.proofs.Common.{arith, append_assoc, append-nil, IsSome, inl, inr}
use Rattle.std.proofs.lemmas.Bool.{cases_order}
use Rattle.std.specs.Option.{option_to_list}
use Rattle.record_printer.specs.Chain.{notes_behind, notes_len, notes_until}
use Rattle.record_printer.specs.Note.{Note}
use Rattle.record_printer.specs.RowAnswers.{notes_from}
use Rattle.record_printer.specs.RowFold.{Fold, fold_after, fold_after_all}
use Rattle.record_printer.specs.KeptFold.{HasRoom, behind_len, note_len}
use Rattle.record_printer.specs.declared.fold.row_fold.RowFold.{RowFold}

-- the notes of more stops are those of the first and of the others
pub notes_join : (stops : ℕ → Option Note) (first a b : ℕ)
    → notes_from stops first (a + b) ≡ notes_from stops first a ++ notes_from stops (first + a) b
notes_join stops first zero b =
    let e : zero + b ≡ b = omega arith in
    let f : first + zero ≡ first = omega arith in
    rw (e, f) refl
notes_join stops first (suc a) b =
    let rest = notes_join stops (first + 1) a b in
    let e : (first + 1) + a ≡ first + suc a = omega arith in
    let f : suc a + b ≡ suc (a + b) = omega arith in
    rw f (rw (rest, e) (sym
    (append_assoc (option_to_list (stops first)) (notes_from stops (first + 1) a)
    (notes_from stops (first + suc a) b))))

-- the first of the stops up to a number
pub notes_first : (stops : ℕ → Option Note) (number next : ℕ) → number < next
    → notes_until stops number next ≡ option_to_list (stops number) ++ notes_until stops (number + 1) next
notes_first stops number next before =
    let e : next - number ≡ suc (next - (number + 1)) = omega arith in
    rw e refl

-- one more stop
pub notes_push : (stops : ℕ → Option Note) (first number : ℕ) → first ≤ number
    → notes_until stops first (number + 1) ≡ notes_until stops first number ++ option_to_list (stops number)
notes_push stops first number forward =
    let e : (number + 1) - first ≡ (number - first) + 1 = omega arith in
    let f : first + (number - first) ≡ number = omega arith in
    rw (e, notes_join stops first (number - first) 1, f, append-nil) refl

-- stops that are all there, and one more
pub some_more : (stops : ℕ → Option Note) (first number : ℕ) (note : Note) → stops number ≡ Some note
    → ((n : ℕ) → first ≤ n → n < number → IsSome (stops n)) → (n : ℕ) → first ≤ n → n < number + 1
    → IsSome (stops n)
some_more stops first number note there each n low high =
    elim (cases_order n number) [
      | inl same ↦ rw (same, there) refl
      | inr (inl less) ↦ each n low less
      | inr (inr more) ↦ absurd (omega arith)
    ]

-- stops that are the same
pub notes_same : (stops others : ℕ → Option Note) (first count : ℕ)
    → ((n : ℕ) → first ≤ n → n < first + count → stops n ≡ others n)
    → notes_from stops first count ≡ notes_from others first count
notes_same stops others first zero same = refl
notes_same stops others first (suc count) same =
    rw (
      same first (omega arith) (omega arith),
      notes_same stops others (first + 1) count
          (λ n low high. same n (omega arith) (omega arith)),
    ) refl

-- ---- the room for notes

pub notes_len-append : (notes more : List Note) → notes_len (notes ++ more) ≡ notes_len notes + notes_len more
notes_len-append [] more = omega arith
notes_len-append (note ∷ notes) more = let e = notes_len-append notes more in omega (arith, e)

pub notes_behind-append : (notes more : List Note)
    → notes_behind (notes ++ more) ≡ notes_behind notes + notes_behind more
notes_behind-append [] more = omega arith
notes_behind-append (note ∷ notes) more = let e = notes_behind-append notes more in omega (arith, e)

pub notes_len_push : (stops : ℕ → Option Note) (first number : ℕ) (note : Note) → first ≤ number
    → stops number ≡ Some note
    → notes_len (notes_until stops first (number + 1)) ≡ notes_len (notes_until stops first number) + note_len note
notes_len_push stops first number note forward there =
    rw (notes_push stops first number forward, there, notes_len-append) (omega arith)

pub notes_behind_push : (stops : ℕ → Option Note) (first number : ℕ) (note : Note) → first ≤ number
    → stops number ≡ Some note
    → notes_behind (notes_until stops first (number + 1))
    ≡ notes_behind (notes_until stops first number) + behind_len note
notes_behind_push stops first number note forward there =
    rw (notes_push stops first number forward, there, notes_behind-append) (omega arith)

-- ---- the fold of notes

pub fold_after_all-append : (fold : Fold) (notes more : List Note)
    → fold_after_all fold (notes ++ more) ≡ fold_after_all (fold_after_all fold notes) more
fold_after_all-append fold [] more = refl
fold_after_all-append fold (note ∷ notes) more = fold_after_all-append (fold_after fold note) notes more

-- ---- the room of a fold

pub less_room : {Z : Type 0} (fold : RowFold Z) (lines behind fewer nearer : ℕ) → HasRoom fold lines behind
    → fewer ≤ lines → nearer ≤ behind → HasRoom fold fewer nearer
less_room fold lines behind fewer nearer room less near =
    record { text_fits = omega (arith, room.text_fits); behind_fits = omega (arith, room.behind_fits) }
