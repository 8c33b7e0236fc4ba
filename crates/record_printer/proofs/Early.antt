-- The stops that wait, after one is taken out or put in.
use Rattle.std.proofs.Common.{◌≡◌, ℕ, Bool, Option, Some, None, refl, sym, ◌∙◌, arith, eqb, cond, is_some, option_map}
use Rattle.std.proofs.Common.{true, false, ◌<◌, ◌≤◌, ◌+◌, eq-eqb, ne_eqb, inl, inr}
use Rattle.std.proofs.lemmas.Bool.{cases_order}
use Rattle.std.proofs.lemmas.Bool.Decides.{nat_tests}
use Rattle.std.specs.BTreeMap.{BTreeMap, is_at}
use Rattle.std.specs.BTreeMap as tree
use Rattle.std.specs.Ordering.{nat_cmp}
use Rattle.record_printer.specs.Early.{early_note, early_of}
use Rattle.record_printer.specs.Kept.{note_in}
use Rattle.record_printer.specs.NoteOf.{note_of}
use Rattle.record_printer.specs.declared.piece.note.Note.{Note as KeptNote}
use Rattle.std.proofs.lemmas.Map.Made.{lookup-map_values}

pub at_is : (k n : ℕ) → is_at (nat_cmp k) n ≡ eqb k n
at_is k n = grind (arith, nat_tests)

map_cond : {X Y : Type 0} (f : X → Y) (b : Bool) (x y : Option X)
    → option_map f (cond b x y) ≡ cond b (option_map f x) (option_map f y)
map_cond f true x y = refl
map_cond f false x y = refl

map_some : {X Y : Type 0} (f : X → Y) (x : Option X) → is_some x ≡ is_some (option_map f x)
map_some f None = refl
map_some f (Some x) = refl

-- the note at each number, once that at one is set
pub note_set : {Z : Type 0} (old new : BTreeMap ℕ (KeptNote Z)) (k : ℕ) (given : Option (KeptNote Z))
    → ((q : ℕ) → tree.get nat_cmp new q ≡ cond (is_at (nat_cmp k) q) given (tree.get nat_cmp old q)) → (n : ℕ)
    → early_note new n ≡ cond (eqb k n) (option_map note_of given) (early_note old n)
note_set old new k given set n = rw (set n, map_cond, at_is) refl

pub at_same : {X : Type 0} (k n : ℕ) (x y : X) → k ≡ n → cond (eqb k n) x y ≡ x
at_same k n x y same = rw (eq-eqb k n same) refl

pub at_other : {X : Type 0} (k n : ℕ) (x y : X) → (k ≡ n → ⊥) → cond (eqb k n) x y ≡ y
at_other k n x y apart = rw (ne_eqb k n apart) refl

-- the notes before a number are gone, and that of the number
pub note_gone : {Z : Type 0} (old new : BTreeMap ℕ (KeptNote Z)) (k : ℕ)
    → ((q : ℕ) → tree.get nat_cmp new q ≡ cond (is_at (nat_cmp k) q) None (tree.get nat_cmp old q))
    → ((n : ℕ) → n < k → early_note old n ≡ None) → (n : ℕ) → n < k + 1 → early_note new n ≡ None
note_gone old new k set gone n below =
    note_set old new k None set n ∙ elim (cases_order n k) [
      | inl same ↦ at_same k n None (early_note old n) (sym same)
      | inr (inl less) ↦ at_other k n None (early_note old n) (λ same. omega (arith, same, less)) ∙ gone n less
      | inr (inr more) ↦ absurd (omega (arith, more, below))
    ]

-- and the others are as they were
pub note_left : {Z : Type 0} (old new : BTreeMap ℕ (KeptNote Z)) (k : ℕ)
    → ((q : ℕ) → tree.get nat_cmp new q ≡ cond (is_at (nat_cmp k) q) None (tree.get nat_cmp old q)) → (n : ℕ)
    → k + 1 ≤ n → early_note new n ≡ early_note old n
note_left old new k set n above =
    note_set old new k None set n ∙ at_other k n None (early_note old n) (λ same. omega (arith, same, above))

-- the value of a row has the notes that the program keeps
pub note_seen : {Z : Type 0} (early : BTreeMap ℕ (KeptNote Z)) (n : ℕ) → note_in (early_of early) n ≡ early_note early n
note_seen early n = lookup-map_values note_of (is_at (nat_cmp n)) early.entries

pub seen_some : {Z : Type 0} (early : BTreeMap ℕ (KeptNote Z)) (n : ℕ)
    → is_some (tree.get nat_cmp early n) ≡ is_some (early_note early n)
seen_some early n = map_some note_of (tree.get nat_cmp early n)
