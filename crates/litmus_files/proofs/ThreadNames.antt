-- The name of a thread is of letters, digits, `_` and `-`: it is text, and one word.
use Rattle.std.proofs.Common.{refl, ◌≡◌, ◌∷◌, ◌<◌, ◌&&◌, [], ℕ, zero, suc, Bool, true, false, List, arith, length}
use Rattle.std.proofs.Common.{lt-ltb, nat_lt}
use Rattle.std.proofs.lemmas.Bool.{and_from}
use Rattle.std.proofs.lemmas.Bool.Decides.{nat_tests}
use Rattle.std.proofs.lemmas.Str.{IsUtf8-from_ascii}
use Rattle.std.specs.List.{list_all}
use Rattle.std.specs.Prelude.{IsUtf8, slice_index}
use Rattle.std.specs.Char.{is_ascii_alphabetic}
use Rattle.std.specs.Str.{IsAscii}
use Rattle.text_lines.proofs.Spelled.{all_above, is_word}
use Rattle.text_lines.specs.Lines.{has_letters}
use Rattle.litmus_files.specs.LitmusGrammar.{is_name_byte, is_thread_name}

byte_is_ascii : (c : ℕ) → is_name_byte c ≡ true → c < 128
byte_is_ascii c is = grind (arith, nat_tests)

and_left : (a b : Bool) → (a && b) ≡ true → a ≡ true
and_left true b is = refl
and_left false b is = absurd (let clash : false ≡ true = is in cc)

and_right : (a b : Bool) → (a && b) ≡ true → b ≡ true
and_right true b is = is
and_right false b is = absurd (let clash : false ≡ true = is in cc)

are_ascii : (word : List ℕ) → list_all is_name_byte word ≡ true → IsAscii word
are_ascii [] all i = omega arith
are_ascii (c ∷ more) all zero = byte_is_ascii c (and_left (is_name_byte c) (list_all is_name_byte more) all)
are_ascii (c ∷ more) all (suc i) =
    are_ascii more (and_right (is_name_byte c) (list_all is_name_byte more) all) i

pub name_is_text : (name : List ℕ) → is_thread_name name ≡ true → IsUtf8 name
name_is_text name is = IsUtf8-from_ascii name (are_ascii name (and_right _ _ (and_right _ _ is)))

byte_is_above : (c : ℕ) → is_name_byte c ≡ true → nat_lt 32 c ≡ true
byte_is_above c is = grind (arith, nat_tests)

are_above : (word : List ℕ) → list_all is_name_byte word ≡ true → all_above word ≡ true
are_above [] all = refl
are_above (c ∷ more) all =
    and_from (nat_lt 32 c) (all_above more)
    (byte_is_above c (and_left (is_name_byte c) (list_all is_name_byte more) all))
    (are_above more (and_right (is_name_byte c) (list_all is_name_byte more) all))

begun : (word : List ℕ) → is_ascii_alphabetic (slice_index word 0) ≡ true → has_letters word ≡ true
begun [] is = absurd (let clash : false ≡ true = is in cc)
begun (c ∷ more) is = lt-ltb 0 (length (c ∷ more)) (omega arith)

pub name_is_word : (name : List ℕ) → is_thread_name name ≡ true → is_word name ≡ true
name_is_word name is =
    and_from (has_letters name) (all_above name) (begun name (and_left _ _ is))
    (are_above name (and_right _ _ (and_right _ _ is)))
