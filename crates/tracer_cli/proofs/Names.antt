-- Lists of names, one name after the other.
use Rattle.std.proofs.Common.{refl, ◌≡◌, ◌∙◌, ◌<◌, ◌+◌, ◌++◌, ◌||◌, ◌==◌, ◌∷◌, [], ℕ, zero, suc, Bool, true, false, not, List}
use Rattle.std.proofs.Common.{Some, None, Ok, IfSome, Bor, ap, arith, drop, length, lit<, map}
use Rattle.std.proofs.Common.{slice_index_or, sym, take}
use native.Mathlib.Numerals.{unary_clauses}
use Rattle.std.specs.List.{list_any}
use Rattle.std.specs.Option.{option_map_or}
use Rattle.std.specs.Str.{bytes_eq}
use Rattle.std.proofs.lemmas.List.Folds.{find-append, list_any-append}
use Rattle.trace_options.proofs.Tables.{found}
use Rattle.trace_options.specs.Calls.{Calls, has_call}
use Rattle.trace_options.specs.Syscalls.{SyscallRow, syscall_named, syscall_table}
use Rattle.tracer_cli.specs.Shown.{NamesCalls, is_call_of, is_known, unknown_in}

-- every call that has a name can be one of a set
pub small : (name : List ℕ) → IfSome (syscall_named name) (λ call. call.number < 128)
unfolding syscall_table
small name =
    found (λ (call : SyscallRow). bytes_eq call.name name) (λ call. call.number < 128) syscall_table
    (lit< tt, (lit< tt, (lit< tt, (lit< tt, (lit< tt, (lit< tt, (lit< tt, (lit< tt, (lit< tt, (lit< tt, (lit< tt, (lit< tt, (lit< tt, (lit< tt, (lit< tt, tt)))))))))))))))

unknown_first : (name : List ℕ) (more : List (List ℕ)) → syscall_named name ≡ None
    → unknown_in (name ∷ more) ≡ Some name
unknown_first name more none = rw none refl

known_first : (name : List ℕ) (call : SyscallRow) → syscall_named name ≡ Some call → unknown_in (name ∷ []) ≡ None
known_first name call some = rw some refl

-- after known names, the first unknown one is the next
pub unknown_next : (names : List (List ℕ)) (name : List ℕ) (more : List (List ℕ)) → unknown_in names ≡ None
    → syscall_named name ≡ None → unknown_in (names ++ name ∷ more) ≡ Some name
unknown_next names name more known none =
    find-append (λ n. not (is_known n)) names (name ∷ more) ∙ rw known (unknown_first name more none)

or_swap : (a b : Bool) → (a || b) ≡ (b || (a || false))
or_swap true true = refl
or_swap true false = refl
or_swap false true = refl
or_swap false false = refl

-- one more known name, and its call in the set
pub known_next : (names : List (List ℕ)) (name : List ℕ) (call : SyscallRow) (calls new : Calls)
    → NamesCalls names (Ok calls) → syscall_named name ≡ Some call
    → ((nr : ℕ) → has_call new nr ≡ (nr == call.number || has_call calls nr))
    → NamesCalls (names ++ name ∷ []) (Ok new)
known_next names name call calls new known some adds = (
  find-append (λ n. not (is_known n)) names (name ∷ []) ∙ rw known.0 (known_first name call some),
  λ nr. adds nr ∙ ap (λ b. nr == call.number || b) (known.1 nr)
      ∙ or_swap (nr == call.number) (list_any (is_call_of nr) names)
      ∙ ap (λ b. list_any (is_call_of nr) names || (b || false))
      (sym (ap (λ c. option_map_or (λ row. nr == row.number) c false) some))
      ∙ sym (list_any-append (is_call_of nr) names (name ∷ [])),
)

-- the names up to the next one, and all names from there on
up_to_suc : (names : List (Bor (List ℕ))) (i : ℕ) (d : Bor (List ℕ)) → i < length names
    → take (suc i) (map (λ name. name.now) names)
    ≡ take i (map (λ name. name.now) names) ++ (slice_index_or names i d).now ∷ []
up_to_suc [] i d less = absurd (omega (arith, less))
up_to_suc (x ∷ xs) zero d less = refl
up_to_suc (x ∷ xs) (suc i) d less =
    let shorter : i < length xs = omega (arith, less) in
    ap (λ (l : List (List ℕ)). x.now ∷ l) (up_to_suc xs i d shorter)

pub up_to_next : (names : List (Bor (List ℕ))) (i : ℕ) (d : Bor (List ℕ)) → i < length names
    → take (i + 1) (map (λ name. name.now) names)
    ≡ take i (map (λ name. name.now) names) ++ (slice_index_or names i d).now ∷ []
up_to_next names i d less = simp unary_clauses (up_to_suc names i d less)

pub from_next : (names : List (Bor (List ℕ))) (i : ℕ) (d : Bor (List ℕ)) → i < length names
    → map (λ name. name.now) names
    ≡ take i (map (λ name. name.now) names) ++ (slice_index_or names i d).now ∷ drop (suc i) (map (λ name. name.now) names)
from_next [] i d less = absurd (omega (arith, less))
from_next (x ∷ xs) zero d less = refl
from_next (x ∷ xs) (suc i) d less =
    let shorter : i < length xs = omega (arith, less) in
    ap (λ (l : List (List ℕ)). x.now ∷ l) (from_next xs i d shorter)
