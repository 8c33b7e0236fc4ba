-- The words of how an outcome ends: the next of a list, and several threads that wait.
use Rattle.std.proofs.Common.{refl, ◌≡◌, ◌∙◌, ◌<◌, ◌≤◌, ◌+◌, ◌-◌, ◌++◌, ◌∷◌, [], ℕ, Bool, true, false, List, ap}
use Rattle.std.proofs.Common.{append_assoc, arith, codes, cond, drop, filter, get_or, length, map, sym}
use Rattle.std.specs.Prelude.{zip}
use Rattle.std.specs.List.{range_with_len}
use Rattle.std.proofs.lemmas.List.{drop_more, map-append}
use Rattle.std.proofs.lemmas.Slice.Zip.{get_or-zip, length-zip}
use Rattle.stop_history.specs.declared.roster.Row.{Row}
use Rattle.stop_history.specs.declared.state.State.{State}
use Rattle.outcome_text.specs.OutcomeEnds.{last_state, listed, who_waits}
use Rattle.stop_program.proofs.AnyRow.{range_next}

-- a word more, beside those that are left
pub mapped_push : {X : Type 0} (bytes : X → List ℕ) (old new : List X) (x : X) (word : List ℕ) (left : List (List ℕ))
    → new ≡ old ++ x ∷ [] → bytes x ≡ word → map bytes new ++ left ≡ map bytes old ++ (word ∷ left)
mapped_push bytes old new x word left pushed is =
    ap (λ ws. map bytes ws ++ left) pushed
    ∙ ap (λ ws. ws ++ left) (map-append bytes old (x ∷ []))
    ∙ append_assoc (map bytes old) (bytes x ∷ []) left
    ∙ ap (λ w. map bytes old ++ (w ∷ left)) is

pub states_more : (rows : List Row) (states : List State) (n : ℕ) (row : Row) (state : State) → n < length rows
    → n < length states → ((d : Row) → row ≡ get_or rows n d) → ((d : State) → state ≡ get_or states n d)
    → map last_state (drop n (zip rows states)) ≡ last_state (row, state) ∷ map last_state (drop (n + 1) (zip rows states))
states_more rows states n row state first second row_is state_is =
    let tracees : List (Row × State) = zip rows states in
    let within : n < length tracees = omega (arith, length-zip rows states, first, second) in
    let pair : get_or tracees n (row, state) ≡ (row, state) =
    get_or-zip rows states n (row, state) first second ∙ (λ i. (sym (row_is row) i, sym (state_is state) i)) in
    ap (map last_state) (drop_more tracees n (row, state) within)
    ∙ ap (λ (t : Row × State). last_state t ∷ map last_state (drop (n + 1) tracees)) pair

pub several_wait : (words : List (List ℕ)) → 2 ≤ length words → who_waits words ≡ listed words ++ codes " wait"
several_wait [] many = absurd (omega (arith, many))
several_wait (word ∷ []) many = absurd (omega (arith, many))
several_wait (word ∷ next ∷ words) many = refl

-- the words of those numbers of a range that pass a test
pub waiting_more : (test : ℕ → Bool) (word : ℕ → List ℕ) (i n : ℕ) → i < n → test i ≡ true
    → map word (filter test (range_with_len i (n - i)))
    ≡ word i ∷ map word (filter test (range_with_len (i + 1) (n - (i + 1))))
waiting_more test word i n within is =
    let rest : List ℕ = filter test (range_with_len (i + 1) (n - (i + 1))) in
    ap (λ ks. map word (filter test ks)) (range_next i n within) ∙ ap (λ (b : Bool). map word (cond b (i ∷ rest) rest)) is

pub waiting_less : (test : ℕ → Bool) (word : ℕ → List ℕ) (i n : ℕ) → i < n → test i ≡ false
    → map word (filter test (range_with_len i (n - i)))
    ≡ map word (filter test (range_with_len (i + 1) (n - (i + 1))))
waiting_less test word i n within is =
    let rest : List ℕ = filter test (range_with_len (i + 1) (n - (i + 1))) in
    ap (λ ks. map word (filter test ks)) (range_next i n within) ∙ ap (λ (b : Bool). map word (cond b (i ∷ rest) rest)) is
