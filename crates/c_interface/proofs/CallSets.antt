-- A set of calls that is filled by numbers: those before nr are in it by their bits, and no other is.
use Rattle.std.proofs.Common.{◌≡◌, ◌<◌, ◌≤◌, ◌+◌, ◌==◌, ◌||◌, ℕ, Bool, true, false, inl, inr, ◌∙◌, ap, sym, arith, eq-eqb}
use Rattle.std.proofs.lemmas.Bool.{cases_lt, ne_eqb, or_from, or_left}

abbrev pub IsFilled : (nr : ℕ) (calls bits : ℕ → Bool) → Type 0
IsFilled nr calls bits = ((k : ℕ) → k < nr → calls k ≡ bits k) × ((k : ℕ) → nr ≤ k → calls k ≡ false)

pub with_next : (old new bits : ℕ → Bool) (nr : ℕ) → IsFilled nr old bits → ((k : ℕ) → new k ≡ (k == nr || old k))
    → bits nr ≡ true → IsFilled (nr + 1) new bits
with_next old new bits nr filled made bit = (
  λ k low. elim (cases_lt k nr) [
    | inl before ↦ made k ∙ ap (λ b. b || old k) (ne_eqb k nr (λ e. omega (arith, before, e))) ∙ filled.0 k before
    | inr behind ↦
        let here : k ≡ nr = omega (arith, low, behind) in
        made k ∙ or_left (k == nr) (old k) (eq-eqb k nr here) ∙ sym (ap bits here ∙ bit)
  ],
  λ k high. made k ∙ or_from (k == nr) (old k) (ne_eqb k nr (λ e. omega (arith, high, e)))
      (filled.1 k (omega (arith, high))),
)

pub without_next : (old new bits : ℕ → Bool) (nr : ℕ) → IsFilled nr old bits → ((k : ℕ) → new k ≡ old k)
    → bits nr ≡ false → IsFilled (nr + 1) new bits
without_next old new bits nr filled made bit = (
  λ k low. elim (cases_lt k nr) [
    | inl before ↦ made k ∙ filled.0 k before
    | inr behind ↦
        let here : k ≡ nr = omega (arith, low, behind) in
        made k ∙ filled.1 k behind ∙ sym (ap bits here ∙ bit)
  ],
  λ k high. made k ∙ filled.1 k (omega (arith, high)),
)
