-- A file is read line by line, whatever its lines say.
use Rattle.std.proofs.Common.{refl, false, true, ◌≡◌, ◌+◌, ◌≤◌, ◌<◌, ◌∷◌, [], ℕ, List, Result, Ok, Err, IfErr, IsOk}
use Rattle.std.proofs.Common.{length, arith, ap, sym, ◌∙◌, ◌==◌, eqb-true}
use Rattle.text_lines.specs.Lines.{lines_of}
use Rattle.text_lines.specs.Ranges.{◌>>=◌}
use Rattle.trace_script.specs.declared.cause.CaseError.{CaseError}
use Rattle.trace_script.specs.declared.cause.Cause.{Cause}
use Rattle.trace_script.specs.declared.cause.Cause.TheVariants.{NoMemory}
use Rattle.trace_script.specs.Reading.{Refuses, TakesLine, at_line, read_after}

-- no fault is before the first line
later : {S : Type 0} (n : ℕ) (read : Result S CaseError) → IfErr read (λ fault. n + 1 ≤ fault.line)
    → IfErr read (λ fault. n ≤ fault.line)
later n (Ok more) h = tt
later n (Err fault) h = omega arith

strictly_later : {S : Type 0} (n : ℕ) (read : Result S CaseError) → IfErr read (λ fault. n + 1 ≤ fault.line)
    → IfErr read (λ fault. n < fault.line)
strictly_later n (Ok more) h = tt
strictly_later n (Err fault) h = omega arith

empty : (xs : List ℕ) → (length xs == 0) ≡ true → xs ≡ []
empty [] h = refl
empty (x ∷ xs) h = let long : length (x ∷ xs) ≡ 0 = eqb-true _ _ h in absurd (omega arith)

module _ {S : Type 0} (read : ℕ → S → List ℕ → Result S Cause) where
  -- a line without a fault is followed by the lines after it
  pub goes_on : (n : ℕ) (so_far new : S) (line : List ℕ) (lines : List (List ℕ)) → read n so_far line ≡ Ok new
      → read_after read n so_far (line ∷ lines) ≡ read_after read (n + 1) new lines
  unfolding read_after
  goes_on n so_far new line lines is = ap (λ r. at_line n r >>= λ more. read_after read (n + 1) more lines) is

  stops : (n : ℕ) (so_far : S) (line : List ℕ) (lines : List (List ℕ)) (cause : Cause) → read n so_far line ≡ Err cause
      → read_after read n so_far (line ∷ lines) ≡ Err (record { line = n; cause = cause })
  unfolding read_after
  stops n so_far line lines cause is = ap (λ r. at_line n r >>= λ more. read_after read (n + 1) more lines) is

  pub all_read : (n : ℕ) (so_far : S) → read_after read n so_far [] ≡ Ok so_far
  unfolding read_after
  all_read n so_far = refl

  not_before : (n : ℕ) (so_far : S) (lines : List (List ℕ))
      → IfErr (read_after read n so_far lines) (λ fault. n ≤ fault.line)
  unfolding read_after
  not_before n so_far [] = tt
  not_before n so_far (line ∷ lines) =
      elim (read n so_far line) as
      (λ r. IfErr (at_line n r >>= λ more. read_after read (n + 1) more lines) (λ fault. n ≤ fault.line)) [
        | Ok more ↦ later n (read_after read (n + 1) more lines) (not_before (n + 1) more lines)
        | Err cause ↦ let same : n ≤ n = omega arith in same
      ]

  fault_later : (n : ℕ) (so_far : S) (line : List ℕ) (lines : List (List ℕ)) (made : Result S Cause)
      → read n so_far line ≡ made → IsOk made
      → IfErr (read_after read n so_far (line ∷ lines)) (λ fault. n < fault.line)
  fault_later n so_far line lines (Ok new) is ok =
      rw (goes_on n so_far new line lines is) (strictly_later n _ (not_before (n + 1) new lines))
  fault_later n so_far line lines (Err cause) is ok = absurd (let clash : false ≡ true = ok in cc)

  -- a line at which reading ends refuses the file
  pub ends_here : (text : List ℕ) (n : ℕ) (so_far new : S) (line : List ℕ) (lines : List (List ℕ)) (cause : Cause)
      → 1 ≤ n → n ≤ length (lines_of text) → TakesLine (Err cause) new (read n so_far line)
      → Refuses text cause n (read_after read n so_far (line ∷ lines)) (read_after read n so_far (line ∷ lines))
  ends_here text n so_far new line lines NoMemory first last takes = record {
    first = first;
    last = omega arith;
    before = fault_later n so_far line lines (read n so_far line) refl takes;
  }
  ends_here text n so_far new line lines cause first last takes = stops n so_far line lines _ takes

  -- the end of the file
  pub ends : (n : ℕ) (so_far : S) (rest : List ℕ) → true ≡ (length rest == 0)
      → read_after read n so_far (lines_of rest) ≡ Ok so_far
  ends n so_far rest h = ap (λ r. read_after read n so_far (lines_of r)) (empty rest (sym h)) ∙ all_read n so_far
