-- A line that is spelled is read as what its words say, whatever its file has.
use Rattle.std.proofs.Common.{◌≡◌, ◌+◌, ◌++◌, ℕ, List, Result, Ok, ap, ◌∙◌}
use Rattle.std.specs.List.{join_with_byte}
use Rattle.text_lines.specs.declared.fault.LineFault.{LineFault}
use Rattle.text_lines.specs.Lines.{line_text, lines_of, words_in}
use Rattle.text_lines.specs.Ranges.{◌>>=◌}
use Rattle.text_lines.proofs.Spelled.{AreWords, line_spelled, words_joined}
use Rattle.trace_script.specs.declared.cause.Cause.{Cause}
use Rattle.trace_script.specs.Reading.{read_after, with_cause}
use Rattle.trace_script.proofs.LinesRead.{goes_on}

-- what a line makes of what was read before it: its words say something there, which is added
abbrev pub read_by : {S A : Type 0} → (S → List (List ℕ) → Result A LineFault) → (ℕ → S → A → Result S Cause) → ℕ → S
    → List ℕ → Result S Cause
read_by says adds n so_far line = with_cause (says so_far (words_in line)) >>= adds n so_far

module _ {S A : Type 0} (says : S → List (List ℕ) → Result A LineFault) (adds : ℕ → S → A → Result S Cause) where
  -- a spelled line is the first line, and its words are read
  pub first_line : (n : ℕ) (so_far new : S) (words : List (List ℕ)) (said : A) (rest : List ℕ) → AreWords words
      → says so_far words ≡ Ok said → adds n so_far said ≡ Ok new
      → read_after (read_by says adds) n so_far (lines_of (line_text words ++ rest))
      ≡ read_after (read_by says adds) (n + 1) new (lines_of rest)
  first_line n so_far new words said rest are is added =
      let read : read_by says adds n so_far (join_with_byte 32 words) ≡ Ok new =
      ap (λ ws. with_cause (says so_far ws) >>= adds n so_far) (words_joined words are)
      ∙ ap (λ r. with_cause r >>= adds n so_far) is ∙ added in
      ap (read_after (read_by says adds) n so_far) (line_spelled words rest are)
      ∙ goes_on (read_by says adds) n so_far new (join_with_byte 32 words) (lines_of rest) read
