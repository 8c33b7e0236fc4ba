-- A file that is read line by line, whatever its lines say: what they make, or the file's first fault with its line.
-- `read n so_far line` is what the line of number n makes of what was read before it, or its first fault.
use Rattle.std.specs.Prelude.{◌≡◌, ◌+◌, ◌<◌, ◌≤◌, ◌∷◌, [], ℕ, nat_le, List, length, Result, Ok, Err, IfErr, IsOk}
use Rattle.std.specs.Prelude.{if◌then◌else◌}
use Rattle.text_lines.specs.declared.fault.LineFault.{LineFault}
use Rattle.text_lines.specs.Lines.{last_line, lines_of}
use Rattle.text_lines.specs.Ranges.{◌>>=◌}
use Rattle.trace_script.specs.declared.cause.CaseError.{CaseError}
use Rattle.trace_script.specs.declared.cause.Cause.{Cause}
use Rattle.trace_script.specs.declared.cause.Cause.TheVariants.{NoMemory, TooMany}
use Rattle.trace_script.specs.declared.limits.TheConstants.{MOST_BYTES}
use Rattle.trace_script.specs.Cause.{line_cause}

-- how many bytes a file has at most
abbrev pub most_bytes : ℕ
most_bytes = MOST_BYTES

-- what the words of a line say, or its first fault as a cause
abbrev pub with_cause : {A : Type 0} → Result A LineFault → Result A Cause
with_cause (Ok said) = Ok said
with_cause (Err fault) = Err (line_cause fault)

-- a fault with the number of its line
abbrev pub at_line : {A : Type 0} → ℕ → Result A Cause → Result A CaseError
at_line n (Ok x) = Ok x
at_line n (Err cause) = Err (record { line = n; cause = cause })

-- what lines make of what was read before them, or their first fault; the first of them has number n
unfoldable pub read_after : {S : Type 0} → (ℕ → S → List ℕ → Result S Cause) → (n : ℕ) → S → List (List ℕ)
    → Result S CaseError
read_after read n so_far [] = Ok so_far
read_after read n so_far (line ∷ lines) =
    at_line n (read n so_far line) >>= λ more. read_after read (n + 1) more lines

-- what the lines of a file make of nothing, or its first fault; lines count from 1
abbrev pub read_file : {S : Type 0} → (ℕ → S → List ℕ → Result S Cause) → (nothing : S) → List ℕ → Result S CaseError
read_file read nothing text =
    if nat_le (length text) most_bytes then read_after read 1 nothing (lines_of text)
    else Err (record { line = 1; cause = TooMany })

-- out of memory is reported on a line of the file that has no fault and before which no line has one; of an empty
-- file on line 1. `lines` is what the lines say one by one: a fault that is found after the last line is none of it
pub record IsOutOfMemory {A : Type 0} (text : List ℕ) (line : ℕ) (lines : Result A CaseError) : Type 0 where
  pub first : 1 ≤ line
  pub last : line ≤ last_line text
  pub before : IfErr lines (λ fault. line < fault.line)

-- a refusal is the first fault of the file, or out of memory, which only faults of lines come before
abbrev pub Refuses : {A B : Type 0} → List ℕ → Cause → (line : ℕ) → (lines : Result A CaseError)
    → (file : Result B CaseError) → Type 0
Refuses text NoMemory line lines file = IsOutOfMemory text line lines
Refuses text cause line lines file = file ≡ Err (record { line = line; cause = cause })

-- what a line made of what was read before it: what it says, or its fault; out of memory only where it has no fault
abbrev pub TakesLine : {S : Type 0} → Result (Unit {0}) Cause → (new : S) → (read : Result S Cause) → Type 0
TakesLine (Ok done) new read = read ≡ Ok new
TakesLine (Err NoMemory) new read = IsOk read
TakesLine (Err cause) new read = read ≡ Err cause
