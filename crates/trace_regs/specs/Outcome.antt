-- What a system call answered (syscall(2), "Architecture calling conventions"; errno(3)): the kernel answers an error
-- by its negated number, and has no number above 4095 (its MAX_ERRNO).
use Rattle.std.specs.Prelude.{◌≡◌, ◌&&◌, ℤ, pos, negsuc, Bool, IsTrue, IsFalse, int_le, int_lt, ◌+ℤ◌}
use Rattle.trace_regs.specs.declared.outcome.Outcome.{Outcome}
use Rattle.trace_regs.specs.declared.outcome.Outcome.TheVariants.{Errno, Value}

-- an answer that is an error's negated number: -4095 to -1
abbrev pub is_error_answer : ℤ → Bool
is_error_answer answer = int_le (negsuc 4094) answer && int_lt answer (pos 0)

-- the answer means this outcome
abbrev pub Tells : ℤ → Outcome → Type 0
Tells answer (Errno number) = IsTrue (is_error_answer answer) × (answer +ℤ pos number ≡ pos 0)
Tells answer (Value value) = IsFalse (is_error_answer answer) × (value ≡ answer)
