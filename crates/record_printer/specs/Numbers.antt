-- The texts of numbers: arguments of a system call, its result and errors (strace(1)).
use Rattle.std.specs.Prelude.{◌++◌, ◌==◌, ◌%◌, ◌^◌, ℕ, ℤ, false, List, codes, decimal, nat_abs, nat_lt}
use Rattle.std.specs.Prelude.{if◌then◌else◌}
use Rattle.std.specs.Option.{unwrap_or}
use Rattle.std.specs.Fmt.{digits, signed_decimal}
use Rattle.std.specs.Int.{w32, cast_signed}
use Rattle.trace_options.specs.ErrorNames.{error_name}
use Rattle.trace_regs.specs.Outcome.{is_error_answer}

-- a C int: the low 32 bits of a register, in signed decimal
abbrev pub int_text : ℕ → List ℕ
int_text word = signed_decimal (cast_signed w32 (word % 2 ^ 32))

-- in lower case, without leading zeros
abbrev pub hexadecimal : ℕ → List ℕ
hexadecimal word = codes "0x" ++ digits 16 false word

abbrev pub address_text : ℕ → List ℕ
address_text word = if word == 0 then codes "NULL" else hexadecimal word

-- the permissions of a file: in octal after one zero, or after two where there is but one digit
abbrev pub mode_by : ℕ → List ℕ
mode_by mode = (if nat_lt mode 8 then codes "00" else codes "0") ++ digits 8 false mode

-- a mode_t: the low 16 bits of a register
abbrev pub mode_text : ℕ → List ℕ
mode_text word = mode_by (word % 2 ^ 16)

-- an error by its name, or by its number where it has none
abbrev pub error_text : ℕ → List ℕ
error_text number = unwrap_or (error_name number) (codes "ERR_" ++ decimal number)

-- the result of a system call: -1 and the error, or the value
abbrev pub result_text : ℤ → List ℕ
result_text answer = if is_error_answer answer then codes "-1 " ++ error_text (nat_abs answer) else signed_decimal answer
