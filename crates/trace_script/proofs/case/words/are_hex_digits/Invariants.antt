-- The bytes so far and those that are left are hexadecimal digits exactly where all are.
use Rattle.std.proofs.Common.{◌≡◌, ◌&&◌, drop}
use Rattle.std.specs.List.{list_all}
use Rattle.hex.specs.Hex.{is_hex_digit}
use Rattle.trace_script.proofs.case.words.are_hex_digits.Given as goal

abbrev pub invariant-loop-c : goal.invariant-loop-c
invariant-loop-c l = (l.all && list_all is_hex_digit (drop l.c-index l.word)) ≡ list_all is_hex_digit l.word
