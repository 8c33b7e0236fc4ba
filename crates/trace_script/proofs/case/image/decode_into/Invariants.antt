-- The bytes so far, and those of the digits that are left, are those of all digits.
use Rattle.std.proofs.Common.{◌≡◌, ◌*◌, drop, take}
use Rattle.hex.specs.Hex.{decode_pairs}
use Rattle.hex.proofs.Pairs.{prepend}
use Rattle.trace_script.proofs.case.image.decode_into.Given as goal

abbrev pub invariant-loop-i : goal.invariant-loop-i
invariant-loop-i l =
    decode_pairs 0 l.word ≡ prepend (take l.i l.bytes) (decode_pairs (2 * l.i) (drop (2 * l.i) l.word))
