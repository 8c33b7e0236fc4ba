-- The bytes so far are those of the registers so far.
use Rattle.std.proofs.Common.{◌≡◌, ◌*◌, length, take}
use Rattle.std.specs.Int.{w64, to_le_bytes}
use Rattle.std.specs.List.{flat_map}
use Rattle.trace_regs.proofs.layout.write_words.Given as goal

abbrev pub invariant-loop-i : goal.invariant-loop-i
invariant-loop-i l = record {
  whole : length l.bytes ≡ 216;
  written : take (8 * l.i) l.bytes ≡ flat_map (to_le_bytes w64) (take l.i l.words);
}
