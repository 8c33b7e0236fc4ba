-- The registers so far are those of the bytes so far.
use Rattle.std.proofs.Common.{◌≡◌, ◌*◌, ◌^◌, ◌<◌, length, take}
use Rattle.std.specs.Prelude.{All}
use Rattle.std.specs.Int.{w64, to_le_bytes}
use Rattle.std.specs.List.{flat_map}
use Rattle.trace_regs.proofs.layout.read_words.Given as goal

abbrev pub invariant-loop-i : goal.invariant-loop-i
invariant-loop-i l = record {
  whole : length l.words ≡ 27;
  read : flat_map (to_le_bytes w64) (take l.i l.words) ≡ take (8 * l.i) l.bytes;
  fit : All (λ word. word < 2 ^ 64) l.words;
}
