-- The bytes that are appended are `0x` and the digits without leading zeros.
use Rattle.std.proofs.Common.{rules, ◌/◌, ap}
use Rattle.std.specs.Int.{w64, leading_zeros}
use Rattle.record_printer.proofs.HexDigits.{hexadecimal_appended}
use Rattle.record_printer.proofs.text.numbers.write_hexadecimal.Goals as goal

pub returns : goal.returns
returns g c =
    let start = ap (λ n. leading_zeros w64 n / 4) c.max.ensures in
    hexadecimal_appended c.args.text.now.items _ c.encode_to_slice.new.output c.args.word _ c.ranges.word.fits start
    (search rules) c.in_ok-extend_from_slice.ensures.items
