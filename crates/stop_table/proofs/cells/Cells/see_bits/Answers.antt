-- A look at a row's word.
use Rattle.std.proofs.Common.{ap, arith, length}
use Rattle.stop_table.specs.Place.{place}
use Rattle.stop_table.specs.Steps.{looked}
use Rattle.stop_table.proofs.Allowed.{loads}
use Rattle.stop_table.proofs.Telling.{key_load, saw, shows_word}
use Rattle.stop_table.proofs.cells.Cells.see_bits.Goals as goal

pub load-bits-requires : goal.load-bits-requires
load-bits-requires g c =
    let r = c.requires in
    let wide = c.args.self.now.sized.0 in
    let long = ap length r.0.1 in
    let at = c.place-at.ensures in (
      r.0.0,
      omega arith,
      key_load looked c.args.self.now.table.shared.key _ _ _ (place c.args.row) c.args.seat.now.me r.0.1 at
          (loads c.args.seat.now.me _ _ c.args.row r.1),
    )

pub unpack_known-word-requires : goal.unpack_known-word-requires
unpack_known-word-requires g c =
    shows_word c.args.row c.args.seat.now.me _ _ c.requires.1 (c.load-bits.ensures.2 c.args.row c.place-at.ensures)

pub returns : goal.returns
returns g c = (
  (c.load-bits.ensures.0, c.load-bits.ensures.1),
  saw c.args.row c.args.seat.now.me _ _ _ c.requires.1 (c.load-bits.ensures.2 c.args.row c.place-at.ensures)
      c.unpack_known-word.ensures.0 c.unpack_known-word.ensures.1,
)
