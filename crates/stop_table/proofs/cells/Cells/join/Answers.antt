-- A handle takes in another.
use Rattle.std.proofs.Common.{◌∙◌, ap, arith, refl}
use Rattle.stop_table.specs.Steps.{Seated, compared}
use Rattle.stop_table.proofs.Meets.{compares, joins, met_tells}
use Rattle.stop_table.proofs.Telling.{key_load}
use Rattle.stop_table.proofs.cells.Cells.join.Goals as goal

pub join_seat-requires : goal.join_seat-requires
join_seat-requires g c =
    let r = c.requires in
    let wide = c.args.self.now.sized.0 in (
      r.seat.0.0,
      r.other.0,
      r.other.2,
      omega arith,
      joins c.args.self.now.table.shared.key c.args.seat.now.id c.args.other.id c.args.seat.now.me.0 c.args.other.me.0
          r.seat.1 r.other.1,
    )

pub load-requires : goal.load-requires
load-requires g c =
    let r = c.requires in
    let wide = c.args.self.now.sized.0 in
    let roster = ap (λ (x : Seated). x.0.roster) c.join_seat.ensures.2 ∙ r.seat.0.1 in (
      c.join_seat.ensures.0 ∙ r.seat.0.0,
      omega arith,
      key_load compared c.args.self.now.table.shared.key _ _ 0 0 c.join_seat.new.seat.me roster refl
          (compares _ _ c.join_seat.new.seat.me),
    )

pub returns : goal.returns
returns g c = (
  (c.load.ensures.0 ∙ c.join_seat.ensures.0, c.load.ensures.1 ∙ c.join_seat.ensures.1),
  met_tells c.args.seat.now.me c.args.other.me.0 c.join_seat.new.seat.me c.load.new.seat.me c.load.result
      c.join_seat.ensures.2 c.load.ensures.2,
)
