-- A tracer that holds no row has no slot out with its seat.
use Rattle.std.proofs.Common.{◌≡◌, ◌∙◌, [], sym, ap}
use Rattle.std.specs.Arc.{arc_value}
use Rattle.stop_table.specs.Tracer.{TracerHandle, held_rows}
use Rattle.stop_table.proofs.HeldRows.{is_seated, none_held}
use Rattle.stop_table.proofs.tracer.Tracer.into_seat.Goals as goal

pub returns : goal.returns
returns g c =
    let t = c.self.inside in
    let kept = c.self.invariant.1 in
    let none : held_rows t.seat.me.0 ≡ [] =
    ap (λ (e : TracerHandle). held_rows e.view) c.self.view_is ∙ c.requires in (
      ap (λ (e : TracerHandle). e.table_id) c.self.view_is,
      is_seated t.seat.me c.args.self.view (ap (λ (e : TracerHandle). e.view) c.self.view_is)
          (none_held (arc_value t.cells).table.shared.key t.seat.me t.number t.held kept none),
      ap (λ (e : TracerHandle). e.view.taken) (sym c.self.view_is) ∙ kept.idle,
    )
