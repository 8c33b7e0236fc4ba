-- Each split gives away the first of the tracers that are left, and the new handle is that of the tracer.
use Rattle.std.proofs.Common.{◌≡◌, ◌<◌, ◌-◌, ap, arith, length}
use Rattle.std.specs.Arc.{arc_value}
use Rattle.stop_history.specs.declared.limits.TheConstants.{TRACERS}
use Rattle.stop_table.proofs.Dealing.{splits_tracer}
use Rattle.stop_table.proofs.NewHandles.{first_tracer_given, later_tracers_left, tracers_more}
use Rattle.stop_table.proofs.opening.deal_tracers.Goals as goal

pub split_seat-one-requires : goal.split_seat-one-requires
split_seat-one-requires g c =
    let cells = c.deref.result.now in
    let rows = (arc_value c.args.cells.now).table.shared.key in
    let tracer = c.loop-number.number in
    let deals = c.loop-number.invariant.deals in (
      rw c.deref.ensures deals.1,
      omega (arith, cells.sized.0),
      splits_tracer cells.table.shared.key rows c.loop-number.seat.id tracer (TRACERS - tracer) 0 c.loop-number.seat.me
          deals.2,
    )

pub new-requires-clause-seat : goal.new-requires-clause-seat
new-requires-clause-seat g c =
    let rows = (arc_value c.args.cells.now).table.shared.key in
    let low : c.loop-number.number < TRACERS = omega arith in
    rw c.in_ok-again.ensures
    (first_tracer_given rows c.loop-number.number TRACERS c.loop-number.seat.me c.split_seat-one.result.me low
    c.loop-number.invariant.deals.2 c.split_seat-one.ensures.4)

pub loop-number-preserved : goal.loop-number-preserved
loop-number-preserved g c =
    let cells = arc_value c.args.cells.now in
    let rows = cells.table.shared.key in
    let tracer = c.loop-number.number in
    let kept = c.loop-number.invariant in
    let split = c.split_seat-one.ensures in
    let low : tracer < TRACERS = omega arith in
    let long : length c.loop-number.handles.items ≡ tracer = omega (arith, c.loop-number.handles.ok) in
    let given = first_tracer_given rows tracer TRACERS c.loop-number.seat.me c.split_seat-one.result.me low
    kept.deals.2 split.4 in
    record {
      deals = (
        kept.deals.0,
        rw split.0 kept.deals.1,
        later_tracers_left rows tracer TRACERS c.loop-number.seat.me c.split_seat-one.new.seat.me low kept.deals.2
            split.2,
      );
      len = omega (arith, c.push_reserved.ensures.len);
      room = omega (arith, c.push_reserved.ensures.capacity);
      handles = rw c.push_reserved.ensures.items
          (tracers_more cells.table.shared.table_id rows c.loop-number.handles.items tracer c.new.result long
          kept.handles (rw (c.new.ensures.0, split.3) kept.deals.1)
          (rw c.new.ensures.1 (ap (λ m. m.0) given)));
    }
