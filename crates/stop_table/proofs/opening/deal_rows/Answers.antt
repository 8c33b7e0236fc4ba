-- Each split gives away the first of the rows that are left, and the new handle is that of the row.
use Rattle.std.proofs.Common.{◌≡◌, ◌<◌, ◌-◌, ◌∙◌, [], ℕ, ap, arith, length}
use Rattle.std.specs.Arc.{arc_value}
use Rattle.std.specs.List.{range_with_len}
use Rattle.stop_history.specs.declared.limits.TheConstants.{TRACERS}
use Rattle.stop_table.specs.Opening.{new_view}
use Rattle.stop_table.proofs.Dealing.{splits_row}
use Rattle.stop_table.proofs.NewHandles.{first_row_given, later_rows_left, tracees_more}
use Rattle.stop_table.proofs.opening.deal_rows.Goals as goal

pub split_seat-one-requires : goal.split_seat-one-requires
split_seat-one-requires g c =
    let cells = c.deref-in-loop-row.result.now in
    let rows = (arc_value c.args.cells.now).table.shared.key in
    let row = c.loop-row.row in
    let deals = c.loop-row.invariant.deals in (
      rw c.deref-in-loop-row.ensures deals.1,
      omega (arith, cells.sized.0),
      splits_row cells.table.shared.key rows c.loop-row.seat.id row (length rows - row) 0 (range_with_len 0 TRACERS)
          c.loop-row.seat.me deals.2,
    )

pub new-requires-in-loop-row-clause-seat : goal.new-requires-in-loop-row-clause-seat
new-requires-in-loop-row-clause-seat g c =
    let cells = arc_value c.args.cells.now in
    let rows = cells.table.shared.key in
    let count : c.len-count.result ≡ length rows = rw (cells.same, ← c.deref.ensures) c.len-count.ensures in
    let low : c.loop-row.row < length rows = omega arith in
    rw c.in_ok-again.ensures
    (first_row_given rows c.loop-row.row (range_with_len 0 TRACERS) c.loop-row.seat.me c.split_seat-one.result.me low
    c.loop-row.invariant.deals.2 c.split_seat-one.ensures.4)

pub loop-row-preserved : goal.loop-row-preserved
loop-row-preserved g c =
    let cells = arc_value c.args.cells.now in
    let rows = cells.table.shared.key in
    let row = c.loop-row.row in
    let kept = c.loop-row.invariant in
    let split = c.split_seat-one.ensures in
    let count : c.len-count.result ≡ length rows = rw (cells.same, ← c.deref.ensures) c.len-count.ensures in
    let low : row < length rows = omega arith in
    let long : length c.loop-row.handles.items ≡ row = omega (arith, c.loop-row.handles.ok) in
    let given = first_row_given rows row (range_with_len 0 TRACERS) c.loop-row.seat.me c.split_seat-one.result.me low
    kept.deals.2 split.4 in
    record {
      deals = (
        kept.deals.0,
        rw split.0 kept.deals.1,
        later_rows_left rows row (range_with_len 0 TRACERS) c.loop-row.seat.me c.split_seat-one.new.seat.me low
            kept.deals.2 split.2,
      );
      len = omega (arith, c.push_reserved.ensures.len);
      room = omega (arith, c.push_reserved.ensures.capacity);
      handles = rw c.push_reserved.ensures.items
          (tracees_more cells.table.shared.table_id rows c.loop-row.handles.items row c.new-in-loop-row.result long kept.handles
          (rw (c.new-in-loop-row.ensures.0, split.3) kept.deals.1) c.new-in-loop-row.ensures.1
          (rw c.new-in-loop-row.ensures.2 (ap (λ m. m.0) given)));
    }

pub returns-clause-seat : goal.returns-clause-seat
returns-clause-seat g c =
    let cells = arc_value c.args.cells.now in
    let rows = cells.table.shared.key in
    let count : c.len-count.result ≡ length rows = rw (cells.same, ← c.deref.ensures) c.len-count.ensures in
    let none : length rows - c.loop-row.row ≡ 0 = omega arith in
    let deals = c.loop-row.invariant.deals in (
      deals.0,
      deals.1,
      deals.2
          ∙ ap (λ (k : ℕ). (new_view rows (range_with_len c.loop-row.row k) 0 (range_with_len 0 TRACERS), [])) none,
    )
