-- Looks go on from one another, and what each shows of a row stands at a point between.
use Rattle.std.proofs.Common.{◌≡◌, ◌<◌, ◌∙◌, List, sym, ap, subst, length, true, false, arith}
use Rattle.stop_history.specs.declared.roster.Row.{Row}
use Rattle.stop_history.specs.State.{state_after}
use Rattle.stop_table.specs.Entry.{AreLegal, history_of}
use Rattle.stop_table.specs.Handle.{shown_of}
use Rattle.stop_table.proofs.Entries.{legal_back}
use Rattle.stop_table.proofs.Walking.{goes_from, legal_after, looked_on}
use Rattle.tracer_workers.specs.Gathering.{is_over}
use Rattle.tracer_workers.proofs.LastLooks.{over_next, over_reaped, unreaped}
use Rattle.tracer_workers.proofs.gathering.are_reaped.Goals as goal

pub returns-then-not-is_over-clause-handle : goal.returns-then-not-is_over-clause-handle
returns-then-not-is_over-clause-handle g c = (
  c.look.ensures.handle ∙ c.loop-row.invariant.table,
  looked_on c.args.tracer.now.view c.loop-row.tracer.view c.look.new.self.view c.loop-row.invariant.looked
      c.look.ensures.shown.0,
)

pub returns-then-not-is_over-clause-looked : goal.returns-then-not-is_over-clause-looked
returns-then-not-is_over-clause-looked g c =
    let u = c.args.tracer.now.view in
    let v = c.loop-row.tracer.view in
    let w = c.look.new.self.view in
    let before = c.loop-row.invariant.looked in
    let look = c.look.ensures.shown in
    let point = look.1.point in
    let legal : AreLegal u.roster w.seen = legal_after u w (looked_on u v w before look.0) in
    let legal_there = legal_back u.roster look.1.later.0 point (subst (AreLegal u.roster) look.1.later.1 legal) in
    let within : c.loop-row.row < length u.roster = omega (arith, c.requires, c.loop-row-test.true) in
    let shown : is_over (shown_of (state_after u.roster (history_of point) c.loop-row.row)) ≡ false =
    ap (λ (rows : List Row). is_over (shown_of (state_after rows (history_of point) c.loop-row.row))) (sym before.grows.same.roster)
    ∙ ap is_over (sym look.1.shown) ∙ sym c.is_over.ensures ∙ c.if-not-is_over.true in (
      point,
      legal_there,
      goes_from u v point before.grows.goes_on before.grows.same look.1.sooner,
      unreaped u.roster point legal_there c.loop-row.row within shown,
    )

pub loop-row-preserved : goal.loop-row-preserved
loop-row-preserved g c =
    let u = c.args.tracer.now.view in
    let v = c.loop-row.tracer.view in
    let w = c.look.new.self.view in
    let before = c.loop-row.invariant.looked in
    let look = c.look.ensures.shown in
    let point = look.1.point in
    let legal : AreLegal u.roster w.seen = legal_after u w (looked_on u v w before look.0) in
    let within : c.loop-row.row < length u.roster = omega (arith, c.requires, c.loop-row-test.true) in
    let shown : is_over (shown_of (state_after u.roster (history_of point) c.loop-row.row)) ≡ true =
    ap (λ (rows : List Row). is_over (shown_of (state_after rows (history_of point) c.loop-row.row))) (sym before.grows.same.roster)
    ∙ ap is_over (sym look.1.shown) ∙ sym c.is_over.ensures ∙ c.if-not-is_over.false in
    record {
      table = c.look.ensures.handle ∙ c.loop-row.invariant.table;
      looked = looked_on u v w before look.0;
      over = over_next u.roster c.of_tracer.ensures.placed c.loop-row.row within v.seen point w.seen legal
          (look.1.sooner.0, look.1.sooner.1) look.1.later c.loop-row.invariant.over shown;
    }

pub returns-clause-looked : goal.returns-clause-looked
returns-clause-looked g c =
    over_reaped c.args.tracer.now.view.roster c.loop-row.tracer.view.seen
    (λ row within. c.loop-row.invariant.over row (omega (arith, within, c.requires, c.loop-row-test.false)))
