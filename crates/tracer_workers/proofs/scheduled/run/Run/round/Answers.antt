-- Row by row, each runs out.
use Rattle.std.proofs.Common.{◌≡◌, ◌<◌, ◌∙◌, refl, ap, subst, arith, length}
use Rattle.tracer_workers.specs.Scheduled.{RunState}
use Rattle.tracer_workers.specs.Turn.{HaveRunOut}
use Rattle.tracer_workers.proofs.Rounds.{all_rows, rows_on, rows_stand}
use Rattle.tracer_workers.proofs.scheduled.run.Run.round.Goals as goal

pub loop-row-init : goal.loop-row-init
loop-row-init g c = record {
  config = refl;
  out = λ content h stands. (stands, refl, λ row less. absurd (omega (arith, less)));
}

pub run_out-requires : goal.run_out-requires
run_out-requires g c =
    let content = c.requires.0 in
    let stands = c.requires.2 in
    let view = ap (λ (r : RunState). length r.rows) c.self.view_is in
    let long = stands.0.long in
    let now = rows_stand content c.args.self.now c.loop-row.self c.requires.1 c.loop-row.row c.loop-row.moved
    (c.loop-row.invariant.out content c.requires.1 stands) in
    (content, now.0, now.1, omega (arith, c.loop-row-test.true, c.len-row-end.ensures, view, long))

pub loop-row-preserved : goal.loop-row-preserved
loop-row-preserved g c = record {
  config = c.run_out.ensures.config ∙ c.loop-row.invariant.config;
  out = λ content h stands.
      let view = ap (λ (r : RunState). length r.rows) c.self.view_is in
      let long = stands.0.long in
      let within : c.loop-row.row < length content.rows =
      omega (arith, c.loop-row-test.true, c.len-row-end.ensures, view, long) in
      rows_on content c.args.self.now c.loop-row.self c.run_out.new.self h c.loop-row.row c.loop-row.moved
      c.in_ok-moved.field-0
      (λ later there. c.in_ok-moved.ensures.gone content later there within)
      (c.loop-row.invariant.out content h stands);
}

pub returns-clause-gone : goal.returns-clause-gone
returns-clause-gone g c content h stands =
    let view = ap (λ (r : RunState). length r.rows) c.self.view_is in
    let long = stands.0.long in
    let over : c.loop-row.row ≡ length content.rows =
    omega (arith, c.loop-row-test.false, c.loop-row.auto.row-end, c.len-row-end.ensures, view, long) in
    all_rows content c.args.self.now c.loop-row.self h c.loop-row.moved
    (subst (λ n. HaveRunOut content c.args.self.now c.loop-row.self h n c.loop-row.moved) over
    (c.loop-row.invariant.out content h stands))
