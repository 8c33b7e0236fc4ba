-- The rows are turned until the row is in front.
use Rattle.std.proofs.Common.{◌∙◌, ap, subst, sym}
use Rattle.stop_table.specs.Tracer.{AreApart}
use Rattle.stop_table.specs.View.{is_among}
use Rattle.stop_table.proofs.Turning.{among_turned, apart_turned, turned_to}
use Rattle.stop_table.proofs.held.Held.bring.Goals as goal

pub returns-2-clause-front : goal.returns-2-clause-front
returns-2-clause-front g c =
    let rows = c.args.self.now in
    let before = c.before-before.result in
    let first = turned_to c.args.row rows before c.before-before.ensures.0 c.before-before.ensures.1 in
    (first.0, c.turn.ensures.rows ∙ first.1)

pub returns-2-clause-rows : goal.returns-2-clause-rows
returns-2-clause-rows g c =
    let rows = c.args.self.now in
    let before = c.before-before.result in (
      subst AreApart (sym c.turn.ensures.rows) (apart_turned rows before c.requires.rows.0),
      λ other. ap (is_among other) c.turn.ensures.rows ∙ among_turned other rows before,
    )
