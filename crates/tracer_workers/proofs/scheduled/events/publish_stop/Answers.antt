-- The World publishes the stop, and its number is kept.
use Rattle.std.proofs.Common.{◌∷◌, refl, subst}
use Rattle.std.specs.Prelude.{OnOk}
use Rattle.record_printer.specs.Piece.{Piece}
use Rattle.record_printer.specs.Represents.{Represents}
use Rattle.tracer_workers.proofs.Rounds.{on_ok}
use Rattle.tracer_workers.proofs.scheduled.events.publish_stop.Goals as goal

pub returns-clause-made : goal.returns-clause-made
returns-clause-made g c =
    rw (← c.traced.view_is, ← c.traced-inside.view_is) (λ h came answer.
    let number = c.publish-number.ensures.number h came answer in
    on_ok c.add.result (c.publish-number.ensures.stands h came answer, rw number refl))

pub publish-number-requires-clause-answer : goal.publish-number-requires-clause-answer
publish-number-requires-clause-answer g c =
    rw (← c.traced.view_is, ← c.traced-inside.view_is) at c.requires.answer

pub returns-clause-came : goal.returns-clause-came
returns-clause-came g c came stands =
    subst (λ (p : Piece). OnOk c.add.result (Represents c.add.new.folder (p ∷ came))) c.with_row.ensures
    (c.add.ensures.came came stands)
