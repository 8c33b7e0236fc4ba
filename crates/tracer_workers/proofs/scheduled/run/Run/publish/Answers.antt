-- The stop is the row's next one, and the folder takes its piece.
use Rattle.std.proofs.Common.{◌≡◌, ◌+◌, ◌∷◌, ◌∙◌, Ok, None, refl, sym, ap, subst, slice_set}
use Rattle.record_printer.specs.FolderAnswers.{refusal}
use Rattle.record_printer.specs.Piece.{Piece}
use Rattle.record_printer.specs.Represents.{Represents}
use Rattle.tracer_workers.specs.Scheduled.{CameTo}
use Rattle.stop_history.specs.Event as event
use Rattle.stop_history.specs.Sequential.{publish_answer}
use Rattle.stop_history.specs.State.{last_number}
use Rattle.stop_table.specs.Entry.{history_of}
use Rattle.trace_record.specs.Stop.{IsStop}
use Rattle.tracer_workers.specs.Config.{show_of}
use Rattle.tracer_workers.specs.HistoryPieces.{pieces_of, stop_piece}
use Rattle.tracer_workers.specs.Scheduled.{KeptRow}
use Rattle.tracer_workers.specs.Turn.{HasStopped, with_number}
use Rattle.tracer_workers.proofs.TurnEnds.{can_publish, found_row, publish_moves, stopped_there}
use Rattle.tracer_workers.proofs.scheduled.run.Run.publish.Goals as goal

pub publish_stop-requires-clause-stop : goal.publish_stop-requires-clause-stop
publish_stop-requires-clause-stop g c =
    let s = subst (λ r. HasStopped c.requires.0 r c.requires.1 c.args.row c.requires.2) (sym c.self.view_is) c.requires.3 in
    let is = found_row c.self.inside.rows.items c.args.row c.index_mut-traced.result.now _ c.index_mut-traced.ensures.value
    (stopped_there c.requires.0 _ c.requires.1 c.args.row c.requires.2 s) in
    subst (λ (k : KeptRow). IsStop k.content.stop) (sym is)
    (can_publish c.requires.0 _ c.requires.1 c.args.row c.requires.2 s).stop

pub publish_stop-requires-clause-answer : goal.publish_stop-requires-clause-answer
publish_stop-requires-clause-answer g c =
    let s = subst (λ r. HasStopped c.requires.0 r c.requires.1 c.args.row c.requires.2) (sym c.self.view_is) c.requires.3 in
    let is = found_row c.self.inside.rows.items c.args.row c.index_mut-traced.result.now _ c.index_mut-traced.ensures.value
    (stopped_there c.requires.0 _ c.requires.1 c.args.row c.requires.2 s) in
    let can = can_publish c.requires.0 _ c.requires.1 c.args.row c.requires.2 s in (
      history_of c.requires.1,
      can.world,
      subst (λ (k : KeptRow). publish_answer c.self.inside.world.rows (history_of c.requires.1) c.args.row k.content.stop
          ≡ Ok (last_number (history_of c.requires.1) c.args.row + 1)) (sym is) can.answer,
    )

pub publish_stop-requires-clause-taken : goal.publish_stop-requires-clause-taken
publish_stop-requires-clause-taken g c =
    let s = subst (λ r. HasStopped c.requires.0 r c.requires.1 c.args.row c.requires.2) (sym c.self.view_is) c.requires.3 in
    let is = found_row c.self.inside.rows.items c.args.row c.index_mut-traced.result.now _ c.index_mut-traced.ensures.value
    (stopped_there c.requires.0 _ c.requires.1 c.args.row c.requires.2 s) in
    let can = can_publish c.requires.0 _ c.requires.1 c.args.row c.requires.2 s in
    let came = pieces_of (show_of c.self.inside.config) c.requires.0.rows c.requires.1 in (
      came,
      can.folder,
      subst (λ (p : Piece). refusal c.self.inside.folder.rows came p ≡ None)
          (sym (c.in_ok-piece.ensures ∙ (λ i. stop_piece (c.self.invariant i) (is i).content))) can.taken,
    )

pub returns-clause-moved : goal.returns-clause-moved
returns-clause-moved g c =
    rw (← c.self.view_is) (λ content h stop s.
    let is = found_row c.self.inside.rows.items c.args.row c.index_mut-traced.result.now _ c.index_mut-traced.ensures.value
    (stopped_there content _ h c.args.row stop s) in
    let can = can_publish content _ h c.args.row stop s in
    let number = last_number (history_of h) c.args.row + 1 in
    let made = c.in_ok-publish_stop.ensures.made (history_of h) can.world
    (subst (λ (k : KeptRow). publish_answer c.self.inside.world.rows (history_of h) c.args.row k.content.stop ≡ Ok number)
    (sym is) can.answer) in
    let came = c.in_ok-publish_stop.ensures.came (pieces_of (show_of c.self.inside.config) content.rows h) can.folder in
    publish_moves content _ _ h c.args.row stop s refl
    (subst (λ (k : KeptRow). CameTo c.publish_stop.new.world
    (event.Publish c.args.row number k.content.stop ∷ history_of h)) is made.0)
    c.in_ok-publish_stop.ensures.rows.0
    (subst (λ (p : Piece). Represents c.publish_stop.new.folder
    (p ∷ pieces_of (show_of c.self.inside.config) content.rows h))
    (c.in_ok-piece.ensures ∙ (λ i. stop_piece (c.self.invariant i) (is i).content)) came)
    c.in_ok-publish_stop.ensures.rows.1
    (ap (λ k. slice_set c.self.inside.rows.items c.args.row k) (made.1 ∙ ap (λ k. with_number k number) is)))
