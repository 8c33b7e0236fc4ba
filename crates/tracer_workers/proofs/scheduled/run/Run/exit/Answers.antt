-- The death is the row's, and the folder takes its piece; a row that is held back stays as it was.
use Rattle.std.proofs.Common.{◌≡◌, ◌∷◌, None, refl, sym, subst, inl, inr}
use Rattle.std.proofs.lemmas.Bool.{cases_Bool}
use Rattle.record_printer.specs.FolderAnswers.{refusal}
use Rattle.record_printer.specs.Piece.{Died}
use Rattle.record_printer.specs.Represents.{Folded, Represents}
use Rattle.stop_board.specs.World.{Contents}
use Rattle.stop_table.specs.Entry.{history_of}
use Rattle.tracer_workers.specs.Config.{show_of}
use Rattle.tracer_workers.specs.HistoryPieces.{pieces_of}
use Rattle.tracer_workers.specs.Scheduled.{KeptRow, RunState, Stands}
use Rattle.tracer_workers.specs.Turn.{HasDied, HasTurned}
use Rattle.tracer_workers.proofs.Fewer.{same_left}
use Rattle.tracer_workers.proofs.Rounds.{stands_over}
use Rattle.tracer_workers.proofs.TurnEnds.{can_end, died_there, end_moves, found_row, held_back, held_stays}
use Rattle.tracer_workers.proofs.scheduled.run.Run.exit.Goals as goal

pub end_row-requires-clause-death : goal.end_row-requires-clause-death
end_row-requires-clause-death g c =
    let s = subst (λ r. HasDied c.requires.0 r c.requires.1 c.args.row c.args.death) (sym c.self.view_is) c.requires.2 in
    (can_end c.requires.0 _ c.requires.1 c.args.row c.args.death s).range

pub end_row-requires-clause-taken : goal.end_row-requires-clause-taken
end_row-requires-clause-taken g c =
    let s = subst (λ r. HasDied c.requires.0 r c.requires.1 c.args.row c.args.death) (sym c.self.view_is) c.requires.2 in
    let there = died_there c.requires.0 _ c.requires.1 c.args.row c.args.death s in
    let is = found_row c.self.inside.rows.items c.args.row c.index-traced.result.now _ c.index-traced.ensures there in
    let can = can_end c.requires.0 _ c.requires.1 c.args.row c.args.death s in
    let came = pieces_of (show_of c.self.inside.config) c.requires.0.rows c.requires.1 in (
      came,
      can.folder,
      subst (λ (k : KeptRow). refusal c.self.inside.folder.rows came (Died k.tid k.number c.args.death) ≡ None) (sym is)
          (can.taken _ there),
    )

pub returns-clause-turned : goal.returns-clause-turned
returns-clause-turned g c =
    rw (← c.self.view_is) (λ content h s.
    let with : Contents × Folded → RunState = λ p. record {
      config = c.self.inside.config;
      world = p.0;
      folder = p.1;
      rows = c.self.inside.rows.items;
    } in
    let old = with (c.self.inside.world, c.self.inside.folder) in
    let new = with (c.end_row.new.world, c.end_row.new.folder) in
    let there = died_there content old h c.args.row c.args.death s in
    let is = found_row c.self.inside.rows.items c.args.row c.index-traced.result.now _ c.index-traced.ensures there in
    let can = can_end content old h c.args.row c.args.death s in
    let came = pieces_of (show_of c.self.inside.config) content.rows h in
    elim (cases_Bool c.in_ok-ended.ended) [
      | inl ends ↦
          (let over = c.in_ok-ended.ensures.ended (history_of h) can.world ends in
          let piece = c.in_ok-ended.ensures.came came can.folder ends in
          subst (HasTurned content old new h c.args.row) (sym ends)
          (end_moves content old new h c.args.row c.args.death s refl over.0 over.1 c.end_row.ensures.rows.0
          (subst (λ (k : KeptRow). Represents c.end_row.new.folder (Died k.tid k.number c.args.death ∷ came)) is piece)
          c.end_row.ensures.rows.1 refl))
      | inr stays ↦
          (let held = c.in_ok-ended.ensures.held (history_of h) can.world stays in
          let over = stands_over content old c.end_row.new.world h (held_stays content old h c.args.row c.args.death s) held.1
          c.end_row.ensures.rows.0 in
          subst (HasTurned content old new h c.args.row) (sym stays) (
            subst (λ (f : Folded). Stands content (with (c.end_row.new.world, f)) h) (sym held.2) over,
            same_left old new (history_of h) can.world held.1 c.end_row.ensures.rows.0,
            held_back content old h c.args.row c.args.death s held.0,
          ))
    ])
