-- The folder takes the pieces in turn; where it refuses one, or has lost something, they are not whole.
use Rattle.std.proofs.Common.{◌∙◌, reverse, sym, ap, subst, length, drop, suc}
use Rattle.std.proofs.lemmas.Iterator.Adapters.{YieldsList-from_vec}
use Rattle.std.proofs.lemmas.Iterator.Consumers.{YieldsList-end, YieldsList-so_far, YieldsList-turn}
use Rattle.std.proofs.lemmas.List.{map-id}
use Rattle.std.proofs.lemmas.Result.{err_from_is_err_and}
use Rattle.record_printer.specs.FolderAnswers.{lost, refusal}
use Rattle.record_printer.specs.Represents.{AreTaken, Represents}
use Rattle.tracer_workers.specs.Gathering.{AreWhole}
use Rattle.tracer_workers.specs.declared.run_error.RunError.TheVariants as run_error
use Rattle.tracer_workers.proofs.Folding.{never_threads, none_lost, none_refused, not_memory, reverse_push, same_error}
use Rattle.tracer_workers.proofs.Yielded.{split_next}
use Rattle.tracer_workers.proofs.gathering.join_pieces.Goals as goal

pub loop-piece-preserved : goal.loop-piece-preserved
loop-piece-preserved g c = record {
  rows = c.add.ensures.rows ∙ c.loop-piece.invariant.rows;
  came = subst (Represents c.add.new.self) (sym (reverse_push c.loop-piece.yielded c.in-Some.piece))
      (c.in_ok-add.ensures.ok (reverse c.loop-piece.yielded) c.loop-piece.invariant.came);
}

pub returns-in_err-add-clause-lost : goal.returns-in_err-add-clause-lost
returns-in_err-add-clause-lost g c = λ is whole.
    let result = c.from_residual-in_err-add.result in
    let told = err_from_is_err_and result c.from_residual-in_err-add.ensures.1 in
    let begun = c.into_iter-piece-iterator.ensures.into_iter_gives in
    let road = YieldsList-from_vec {s = c.into_iter-piece-iterator.result} c.args.pieces.items begun.0
    (begun.1 ∙ c.args.pieces.ok.0) in
    let yielded = c.loop-piece.yielded in
    let turn = YieldsList-turn road yielded c.loop-piece.piece-iterator c.loop-piece.yielded_by c.next.result c.next.new.self
    c.in-Some.piece c.in-Some.is c.next.ensures.steps in
    let split = split_next yielded c.args.pieces.items c.in-Some.piece
    (YieldsList-so_far road yielded c.loop-piece.piece-iterator c.loop-piece.yielded_by) turn in
    let none = none_refused c.args.roster.now yielded c.in-Some.piece (drop (suc (length yielded)) c.args.pieces.items)
    c.args.pieces.items split whole.taken in
    not_memory c.in_err-add.field-0.0 told.0 told.2 (same_error result told.0 run_error.Lost told.1 is)
    (c.in_err-add.ensures.accepted (reverse yielded) c.loop-piece.invariant.came
    (ap (λ rows. refusal rows (reverse yielded) c.in-Some.piece) c.loop-piece.invariant.rows ∙ none))

pub returns-in_err-add-clause-threads : goal.returns-in_err-add-clause-threads
returns-in_err-add-clause-threads g c = λ is.
    let result = c.from_residual-in_err-add.result in
    let told = err_from_is_err_and result c.from_residual-in_err-add.ensures.1 in
    never_threads c.in_err-add.field-0.0 told.0 told.2 (same_error result told.0 run_error.Threads told.1 is)

pub returns-in_err-finish-clause-lost : goal.returns-in_err-finish-clause-lost
returns-in_err-finish-clause-lost g c = λ is whole.
    let result = c.from_residual-in_err-finish.result in
    let told = err_from_is_err_and result c.from_residual-in_err-finish.ensures.1 in
    let begun = c.into_iter-piece-iterator.ensures.into_iter_gives in
    let yielded = c.loop-piece.yielded in
    let all = YieldsList-end
    (YieldsList-from_vec {s = c.into_iter-piece-iterator.result} c.args.pieces.items begun.0 (begun.1 ∙ c.args.pieces.ok.0))
    yielded c.loop-piece.piece-iterator c.loop-piece.yielded_by c.next.result c.next.new.self c.in-None.is
    c.next.ensures.steps in
    let same = sym (map-id yielded) ∙ all.0 in
    not_memory c.in_err-finish.field-0.0 told.0 told.2 (same_error result told.0 run_error.Lost told.1 is)
    (c.in_err-finish.ensures.accepted (reverse yielded) c.loop-piece.invariant.came
    (ap (λ rows. lost rows (reverse yielded)) c.loop-piece.invariant.rows
    ∙ ap (λ pieces. lost c.args.roster.now (reverse pieces)) same ∙ whole.none_lost))

pub returns-clause-whole : goal.returns-clause-whole
returns-clause-whole g c =
    let begun = c.into_iter-piece-iterator.ensures.into_iter_gives in
    let yielded = c.loop-piece.yielded in
    let all = YieldsList-end
    (YieldsList-from_vec {s = c.into_iter-piece-iterator.result} c.args.pieces.items begun.0 (begun.1 ∙ c.args.pieces.ok.0))
    yielded c.loop-piece.piece-iterator c.loop-piece.yielded_by c.next.result c.next.new.self c.in-None.is
    c.next.ensures.steps in
    let same = sym (map-id yielded) ∙ all.0 in
    let came = c.loop-piece.invariant.came in
    let here : AreWhole c.args.roster.now yielded = record {
      taken = subst (λ rows. AreTaken rows (reverse yielded)) c.loop-piece.invariant.rows came.taken;
      none_lost = ap (λ rows. lost rows (reverse yielded)) (sym c.loop-piece.invariant.rows)
          ∙ none_lost (lost c.loop-piece.folder.rows (reverse yielded)) (λ error found.
          let clash = c.in_ok-finish.ensures.refused (reverse yielded) came error found in cc);
    } in
    subst (AreWhole c.args.roster.now) same here
