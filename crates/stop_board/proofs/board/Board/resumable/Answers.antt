-- What a resume would be answered by a board's words is what it is answered after the board's history.
use Rattle.std.proofs.Common.{◌∙◌}
use Rattle.stop_history.proofs.Going.{resume_held}
use Rattle.stop_board.proofs.board.Board.resumable.Goals as goal

pub returns : goal.returns
returns g c = λ h s.
    rw (← c.self.view_is) (
    c.resumable.ensures
    ∙ rw c.as_slice.ensures.value (
    resume_held c.self.inside.roster c.self.inside.words.items _ h
    (rw (← c.self.view_is) at s) c.self.invariant.each c.self.invariant.roster c.args.row c.args.tracer))
