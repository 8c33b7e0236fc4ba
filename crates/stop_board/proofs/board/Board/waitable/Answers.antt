-- The states that a board's words show are those after its history.
use Rattle.std.proofs.Common.{◌≡◌, ℕ, subst}
use Rattle.stop_history.proofs.Standing.{held_state}
use Rattle.stop_history.specs.State.{state_after}
use Rattle.stop_history.specs.Word.{state_by}
use Rattle.stop_history.specs.declared.state.State.{State}
use Rattle.stop_board.specs.Waitable.{IsWaitableAnswer}
use Rattle.stop_board.proofs.board.Board.waitable.Goals as goal

pub returns : goal.returns
returns g c = λ h s.
    let states : state_by c.self.inside.roster c.self.inside.words.items
    ≡ state_after c.self.inside.roster h = λ i row.
    held_state c.self.inside.roster c.self.inside.words.items _ h
    (rw (← c.self.view_is) at s) c.self.invariant.each c.self.invariant.roster row i in
    rw (← c.self.view_is) (
    subst (λ (at : ℕ → State). IsWaitableAnswer c.self.inside.roster at c.args.request c.args.to.now c.waitable_in.new.to
    c.waitable_in.result) states (rw c.as_slice.ensures.value at c.waitable_in.ensures))
