-- The call on what the handle holds.
use Rattle.std.proofs.Common.{rules}
use Rattle.pukzarn.proofs.Calls.{none_held, on_board}
use Rattle.pukzarn.specs.declared.handle_value.HandleValue.TheVariants as ends
use Rattle.pukzarn.proofs.board.pukzarn_board_resume.Goals as goal
use Rattle.pukzarn.proofs.board.pukzarn_board_resume.Goals.{in-Board, in_default-deref_mut}

pub returns : goal.returns
returns c =
    elim c.match-deref_mut.branch [
      | in-Board w ↦
          on_board _ _ _ _ w.in-Board.board _ _ (search rules) (search rules) w.board_resume.ensures (search rules)
      | in_default-deref_mut w ↦ none_held ends.Board _ _ _ _ (search rules) (search rules) (search rules)
    ]
