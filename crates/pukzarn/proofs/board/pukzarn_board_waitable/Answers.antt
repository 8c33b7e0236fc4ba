-- The call on what the handle holds.
use Rattle.std.proofs.Common.{refl, sym, subst, rules, w32}
use Rattle.std.proofs.lemmas.Int.{to_z-of_z}
use Rattle.c_interface.specs.Board.{IsWaitableFor}
use Rattle.pukzarn.proofs.Calls.{none_held, on_board}
use Rattle.pukzarn.specs.declared.handle_value.HandleValue.TheVariants as ends
use Rattle.pukzarn.proofs.board.pukzarn_board_waitable.Goals as goal
use Rattle.pukzarn.proofs.board.pukzarn_board_waitable.Goals.{in-Board, in_default-deref_mut}

pub returns-clause-call : goal.returns-clause-call
returns-clause-call c =
    elim c.match-deref_mut.branch [
      | in-Board w ↦
          let with_id = subst (λ id. IsWaitableFor c.args.idtype id c.args.options w.in-Board.board c.args.rows.now
          w.board_waitable.new.to w.board_waitable.result) (to_z-of_z w32 c.args.id c.ranges.id) w.board_waitable.ensures in
          on_board _ _ _ _ w.in-Board.board w.in-Board.board w.board_waitable.result (search rules) (search rules) (
            refl,
            subst (λ rows. IsWaitableFor c.args.idtype c.args.id c.args.options w.in-Board.board c.args.rows.now rows
                w.board_waitable.result) (sym w.rows-is) with_id,
          )
          (search rules)
      | in_default-deref_mut w ↦ none_held ends.Board _ _ _ _ (search rules) (search rules) (search rules)
    ]
