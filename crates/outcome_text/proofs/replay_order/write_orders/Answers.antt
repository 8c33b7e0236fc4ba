-- The next turn has its orders, and the board goes on by it.
use Rattle.std.proofs.Common.{◌∙◌, ◌+◌, ◌++◌, [], ap, drop, refl, string_bytes, subst, sym, take}
use Rattle.stop_board.specs.Board.{Held, StandsAfter}
use Rattle.stop_program.specs.Meaning.{history_from}
use Rattle.stop_program.specs.Threads.{commands_in}
use Rattle.outcome_text.specs.OutcomeOrder.{orders_after}
use Rattle.replay_files.specs.Spelling.{orders_text}
use Rattle.outcome_text.proofs.OutcomeLines.{no_piece}
use Rattle.outcome_text.proofs.OutcomeOrders.{has_call, orders_over, stands_on, stands_still, turn_passed, turn_written}
use Rattle.outcome_text.proofs.replay_order.write_orders.Goals as goal
use Rattle.outcome_text.proofs.replay_order.write_orders.Goals.{in-Some+in_ok-write_turn, in_default}

pub loop-i-init : goal.loop-i-init
unfolding history_from
loop-i-init g c =
    (refl, c.in_ok-before.ensures.rows, c.in_ok-after.ensures.rows, c.in_ok-before.ensures.stands)

pub make_turn-requires-clause-rows : goal.make_turn-requires-clause-rows
make_turn-requires-clause-rows g c = c.loop-i.invariant.2 ∙ sym c.loop-i.invariant.1

pub make_turn-requires-clause-asked : goal.make_turn-requires-clause-asked
make_turn-requires-clause-asked g c =
    has_call _ _ c.in-Some.command (sym c.command_of_turn.ensures ∙ c.in-Some.is) (c.requires _)

pub copy_from-requires : goal.copy_from-requires
copy_from-requires g c = sym c.make_turn.ensures.rows

pub loop-i-preserved : goal.loop-i-preserved
loop-i-preserved g c =
    let rows = c.args.roster.now in
    let commands = commands_in c.args.commands.now in
    let turns = c.args.turns.now in
    let i = c.loop-i.i in
    let so_far = c.loop-i.invariant in
    let rest = orders_after rows commands (take (i + 1) turns) (drop (i + 1) turns) in
    elim c.match-command_of_turn.branch [
      | in-Some+in_ok-write_turn w ↦
          let done = sym c.command_of_turn.ensures ∙ w.in-Some.is in (
            ap (λ out. string_bytes out ++ orders_text rows rest) w.out-is
                ∙ turn_written rows commands turns i _ c.loop-i-test.true w.in-Some.command c.loop-i.before
                (string_bytes c.loop-i.out) (string_bytes w.write_turn.new.out) done so_far.1 w.write_turn.ensures.held so_far.3
                w.in_ok-write_turn.ensures.written
                ∙ so_far.0,
            ap (λ (b : Held). b.rows) w.before-is ∙ ap (λ (b : Held). b.rows) w.copy_from.ensures ∙ w.make_turn.ensures.rows ∙ so_far.1,
            ap (λ (b : Held). b.rows) w.after-is ∙ w.make_turn.ensures.rows ∙ so_far.1,
            subst (λ (b : Held). StandsAfter b (history_from rows commands [] [] (take (i + 1) turns)))
                (sym (w.before-is ∙ w.copy_from.ensures))
                (stands_on rows commands turns i _ c.loop-i-test.true w.in-Some.command c.loop-i.before w.make_turn.new.board done so_far.1
                (w.make_turn.ensures.stands (history_from rows commands [] [] (take i turns)) so_far.3)),
          )
      | in_default w ↦
          let none = sym c.command_of_turn.ensures ∙ w.in_default.is in (
            ap (λ out. string_bytes out ++ orders_text rows rest) w.out-is
                ∙ turn_passed rows commands turns i _ c.loop-i-test.true (string_bytes c.loop-i.out) none ∙ so_far.0,
            ap (λ (b : Held). b.rows) w.before-is ∙ so_far.1,
            ap (λ (b : Held). b.rows) w.after-is ∙ so_far.2,
            subst (λ (b : Held). StandsAfter b (history_from rows commands [] [] (take (i + 1) turns))) (sym w.before-is)
                (stands_still rows commands turns i _ c.loop-i-test.true c.loop-i.before none so_far.3),
          )
    ]

pub returns : goal.returns
returns g c =
    sym (no_piece (string_bytes c.loop-i.out) _
    (ap (orders_text c.args.roster.now)
    (orders_over c.args.roster.now (commands_in c.args.commands.now) _ c.args.turns.now c.loop-i.i c.loop-i-test.false)))
    ∙ c.loop-i.invariant.0
