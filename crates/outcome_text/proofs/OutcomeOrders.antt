-- The orders of turns, one turn after another, and their text.
use Rattle.std.proofs.Common.{refl, ◌≡◌, ◌<◌, ◌≤◌, ◌+◌, ◌++◌, ◌∷◌, ◌∙◌, [], ℕ, List, Option, ap, append_assoc, drop, get_or}
use Rattle.std.proofs.Common.{None, Some, length, slice_get, subst, sym, take}
use Rattle.std.specs.List.{All}
use Rattle.std.proofs.lemmas.List.{at_drop_all, drop_more, take_more}
use Rattle.std.proofs.lemmas.List.Elements.{All-get_or}
use Rattle.std.proofs.lemmas.Option.{get_or_from_slice_get, slice_get_within}
use Rattle.stop_board.specs.Board.{Held, IsHeld, StandsAfter}
use Rattle.stop_history.specs.Event.{History}
use Rattle.stop_history.specs.Standing.{none_taken}
use Rattle.stop_history.specs.State.{state_after}
use Rattle.stop_history.specs.Word.{state_by}
use Rattle.stop_history.specs.declared.roster.Row.{Row}
use Rattle.stop_history.specs.declared.state.State.{State}
use Rattle.stop_history.proofs.Standing.{held_state}
use Rattle.stop_program.specs.declared.command.ThreadCommand.{ThreadCommand}
use Rattle.stop_program.specs.declared.turn.Turn.{Turn}
use Rattle.stop_program.specs.BoardCall.{IsBoardCall}
use Rattle.stop_program.specs.Command.{history_after_turn}
use Rattle.stop_program.specs.Meaning.{history_by, history_from}
use Rattle.stop_program.specs.Program.{Log}
use Rattle.stop_program.proofs.Histories.{history_one}
use Rattle.text_lines.specs.Lines.{line_text}
use Rattle.replay_files.specs.declared.order.Order.{Order}
use Rattle.outcome_text.specs.OutcomeOrder.{orders_after, orders_of_call, orders_of_turn, states_by}
use Rattle.outcome_text.specs.OutcomeText.{command_of_turn}
use Rattle.replay_files.specs.Spelling.{order_words, orders_text}
use Rattle.outcome_text.proofs.OutcomeLines.{one_piece}

pub orders_more : (rows : List Row) (commands : ℕ → List ThreadCommand) (turns : Log) (i : ℕ) (d : Turn)
    → i < length turns
    → orders_after rows commands (take i turns) (drop i turns)
    ≡ orders_of_turn rows (states_by rows commands (take i turns)) (get_or turns i d)
    (command_of_turn commands (take i turns) (get_or turns i d))
    ++ orders_after rows commands (take (i + 1) turns) (drop (i + 1) turns)
unfolding orders_after
orders_more rows commands turns i d within =
    let turn : Turn = get_or turns i d in
    let rest : List Turn = drop (i + 1) turns in
    ap (orders_after rows commands (take i turns)) (drop_more turns i d within)
    ∙ ap (λ before. orders_of_turn rows (states_by rows commands (take i turns)) turn
    (command_of_turn commands (take i turns) turn) ++ orders_after rows commands before rest)
    (sym (take_more turns i d within))

pub orders_over : (rows : List Row) (commands : ℕ → List ThreadCommand) (before turns : Log) (i : ℕ) → length turns ≤ i
    → orders_after rows commands before (drop i turns) ≡ []
unfolding orders_after
orders_over rows commands before turns i past = at_drop_all (orders_after rows commands before) turns i past

-- ---- the text of orders

pub text_of_both : (rows : List Row) (orders more : List Order)
    → orders_text rows (orders ++ more) ≡ orders_text rows orders ++ orders_text rows more
text_of_both rows [] more = refl
text_of_both rows (order ∷ orders) more =
    ap (λ text. line_text (order_words rows order) ++ text) (text_of_both rows orders more)
    ∙ sym (append_assoc (line_text (order_words rows order)) (orders_text rows orders) (orders_text rows more))

-- ---- the command of a turn

-- its call is one that may be made
pub has_call : (own : List ThreadCommand) (at : ℕ) (command : ThreadCommand) → slice_get own at ≡ Some command
    → All (λ (c : ThreadCommand). IsBoardCall c.call) own → IsBoardCall command.call
has_call own at command is calls =
    subst (λ (c : ThreadCommand). IsBoardCall c.call) (get_or_from_slice_get own at command command is)
    (All-get_or (λ (c : ThreadCommand). IsBoardCall c.call) own at command (slice_get_within own at command is) calls)

-- the history that one turn more comes to
pub history_on : (rows : List Row) (commands : ℕ → List ThreadCommand) (turns : Log) (i : ℕ) (d : Turn)
    → i < length turns
    → history_from rows commands [] [] (take (i + 1) turns)
    ≡ history_by rows (command_of_turn commands (take i turns) (get_or turns i d))
    (history_from rows commands [] [] (take i turns)) (get_or turns i d).row
history_on rows commands turns i d within =
    ap (history_from rows commands [] []) (take_more turns i d within)
    ∙ history_one rows commands [] [] (take i turns) (get_or turns i d)

-- ---- one turn more

module _ (rows : List Row) (commands : ℕ → List ThreadCommand) (turns : Log) (i : ℕ) (d : Turn) (within : i < length turns) where
  -- a command was done: its orders are written, by the states that the board shows
  pub turn_written : (command : ThreadCommand) (board : Held) (old new : List ℕ)
      → command_of_turn commands (take i turns) (get_or turns i d) ≡ Some command → board.rows ≡ rows
      → IsHeld board.rows board.words → StandsAfter board (history_from rows commands [] [] (take i turns))
      → new ≡ old ++ orders_text board.rows
      (orders_of_call board.rows (state_by board.rows board.words) (get_or turns i d).row command.call)
      → new ++ orders_text rows (orders_after rows commands (take (i + 1) turns) (drop (i + 1) turns))
      ≡ old ++ orders_text rows (orders_after rows commands (take i turns) (drop i turns))
  turn_written command board old new done same held stands wrote =
      let turn : Turn = get_or turns i d in
      let h : History = history_from rows commands [] [] (take i turns) in
      let rest : List Order = orders_after rows commands (take (i + 1) turns) (drop (i + 1) turns) in
      let shown : state_by board.rows board.words ≡ state_after board.rows h =
      λ j row. held_state board.rows board.words none_taken h stands held.each held.roster row j in
      let own : List Order = orders_of_turn rows (state_after rows h) turn (command_of_turn commands (take i turns) turn) in
      let own_is : orders_of_call board.rows (state_by board.rows board.words) turn.row command.call ≡ own =
      ap (λ (states : ℕ → State). orders_of_call board.rows states turn.row command.call) shown
      ∙ ap (λ (rs : List Row). orders_of_call rs (state_after rs h) turn.row command.call) same
      ∙ ap (orders_of_turn rows (state_after rows h) turn) (sym done) in
      one_piece old (orders_text rows own) new (orders_text rows rest)
      (orders_text rows (orders_after rows commands (take i turns) (drop i turns)))
      (wrote
      ∙ (λ j. old ++ orders_text (same j) (own_is j)))
      (ap (orders_text rows) (orders_more rows commands turns i d within) ∙ text_of_both rows own rest)

  -- a turn that did no command has no order
  pub turn_passed : (out : List ℕ) → command_of_turn commands (take i turns) (get_or turns i d) ≡ None
      → out ++ orders_text rows (orders_after rows commands (take (i + 1) turns) (drop (i + 1) turns))
      ≡ out ++ orders_text rows (orders_after rows commands (take i turns) (drop i turns))
  turn_passed out none =
      let turn : Turn = get_or turns i d in
      let rest : List Order = orders_after rows commands (take (i + 1) turns) (drop (i + 1) turns) in
      ap (λ orders. out ++ orders_text rows orders)
      (sym (orders_more rows commands turns i d within
      ∙ ap (λ c. orders_of_turn rows (states_by rows commands (take i turns)) turn c ++ rest) none))

  -- and the board goes on
  pub stands_on : (command : ThreadCommand) (before after : Held)
      → command_of_turn commands (take i turns) (get_or turns i d) ≡ Some command → before.rows ≡ rows
      → StandsAfter after (history_after_turn before.rows (history_from rows commands [] [] (take i turns))
      (get_or turns i d).row command.call)
      → StandsAfter after (history_from rows commands [] [] (take (i + 1) turns))
  stands_on command before after done same stands =
      let turn : Turn = get_or turns i d in
      let h : History = history_from rows commands [] [] (take i turns) in
      subst (StandsAfter after)
      (ap (λ (rs : List Row). history_after_turn rs h turn.row command.call) same
      ∙ ap (λ c. history_by rows c h turn.row) (sym done)
      ∙ sym (history_on rows commands turns i d within)) stands

  pub stands_still : (board : Held) → command_of_turn commands (take i turns) (get_or turns i d) ≡ None
      → StandsAfter board (history_from rows commands [] [] (take i turns))
      → StandsAfter board (history_from rows commands [] [] (take (i + 1) turns))
  stands_still board none stands =
      let turn : Turn = get_or turns i d in
      let h : History = history_from rows commands [] [] (take i turns) in
      subst (StandsAfter board)
      (ap (λ c. history_by rows c h turn.row) (sym none) ∙ sym (history_on rows commands turns i d within)) stands
