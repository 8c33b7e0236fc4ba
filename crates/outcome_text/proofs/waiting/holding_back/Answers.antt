-- The row that the search finds holds the leader back.
use Rattle.std.proofs.Common.{refl, ◌≡◌, true, arith, length, rules, tests}
use Rattle.std.proofs.lemmas.Iterator.{YieldsList-from_range}
use Rattle.std.proofs.lemmas.Iterator.Search.{find_from_yields_List}
use Rattle.stop_history.specs.History.{holds_back}
use Rattle.stop_history.specs.Roster.{is_leader, row_at}
use Rattle.outcome_text.specs.Waiting.{state_at}
use Rattle.outcome_text.proofs.WaitingFor.{found_back}
use Rattle.outcome_text.proofs.waiting.holding_back.Goals as goal

pub returns : goal.returns
returns c =
    let rows = c.args.rows.now in
    let states = state_at c.args.states.now in
    let leads : is_leader (row_at rows c.args.at) ≡ true = search rules in
    found_back rows states c.args.at c.find.result leads
    (find_from_yields_List (holds_back rows states c.args.at) _ _ c.find.result c.find.ensures.ran
    (YieldsList-from_range 0 (length rows) (length rows) refl (omega arith)) (λ x b q k. search (rules, tests)))
