-- The children of a row that has published are those counted.
use Rattle.std.proofs.Common.{◌≡◌, ◌+◌, ◌∷◌, ◌==◌, [], is_some, cond, ◌∙◌, sym, ap}
use Rattle.trace_record.specs.Stop.{child_of}
use Rattle.stop_history.specs.Event.{events_of}
use Rattle.stop_history.specs.History.{births_in}
use Rattle.stop_table.specs.Entry.{history_of}
use Rattle.test_support.proofs.Handles.{own_row}
use Rattle.test_support.proofs.runner.Running.publish.Goals as goal

pub invariant_of-result : goal.invariant_of-result
invariant_of-result g c =
    let t = c.args.self.tracee in
    let n = c.publish.new.self in
    let made = c.publish.ensures.made in
    let counts = c.stops_are_counted_by_their_tracee.ensures.publishes t.view n.view made.0 t.row _
    (own_row t.row t.view.tracees c.holds.ensures.handle.tracees) made.1 in
    record {
      rests = c.publish.ensures.handle.2;
      same_roster = made.1.same.roster ∙ c.args.self.same_roster;
      same_row = c.publish.ensures.handle.1 ∙ c.args.self.same_row;
      counted = ap (λ r. births_in (events_of r (history_of n.view.seen))) c.publish.ensures.handle.1
          ∙ counts.0
          ∙ ap (λ b. cond (is_some (child_of c.args.stop)) (b + 1) b) c.args.self.counted
          ∙ sym (c.in_ok-births.ensures);
    }
