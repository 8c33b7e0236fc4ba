-- An exit that is held back leaves the row as it was, taken up with its record; one that is not ends it.
use Rattle.std.proofs.Common.{◌≡◌, ◌∷◌, ◌==◌, [], ◌∙◌, sym, ap}
use Rattle.trace_record.specs.Content.{Content}
use Rattle.stop_history.specs.Event.{events_of}
use Rattle.stop_history.specs.History.{births_in}
use Rattle.stop_history.specs.Roster.{row_at}
use Rattle.stop_history.specs.State.{number_in}
use Rattle.stop_table.specs.Entry.{history_of}
use Rattle.test_support.proofs.Handles.{own_row}
use Rattle.test_support.proofs.runner.Running.exit.Goals as goal

pub invariant_of-result : goal.invariant_of-result
invariant_of-result g c =
    let t = c.args.self.tracee in
    let n = c.exit.new.self in
    let made = c.in-Ok.ensures.ok in
    let counts = c.stops_are_counted_by_their_tracee.ensures.exits t.view n.view made.0 t.row _
    (own_row t.row t.view.tracees c.holds.ensures.handle.tracees) made.1 in
    record {
      rests = made.2;
      same_roster = made.1.same.roster ∙ c.args.self.same_roster;
      same_row = c.exit.ensures.handle.1 ∙ c.args.self.same_row;
      counted = ap (λ r. births_in (events_of r (history_of n.view.seen))) c.exit.ensures.handle.1
          ∙ counts.0 ∙ c.args.self.counted;
    }

pub invariant_of-result-in-Err : goal.invariant_of-result-in-Err
invariant_of-result-in-Err g c =
    let t = c.args.self.tracee in
    let n = c.exit.new.self in
    let told = c.in-Err.ensures.err in
    let counts = c.stops_are_counted_by_their_tracee.ensures.looks t.view n.view t.row
    (own_row t.row t.view.tracees c.holds.ensures.handle.tracees) told.1.grows in
    let row = c.exit.ensures.handle.1 in
    record {
      runs = told.1.taken ∙ c.args.self.runs;
      same_roster = told.1.grows.same.roster ∙ c.args.self.same_roster;
      same_row = row ∙ c.args.self.same_row;
      counted = ap (λ r. births_in (events_of r (history_of n.view.seen))) row ∙ counts.0 ∙ c.args.self.counted;
      tid = ap (λ (x : Content). x.tid) told.0 ∙ c.args.self.tid
          ∙ sym (ap (λ rows. (row_at rows n.row).tid) told.1.grows.same.roster ∙ ap (λ r. (row_at t.view.roster r).tid) row);
      number = ap (λ (x : Content). x.number) told.0 ∙ c.args.self.number
          ∙ sym (ap (λ r. number_in (events_of r (history_of n.view.seen))) row ∙ counts.1);
    }
