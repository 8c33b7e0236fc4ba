-- A row that is taken up has made no stop since its tracee last saw it, and its record is that of its last stop.
use Rattle.std.proofs.Common.{◌≡◌, ◌∷◌, ◌==◌, [], ◌∙◌, sym, ap}
use Rattle.trace_record.specs.Content.{Content}
use Rattle.stop_history.specs.Event.{events_of}
use Rattle.stop_history.specs.History.{births_in}
use Rattle.stop_table.specs.Entry.{content_after, history_of}
use Rattle.test_support.proofs.Handles.{own_row}
use Rattle.test_support.proofs.runner.AtRest.take_up.Goals as goal

pub invariant_of-result : goal.invariant_of-result
invariant_of-result g c =
    let t = c.args.self.tracee in
    let n = c.take_up.new.self in
    let up = c.in-Some.ensures.some.0 in
    let row = c.take_up.ensures.handle.1 in
    let counts = c.stops_are_counted_by_their_tracee.ensures.looks t.view n.view t.row
    (own_row t.row t.view.tracees c.holds.ensures.handle.tracees) up.grows in
    let own = c.a_record_is_its_rows.ensures n.view.roster n.view.seen up.grows.legal n.row in
    let content : c.in-Some.record ≡ content_after n.view.roster n.view.seen n.row =
    up.is_content
    ∙ ap (λ rows. content_after rows n.view.seen t.row) (sym up.grows.same.roster)
    ∙ ap (content_after n.view.roster n.view.seen) (sym row) in
    record {
      runs = c.in-Some.ensures.some.1;
      same_roster = up.grows.same.roster ∙ c.args.self.same_roster;
      same_row = row ∙ c.args.self.same_row;
      counted = ap (λ r. births_in (events_of r (history_of n.view.seen))) row ∙ counts.0 ∙ c.args.self.counted;
      tid = ap (λ (x : Content). x.tid) content ∙ own.0;
      number = ap (λ (x : Content). x.number) content ∙ own.1;
    }
