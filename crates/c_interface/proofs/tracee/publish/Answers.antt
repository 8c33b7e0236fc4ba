-- The children of a row that has published are those counted, and it is not taken up.
use Rattle.std.proofs.Common.{◌≡◌, ◌∙◌, sym, ap, rules}
use Rattle.stop_history.specs.Event.{events_of}
use Rattle.stop_history.specs.History.{births_in}
use Rattle.stop_history.specs.Roster.{row_at}
use Rattle.stop_table.specs.Entry.{cell_after, history_of}
use Rattle.c_interface.specs.Hand.{is_taken, number_in_hand, tid_in_hand}
use Rattle.c_interface.specs.TraceeEnd.{births_with}
use Rattle.c_interface.specs.declared.hand.Hand.{Hand}
use Rattle.c_interface.proofs.Handles.{own_row}
use Rattle.c_interface.proofs.tracee.publish.Goals as goal

pub invariant_of-end : goal.invariant_of-end
invariant_of-end c =
    let e = c.args.end.now in
    let n = c.publish.new.self in
    let made = c.publish.ensures.made in
    let row = c.publish.ensures.handle.1 in
    let rests = c.in-Some.ensures.1 in
    let births : c.if-is_some.births ≡ births_with e.births c.args.at = search rules in
    let counts = c.stops_are_counted_by_their_tracee.ensures.publishes e.tracee.view n.view made.0 e.tracee.row _
    (own_row e.tracee.row e.tracee.view.tracees c.holds.ensures.handle.tracees) made.1 in
    record {
      same_roster = made.1.same.roster ∙ e.same_roster;
      same_row = row ∙ e.same_row;
      counted = ap (λ r. births_in (events_of r (history_of n.view.seen))) row ∙ counts.0
          ∙ ap (λ b. births_with b c.args.at) e.counted ∙ sym births;
      taken = c.publish.ensures.handle.2 ∙ sym (ap is_taken rests);
      tid = ap (λ (h : Hand). tid_in_hand h (row_at n.view.roster n.row).tid) rests;
      number = ap (λ (h : Hand). number_in_hand h (cell_after n.view.roster n.view.seen n.row).number) rests;
    }
