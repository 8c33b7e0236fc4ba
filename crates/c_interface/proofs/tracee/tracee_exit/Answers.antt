-- An exit that is held back leaves the row as it was, taken up with its record; one that is not ends it.
use Rattle.std.proofs.Common.{◌∙◌, sym, ap}
use Rattle.trace_record.specs.Content.{Content}
use Rattle.stop_history.specs.Event.{events_of}
use Rattle.stop_history.specs.History.{births_in}
use Rattle.stop_history.specs.Roster.{row_at}
use Rattle.stop_history.specs.State.{number_in}
use Rattle.stop_table.specs.Entry.{cell_after, history_of}
use Rattle.c_interface.specs.Hand.{is_taken, number_in_hand, tid_in_hand}
use Rattle.c_interface.specs.declared.hand.Hand.{Hand}
use Rattle.c_interface.proofs.Handles.{own_row}
use Rattle.c_interface.proofs.tracee.tracee_exit.Goals as goal

pub invariant_of-end-in_default-exit : goal.invariant_of-end-in_default-exit
invariant_of-end-in_default-exit c =
    let e = c.args.end.now in
    let n = c.exit.new.self in
    let made = c.in_default-exit.ensures.ok in
    let row = c.exit.ensures.handle.1 in
    let ended = c.replace.ensures.after in
    let counts = c.stops_are_counted_by_their_tracee.ensures.exits e.tracee.view n.view made.0 e.tracee.row _
    (own_row e.tracee.row e.tracee.view.tracees c.holds.ensures.handle.tracees) made.1 in
    record {
      same_roster = made.1.same.roster ∙ e.same_roster;
      same_row = row ∙ e.same_row;
      counted = ap (λ r. births_in (events_of r (history_of n.view.seen))) row ∙ counts.0 ∙ e.counted;
      taken = made.2 ∙ sym (ap is_taken ended);
      tid = ap (λ (h : Hand). tid_in_hand h (row_at n.view.roster n.row).tid) ended;
      number = ap (λ (h : Hand). number_in_hand h (cell_after n.view.roster n.view.seen n.row).number) ended;
    }

pub invariant_of-end-in-Taken : goal.invariant_of-end-in-Taken
invariant_of-end-in-Taken c =
    let e = c.args.end.now in
    let t = e.tracee in
    let n = c.exit.new.self in
    let told = c.in-Err.ensures.err in
    let row = c.exit.ensures.handle.1 in
    let taken = sym c.replace.ensures.value ∙ c.in-Taken.is in
    let counts = c.stops_are_counted_by_their_tracee.ensures.looks t.view n.view t.row
    (own_row t.row t.view.tracees c.holds.ensures.handle.tracees) told.1.grows in
    let place = (row_at t.view.roster t.row).tid in
    let last = (cell_after t.view.roster t.view.seen t.row).number in
    record {
      same_roster = told.1.grows.same.roster ∙ e.same_roster;
      same_row = row ∙ e.same_row;
      counted = ap (λ r. births_in (events_of r (history_of n.view.seen))) row ∙ counts.0 ∙ e.counted;
      taken = told.1.taken ∙ e.taken ∙ ap is_taken taken;
      tid = ap (λ (x : Content). x.tid) told.0 ∙ sym (ap (λ (h : Hand). tid_in_hand h place) taken) ∙ e.tid
          ∙ sym (ap (λ rows. (row_at rows n.row).tid) told.1.grows.same.roster
          ∙ ap (λ r. (row_at t.view.roster r).tid) row);
      number = ap (λ (x : Content). x.number) told.0 ∙ sym (ap (λ (h : Hand). number_in_hand h last) taken) ∙ e.number
          ∙ sym (ap (λ r. number_in (events_of r (history_of n.view.seen))) row ∙ counts.1);
    }
