-- A row that is taken up has the record of its last stop in hand. One that is not is at rest still, as many children of
-- it as before.
use Rattle.std.proofs.Common.{refl, ◌≡◌, ◌∙◌, sym, ap, subst, Ok}
use Rattle.stop_history.specs.Event.{events_of}
use Rattle.stop_history.specs.History.{births_in}
use Rattle.stop_history.specs.Roster.{row_at}
use Rattle.stop_table.specs.Entry.{cell_after, history_of}
use Rattle.stop_table.specs.Handle.{TakesUp}
use Rattle.stop_table.specs.View.{is_among}
use Rattle.c_interface.specs.Hand.{is_taken, number_in_hand, tid_in_hand}
use Rattle.c_interface.specs.Restart.{restart_numbers}
use Rattle.c_interface.specs.TraceeEnd.{IsTakeUpFrom}
use Rattle.c_interface.specs.declared.hand.Hand.{Hand}
use Rattle.c_interface.specs.declared.hand.Hand.TheVariants as hand
use Rattle.c_interface.specs.declared.hand.InHand.{InHand}
use Rattle.c_interface.specs.declared.restart.CRestart.{CRestart}
use Rattle.c_interface.specs.declared.tracee_end.TraceeEnd.{TraceeEnd}
use Rattle.c_interface.proofs.Handles.{own_row}
use Rattle.c_interface.proofs.tracee.tracee_take_up.Goals as goal

taken_up : (a b : TraceeEnd) (told : CRestart) (held : InHand) → a.hand ≡ hand.AtRest → b.hand ≡ hand.Taken held
    → told ≡ restart_numbers held.how → TakesUp a.tracee.view b.tracee.view a.tracee.row held.how held.stopped
    → IsTakeUpFrom a.hand a b (Ok told)
taken_up a b told held rests taken numbers up =
    subst (λ (h : Hand). IsTakeUpFrom h a b (Ok told)) (sym rests) (held, taken, numbers, up)

pub invariant_of-end-in-None : goal.invariant_of-end-in-None
invariant_of-end-in-None c =
    let e = c.args.end.now in
    let t = e.tracee in
    let m = c.take_up.new.self in
    let n = c.start.new.self in
    let rests = c.in-AtRest.is in
    let tried = (c.in-None.ensures.none (e.taken ∙ ap is_taken rests)).1.0 in
    let started = c.start.ensures.handle.2 in
    let own = own_row t.row t.view.tracees c.holds.ensures.handle.tracees in
    let looks = c.stops_are_counted_by_their_tracee.ensures.looks in
    let first = looks t.view m.view t.row own tried.grows in
    let second = looks m.view n.view t.row (ap (is_among t.row) tried.grows.same.tracees ∙ own) started.grows in
    let row = c.start.ensures.handle.1 ∙ c.take_up.ensures.handle.1 in
    record {
      same_roster = started.grows.same.roster ∙ tried.grows.same.roster ∙ e.same_roster;
      same_row = row ∙ e.same_row;
      counted = ap (λ r. births_in (events_of r (history_of n.view.seen))) row ∙ second.0 ∙ first.0 ∙ e.counted;
      taken = started.taken ∙ tried.taken ∙ e.taken;
      tid = ap (λ (h : Hand). tid_in_hand h (row_at n.view.roster n.row).tid) rests;
      number = ap (λ (h : Hand). number_in_hand h (cell_after n.view.roster n.view.seen n.row).number) rests;
    }

pub returns-in-Some : goal.returns-in-Some
returns-in-Some c = record {
  same = record { table = c.take_up.ensures.handle.0; roster = refl; row = refl };
  births = refl;
  answer = taken_up _ _ _ (record { how = c.in-Some.how; stopped = c.in-Some.stopped }) c.in-AtRest.is refl c.of.ensures
      c.in-Some.ensures.some.0;
}
