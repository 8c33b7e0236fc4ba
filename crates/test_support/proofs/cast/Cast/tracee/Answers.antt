-- The tracee that is given out is that of the last row left, and has seen nothing.
use Rattle.std.proofs.Common.{option_to_list, ◌≡◌, ◌∷◌, ◌++◌, [], length, ◌∙◌, sym, ap, rules}
use Rattle.std.specs.List.{slice_get}
use Rattle.stop_history.specs.Event.{events_of}
use Rattle.stop_history.specs.History.{births_in}
use Rattle.stop_table.specs.Entry.{history_of}
use Rattle.stop_table.specs.Opening.{new_tracee}
use Rattle.stop_table.specs.Tracee.{TraceeHandle}
use Rattle.refusing_allocator.proofs.Lists.{at_end, in_front}
use Rattle.test_support.proofs.cast.Cast.tracee.Goals as goal

pub invariant_of-self : goal.invariant_of-self
invariant_of-self g c =
    let s = c.args.self.now in
    let left = c.pop.new.self.items in
    record {
      tracees = λ k e at. s.tracees k e
          (ap (λ xs. slice_get xs k) c.pop.ensures.items ∙ in_front left (option_to_list c.pop.result) k e at);
      tracers = s.tracers;
    }

pub invariant_of-result : goal.invariant_of-result
invariant_of-result g c =
    let s = c.args.self.now in
    let k = length c.pop.new.self.items in
    let is : c.in-Some.tracee ≡ new_tracee s.unused.table_id s.roster k =
    s.tracees k c.in-Some.tracee
    (ap (λ xs. slice_get xs k) c.in-Some.ensures.items ∙ at_end c.pop.new.self.items c.in-Some.tracee) in
    let row = ap (λ (x : TraceeHandle). x.row) is in
    record {
      rests = ap (λ (x : TraceeHandle). x.view.taken) is;
      same_roster = ap (λ (x : TraceeHandle). x.view.roster) is ∙ sym c.in_ok-roster.ensures;
      same_row = search (rules, row);
      counted = ap (λ (x : TraceeHandle). births_in (events_of x.row (history_of x.view.seen))) is;
    }

pub returns-clause-table : goal.returns-clause-table
returns-clause-table g c =
    let s = c.args.self.now in
    let k = length c.pop.new.self.items in
    ap (λ (x : TraceeHandle). x.table_id)
    (s.tracees k c.in-Some.tracee
    (ap (λ xs. slice_get xs k) c.in-Some.ensures.items ∙ at_end c.pop.new.self.items c.in-Some.tracee))
