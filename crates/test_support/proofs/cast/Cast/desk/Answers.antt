-- The tracer that is given out is the last one left, and has a roster of as many rows.
use Rattle.std.proofs.Common.{◌≡◌, ◌∙◌, ap, length, sym}
use Rattle.std.specs.List.{slice_get}
use Rattle.stop_table.specs.Opening.{new_tracer}
use Rattle.stop_table.specs.Tracer.{TracerHandle}
use Rattle.refusing_allocator.proofs.Lists.{at_end}
use Rattle.test_support.proofs.cast.Cast.desk.Goals as goal

pub invariant_of-result : goal.invariant_of-result
invariant_of-result g c =
    let s = c.args.self.now in
    let k = length c.pop.new.self.items in
    let is : c.in-Some.tracer ≡ new_tracer s.unused.table_id s.roster k =
    s.tracers k c.in-Some.tracer
    (ap (λ xs. slice_get xs k) c.in-Some.ensures.items ∙ at_end c.pop.new.self.items c.in-Some.tracer) in
    record { counted = ap (λ (x : TracerHandle). length x.view.roster) is ∙ sym c.len.ensures }

pub returns-clause-table : goal.returns-clause-table
returns-clause-table g c =
    let s = c.args.self.now in
    let k = length c.pop.new.self.items in
    ap (λ (x : TracerHandle). x.table_id)
    (s.tracers k c.in-Some.tracer
    (ap (λ xs. slice_get xs k) c.in-Some.ensures.items ∙ at_end c.pop.new.self.items c.in-Some.tracer))
