-- All handles are of the table of the tracer that no test uses.
use Rattle.std.proofs.Common.{◌≡◌, ◌∷◌, ◌++◌, [], length, ◌∙◌, sym, ap}
use Rattle.std.specs.List.{slice_get}
use Rattle.stop_table.specs.Opening.{new_tracee, new_tracer}
use Rattle.stop_table.specs.Tracer.{TracerHandle}
use Rattle.refusing_allocator.proofs.Lists.{at_end, in_front}
use Rattle.test_support.proofs.cast.open_over.Goals as goal

pub invariant_of-result : goal.invariant_of-result
invariant_of-result g c =
    let opened = c.in_ok-ends.ensures.ok in
    let left = c.pop.new.self.items in
    let items = c.in-Some.ensures.items in
    let same = ap (λ (x : TracerHandle). x.table_id)
    (opened.4 (length left) c.in-Some.unused (ap (λ xs. slice_get xs (length left)) items ∙ at_end left c.in-Some.unused)) in
    record {
      tracees = λ k e at. opened.3 k e at ∙ ap (λ id. new_tracee id c.args.roster k) (sym same);
      tracers = λ k e at. opened.4 k e
          (ap (λ xs. slice_get xs k) items ∙ in_front left (c.in-Some.unused ∷ []) k e at)
          ∙ ap (λ id. new_tracer id c.args.roster k) (sym same);
    }
