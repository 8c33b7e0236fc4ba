-- The tracer that is given out has seen nothing, so it has claimed nothing.
use Rattle.std.proofs.Common.{refl, ◌≡◌, ◌∷◌, ◌++◌, [], ℕ, List, length, ◌∙◌, sym, ap}
use Rattle.std.specs.List.{filter, range_with_len, slice_get}
use Rattle.stop_history.specs.declared.roster.Row.{Row}
use Rattle.stop_table.specs.Opening.{new_tracer, new_view}
use Rattle.stop_table.specs.Tracer.{TracerHandle, held_rows, is_held}
use Rattle.refusing_allocator.proofs.Lists.{at_end}
use Rattle.call_tests.proofs.waits.caller.Waiter.of.Goals as goal

-- no row is claimed by a tracer before any step
nothing_held : (rows : List Row) (number : ℕ) (numbers : List ℕ)
    → filter (is_held (new_view rows [] number (number ∷ []))) numbers ≡ []
nothing_held rows number [] = refl
nothing_held rows number (row ∷ numbers) = nothing_held rows number numbers

pub invariant_of-result : goal.invariant_of-result
invariant_of-result g c =
    let s = c.args.cast.now in
    let k = length c.pop.new.self.items in
    let is : c.in-Some.tracer ≡ new_tracer s.unused.table_id s.roster k =
    s.tracers k c.in-Some.tracer
    (ap (λ xs. slice_get xs k) c.in-Some.ensures.items ∙ at_end c.pop.new.self.items c.in-Some.tracer) in
    record {
      same = c.in_ok-roster.ensures.ok ∙ c.rows.ensures.rows ∙ ap (λ (x : TracerHandle). x.view.roster) (sym is);
      idle = ap (λ (x : TracerHandle). held_rows x.view) is
          ∙ nothing_held s.roster k (range_with_len 0 (length s.roster));
    }
