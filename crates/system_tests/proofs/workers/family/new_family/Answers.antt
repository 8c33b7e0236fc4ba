-- The handles are those of new cells, and have seen nothing.
use Rattle.std.proofs.Common.{refl, ◌≡◌, length, ◌∙◌, ap, subst}
use Rattle.stop_table.specs.Opening.{AreTracees, new_tracer}
use Rattle.stop_table.specs.Tracer.{TracerHandle}
use Rattle.tracer_workers.proofs.Ran.{nothing_held}
use Rattle.refusing_allocator.proofs.Lists.{found_last}
use Rattle.system_tests.proofs.workers.family.new_family.Goals as goal

pub pop_scripted-requires-clause-cells : goal.pop_scripted-requires-clause-cells
pop_scripted-requires-clause-cells g c =
    let opened = c.in-Ok-open.ensures.ok in (
      opened.0,
      subst (λ rows. AreTracees opened.0 rows c.in-Ok-open.ends.tracees.items) c.roster.ensures.rows opened.3,
    )

pub pop_scripted-requires-clause-options : goal.pop_scripted-requires-clause-options
pop_scripted-requires-clause-options g c = c.in-Ok.ensures.taken.0 refl

pub pop_scripted-requires-2-clause-cells : goal.pop_scripted-requires-2-clause-cells
pop_scripted-requires-2-clause-cells g c =
    let opened = c.in-Ok-open.ensures.ok in (
      opened.0,
      c.pop_scripted.ensures.cells opened.0
          (subst (λ rows. AreTracees opened.0 rows c.in-Ok-open.ends.tracees.items) c.roster.ensures.rows opened.3),
    )

pub returns-clause-free : goal.returns-clause-free
returns-clause-free g c =
    let opened = c.in-Ok-open.ensures.ok in
    let are = subst (λ rows. AreTracees opened.0 rows c.in-Ok-open.ends.tracees.items) c.roster.ensures.rows opened.3 in
    let left = c.pop.new.self.items in
    let is : c.in_ok-tracer.tracer ≡ new_tracer opened.0 c.roster.result.now (length left) =
    opened.4 (length left) c.in_ok-tracer.tracer
    (found_last c.in-Ok-open.ends.tracers.items left c.in_ok-tracer.tracer c.in_ok-tracer.ensures.items) in (
      opened.0,
      record {
        table = ap (λ (t : TracerHandle). t.table_id) is;
        roster = ap (λ (t : TracerHandle). t.view.roster) is ∙ c.roster.ensures.rows;
        idle = nothing_held c.in_ok-tracer.tracer.view (ap (λ (t : TracerHandle). t.view.seen) is);
      },
      c.in_ok-root.ensures.free opened.0 (c.pop_scripted.ensures.cells opened.0 are),
      c.in_ok-child.ensures.free opened.0 are,
    )
