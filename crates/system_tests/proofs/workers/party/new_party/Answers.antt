-- The handles are those of new cells, and the tracee is that of the only row.
use Rattle.std.proofs.Common.{refl, ◌≡◌, length, ◌∙◌, sym, ap, subst, arith}
use Rattle.stop_table.specs.Opening.{AreTracees, new_tracer}
use Rattle.stop_table.specs.Tracer.{TracerHandle}
use Rattle.tracer_workers.proofs.Ran.{nothing_held}
use Rattle.refusing_allocator.proofs.Lists.{found_last}
use Rattle.system_tests.proofs.workers.party.new_party.Goals as goal

pub pop_scripted-requires-clause-cells : goal.pop_scripted-requires-clause-cells
pop_scripted-requires-clause-cells g c =
    let opened = c.in-Ok-open.ensures.ok in (
      opened.0,
      subst (λ rows. AreTracees opened.0 rows c.in-Ok-open.ends.tracees.items) c.roster-2.ensures.rows opened.3,
    )

pub pop_scripted-requires-clause-rows : goal.pop_scripted-requires-clause-rows
pop_scripted-requires-clause-rows g c =
    let rows = ap length c.roster-2.ensures.rows in omega (arith, rows, c.in-Ok-open.ensures.ok.1)

pub pop_scripted-requires-clause-options : goal.pop_scripted-requires-clause-options
pop_scripted-requires-clause-options g c = c.in-Ok.ensures.taken.0 refl

pub returns-clause-tracer : goal.returns-clause-tracer
returns-clause-tracer g c =
    let opened = c.in-Ok-open.ensures.ok in
    let items = c.in-Ok-open.ends.tracers.items in
    let left = c.pop.new.self.items in
    let found = found_last items left c.in-Some-pop.tracer c.in-Some-pop.ensures.items in
    let is : c.in-Some-pop.tracer ≡ new_tracer opened.0 c.roster-2.result.now (length left) =
    opened.4 (length left) c.in-Some-pop.tracer found in (
      sym c.roster-2.ensures.rows ∙ sym (ap (λ (t : TracerHandle). t.view.roster) is),
      nothing_held c.in-Some-pop.tracer.view (ap (λ (t : TracerHandle). t.view.seen) is),
    )

pub returns-clause-row : goal.returns-clause-row
returns-clause-row g c =
    let opened = c.in-Ok-open.ensures.ok in
    let items = c.in-Ok-open.ends.tracers.items in
    let left = c.pop.new.self.items in
    let found = found_last items left c.in-Some-pop.tracer c.in-Some-pop.ensures.items in
    let is : c.in-Some-pop.tracer ≡ new_tracer opened.0 c.roster-2.result.now (length left) =
    opened.4 (length left) c.in-Some-pop.tracer found in
    let same = ap length (c.roster-2.ensures.rows ∙ sym c.roster.ensures.rows) in
    let rows = ap (λ (t : TracerHandle). length t.view.roster) is in
    omega (arith, same, rows, c.len.ensures, c.if-len-ne1.false)
