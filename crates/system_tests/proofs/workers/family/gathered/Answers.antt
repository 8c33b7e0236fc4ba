-- The handles are those that came back.
use Rattle.std.proofs.Common.{[]}
use Rattle.std.proofs.lemmas.List.Elements.{All-nil, All-same}
use Rattle.stop_table.specs.Tracee.{TraceeHandle}
use Rattle.stop_table.specs.Tracer.{TracerHandle}
use Rattle.tracer_workers.specs.Gathering.{IsFreeTracee, IsFreeTracer}
use Rattle.system_tests.proofs.Handles.{pushed}
use Rattle.system_tests.proofs.workers.family.gathered.Goals as goal

pub gather-requires-clause-handles : goal.gather-requires-clause-handles
gather-requires-clause-handles g c =
    let free = c.requires in
    let P : TracerHandle → Type 0 = IsFreeTracer free.0 c.args.roster.now in
    let Q : TraceeHandle → Type 0 = IsFreeTracee free.0 c.args.roster.now in
    let one = c.push_reserved-2.new.self.items in (
      free.0,
      pushed P c.in-Ok.tracers.items c.push_reserved.new.self.items c.args.back.tracer c.push_reserved.ensures.items
          (All-same P c.in-Ok.tracers.items [] c.in-Ok.ensures.items (All-nil P)) free.1,
      pushed Q one c.push_reserved-3.new.self.items c.args.back.child c.push_reserved-3.ensures.items
          (pushed Q c.in-Ok-with_capacity.tracees.items one c.args.back.root c.push_reserved-2.ensures.items
          (All-same Q c.in-Ok-with_capacity.tracees.items [] c.in-Ok-with_capacity.ensures.items (All-nil Q)) free.2)
          free.3,
    )
