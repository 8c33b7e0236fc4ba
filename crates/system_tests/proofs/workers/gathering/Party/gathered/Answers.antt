-- The handles of a party are those of one table, with nothing claimed and nothing taken up.
use Rattle.std.proofs.Common.{refl, []}
use Rattle.std.proofs.lemmas.List.Elements.{All-nil, All-same}
use Rattle.stop_table.specs.Tracee.{TraceeHandle}
use Rattle.stop_table.specs.Tracer.{TracerHandle}
use Rattle.tracer_workers.specs.Gathering.{IsFreeTracee, IsFreeTracer}
use Rattle.system_tests.proofs.Handles.{pushed}
use Rattle.system_tests.proofs.workers.gathering.Party.gathered.Goals as goal

pub gather-requires-clause-handles : goal.gather-requires-clause-handles
gather-requires-clause-handles g c =
    let s = c.args.self in
    let P : TracerHandle → Type 0 = IsFreeTracer s.tracer.table_id s.roster in
    let Q : TraceeHandle → Type 0 = IsFreeTracee s.tracer.table_id s.roster in
    let first : P s.tracer = record { table = refl; roster = s.tracer_roster; idle = s.free } in
    let second : P s.idle = record { table = s.idle_table; roster = s.idle_roster; idle = s.idles } in
    let third : Q s.tracee = record { table = s.tracee_table; roster = s.tracee_roster; idle = s.rests } in
    let one = c.push_reserved.new.self.items in (
      s.tracer.table_id,
      pushed P one c.push_reserved-2.new.self.items s.idle c.push_reserved-2.ensures.items
          (pushed P c.in-Ok.tracers.items one s.tracer c.push_reserved.ensures.items
          (All-same P c.in-Ok.tracers.items [] c.in-Ok.ensures.items (All-nil P)) first)
          second,
      pushed Q c.in-Ok-with_capacity.tracees.items c.push_reserved-3.new.self.items s.tracee
          c.push_reserved-3.ensures.items
          (All-same Q c.in-Ok-with_capacity.tracees.items [] c.in-Ok-with_capacity.ensures.items (All-nil Q))
          third,
    )
