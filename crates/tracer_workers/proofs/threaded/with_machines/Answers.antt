-- The next tracee is that of the next row.
use Rattle.std.proofs.Common.{refl, ◌∙◌, Some, length, sym, ap, arith, ◌+◌}
use Rattle.std.proofs.lemmas.Iterator.Adapters.{YieldsList-from_vec}
use Rattle.std.proofs.lemmas.Iterator.Consumers.{YieldsList-end, YieldsList-turn}
use Rattle.std.proofs.lemmas.List.{length_push, map-id}
use Rattle.std.proofs.lemmas.Option.{slice_get-get_or}
use Rattle.tracer_workers.specs.Config.{plan_of}
use Rattle.tracer_workers.specs.Plan.{opening_of}
use Rattle.tracer_workers.proofs.FittingCases.{config_plan}
use Rattle.tracer_workers.proofs.Threads.{to_start}
use Rattle.tracer_workers.proofs.Zips.{zip_length, zip_push, zip_same}
use Rattle.tracer_workers.proofs.threaded.with_machines.Goals as goal

pub new_machine-requires : goal.new_machine-requires
new_machine-requires g c =
    let begun = c.into_iter-tracee-iterator.ensures.into_iter_gives in
    let turn = YieldsList-turn
    (YieldsList-from_vec {s = c.into_iter-tracee-iterator.result} c.args.tracees.items begun.0 (begun.1 ∙ c.args.tracees.ok.0))
    c.loop-tracee.yielded c.loop-tracee.tracee-iterator c.loop-tracee.yielded_by c.next.result c.next.new.self
    c.in-Some.tracee c.in-Some.is c.next.ensures.steps in
    omega (arith, turn.0, c.loop-tracee.invariant.row, c.args.tracees.ok, c.requires.2)

pub push_reserved-requires : goal.push_reserved-requires
push_reserved-requires g c =
    let begun = c.into_iter-tracee-iterator.ensures.into_iter_gives in
    let turn = YieldsList-turn
    (YieldsList-from_vec {s = c.into_iter-tracee-iterator.result} c.args.tracees.items begun.0 (begun.1 ∙ c.args.tracees.ok.0))
    c.loop-tracee.yielded c.loop-tracee.tracee-iterator c.loop-tracee.yielded_by c.next.result c.next.new.self
    c.in-Some.tracee c.in-Some.is c.next.ensures.steps in
    let long = zip_length _ c.loop-tracee.yielded c.loop-tracee.all.items c.loop-tracee.invariant.zip in
    omega (arith, turn.0, long, c.loop-tracee.all.ok, c.args.tracees.ok, c.loop-tracee.invariant.room)

pub overflow_add-row : goal.overflow_add-row
overflow_add-row g c =
    let begun = c.into_iter-tracee-iterator.ensures.into_iter_gives in
    let turn = YieldsList-turn
    (YieldsList-from_vec {s = c.into_iter-tracee-iterator.result} c.args.tracees.items begun.0 (begun.1 ∙ c.args.tracees.ok.0))
    c.loop-tracee.yielded c.loop-tracee.tracee-iterator c.loop-tracee.yielded_by c.next.result c.next.new.self
    c.in-Some.tracee c.in-Some.is c.next.ensures.steps in
    omega (arith, turn.0, c.loop-tracee.invariant.row, c.of_case.ensures.few, c.args.tracees.ok, c.requires.2)

pub loop-tracee-preserved : goal.loop-tracee-preserved
loop-tracee-preserved g c =
    let begun = c.into_iter-tracee-iterator.ensures.into_iter_gives in
    let turn = YieldsList-turn
    (YieldsList-from_vec {s = c.into_iter-tracee-iterator.result} c.args.tracees.items begun.0 (begun.1 ∙ c.args.tracees.ok.0))
    c.loop-tracee.yielded c.loop-tracee.tracee-iterator c.loop-tracee.yielded_by c.next.result c.next.new.self
    c.in-Some.tracee c.in-Some.is c.next.ensures.steps in
    let row = length c.loop-tracee.yielded in
    let is = c.requires.1 row c.in-Some.tracee
    (slice_get-get_or c.args.tracees.items row c.in-Some.tracee turn.0 ∙ ap Some (sym turn.1)) in
    let plan = plan_of c.args.config.now c.args.case.now in
    let start = to_start plan c.requires.0 row c.in-Some.tracee c.in_ok-machine.machine
    (config_plan c.args.config.now c.args.case.now c.of_case.ensures.case) is
    (c.in_ok-machine.ensures ∙ ap (opening_of plan) c.loop-tracee.invariant.row) in
    record {
      zip = zip_same _ _ _ _ _ refl c.push_reserved.ensures.items
          (zip_push _ c.loop-tracee.yielded c.loop-tracee.all.items c.in-Some.tracee
          (record { tracee = c.in-Some.tracee; machine = c.in_ok-machine.machine }) c.loop-tracee.invariant.zip
          (refl, start));
      row = ap (λ n. n + 1) c.loop-tracee.invariant.row ∙ sym (length_push c.loop-tracee.yielded c.in-Some.tracee);
      room = omega (arith, c.push_reserved.ensures.capacity, c.loop-tracee.invariant.room);
    }

pub returns : goal.returns
returns g c =
    let begun = c.into_iter-tracee-iterator.ensures.into_iter_gives in
    let all = YieldsList-end
    (YieldsList-from_vec {s = c.into_iter-tracee-iterator.result} c.args.tracees.items begun.0 (begun.1 ∙ c.args.tracees.ok.0))
    c.loop-tracee.yielded c.loop-tracee.tracee-iterator c.loop-tracee.yielded_by c.next.result c.next.new.self c.in-None.is
    c.next.ensures.steps in
    zip_same _ _ _ _ _ (sym (sym (map-id c.loop-tracee.yielded) ∙ all.0)) refl c.loop-tracee.invariant.zip
