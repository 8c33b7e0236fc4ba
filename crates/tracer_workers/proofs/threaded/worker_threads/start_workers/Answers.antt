-- Each tracer in turn gets its thread, unless one cannot be started.
use Rattle.std.proofs.Common.{refl, ◌∙◌, length, sym, ap, arith}
use Rattle.std.proofs.lemmas.Iterator.Adapters.{YieldsList-from_vec}
use Rattle.std.proofs.lemmas.Iterator.Consumers.{YieldsList-end, YieldsList-turn}
use Rattle.std.proofs.lemmas.List.{map-id}
use Rattle.tracer_workers.specs.Threaded.{CanWork}
use Rattle.tracer_workers.proofs.Yielded.{next_holds}
use Rattle.tracer_workers.proofs.Zips.{zip_length, zip_push, zip_same}
use Rattle.tracer_workers.proofs.threaded.worker_threads.start_workers.Goals as goal

pub start_worker-requires-after_bounds : goal.start_worker-requires-after_bounds
start_worker-requires-after_bounds g c κs within =
    let begun = c.into_iter-tracer-iterator.ensures.into_iter_gives in
    let turn = YieldsList-turn
    (YieldsList-from_vec {s = c.into_iter-tracer-iterator.result} c.args.tracers.items begun.0 (begun.1 ∙ c.args.tracers.ok.0))
    c.loop-tracer.yielded c.loop-tracer.tracer-iterator c.loop-tracer.yielded_by c.next.result c.next.new.self
    c.in-Some.tracer c.in-Some.is c.next.ensures.steps in
    next_holds (CanWork c.args.shared.now.roster.now) c.args.tracers.items (length c.loop-tracer.yielded) c.in-Some.tracer
    c.requires.ready turn

pub push_reserved-requires : goal.push_reserved-requires
push_reserved-requires g c =
    let begun = c.into_iter-tracer-iterator.ensures.into_iter_gives in
    let turn = YieldsList-turn
    (YieldsList-from_vec {s = c.into_iter-tracer-iterator.result} c.args.tracers.items begun.0 (begun.1 ∙ c.args.tracers.ok.0))
    c.loop-tracer.yielded c.loop-tracer.tracer-iterator c.loop-tracer.yielded_by c.next.result c.next.new.self
    c.in-Some.tracer c.in-Some.is c.next.ensures.steps in
    let long = zip_length _ c.loop-tracer.yielded c.loop-tracer.threads.items c.loop-tracer.invariant.zip in
    omega (arith, turn.0, long, c.loop-tracer.threads.ok, c.args.tracers.ok, c.requires.room.1, c.loop-tracer.invariant.room)

pub loop-tracer-preserved : goal.loop-tracer-preserved
loop-tracer-preserved g c = record {
  zip = zip_same _ _ _ _ _ refl c.push_reserved.ensures.items
      (zip_push _ c.loop-tracer.yielded c.loop-tracer.threads.items c.in-Some.tracer c.in-Some-start_worker.thread
      c.loop-tracer.invariant.zip c.in-Some-start_worker.ensures);
  room = c.push_reserved.ensures.capacity ∙ c.loop-tracer.invariant.room;
}

pub returns-in-None-start_worker-clause-few : goal.returns-in-None-start_worker-clause-few
returns-in-None-start_worker-clause-few g c =
    let begun = c.into_iter-tracer-iterator.ensures.into_iter_gives in
    let turn = YieldsList-turn
    (YieldsList-from_vec {s = c.into_iter-tracer-iterator.result} c.args.tracers.items begun.0 (begun.1 ∙ c.args.tracers.ok.0))
    c.loop-tracer.yielded c.loop-tracer.tracer-iterator c.loop-tracer.yielded_by c.next.result c.next.new.self
    c.in-Some.tracer c.in-Some.is c.next.ensures.steps in
    let long = zip_length _ c.loop-tracer.yielded c.loop-tracer.threads.items c.loop-tracer.invariant.zip in
    omega (arith, turn.0, long, c.loop-tracer.threads.ok, c.args.tracers.ok)

pub returns-clause-few : goal.returns-clause-few
returns-clause-few g c =
    let begun = c.into_iter-tracer-iterator.ensures.into_iter_gives in
    let all = YieldsList-end
    (YieldsList-from_vec {s = c.into_iter-tracer-iterator.result} c.args.tracers.items begun.0 (begun.1 ∙ c.args.tracers.ok.0))
    c.loop-tracer.yielded c.loop-tracer.tracer-iterator c.loop-tracer.yielded_by c.next.result c.next.new.self
    c.in-None.is c.next.ensures.steps in
    let same = ap length (sym (map-id c.loop-tracer.yielded) ∙ all.0) in
    let long = zip_length _ c.loop-tracer.yielded c.loop-tracer.threads.items c.loop-tracer.invariant.zip in
    omega (arith, same, long, c.loop-tracer.threads.ok, c.args.tracers.ok)

pub returns-clause-all : goal.returns-clause-all
returns-clause-all g c = λ is.
    let begun = c.into_iter-tracer-iterator.ensures.into_iter_gives in
    let all = YieldsList-end
    (YieldsList-from_vec {s = c.into_iter-tracer-iterator.result} c.args.tracers.items begun.0 (begun.1 ∙ c.args.tracers.ok.0))
    c.loop-tracer.yielded c.loop-tracer.tracer-iterator c.loop-tracer.yielded_by c.next.result c.next.new.self
    c.in-None.is c.next.ensures.steps in
    zip_same _ _ _ _ _ (sym (sym (map-id c.loop-tracer.yielded) ∙ all.0)) refl c.loop-tracer.invariant.zip
