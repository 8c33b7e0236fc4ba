-- Each thread in turn gives back what it has promised.
use Rattle.std.proofs.Common.{refl, ◌∙◌, arith}
use Rattle.std.proofs.lemmas.Iterator.Adapters.{YieldsList-from_vec}
use Rattle.std.proofs.lemmas.Iterator.Consumers.{YieldsList-turn}
use Rattle.tracer_workers.proofs.Zips.{zip_length, zip_push, zip_same}
use Rattle.tracer_workers.proofs.threaded.worker_threads.join_workers.Goals as goal

pub push_reserved-requires : goal.push_reserved-requires
push_reserved-requires g c =
    let begun = c.into_iter-thread-iterator.ensures.into_iter_gives in
    let turn = YieldsList-turn
    (YieldsList-from_vec {s = c.into_iter-thread-iterator.result} c.args.threads.items begun.0 (begun.1 ∙ c.args.threads.ok.0))
    c.loop-thread.yielded c.loop-thread.thread-iterator c.loop-thread.yielded_by c.next.result c.next.new.self
    c.in-Some.thread c.in-Some.is c.next.ensures.steps in
    let long = zip_length _ c.loop-thread.yielded c.loop-thread.workers.items c.loop-thread.invariant.zip in
    omega (arith, turn.0, long, c.loop-thread.workers.ok, c.args.threads.ok, c.requires.1, c.loop-thread.invariant.room)

pub loop-thread-preserved : goal.loop-thread-preserved
loop-thread-preserved g c = record {
  zip = zip_same _ _ _ _ _ refl c.push_reserved.ensures.items
      (zip_push _ c.loop-thread.yielded c.loop-thread.workers.items c.in-Some.thread c.join.result
      c.loop-thread.invariant.zip c.join.ensures);
  room = c.push_reserved.ensures.capacity ∙ c.loop-thread.invariant.room;
}
