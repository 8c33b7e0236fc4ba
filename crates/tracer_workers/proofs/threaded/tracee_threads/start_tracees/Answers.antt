-- Each tracee in turn gets its thread, unless one cannot be started.
use Rattle.std.proofs.Common.{refl, ◌∙◌, length, sym, ap, arith}
use Rattle.std.proofs.lemmas.Iterator.Adapters.{YieldsList-from_vec}
use Rattle.std.proofs.lemmas.Iterator.Consumers.{YieldsList-end, YieldsList-turn}
use Rattle.std.proofs.lemmas.List.{map-id}
use Rattle.tracer_workers.specs.Threaded.{CanRun}
use Rattle.tracer_workers.proofs.Yielded.{next_holds}
use Rattle.tracer_workers.proofs.Zips.{zip_length, zip_push, zip_same}
use Rattle.tracer_workers.proofs.threaded.tracee_threads.start_tracees.Goals as goal

pub start_tracee-requires-after_bounds : goal.start_tracee-requires-after_bounds
start_tracee-requires-after_bounds g c κs within =
    let begun = c.into_iter-scripted-iterator.ensures.into_iter_gives in
    let turn = YieldsList-turn
    (YieldsList-from_vec {s = c.into_iter-scripted-iterator.result} c.args.all.items begun.0 (begun.1 ∙ c.args.all.ok.0))
    c.loop-scripted.yielded c.loop-scripted.scripted-iterator c.loop-scripted.yielded_by c.next.result c.next.new.self
    c.in-Some.scripted c.in-Some.is c.next.ensures.steps in
    next_holds (λ s. CanRun s.tracee s.machine) c.args.all.items (length c.loop-scripted.yielded) c.in-Some.scripted
    c.requires.ready turn

pub push_reserved-requires : goal.push_reserved-requires
push_reserved-requires g c =
    let begun = c.into_iter-scripted-iterator.ensures.into_iter_gives in
    let turn = YieldsList-turn
    (YieldsList-from_vec {s = c.into_iter-scripted-iterator.result} c.args.all.items begun.0 (begun.1 ∙ c.args.all.ok.0))
    c.loop-scripted.yielded c.loop-scripted.scripted-iterator c.loop-scripted.yielded_by c.next.result c.next.new.self
    c.in-Some.scripted c.in-Some.is c.next.ensures.steps in
    let long = zip_length _ c.loop-scripted.yielded c.loop-scripted.threads.items c.loop-scripted.invariant.zip in
    omega (arith, turn.0, long, c.loop-scripted.threads.ok, c.args.all.ok, c.requires.room.1, c.loop-scripted.invariant.room)

pub loop-scripted-preserved : goal.loop-scripted-preserved
loop-scripted-preserved g c = record {
  zip = zip_same _ _ _ _ _ refl c.push_reserved.ensures.items
      (zip_push _ c.loop-scripted.yielded c.loop-scripted.threads.items c.in-Some.scripted c.in-Some-start_tracee.thread
      c.loop-scripted.invariant.zip c.in-Some-start_tracee.ensures);
  room = c.push_reserved.ensures.capacity ∙ c.loop-scripted.invariant.room;
}

pub returns-in-None-start_tracee-clause-few : goal.returns-in-None-start_tracee-clause-few
returns-in-None-start_tracee-clause-few g c =
    let begun = c.into_iter-scripted-iterator.ensures.into_iter_gives in
    let turn = YieldsList-turn
    (YieldsList-from_vec {s = c.into_iter-scripted-iterator.result} c.args.all.items begun.0 (begun.1 ∙ c.args.all.ok.0))
    c.loop-scripted.yielded c.loop-scripted.scripted-iterator c.loop-scripted.yielded_by c.next.result c.next.new.self
    c.in-Some.scripted c.in-Some.is c.next.ensures.steps in
    let long = zip_length _ c.loop-scripted.yielded c.loop-scripted.threads.items c.loop-scripted.invariant.zip in
    omega (arith, turn.0, long, c.loop-scripted.threads.ok, c.args.all.ok)

pub returns-clause-few : goal.returns-clause-few
returns-clause-few g c =
    let begun = c.into_iter-scripted-iterator.ensures.into_iter_gives in
    let all = YieldsList-end
    (YieldsList-from_vec {s = c.into_iter-scripted-iterator.result} c.args.all.items begun.0 (begun.1 ∙ c.args.all.ok.0))
    c.loop-scripted.yielded c.loop-scripted.scripted-iterator c.loop-scripted.yielded_by c.next.result c.next.new.self
    c.in-None.is c.next.ensures.steps in
    let same = ap length (sym (map-id c.loop-scripted.yielded) ∙ all.0) in
    let long = zip_length _ c.loop-scripted.yielded c.loop-scripted.threads.items c.loop-scripted.invariant.zip in
    omega (arith, same, long, c.loop-scripted.threads.ok, c.args.all.ok)

pub returns-clause-all : goal.returns-clause-all
returns-clause-all g c = λ is.
    let begun = c.into_iter-scripted-iterator.ensures.into_iter_gives in
    let all = YieldsList-end
    (YieldsList-from_vec {s = c.into_iter-scripted-iterator.result} c.args.all.items begun.0 (begun.1 ∙ c.args.all.ok.0))
    c.loop-scripted.yielded c.loop-scripted.scripted-iterator c.loop-scripted.yielded_by c.next.result c.next.new.self
    c.in-None.is c.next.ensures.steps in
    zip_same _ _ _ _ _ (sym (sym (map-id c.loop-scripted.yielded) ∙ all.0)) refl c.loop-scripted.invariant.zip
