-- The handle that is left is the last of the list, and it meets the others in turn.
use Rattle.std.proofs.Common.{◌∙◌, ◌++◌, ◌∷◌, [], Some, sym}
use Rattle.std.proofs.lemmas.Iterator.Adapters.{YieldsList-from_vec}
use Rattle.std.proofs.lemmas.Iterator.Consumers.{YieldsList-end}
use Rattle.std.proofs.lemmas.List.{map-id}
use Rattle.std.proofs.lemmas.List.Elements.{All-pop, All-push, All-same, All-weaker}
use Rattle.stop_table.specs.Tracer.{TracerHandle}
use Rattle.tracer_workers.specs.Gathering.{IsFreeTracer, TakesIn}
use Rattle.tracer_workers.proofs.Meeting.{right_of_meeting, taken_on}
use Rattle.tracer_workers.proofs.gathering.meet_tracers.Goals as goal

pub loop-other-preserved : goal.loop-other-preserved
loop-other-preserved g c =
    let now = c.meet-tracer.result.view in
    let met = c.meet-tracer.ensures.met in
    record {
      table = (c.meet-tracer.ensures.handle ∙ c.loop-other.invariant.table.0, met.roster ∙ c.loop-other.invariant.table.1);
      first = taken_on c.in-Some.tracer.view c.loop-other.tracer.view c.in-Some-other.other.view now met
          c.loop-other.invariant.first;
      others = All-push (λ e. TakesIn e.view now) c.loop-other.yielded c.in-Some-other.other
          (All-weaker (λ e. TakesIn e.view c.loop-other.tracer.view) (λ e. TakesIn e.view now)
          (λ e. taken_on e.view c.loop-other.tracer.view c.in-Some-other.other.view now met) c.loop-other.yielded
          c.loop-other.invariant.others)
          (right_of_meeting c.loop-other.tracer.view c.in-Some-other.other.view now met);
    }

pub returns-clause-table : goal.returns-clause-table
returns-clause-table g c = λ id rows all.
    let free = (All-pop (IsFreeTracer id rows) c.args.tracers.items c.pop.new.self.items (Some c.in-Some.tracer)
    c.in-Some.ensures.items all).1 in
    (c.loop-other.invariant.table.0 ∙ free.table, c.loop-other.invariant.table.1 ∙ free.roster)

pub returns-clause-taken_in : goal.returns-clause-taken_in
returns-clause-taken_in g c =
    let P : TracerHandle → Type 0 = λ e. TakesIn e.view c.loop-other.tracer.view in
    let begun = c.into_iter-other-iterator.ensures.into_iter_gives in
    let all = YieldsList-end
    (YieldsList-from_vec {s = c.into_iter-other-iterator.result} c.pop.new.self.items begun.0 (begun.1 ∙ c.pop.new.self.ok.0))
    c.loop-other.yielded c.loop-other.other-iterator c.loop-other.yielded_by c.next.result c.next.new.self c.in-None.is
    c.next.ensures.steps in
    All-same P c.args.tracers.items (c.pop.new.self.items ++ c.in-Some.tracer ∷ []) c.in-Some.ensures.items
    (All-push P c.pop.new.self.items c.in-Some.tracer
    (All-same P c.pop.new.self.items c.loop-other.yielded (sym (sym (map-id c.loop-other.yielded) ∙ all.0))
    c.loop-other.invariant.others)
    c.loop-other.invariant.first)
