-- Each handle in turn is one of those that were handed in.
use Rattle.std.proofs.Common.{◌∙◌, sym, length}
use Rattle.std.proofs.lemmas.Iterator.Adapters.{YieldsList-from_vec}
use Rattle.std.proofs.lemmas.Iterator.Consumers.{YieldsList-end, YieldsList-turn}
use Rattle.std.proofs.lemmas.List.{map-id}
use Rattle.std.proofs.lemmas.List.Elements.{All-push, All-same, All-weaker}
use Rattle.tracer_workers.specs.Gathering.{IsFreeTracee, TakesIn}
use Rattle.tracer_workers.proofs.Meeting.{right_of_meeting, taken_on}
use Rattle.tracer_workers.proofs.Yielded.{next_holds}
use Rattle.tracer_workers.proofs.gathering.meet_tracees.Goals as goal

pub meet_tracee-tracer-requires : goal.meet_tracee-tracer-requires
meet_tracee-tracer-requires g c =
    let begun = c.into_iter-other-iterator.ensures.into_iter_gives in
    let turn = YieldsList-turn
    (YieldsList-from_vec {s = c.into_iter-other-iterator.result} c.args.tracees.items begun.0 (begun.1 ∙ c.args.tracees.ok.0))
    c.loop-other.yielded c.loop-other.other-iterator c.loop-other.yielded_by c.next.result c.next.new.self c.in-Some.other
    c.in-Some.is c.next.ensures.steps in
    let free = next_holds (IsFreeTracee c.args.tracer.table_id c.requires.0) c.args.tracees.items
    (length c.loop-other.yielded) c.in-Some.other c.requires.1 turn in
    (free.table ∙ sym c.loop-other.invariant.table.0, free.idle)

pub loop-other-preserved : goal.loop-other-preserved
loop-other-preserved g c =
    let now = c.meet_tracee-tracer.result.view in
    let met = c.meet_tracee-tracer.ensures.met in
    record {
      table = (
        c.meet_tracee-tracer.ensures.handle ∙ c.loop-other.invariant.table.0,
        met.roster ∙ c.loop-other.invariant.table.1,
      );
      first = taken_on c.args.tracer.view c.loop-other.tracer.view c.in-Some.other.view now met c.loop-other.invariant.first;
      others = All-push (λ e. TakesIn e.view now) c.loop-other.yielded c.in-Some.other
          (All-weaker (λ e. TakesIn e.view c.loop-other.tracer.view) (λ e. TakesIn e.view now)
          (λ e. taken_on e.view c.loop-other.tracer.view c.in-Some.other.view now met) c.loop-other.yielded
          c.loop-other.invariant.others)
          (right_of_meeting c.loop-other.tracer.view c.in-Some.other.view now met);
    }

pub returns-clause-taken_in : goal.returns-clause-taken_in
returns-clause-taken_in g c =
    let begun = c.into_iter-other-iterator.ensures.into_iter_gives in
    let all = YieldsList-end
    (YieldsList-from_vec {s = c.into_iter-other-iterator.result} c.args.tracees.items begun.0 (begun.1 ∙ c.args.tracees.ok.0))
    c.loop-other.yielded c.loop-other.other-iterator c.loop-other.yielded_by c.next.result c.next.new.self c.in-None.is
    c.next.ensures.steps in (
      c.loop-other.invariant.first,
      All-same (λ e. TakesIn e.view c.loop-other.tracer.view) c.args.tracees.items c.loop-other.yielded
          (sym (sym (map-id c.loop-other.yielded) ∙ all.0)) c.loop-other.invariant.others,
    )
