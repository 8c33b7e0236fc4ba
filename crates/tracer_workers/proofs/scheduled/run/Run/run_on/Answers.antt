-- The row at the place is run on, and no other.
use Rattle.std.proofs.Common.{◌≡◌, ◌∙◌, ap, subst}
use Rattle.trace_record.specs.Content.{Content}
use Rattle.trace_script.specs.Machine.{IsAnswer}
use Rattle.trace_script.specs.StopTrace.{Position, context_of, next_element, next_position}
use Rattle.tracer_workers.specs.Scheduled.{KeptRow}
use Rattle.tracer_workers.specs.Turn.{with_next, with_row}
use Rattle.tracer_workers.proofs.Fewer.{index_of_get}
use Rattle.tracer_workers.proofs.scheduled.run.Run.run_on.Goals as goal

pub returns-clause-ran : goal.returns-clause-ran
returns-clause-ran g c =
    rw (← c.self.view_is) (λ k there.
    let old = c.index_mut-traced.result.now in
    let same : old ≡ k = c.index_mut-traced.ensures.value ∙ index_of_get c.self.inside.rows.items c.args.row old k there in
    let made = c.in_ok-next.ensures in
    let Made : KeptRow → Type 0 = λ k. (content : Content) × (at : Position)
    × IsAnswer (next_element k.position k.how (context_of k.content)) c.in_ok-next.next k.content content
    × (at ≡ next_position k.position k.how (context_of k.content)) × (c.run_on.new.self ≡ with_next k content at) in
    let it : Made k = subst Made same made in
    (it.0, it.1, it.2, it.3, ap (with_row _ c.args.row) it.4))
