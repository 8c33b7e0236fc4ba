-- A claimed row has its claim at its place, which is spent by the restart.
use Rattle.std.proofs.Common.{◌≡◌, ◌∙◌, None, ap, false, set, subst, sym, true}
use Rattle.trace_record.specs.Content.{Content}
use Rattle.stop_table.specs.Entry.{resume_of}
use Rattle.stop_table.specs.Handle.{EndsWith, IsHolding}
use Rattle.trace_calls.specs.Handle.{CallsHandle, record_of, records_of}
use Rattle.trace_calls.proofs.Keeping.{held_number, holding, is_recorded, made_restart, not_claimed, record_set}
use Rattle.trace_calls.proofs.Keeping.{resumed_claims}
use Rattle.trace_calls.proofs.calls.Calls.restart_row.Goals as goal

pub unreachable-requires : goal.unreachable-requires
unreachable-requires g c =
    let x = c.self.inside in
    let has = c.in-Some.ensures.some.0 in
    let none = sym c.take.ensures.value ∙ c.in_default-take.is in
    let free = not_claimed c.args.self.now x.tracer x.roster x.held.items x.counts.items c.self.view_is c.self.invariant
    c.args.row c.index_mut.result.now has.0 c.index_mut.ensures.value none in
    let clash : true ≡ false = sym has.1 ∙ free in cc

pub resume-requires-clause-claim : goal.resume-requires-clause-claim
resume-requires-clause-claim g c =
    let x = c.self.inside in
    let has = c.in-Some.ensures.some.0 in
    let claim = c.in-Some-take.claim in
    let holds = holding c.args.self.now x.tracer x.roster x.held.items x.counts.items c.self.view_is c.self.invariant
    c.args.row c.index_mut.result.now has.0 c.index_mut.ensures.value claim
    (sym c.take.ensures.value ∙ c.in-Some-take.is) in
    subst (λ r. IsHolding x.tracer.view r claim.word claim.stop) (sym holds.0) holds.1

pub invariant_of-self : goal.invariant_of-self
invariant_of-self g c =
    let x = c.self.inside in
    let has = c.in-Some.ensures.some.0 in
    let claim = c.in-Some-take.claim in
    let holds = holding c.args.self.now x.tracer x.roster x.held.items x.counts.items c.self.view_is c.self.invariant
    c.args.row c.index_mut.result.now has.0 c.index_mut.ensures.value claim
    (sym c.take.ensures.value ∙ c.in-Some-take.is) in
    let made = c.resume.ensures.made in
    resumed_claims x.tracer c.resume.new.self x.roster x.held.items x.counts.items made.0 c.args.row claim.word.number
    c.args.how claim.stop c.take.new.self c.handle_is_legal.ensures c.self.invariant
    (subst (λ r. EndsWith x.tracer.view c.resume.new.self.view made.0
    (resume_of r claim.word.number c.args.how x.tracer.view.number claim.stop)) holds.0 made.1)
    c.take.ensures.after

pub returns-clause-answer : goal.returns-clause-answer
returns-clause-answer g c =
    let x = c.self.inside in
    let a = c.args.self.now in
    let has = c.in-Some.ensures.some.0 in
    let claim = c.in-Some-take.claim in
    let some = sym c.take.ensures.value ∙ c.in-Some-take.is in
    let holds = holding a x.tracer x.roster x.held.items x.counts.items c.self.view_is c.self.invariant c.args.row
    c.index_mut.result.now has.0 c.index_mut.ensures.value claim some in
    let stop = is_recorded a x.tracer x.roster x.held.items x.counts.items c.self.view_is c.self.invariant c.args.row
    c.index_mut.result.now has.0 c.index_mut.ensures.value claim some in (
      has,
      made_restart a x.tracer c.resume.new.self x.counts.items (records_of x.held.items) c.args.row claim.row
          claim.word.number c.args.how claim.stop c.self.view_is holds.0
          (held_number x.tracer.view c.args.row claim.word claim.stop c.handle_is_legal.ensures.legal holds.1
          ∙ ap (λ (s : Content). s.number) stop)
          stop c.resume.ensures.made,
      c.if-how-gt-LAST_SIGNAL.false,
      ap (λ (h : CallsHandle). h.counts) c.self.view_is,
      record_set x.held.items c.args.row c.take.new.self
          ∙ ap (λ o. set (records_of x.held.items) c.args.row (record_of o)) c.take.ensures.after
          ∙ ap (λ (h : CallsHandle). set h.records c.args.row None) c.self.view_is,
    )
