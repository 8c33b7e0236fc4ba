-- The claim of the row has other registers, and is kept.
use Rattle.std.proofs.Common.{◌∙◌, ap, subst, sym}
use Rattle.std.proofs.lemmas.Int.{to_z-of_z}
use Rattle.std.specs.Int.{w32}
use Rattle.stop_table.specs.Handle.{IsHolding}
use Rattle.stop_table.specs.Written.{with_regs}
use Rattle.stop_table.proofs.Written.{regs_in_hand}
use Rattle.trace_calls.specs.ByPid.{row_of_pid}
use Rattle.trace_calls.specs.Handle.{handle_of, records_of}
use Rattle.trace_calls.proofs.Keeping.{has_claimed, holding, is_recorded, not_claimed, not_claimed_pid, rewritten}
use Rattle.trace_calls.proofs.Keeping.{rewritten_claims, unchanged}
use Rattle.trace_calls.proofs.calls.Calls.setregs.Goals as goal

pub returns-in_default-index_mut : goal.returns-in_default-index_mut
returns-in_default-index_mut g c =
    let x = c.self.inside in
    let free = not_claimed c.args.self.now x.tracer x.roster x.held.items x.counts.items c.self.view_is c.self.invariant
    c.in-Some.row c.index_mut.result.now c.in-Some.ensures.within c.index_mut.ensures.value c.in_default-index_mut.is in (
      not_claimed_pid c.args.self.now c.args.pid c.place.result c.in-Some.row
          (c.place.ensures.place ∙ ap (row_of_pid c.args.self.now.view.roster) (to_z-of_z w32 c.args.pid c.ranges.pid))
          c.in-Some.is free,
      ap (λ held. handle_of x.tracer x.counts.items (records_of held))
          (unchanged x.held.items c.in-Some.row c.index_mut.result.now c.index_mut.ensures.value)
          ∙ c.self.view_is,
    )

pub invariant_of-self-2 : goal.invariant_of-self-2
invariant_of-self-2 g c =
    let x = c.self.inside in
    let claim = c.in-Some-index_mut.claim in
    let new = c.set_regs.new.self in
    let holds = holding c.args.self.now x.tracer x.roster x.held.items x.counts.items c.self.view_is c.self.invariant
    c.in-Some.row c.index_mut.result.now c.in-Some.ensures.within c.index_mut.ensures.value claim c.in-Some-index_mut.is in
    rewritten_claims x.tracer x.roster x.held.items x.counts.items c.in-Some.row new c.self.invariant
    (c.set_regs.ensures.claim.0 ∙ holds.0)
    (subst (λ w. IsHolding x.tracer.view c.in-Some.row w new.stop) (sym c.set_regs.ensures.claim.1)
    (subst (IsHolding x.tracer.view c.in-Some.row claim.word) (sym c.set_regs.ensures.record)
    (regs_in_hand x.tracer.view c.in-Some.row claim.word claim.stop c.args.regs holds.1)))

pub returns : goal.returns
returns g c =
    let x = c.self.inside in
    let a = c.args.self.now in
    let claim = c.in-Some-index_mut.claim in
    let stop = is_recorded a x.tracer x.roster x.held.items x.counts.items c.self.view_is c.self.invariant
    c.in-Some.row c.index_mut.result.now c.in-Some.ensures.within c.index_mut.ensures.value claim c.in-Some-index_mut.is in
    let has = has_claimed a x.tracer x.roster x.held.items x.counts.items c.self.view_is c.self.invariant
    c.in-Some.row c.index_mut.result.now c.in-Some.ensures.within c.index_mut.ensures.value claim c.in-Some-index_mut.is in (
      c.in-Some.row,
      (
        ap (row_of_pid a.view.roster) (sym (to_z-of_z w32 c.args.pid c.ranges.pid)) ∙ sym c.place.ensures.place
            ∙ c.in-Some.is,
        has.1,
      ),
      rewritten a x.tracer x.held.items x.counts.items c.in-Some.row c.set_regs.new.self _ c.self.view_is
          (c.set_regs.ensures.record ∙ ap (λ s. with_regs s c.args.regs) stop),
    )
