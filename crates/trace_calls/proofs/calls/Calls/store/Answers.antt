-- The claim of the row has other bytes, or the record that it had, and is kept.
use Rattle.std.proofs.Common.{◌≡◌, ◌∙◌, ap, length, subst, sym}
use Rattle.std.proofs.lemmas.Int.{to_z-of_z}
use Rattle.std.specs.Int.{w32}
use Rattle.stop_table.specs.Handle.{IsHolding}
use Rattle.stop_table.specs.Written.{with_bytes}
use Rattle.stop_table.proofs.Written.{bytes_in_hand}
use Rattle.trace_record.specs.Content.{Content}
use Rattle.trace_pages.specs.FlatMemory.{Full, run_end}
use Rattle.trace_calls.specs.ByPid.{row_of_pid}
use Rattle.trace_calls.specs.Handle.{handle_of, records_of}
use Rattle.trace_calls.proofs.Keeping.{done_stores, has_claimed, holding, is_recorded, not_claimed, not_claimed_pid}
use Rattle.trace_calls.proofs.Keeping.{put_back, refused_faults, rewritten, rewritten_claims, unchanged}
use Rattle.trace_calls.proofs.calls.Calls.store.Goals as goal

pub returns-in_default-index_mut : goal.returns-in_default-index_mut
returns-in_default-index_mut g c =
    let x = c.self.inside in
    let free = not_claimed c.args.self.now x.tracer x.roster x.held.items x.counts.items c.self.view_is c.self.invariant
    c.in-Some.row c.index_mut.result.now c.in-Some.ensures.within c.index_mut.ensures.value c.in_default-index_mut.is in (
      not_claimed_pid c.args.self.now c.args.pid c.place.result c.in-Some.row
          (c.place.ensures.place ∙ ap (row_of_pid c.args.self.now.view.roster) (to_z-of_z w32 c.args.pid c.ranges.pid))
          c.in-Some.is free,
      ap (λ held. handle_of x.tracer x.counts.items (records_of held))
          (unchanged x.held.items c.in-Some.row c.index_mut.result.now c.index_mut.ensures.value)
          ∙ c.self.view_is,
    )

pub invariant_of-self-in_default-store : goal.invariant_of-self-in_default-store
invariant_of-self-in_default-store g c =
    let x = c.self.inside in
    let claim = c.in-Some-index_mut.held in
    let new = c.store.new.self in
    let done = done_stores c.store.result c.args.addr (length c.args.bytes.now) claim.stop.memory
    c.store.ensures.answer c.in_default-store.is in
    let holds = holding c.args.self.now x.tracer x.roster x.held.items x.counts.items c.self.view_is c.self.invariant
    c.in-Some.row c.index_mut.result.now c.in-Some.ensures.within c.index_mut.ensures.value claim c.in-Some-index_mut.is in
    rewritten_claims x.tracer x.roster x.held.items x.counts.items c.in-Some.row new c.self.invariant
    (c.store.ensures.claim.0 ∙ holds.0)
    (subst (λ w. IsHolding x.tracer.view c.in-Some.row w new.stop) (sym c.store.ensures.claim.1)
    (subst (IsHolding x.tracer.view c.in-Some.row claim.word) (sym c.in_default-store.ensures.ok)
    (bytes_in_hand x.tracer.view c.in-Some.row claim.word claim.stop c.args.addr c.args.bytes.now done holds.1)))

pub returns-in_default-store : goal.returns-in_default-store
returns-in_default-store g c =
    let x = c.self.inside in
    let a = c.args.self.now in
    let claim = c.in-Some-index_mut.held in
    let done = done_stores c.store.result c.args.addr (length c.args.bytes.now) claim.stop.memory
    c.store.ensures.answer c.in_default-store.is in
    let stop = is_recorded a x.tracer x.roster x.held.items x.counts.items c.self.view_is c.self.invariant
    c.in-Some.row c.index_mut.result.now c.in-Some.ensures.within c.index_mut.ensures.value claim c.in-Some-index_mut.is in
    let has = has_claimed a x.tracer x.roster x.held.items x.counts.items c.self.view_is c.self.invariant
    c.in-Some.row c.index_mut.result.now c.in-Some.ensures.within c.index_mut.ensures.value claim c.in-Some-index_mut.is in (
      c.in-Some.row,
      (
        ap (row_of_pid a.view.roster) (sym (to_z-of_z w32 c.args.pid c.ranges.pid)) ∙ sym c.place.ensures.place
            ∙ c.in-Some.is,
        has.1,
      ),
      subst (λ (s : Content). run_end s.memory c.args.addr (length c.args.bytes.now) ≡ Full) stop done,
      rewritten a x.tracer x.held.items x.counts.items c.in-Some.row c.store.new.self _ c.self.view_is
          (c.in_default-store.ensures.ok ∙ ap (λ s. with_bytes s c.args.addr c.args.bytes.now) stop),
    )

pub invariant_of-self-2 : goal.invariant_of-self-2
invariant_of-self-2 g c =
    let x = c.self.inside in
    let claim = c.in-Some-index_mut.held in
    let new = c.store.new.self in
    let holds = holding c.args.self.now x.tracer x.roster x.held.items x.counts.items c.self.view_is c.self.invariant
    c.in-Some.row c.index_mut.result.now c.in-Some.ensures.within c.index_mut.ensures.value claim c.in-Some-index_mut.is in
    rewritten_claims x.tracer x.roster x.held.items x.counts.items c.in-Some.row new c.self.invariant
    (c.store.ensures.claim.0 ∙ holds.0)
    (subst (λ w. IsHolding x.tracer.view c.in-Some.row w new.stop) (sym c.store.ensures.claim.1)
    (subst (IsHolding x.tracer.view c.in-Some.row claim.word) (sym c.in-Err.ensures.err) holds.1))

pub returns : goal.returns
returns g c =
    let x = c.self.inside in
    let a = c.args.self.now in
    let claim = c.in-Some-index_mut.held in
    let stop = is_recorded a x.tracer x.roster x.held.items x.counts.items c.self.view_is c.self.invariant
    c.in-Some.row c.index_mut.result.now c.in-Some.ensures.within c.index_mut.ensures.value claim c.in-Some-index_mut.is in
    let has = has_claimed a x.tracer x.roster x.held.items x.counts.items c.self.view_is c.self.invariant
    c.in-Some.row c.index_mut.result.now c.in-Some.ensures.within c.index_mut.ensures.value claim c.in-Some-index_mut.is in (
      (
        c.in-Some.row,
        (
          ap (row_of_pid a.view.roster) (sym (to_z-of_z w32 c.args.pid c.ranges.pid)) ∙ sym c.place.ensures.place
              ∙ c.in-Some.is,
          has.1,
        ),
        λ whole. refused_faults c.store.result c.args.addr (length c.args.bytes.now) claim.stop.memory
            c.in-Err.field-0 c.store.ensures.answer c.in-Err.is
            (subst (λ (s : Content). run_end s.memory c.args.addr (length c.args.bytes.now) ≡ Full) (sym stop) whole),
      ),
      put_back a x.tracer x.held.items x.counts.items c.in-Some.row claim c.store.new.self c.index_mut.result.now
          c.self.view_is c.index_mut.ensures.value c.in-Some-index_mut.is c.in-Err.ensures.err,
    )
