-- The new row is the last one.
use Rattle.std.proofs.Common.{◌≡◌, ◌+◌, ◌∙◌, Some, sym, ap, subst, slice_get, inl, inr, length}
use Rattle.std.proofs.lemmas.List.{length_push}
use Rattle.tracer_workers.specs.Turn.{new_row}
use Rattle.tracer_workers.proofs.Rounds.{get_last}
use Rattle.tracer_workers.proofs.scheduled.traced_row.new_rows.Goals as goal

pub loop-row-preserved : goal.loop-row-preserved
loop-row-preserved g c = record {
  long = ap length c.in_ok-push.ensures.items ∙ length_push c.loop-row.rows.items c.new.result
      ∙ ap (λ n. n + 1) c.loop-row.invariant.long;
  each = λ r k at.
      elim (get_last c.loop-row.rows.items c.new.result r k
      (subst (λ ks. slice_get ks r ≡ Some k) c.in_ok-push.ensures.items at)) [
        | inl old ↦ c.loop-row.invariant.each r k old
        | inr new ↦
            new.1 ∙ c.new.ensures
            ∙ ap (new_row c.args.config.now c.args.case.now) (sym (new.0 ∙ c.loop-row.invariant.long))
      ];
}
