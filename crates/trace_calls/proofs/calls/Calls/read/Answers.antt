-- The word that was read is that of the memory published.
use Rattle.std.proofs.Common.{◌∙◌, ap, of_z, subst, to_z}
use Rattle.std.proofs.lemmas.Int.{of_z-to_z, to_z-of_z}
use Rattle.std.specs.Int.{w32, w64}
use Rattle.trace_record.specs.Content.{Content}
use Rattle.trace_calls.specs.ByPid.{HasClaimed, IsWordAt}
use Rattle.trace_calls.proofs.calls.Calls.read.Goals as goal

pub returns : goal.returns
returns g c =
    let s = c.in-Some.ensures.some in (
      s.0,
      subst (λ p. HasClaimed c.args.self.now p s.0) (to_z-of_z w32 c.args.pid c.ranges.pid) s.1,
      (
        c.in-Some-word_at.bits,
        subst (λ m. IsWordAt m c.args.addr c.in-Some-word_at.bits)
            (ap (λ (x : Content). x.memory) (c.record.view_is ∙ s.2)) c.in-Some-word_at.ensures.word,
        ap (λ z. to_z w64 (of_z w64 z)) c.cast_signed.ensures
            ∙ ap (to_z w64) (of_z-to_z w64 c.in-Some-word_at.bits c.in-Some-word_at.ensures.small),
      ),
    )
