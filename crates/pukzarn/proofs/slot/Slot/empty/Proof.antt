-- A slot of nothing owns nothing.
use Rattle.raw_box.proofs.Walks.{[], ◌∷◌, refl, proved_at, ftrue, ‵, raw, ◌⊛◌, ◌$◌, ◌∵◌, !, qed, done, drop}
use Rattle.raw_box.proofs.Walks.{join, suffices, lit, no_more, and_then, returns, enter, alloc_all, pass_all, free_all}
use Rattle.raw_box.proofs.Walks.{look_at, sets, agg, null_ptr, nothing, Stays, says, ends_at}
use Rattle.std.specs.Prelude.{None}
use Rattle.pukzarn.proofs.Slots.{slot_of, word, word_typed, closed_over}
use Rattle.pukzarn.specs.contracts.slot.Slot.empty as f
use Rattle.pukzarn.proofs.slot.Slot.empty.Statement.{statement}
use Rattle.pukzarn.proofs.slot.Slot.empty.Code as code

pub empty_spec : {M : Type 1} → statement M
empty_spec 𝓤 𝓛 𝓜 𝓡 wired =
    let c = f.clauses 𝓛 𝓜.mem 𝓡.returns in let stayed : Stays f.ended.signature.params f.ended.kept = tt in
    proved_at 𝓛 f.ended stayed c 𝓜 𝓡 tt f.Key.name code.function (code.unfolded 𝓤 𝓛.H 𝓜 𝓡 wired) (λ y are.
    qed 𝓛 ((‵ ftrue ⊛ ‵ ftrue) ∷ raw ((c y.0.0 y.0.3).requires y.1) ∷ []) ∵ drop ! $ drop ! $
    enter ! _ _ _ _ _ $ alloc_all ! (λ l. pass_all ! refl tt $
    sets ! (agg ! (and_then ! (lit ! tt) (no_more !))) refl (word_typed null_ptr) $
    returns ! (look_at ! 0 refl) $ free_all ! refl $
    suffices ! _ (ends_at 𝓛 f.ended stayed c y (word null_ptr) (slot_of null_ptr None) tt tt) $ says ! refl $
    nothing ! $ closed_over ! null_ptr None $ nothing ! $ join ! $ nothing ! $ join ! $ done !))
