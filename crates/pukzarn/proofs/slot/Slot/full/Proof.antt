-- The pointer moves, and with it what the raw box owned. A `Global` is nothing.
use Rattle.raw_box.proofs.Walks.{List, [], ◌∷◌, ◌++◌, refl, proved_at, Val, ftrue, WpFn, ‵, raw, ◌⊛◌, prop}
use Rattle.raw_box.proofs.Walks.{◌$◌, ◌∵◌, !, qed, done, keep, drop, split, join, fsplit, fjoin, regoal, suffices}
use Rattle.raw_box.proofs.Walks.{stop, fld, of_opd, no_more, and_then, returns, enter, alloc_all, pass_all, free_all}
use Rattle.raw_box.proofs.Walks.{look_at, get, get_in, sets, agg, sub, whole, tables, yes, owns, plain, nothing, Stays}
use Rattle.raw_box.proofs.Walks.{stay_dropped, walk_of, says, ends_at, Goes-dropped}
use Rattle.raw_box.proofs.RawBoxes.{pointer_typed, typed, Raw, apart}
use Rattle.std.specs.Prelude.{Some}
use Rattle.pukzarn.proofs.Slots.{V, Z, slot_of, word, word_typed, closed_over}
use Rattle.pukzarn.specs.contracts.slot.Slot.full as f
use Rattle.pukzarn.proofs.slot.Slot.full.Statement.{statement}
use Rattle.pukzarn.proofs.slot.Slot.full.Code as code

abbrev stayed : Stays f.ended.signature.params f.ended.kept
stayed = (stay_dropped (plain (λ _. Raw V Z)) yes, tt)

pub full_spec : {M : Type 1} → statement M
full_spec 𝓤 𝓛 𝓜 𝓡 wired =
    let c = f.clauses 𝓛 𝓜.mem 𝓡.returns in let W = walk_of 𝓛 f.ended stayed c in let 𝓣 = tables 𝓤 𝓛.H 𝓜 𝓡 𝓡.env in
    proved_at 𝓛 f.ended stayed c 𝓜 𝓡 (Goes-dropped 𝓛 0 (plain (λ _. Raw V Z)) yes (λ κs x w. refl), tt)
    f.Key.name code.function (code.unfolded 𝓤 𝓛.H 𝓜 𝓡 wired) (λ y are.
    let box = y.0.3.0 in let p = box.at in
    qed 𝓛 ((‵ ftrue ⊛ ‵ (owns (Raw V Z ∷ []) (box, tt) (y.0.4.0, tt))) ∷ raw ((c y.0.0 y.0.3).requires y.1) ∷ []) ∵
    split ! $ drop ! $ fsplit ! $ apart V Z ! box y.0.4.0 (λ h is fits.
    regoal ! (λ (us : List Val). prop (WpFn 𝓤 𝓛.H 𝓣.C 𝓣.Λ code.function (us ++ []) (W.post y))) is refl $
    -- [what it owned]
    keep ! (0 ∷ []) $ enter ! _ _ _ _ _ $ alloc_all ! (λ l. pass_all ! refl (typed Z p h fits, tt) $
    sets ! (of_opd ! (get_in ! (fld ! refl (stop !)) (sub ! 0 refl (whole !)))) refl (pointer_typed p) $
    sets ! (of_opd ! (get ! refl)) refl (pointer_typed p) $
    sets ! (agg ! (and_then ! (get ! refl) (no_more !))) refl (word_typed p) $
    returns ! (look_at ! 0 refl) $ free_all ! refl $ closed_over ! p (Some box.value) $
    suffices ! _ (ends_at 𝓛 f.ended stayed c y (word p) (slot_of p (Some box.value)) (tt, tt) (tt, tt)) $ says ! refl $
    nothing ! $ nothing ! $ fjoin ! $ join ! $ nothing ! $ join ! $ done !)))
