-- The pointer moves, and with it what the slot owned.
use Rattle.raw_box.proofs.Walks.{◌≡◌, true, List, [], ◌∷◌, ◌++◌, refl, handle_tells, proved_at, Val, ftrue, WpFn}
use Rattle.raw_box.proofs.Walks.{‵, raw, ◌⊛◌, prop, ◌$◌, ◌∵◌, !, qed, done, move, keep, drop, split, join, fsplit}
use Rattle.raw_box.proofs.Walks.{fjoin, regoal, suffices, stop, fld, of_opd, no_more, and_then, returns, enter}
use Rattle.raw_box.proofs.Walks.{alloc_all, pass_all, free_all, look_at, get, get_in, sets, agg, sub, whole, fact}
use Rattle.raw_box.proofs.Walks.{tables, yes, owns, plain, nothing, heard, Stays, stay_dropped, walk_of, says, ends_at}
use Rattle.raw_box.proofs.Walks.{Goes-dropped}
use Rattle.raw_box.proofs.RawBoxes.{pointer_typed, stored, typed, of_parts, together}
use Rattle.std.specs.Prelude.{is_some}
use base.Logic.{SProp}
use Rattle.pukzarn.proofs.Slots.{V, Z, S, word, word_typed, opened}
use Rattle.pukzarn.specs.contracts.slot.Slot.into_raw as f
use Rattle.pukzarn.proofs.slot.Slot.into_raw.Statement.{statement}
use Rattle.pukzarn.proofs.slot.Slot.into_raw.Code as code

abbrev stayed : Stays f.ended.signature.params f.ended.kept
stayed = (stay_dropped (plain (λ _. S)) yes, (stay_dropped (plain (λ _. Z.row)) yes, tt))

pub into_raw_spec : {M : Type 1} → statement M
into_raw_spec 𝓤 𝓛 𝓜 𝓡 wired =
    let c = f.clauses 𝓛 𝓜.mem 𝓡.returns in let W = walk_of 𝓛 f.ended stayed c in let 𝓣 = tables 𝓤 𝓛.H 𝓜 𝓡 𝓡.env in
    proved_at 𝓛 f.ended stayed c 𝓜 𝓡 (
      Goes-dropped 𝓛 0 (plain (λ _. S)) yes (λ κs x w. refl),
      (Goes-dropped 𝓛 0 (plain (λ _. Z.row)) yes (λ κs x w. refl), tt),
    )
    f.Key.name code.function (code.unfolded 𝓤 𝓛.H 𝓜 𝓡 wired) (λ y are.
    let d = y.0.3.0 in let p = d.at in let a = y.0.3.1.0 in
    let Run : List Val → List Val → SProp 𝓤 = λ us ws. WpFn 𝓤 𝓛.H 𝓣.C 𝓣.Λ code.function (us ++ (ws ++ [])) (W.post y) in
    qed 𝓛 ((‵ ftrue ⊛ ‵ (owns (S ∷ Z.row ∷ []) (d, (a, tt)) (y.0.4.0, (y.0.4.1.0, tt))))
    ∷ raw (fact 𝓤 (is_some d.value ≡ true)) ∷ []) ∵
    move ! (1 ∷ []) $ heard ! _ (λ full. split ! $ drop ! $ fsplit ! $ opened ! d y.0.4.0 full (λ x holds at_word.
    regoal ! (λ (us : List Val). prop (Run us y.0.4.1.0)) at_word refl $
    move ! (1 ∷ []) $ fsplit ! $ handle_tells Z ! a y.0.4.1.0 (λ h at_handle fits.
    regoal ! (λ (ws : List Val). prop (Run (word p ∷ []) ws)) at_handle refl $
    -- [what it owned; the allocator]
    keep ! (2 ∷ 0 ∷ []) $
    enter ! _ _ _ _ _ $ alloc_all ! (λ l. pass_all ! refl (word_typed p, (fits, tt)) $
    sets ! (of_opd ! (get_in ! (fld ! refl (stop !)) (sub ! 0 refl (whole !)))) refl (pointer_typed p) $
    sets ! (of_opd ! (get ! refl)) refl (pointer_typed p) $
    sets ! (agg ! (and_then ! (get ! refl) (and_then ! (get ! refl) (no_more !)))) refl (typed Z p h fits) $
    returns ! (look_at ! 0 refl) $ free_all ! refl $ together V Z ! p h a x $
    suffices ! _ (ends_at 𝓛 f.ended stayed c y (stored p h) (of_parts V Z p a x) (tt, (tt, tt)) (tt, (tt, tt))) $
    says ! holds $
    nothing ! $ nothing ! $ fjoin ! $ nothing ! $ fjoin ! $ join ! $ nothing ! $ join ! $ done !)))))
