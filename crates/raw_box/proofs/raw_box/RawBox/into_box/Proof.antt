-- What a raw box owns is what `from_raw` asks for.
use Rattle.raw_box.proofs.Walks.{◌≡◌, List, [], ◌∷◌, ◌++◌, refl, Goes-blank, after, says_two, proved_at}
use Rattle.raw_box.proofs.Walks.{a_type, dcons, dnil, inst_fn, Val, id⊢, flft, ftrue, WpFn, ‵, raw, ◌⊛◌, some, later}
use Rattle.raw_box.proofs.Walks.{prop, at_ret, ◌$◌, ◌∵◌, !, qed, done, move, drop, split, split3, join, fsplit, fjoin}
use Rattle.raw_box.proofs.Walks.{pick, use1, await, regoal, feq_i, suffices, stop, fld, of_opd, no_more, and_then}
use Rattle.raw_box.proofs.Walks.{first, blocks, exec, returns, enter, alloc_all, pass_all, free_all, look_at, get}
use Rattle.raw_box.proofs.Walks.{get_in, sets, lands_last, env, sub, whole, ◌⊑◌, fact, tables, no, Is, shows, bounded, owns}
use Rattle.raw_box.proofs.Walks.{ptr_val, plain, nothing, heard, peeks, calls_at_last, Lasts, lasts, triple_of, framed}
use Rattle.raw_box.proofs.Walks.{Stays, stay_dropped, walk_of, ends_at}
use Rattle.raw_box.proofs.RawBoxes.{pointer_typed, box_typed, alloc_of, Raw, typed, apart}
use Rattle.std.proofs.BoxSteps.Form.{Bx, D, R, B}
use Rattle.std.specs.contracts.boxed.Box.from_raw as g
use Rattle.std.proofs.boxed.Box.from_raw.Met.{met}
use Rattle.raw_box.specs.contracts.raw_box.RawBox.into_box as f
use Rattle.raw_box.proofs.raw_box.RawBox.into_box.Statement.{statement}
use Rattle.raw_box.proofs.raw_box.RawBox.into_box.Code as code

pub into_box_spec : {M : Type 1} → statement M
into_box_spec 𝓤 𝓛 𝓜 𝓡 wired T A LT LA ghosts d dx dd allocator glue glued =
    let E : Bx = record { row = T; laws = LT; al = record { row = A; laws = LA; g = ghosts; d = d; drops = dd } } in
    let Z = alloc_of E in let args = bounded (a_type ∷ a_type ∷ []) (T, (A, tt)) (dcons d (dcons dx (dcons dd dnil))) in
    let fn = inst_fn args code.function in let 𝓣 = tables 𝓤 𝓛.H 𝓜 𝓡 𝓡.env in
    let Ge = g.ended T A ghosts d dd in
    let G = triple_of 𝓛 (g.signature T A ghosts d dd) (g.spec T A ghosts d dd 𝓛 𝓜.mem 𝓡.returns) in
    let g_met = met 𝓤 𝓛 𝓜 𝓡 (code.calls-std_alloc::boxed::Box::from_raw 𝓡.env wired)
    T A LT LA ghosts d dd allocator glued in
    let Fe = f.ended T A ghosts d dx dd in let c = f.clauses T A ghosts d dx dd 𝓛 𝓜.mem 𝓡.returns in
    let stayed : Stays Fe.signature.params Fe.kept = (stay_dropped (plain (λ _. Raw (R E) Z)) no, tt) in
    proved_at 𝓛 Fe stayed c 𝓜 𝓡 (Goes-blank 𝓛 2 (plain (λ _. Raw (R E) Z)) no (λ κs x w. tt), tt)
    (f.Key.name args) fn (code.unfolded 𝓤 𝓛.H 𝓜 𝓡 wired (T, (A, tt)) d dx dd) (λ y are.
    let κs = y.0.0 in let qs = y.0.1 in let v = y.0.3.0 in let Post = (walk_of 𝓛 Fe stayed c).post y in
    let tokens = ‵ (flft κs.0 qs.0) ⊛ ‵ (flft κs.1.0 qs.1.0) ⊛ ‵ ftrue in
    let T_lives = raw (fact 𝓤 (κs.0 ⊑ T.lives)) in let A_lives = raw (fact 𝓤 (κs.1.0 ⊑ A.lives)) in
    qed 𝓛 ((tokens ⊛ ‵ (owns (Raw (R E) Z ∷ []) (v, tt) (y.0.4.0, tt))) ∷ (T_lives ⊛ A_lives ⊛ ‵ ftrue) ∷ []) ∵
    split ! $ move ! (1 ∷ []) $ fsplit ! $ apart (R E) Z ! v y.0.4.0 (λ h is fits.
    regoal ! (λ (us : List Val). prop (WpFn 𝓤 𝓛.H 𝓣.C 𝓣.Λ fn (us ++ []) Post)) is refl $
    let pointer = ptr_val v.at ∷ [] in
    let z : G.Ghost = ((κs, qs, tt, (v.alloc, (v.at, tt)), (h ∷ [], (pointer, tt))), v.value) in
    -- [what it owned; the allocator; nothing; the tokens; what lives]
    move ! (4 ∷ []) $ split3 ! $ move ! (2 ∷ []) $ drop ! $ move ! (1 ∷ 2 ∷ []) $ join ! $
    move ! (1 ∷ 0 ∷ []) $ join ! $
    -- [what `from_raw` requires; the allocator; nothing; the tokens]
    move ! (2 ∷ []) $ feq_i ! (List Val) pointer pointer refl $ fjoin ! $ move ! (2 ∷ 0 ∷ []) $ fjoin ! $
    move ! (2 ∷ 0 ∷ []) $ join ! $ join ! $ use1 𝓛 (raw (G.pre z)) (id⊢ 𝓤 _) $
    enter ! _ _ _ _ _ $ alloc_all ! (λ l. pass_all ! refl (typed Z v.at h fits, tt) $
    sets ! (of_opd ! (get_in ! (fld ! refl (stop !)) (sub ! 0 refl (whole !)))) refl (pointer_typed v.at) $
    sets ! (of_opd ! (get_in ! (fld ! refl (stop !)) (sub ! 1 refl (whole !)))) refl fits $
    first ! $ blocks ! $ sets ! (of_opd ! (get ! refl)) refl fits $
    calls_at_last ! (framed 𝓤 𝓛.H 𝓜 𝓣) G g_met z (and_then ! (get ! refl) (and_then ! (get ! refl) (no_more !))) (λ u.
    use1 𝓛 (later (some (λ (r : D E). (tokens ⊛ ‵ ((B E).own_val r (u ∷ []))) ⊛
    some (λ (ws : Lasts Ge κs z.0.3). ‵ (lasts Ge κs z.0.3 ws) ⊛ raw (fact 𝓤 (r.value ≡ v.value))
    ⊛ raw (fact 𝓤 (r.alloc ≡ v.alloc)))))) (id⊢ 𝓤 _) $
    await ! tt $ pick ! (λ r. split ! $ split ! $ move ! (2 ∷ []) $ pick ! (λ ws. split3 ! $ drop ! $
    heard ! (r.value ≡ v.value) (λ value. heard ! (r.alloc ≡ v.alloc) (λ alloc. move ! (1 ∷ []) $
    -- [the box; the tokens]
    peeks ! (B E) (Is (B E)) (shows 𝓛 (B E)) r (u ∷ []) (λ its. let good = ((box_typed E 𝓛).typed r (u ∷ []) its).0 in
    lands_last ! refl good $ exec ! 𝓣.C 𝓣.Λ (env fn.locals l) (after 3 fn.body) (at_ret (env fn.locals l) Post) $
    sets ! (of_opd ! (get ! refl)) refl good $ returns ! (look_at ! 0 refl) $ free_all ! refl $
    suffices ! _ (ends_at 𝓛 Fe stayed c y u r ((tt, (tt, tt)), tt) (tt, tt)) $ says_two ! (value, alloc) $
    nothing ! $ nothing ! $ fjoin ! $ join ! $ move ! (1 ∷ 0 ∷ []) $ join ! $ done !)))))))))
