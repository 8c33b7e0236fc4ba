-- The pair that `into_raw_with_allocator` returns has what the raw box is to have.
use Rattle.raw_box.proofs.Walks.{◌≡◌, List, [], ◌∷◌, ◌++◌, refl, sym, ap, Goes-blank, one, says_two, proved_at}
use Rattle.raw_box.proofs.Walks.{a_type, dcons, dnil, inst_fn, Val, id⊢, flft, ftrue, WpFn, ‵, raw, ◌⊛◌, some, later}
use Rattle.raw_box.proofs.Walks.{prop, ◌$◌, ◌∵◌, !, qed, done, move, drop, split, split3, join, fjoin, pick, use1}
use Rattle.raw_box.proofs.Walks.{await, rewrite, regoal, suffices, stop, fld, of_opd, no_more, and_then, returns}
use Rattle.raw_box.proofs.Walks.{enter, alloc_all, pass_all, free_all, look_at, get, get_in, sets, lands_as, agg, sub}
use Rattle.raw_box.proofs.Walks.{whole, fact, tables, RawPtr, no, layout, bounded, Ptr, plain, nothing, only, heard}
use Rattle.raw_box.proofs.Walks.{Tuple, calls_at, Lasts, lasts, triple_of, framed, Stays, stay_dropped, walk_of}
use Rattle.raw_box.proofs.Walks.{ends_at}
use Rattle.raw_box.proofs.RawBoxes.{pointer_typed, box_typed, alloc_of, Raw, of_parts, owned, typed, apart, together}
use Rattle.std.proofs.BoxSteps.Form.{Bx, D, R, P, B}
use Rattle.std.specs.contracts.boxed.Box.into_raw_with_allocator as g
use Rattle.std.proofs.boxed.Box.into_raw_with_allocator.Met.{met}
use Rattle.raw_box.specs.contracts.raw_box.RawBox.of as f
use Rattle.raw_box.proofs.raw_box.RawBox.of.Statement.{statement}
use Rattle.raw_box.proofs.raw_box.RawBox.of.Code as code

pub of_spec : {M : Type 1} → statement M
of_spec 𝓤 𝓛 𝓜 𝓡 wired T A LT LA ghosts d dx dd allocator glue glued =
    let E : Bx = record { row = T; laws = LT; al = record { row = A; laws = LA; g = ghosts; d = d; drops = dd } } in
    let Z = alloc_of E in let args = bounded (a_type ∷ a_type ∷ []) (T, (A, tt)) (dcons d (dcons dx (dcons dd dnil))) in
    let fn = inst_fn args code.function in let 𝓣 = tables 𝓤 𝓛.H 𝓜 𝓡 𝓡.env in
    let Ge = g.ended T A ghosts d dd dx in
    let G = triple_of 𝓛 (g.signature T A ghosts d dd dx) (g.spec T A ghosts d dd dx 𝓛 𝓜.mem 𝓡.returns) in
    let g_met = met 𝓤 𝓛 𝓜 𝓡 (code.calls-std_alloc::boxed::Box::into_raw_with_allocator 𝓡.env wired)
    T A LT LA ghosts d dd dx allocator glued glue in
    let Fe = f.ended T A ghosts d dx dd in let c = f.clauses T A ghosts d dx dd 𝓛 𝓜.mem 𝓡.returns in
    let stayed : Stays Fe.signature.params Fe.kept = (stay_dropped (plain (λ _. B E)) no, tt) in
    proved_at 𝓛 Fe stayed c 𝓜 𝓡 (Goes-blank 𝓛 2 (plain (λ _. B E)) no (λ κs x w. tt), tt)
    (f.Key.name args) fn (code.unfolded 𝓤 𝓛.H 𝓜 𝓡 wired (T, (A, tt)) d dx dd) (λ y are.
    let κs = y.0.0 in let qs = y.0.1 in let v : D E = y.0.3.0 in let Post = (walk_of 𝓛 Fe stayed c).post y in
    let tokens = ‵ (flft κs.0 qs.0) ⊛ ‵ (flft κs.1.0 qs.1.0) ⊛ ‵ ftrue in let Pair = Tuple (RawPtr ∷ P E ∷ []) in
    -- the box has one machine value
    let has = one (layout (B E)) y.0.4.0 ((box_typed E 𝓛).typed v y.0.4.0 are.0) in
    let z : List Val → G.Ghost = λ us. ((κs, qs, tt, (v, tt), (us, tt)), tt) in
    qed 𝓛 (raw (G.pre (z y.0.4.0)) ∷ []) ∵
    rewrite ! 0 (λ (us : List Val). raw (G.pre (z us))) has.1 refl $
    regoal ! (λ (us : List Val). prop (WpFn 𝓤 𝓛.H 𝓣.C 𝓣.Λ fn (us ++ []) Post)) has.1 refl $
    enter ! _ _ _ _ _ $ alloc_all ! (λ l. pass_all ! refl (has.2, tt) $
    sets ! (of_opd ! (get ! refl)) refl has.2 $
    calls_at ! (framed 𝓤 𝓛.H 𝓜 𝓣) G g_met (z (has.0 ∷ [])) (and_then ! (get ! refl) (no_more !)) (λ u.
    use1 𝓛 (later (some (λ (r : Ptr × A.Denot). (tokens ⊛ ‵ (Pair.own_val r (u ∷ []))) ⊛
    some (λ (ws : Lasts Ge κs (v, tt)). ‵ (lasts Ge κs (v, tt) ws) ⊛ raw (fact 𝓤 (r.1 ≡ v.alloc))
    ⊛ ‵ (owned (R E) Z r.0 v.alloc v.value))))) (id⊢ 𝓤 _) $
    await ! tt $ pick ! (λ r. split ! $ split ! $ move ! (2 ∷ []) $ pick ! (λ ws. split3 ! $ drop ! $
    heard ! (r.1 ≡ v.alloc) (λ same.
    -- [what the box owned; the tokens; the pair]
    rewrite ! 0 (λ (a : A.Denot). ‵ (owned (R E) Z r.0 a v.value)) (sym same) refl $ move ! (2 ∷ 0 ∷ []) $ fjoin ! $
    use1 𝓛 (‵ ((Raw (R E) Z).own_val (of_parts (R E) Z r.0 r.1 v.value) (u ∷ []))) (id⊢ 𝓤 _) $
    apart (R E) Z ! (of_parts (R E) Z r.0 r.1 v.value) (u ∷ []) (λ h us fits. let good = typed Z r.0 h fits in
    lands_as ! (ap only us) refl good $
    sets ! (of_opd ! (get_in ! (fld ! refl (stop !)) (sub ! 0 refl (whole !)))) refl (pointer_typed r.0) $
    sets ! (of_opd ! (get_in ! (fld ! refl (stop !)) (sub ! 1 refl (whole !)))) refl fits $
    sets ! (of_opd ! (get ! refl)) refl fits $
    sets ! (agg ! (and_then ! (get ! refl) (and_then ! (get ! refl) (no_more !)))) refl good $
    returns ! (look_at ! 0 refl) $ free_all ! refl $ together (R E) Z ! r.0 h r.1 v.value $
    -- [the raw box; the tokens]
    suffices ! _ (ends_at 𝓛 Fe stayed c y _ (of_parts (R E) Z r.0 r.1 v.value) ((tt, (tt, tt)), tt) (tt, tt)) $
    says_two ! (refl, same) $
    nothing ! $ nothing ! $ fjoin ! $ join ! $ move ! (1 ∷ 0 ∷ []) $ join ! $ done !)))))))
