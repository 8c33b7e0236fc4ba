-- A raw box by value, of a value of the type V by an allocator Z: type parameters, or types. Assumes `Logic`.
--     Raw, of_parts   the type of a raw box, and one of them
--     owned           what it owns beside its allocator: the value, and the right to free its block
--     stored, typed   its machine value, which is of its type;  pointer_typed: so is a pointer's
--     alloc_of        a box's allocator
--     box_typed       what a `Box` has for a machine value is of its type
--     apart           a raw box is [what it owns; its allocator], at one machine value
--     together        these make a raw box
use Rattle.std.proofs.Common.{◌≡◌, ◌&&◌, T, true, lit<, List, [], ◌∷◌, ◌++◌, refl, ◌∙◌}
use seplogic.Ra.Ura.{Ura}
use mir.Syntax.{ty_ptr}
use mir.Val.{Val, vstruct, vcons, vnil, of_list, has_ty, WT}
use base.Fml.{Fml}
use types.Logic.{Logic}
use types.Kit.{Item, Goal, Seq, Step, step, ‵, ◌$◌, move, drop, fsplit, fjoin, fpick, fpack, feq_i, feq_l}
use denote.RattleType.{RattleType, Valss}
use denote.Builtin.{RawPtr}
use denote.Laws.{Lawful}
use denote.Param.Laws.{param_laws}
use denote.RawPtr.{Ptr, block_ptr, null_ptr, ptr_val}
use denote.Steps.{nothing}
use denote.Struct.Struct.{within}
use denote.Struct.Owning.{shape}
use Rattle.std.proofs.alloc.Calls.{Al, α, Fits, token, handle_tells}
use Rattle.std.specs.Box.Ownership.{box_owns}
use Rattle.std.proofs.BoxSteps.Form.{Bx, R, P, B}
use Rattle.std.proofs.ResultValues.{and_tt}
use Rattle.std.proofs.boxed.Box.TheLaws as box_laws
use Rattle.raw_box.specs.contracts.raw_box.RawBox as raw_box

pub pointer_typed : (p : Ptr) → T (has_ty ty_ptr (ptr_val p)) × WT (ptr_val p)
pointer_typed (block_ptr b o) = (tt, tt)
pointer_typed null_ptr = (tt, record { fits = lit< tt })

abbrev pub stored : Ptr → Val → Val
stored p h = vstruct (vcons (ptr_val p) (vcons h vnil))

module _ (V : RattleType) (Z : Al) where
  abbrev pub Raw : RattleType
  Raw = raw_box.the_row V Z.row Z.g

  abbrev pub of_parts : Ptr → Z.row.Denot → V.Denot → Raw.Denot
  of_parts p a x = record { at = p; alloc = a; value = x }

  abbrev pub owned : Ptr → Z.row.Denot → V.Denot → Fml
  owned p a x = box_owns (token Z a) V p x

pub typed : (Z : Al) (p : Ptr) (h : Val) → Fits Z h
    → T (has_ty ty_ptr (ptr_val p) && (has_ty (α Z) h && true)) × WT (stored p h)
typed Z (block_ptr b o) h fits = (and_tt (has_ty (α Z) h) fits.0, (tt, (fits.1, tt)))
typed Z null_ptr h fits = (and_tt (has_ty (α Z) h) fits.0, ((pointer_typed null_ptr).1, (fits.1, tt)))

-- a box's allocator, as the type parameter that it is
abbrev pub alloc_of : Bx → Al
alloc_of E =
    record { row = P E; laws = param_laws 1 E.al.row E.al.laws; g = E.al.g; d = E.al.d; drops = E.al.drops }

pub box_typed : (E : Bx) {M : Type 1} {𝓤 : Ura M} (𝓛 : Logic 𝓤) → Lawful 𝓛 (B E)
box_typed E 𝓛 =
    (box_laws.the_row_laws (R E) (P E) E.al.g (param_laws 0 E.row E.laws) (alloc_of E).laws).lawful 𝓛

module _ (V : RattleType) (Z : Al) {M : Type 1} {𝓤 : Ura M} {𝓛 : Logic 𝓤} {K : Type 0} {Γ : List (Item 𝓤)}
    {G : Goal 𝓤 𝓛.H} where
  pub apart : K → (d : (Raw V Z).Denot) (vs : List Val)
      → ((h : Val) → vs ≡ stored d.at h ∷ [] → Fits Z h
      → Seq K 𝓛 (‵ (owned V Z d.at d.alloc d.value) ∷ ‵ (Z.row.own_val d.alloc (h ∷ [])) ∷ Γ) G)
      → Seq K 𝓛 (‵ ((Raw V Z).own_val d vs) ∷ Γ) G
  apart t d vs next =
      fsplit t $ fpick t (λ vss. fsplit t $ feq_l t (λ whole. fsplit t $ feq_l t (λ at. fsplit t $
      handle_tells Z t d.alloc vss.1.0 (λ h alloc fits. move t (1 ∷ []) $ drop t $ move t (1 ∷ []) $
      next h (whole ∙ (λ i. vstruct (of_list (at i ++ (alloc i ++ []))) ∷ [])) fits))))

  pub together : K → (p : Ptr) (h : Val) (a : Z.row.Denot) (x : V.Denot)
      → Step K 𝓛 (‵ ((Raw V Z).own_val (of_parts V Z p a x) (stored p h ∷ [])) ∷ Γ) G
      (‵ (owned V Z p a x) ∷ ‵ (Z.row.own_val a (h ∷ [])) ∷ Γ) G
  together t p h a x = step (λ s.
      nothing t $ move t (2 ∷ 0 ∷ []) $ fjoin t $ feq_i t (List Val) (ptr_val p ∷ []) (ptr_val p ∷ []) refl $ fjoin t $
      feq_i t (List Val) (stored p h ∷ []) (stored p h ∷ []) refl $ fjoin t $
      fpack t (Valss (RawPtr ∷ Z.row ∷ []))
      (within (shape (raw_box.the_type V Z.row Z.g)) (p, (a, tt)) (stored p h ∷ []))
      (ptr_val p ∷ [], (h ∷ [], tt)) $
      fjoin t $ s)
