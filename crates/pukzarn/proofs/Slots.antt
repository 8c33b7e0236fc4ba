-- A slot by value. Assumes `Logic`. Nothing here depends on what an end is.
--     V, Z            what a slot holds, and the allocator of its block
--     S, slot_of      the type of a slot, and one of them
--     word            its machine value, which is of its type: word_typed
--     held_by         what a full slot holds
--     opened          a full slot is what it owns, at one machine value
--     closed_over     what a slot is to own makes it
use Rattle.raw_box.proofs.Walks.{◌≡◌, true, List, [], ◌∷◌, ◌++◌, refl, Val, RawPtr, Ptr, ptr_val, RattleType, nothing}
use Rattle.raw_box.proofs.Walks.{‵, ◌$◌, drop, fsplit, fjoin, feq_i, rewrite}
use Rattle.raw_box.proofs.RawBoxes.{pointer_typed}
use Rattle.std.proofs.Common.{◌∙◌, T, sym, subst}
use Rattle.std.specs.Prelude.{Option, None, Some, is_some}
use seplogic.Ra.Ura.{Ura}
use mir.Syntax.{ty_ptr, ty_struct, tcons, tnil, given}
use mir.Val.{vstruct, vcons, vnil, of_list, has_ty, WT}
use types.Logic.{Logic}
use types.Kit.{Item, Goal, Seq, Step, step, fpick, fpack, feq_l}
use denote.RattleType.{Valss}
use denote.Struct.Struct.{within}
use denote.Struct.Owning.{shape}
use Rattle.std.proofs.alloc.Calls.{Al}
use Rattle.std.proofs.ResultValues.{and_tt}
use Rattle.std.specs.Box.Ownership.{box_owns}
use Rattle.std.specs.contracts.alloc.Global as heap
use Rattle.std.proofs.alloc.Global.TheLaws as heap_laws
use Rattle.std.specs.contracts.impls.GlobalAllocator.TheImpl.{ghosts}
use Rattle.pukzarn.specs.Slot.{slot_owns, right_to_free}
use Rattle.pukzarn.specs.contracts.handle_value.HandleValue as end
use Rattle.pukzarn.specs.contracts.slot.Slot as slot

abbrev pub V : RattleType
V = end.the_row

abbrev pub Z : Al
Z = record { row = heap.the_row; laws = heap_laws.the_row_laws; g = ghosts; d = given 0; drops = given 0 }

abbrev pub S : RattleType
S = slot.the_row

abbrev pub slot_of : Ptr → Option V.Denot → S.Denot
slot_of p held = record { at = p; value = held }

abbrev pub word : Ptr → Val
word p = vstruct (vcons (ptr_val p) vnil)

pub word_typed : (p : Ptr) → T (has_ty (ty_struct [] (tcons ty_ptr tnil)) (word p)) × WT (word p)
word_typed p = (and_tt (has_ty ty_ptr (ptr_val p)) (pointer_typed p).0, ((pointer_typed p).1, tt))

pub held_by : (held : Option V.Denot) → is_some held ≡ true → (x : V.Denot) × (held ≡ Some x)
held_by None full = absurd (subst (λ b. T b) (sym full) tt)
held_by (Some x) full = (x, refl)

module _ {M : Type 1} {𝓤 : Ura M} {𝓛 : Logic 𝓤} {K : Type 0} {Γ : List (Item 𝓤)} {G : Goal 𝓤 𝓛.H} where
  pub opened : K → (d : S.Denot) (vs : List Val) → is_some d.value ≡ true
      → ((x : V.Denot) → d.value ≡ Some x → vs ≡ word d.at ∷ []
      → Seq K 𝓛 (‵ (box_owns right_to_free V d.at x) ∷ Γ) G)
      → Seq K 𝓛 (‵ (S.own_val d vs) ∷ Γ) G
  opened t d vs full next =
      fsplit t $ fpick t (λ vss. fsplit t $ feq_l t (λ whole. fsplit t $ feq_l t (λ at. drop t $
      let found = held_by d.value full in
      rewrite t 0 (λ (held : Option V.Denot). ‵ (slot_owns V d.at held)) found.1 refl $
      next found.0 found.1 (whole ∙ (λ i. vstruct (of_list (at i ++ [])) ∷ [])))))

  pub closed_over : K → (p : Ptr) (held : Option V.Denot)
      → Step K 𝓛 (‵ (S.own_val (slot_of p held) (word p ∷ [])) ∷ Γ) G (‵ (slot_owns V p held) ∷ Γ) G
  closed_over t p held = step (λ s.
      nothing t $ feq_i t (List Val) (ptr_val p ∷ []) (ptr_val p ∷ []) refl $ fjoin t $
      feq_i t (List Val) (word p ∷ []) (word p ∷ []) refl $ fjoin t $
      fpack t (Valss (RawPtr ∷ [])) (within (shape slot.the_type) (p, tt) (word p ∷ [])) (ptr_val p ∷ [], tt) $
      fjoin t $ s)
