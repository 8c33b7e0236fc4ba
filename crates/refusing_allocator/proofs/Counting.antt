-- `is_next_granted` at a call: what it is handed, a `&` to the grants and a token of its lifetime, and what a caller
-- has of it, a truth value and the token. Assumes `Logic`.
use Rattle.std.proofs.Common.{◌≡◌, ℕ, Bool, List, [], ◌∷◌, refl, ap}
use seplogic.Ra.Ura.{Ura}
use mir.Val.{Val, vbool, vptr}
use base.Logic.{SProp, ent, sep, ex, guard, id⊢}
use base.Fml.{Lft, Share, ftrue, fsep, flft}
use prog.Memory.{Memory}
use prog.Routine.{Routine}
use types.Logic.{Logic, sem}
use contract.Monad.{Fun}
use types.Kit.{‵, raw, ◌⊛◌, some, later, ◌$◌, ◌∵◌, !, qed, move, keep, use1, split, join, pick, fjoin, feq_i, feq_l}
use types.Kit.{show, check, await, updating, now as at_once, done}
use denote.Memory.{hidden_shr}
use denote.Builtin.{bool}
use denote.Steps.{nothing, only}
use denote.Triple.Statement.{Contract}
use denote.Triple.Spec.{triple_of}
use Rattle.refusing_allocator.specs.contracts.grants.Grants as grants
use Rattle.refusing_allocator.specs.contracts.grants.Grants.is_next_granted as next

module _ {M : Type 1} {𝓤 : Ura M} (𝓛 : Logic 𝓤) (at_mem : Memory → SProp 𝓤) (run : Routine → Fun 𝓤) where
  abbrev pub Next : Contract 𝓤
  Next = triple_of 𝓛 next.signature (next.spec 𝓛 at_mem run)

  abbrev pub at_next : Lft → Share → ℕ × ℕ → grants.the_row.Denot → Next.Ghost
  at_next κ q c g = (((κ, tt), (q, tt), tt, (record { ref_ptr = c; now = g }, tt), (vptr c.0 c.1 ∷ [], tt)), tt)

module _ {M : Type 1} {𝓤 : Ura M} (𝓛 : Logic 𝓤) (at_mem : Memory → SProp 𝓤) (run : Routine → Fun 𝓤) (κ : Lft)
    (q : Share) (c : ℕ × ℕ) (g : grants.the_row.Denot) where
  open 𝓛 use {H, A}

  pub Next-goes : ent 𝓤 (sep 𝓤 (sem 𝓛 (hidden_shr grants.the_row κ g c.0 c.1)) (A.lft κ q))
      ((Next 𝓛 at_mem run).pre (at_next 𝓛 at_mem run κ q c g))
  Next-goes =
      qed 𝓛 (‵ (hidden_shr grants.the_row κ g c.0 c.1) ∷ ‵ (flft κ q) ∷ []) ∵ feq_i ! (List Val) (vptr c.0 c.1 ∷ [])
      (vptr c.0 c.1 ∷ []) refl $ fjoin ! $
      nothing ! $ move ! (1 ∷ []) $ fjoin ! $ nothing ! $ move ! (2 ∷ []) $ join ! $ join ! $ nothing ! $ move !
      (1 ∷ []) $ done !

  pub Next-gives : (v : Val)
      → ent 𝓤 ((Next 𝓛 at_mem run).post (at_next 𝓛 at_mem run κ q c g) v)
      (H.⇛ (ex 𝓤 (λ (t : Bool). guard 𝓤 (v ≡ vbool t) (A.lft κ q))))
  Next-gives v =
      qed 𝓛 (raw ((Next 𝓛 at_mem run).post (at_next 𝓛 at_mem run κ q c g) v) ∷ []) ∵ updating ! $
      use1 𝓛 (later (some (λ (t : Bool). ((‵ (flft κ q) ⊛ ‵ ftrue) ⊛ ‵ (bool.own_val t (v ∷ []))) ⊛ some
      (λ (ws : Unit {0} × Unit {0}). ‵ (fsep ftrue ftrue) ⊛ ‵ ftrue)))) (id⊢ 𝓤 _) $ await ! tt $ pick ! (λ t.
      split ! $ split ! $ move ! (1 ∷ []) $ feq_l ! (λ e. split ! $ at_once ! $
      show ! (λ (s : Bool). guard 𝓤 (v ≡ vbool s) (A.lft κ q)) t $ check ! (ap only e) $ keep ! (0 ∷ []) $ done !))
