-- A claim leaves a row claimed or reaped, and in no other state.
use Rattle.std.proofs.Common.{◌≡◌, ◌∙◌, ◌∷◌, [], ℕ, Bool, true, false, List, refl, ap, sym}
use Rattle.stop_history.specs.declared.state.State.{State}
use Rattle.stop_history.specs.declared.state.State.TheVariants as state
use Rattle.stop_history.specs.Event as event
use Rattle.stop_history.specs.Event.{Event}
use Rattle.stop_history.specs.State.{claimed_state}

abbrev pub is_left_by_claim : State → Bool
is_left_by_claim (state.Claimed number tracer) = true
is_left_by_claim state.Reaped = true
is_left_by_claim other = false

claim_leaves : (number tracer : ℕ) (es : List Event) → is_left_by_claim (claimed_state number tracer es) ≡ true
claim_leaves number tracer [] = refl
claim_leaves number tracer (event.Publish row n stop ∷ es) = refl
claim_leaves number tracer (event.Claim row n other ∷ es) = refl
claim_leaves number tracer (event.Resume row n how other ∷ es) = refl
claim_leaves number tracer (event.Exit row death ∷ es) = refl

pub not_by_claim : {P : Type 0} (number tracer : ℕ) (es : List Event) (at : State)
    → claimed_state number tracer es ≡ at → is_left_by_claim at ≡ false → P
not_by_claim number tracer es at is none =
    let clash : true ≡ false = sym (claim_leaves number tracer es) ∙ ap is_left_by_claim is ∙ none in cc
