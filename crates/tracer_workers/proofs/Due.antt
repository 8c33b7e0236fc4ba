-- What a row's phase tells of its stops in a driven run: which restart it takes up, and whether its trace is whole.
use Rattle.std.proofs.Common.{refl, ◌≡◌, ◌∷◌, [], ℕ, Bool, true, false, List, ◌∙◌, sym, ap}
use Rattle.stop_history.specs.declared.phase.Phase.{Phase}
use Rattle.stop_history.specs.declared.phase.Phase.TheVariants as phase
use Rattle.stop_history.specs.declared.state.State.TheVariants as state
use Rattle.stop_history.specs.Event as event
use Rattle.stop_history.specs.Event.{Event}
use Rattle.stop_history.specs.State.{claimed_state, is_waitable, number_in, state_in}
use Rattle.stop_history.specs.Word.{claimed_phase, phase_in}
use Rattle.stop_history.proofs.States.{claim_is_none}
use Rattle.trace_script.specs.StopTrace.{Policy, Turn, first_restart, how_after}
use Rattle.tracer_workers.proofs.AfterClaim.{not_by_claim}
use Rattle.tracer_workers.specs.Driven.{restart_at}

-- at least one stop was made
abbrev pub IsMade : List Turn → Type 0
IsMade [] = ⊥
IsMade (turn ∷ turns) = Unit {0}

abbrev pub IsDueAt : Policy → Type 0 → List Turn → Phase → Type 0
IsDueAt policy Whole turns phase.Fresh = turns ≡ []
IsDueAt policy Whole turns (phase.Resumed how) = how ≡ how_after policy first_restart turns
IsDueAt policy Whole turns phase.Active = Unit {0}
IsDueAt policy Whole turns (phase.Stopped status) = IsMade turns
IsDueAt policy Whole turns (phase.Claimed tracer) = IsMade turns
IsDueAt policy Whole turns (phase.Dead status) = Whole
IsDueAt policy Whole turns phase.Reaped = Whole

-- ---- a running row

-- it takes up the policy's restart for its last stop
pub runs_due : (policy : Policy) (Whole : Type 0) (turns : List Turn) (born : Bool) (es : List Event)
    → state_in born es ≡ state.Running
    → IsDueAt policy Whole turns (phase_in es) → restart_at (phase_in es) ≡ how_after policy first_restart turns
runs_due policy Whole turns born [] is due = ap (how_after policy first_restart) (sym due)
runs_due policy Whole turns born (event.Publish row number stop ∷ es) is due = cc
runs_due policy Whole turns born (event.Claim row number tracer ∷ es) is due =
    not_by_claim (number_in es) tracer es state.Running is refl
runs_due policy Whole turns born (event.Resume row number how tracer ∷ es) is due = due
runs_due policy Whole turns born (event.Exit row death ∷ es) is due = cc

-- ---- a row that has something to report

pub claimed_due : (policy : Policy) (Whole : Type 0) (turns : List Turn) (born : Bool) (tracer : ℕ) (es : List Event)
    → is_waitable (state_in born es) ≡ true
    → IsDueAt policy Whole turns (phase_in es) → IsDueAt policy Whole turns (claimed_phase tracer es)
claimed_due policy Whole turns true tracer [] is due = cc
claimed_due policy Whole turns false tracer [] is due = cc
claimed_due policy Whole turns born tracer (event.Publish row number stop ∷ es) is due = due
claimed_due policy Whole turns born tracer (event.Claim row number other ∷ es) is due =
    let clash : false ≡ true = sym (claim_is_none (number_in es) other es) ∙ is in cc
claimed_due policy Whole turns born tracer (event.Resume row number how other ∷ es) is due = cc
claimed_due policy Whole turns born tracer (event.Exit row death ∷ es) is due = due

-- ---- a claimed row

after_claim : (policy : Policy) (Whole : Type 0) (turns : List Turn) (held number tracer other : ℕ) (es : List Event)
    → claimed_state held other es ≡ state.Claimed number tracer
    → IsDueAt policy Whole turns (claimed_phase other es) → IsMade turns
after_claim policy Whole turns held number tracer other [] is due = due
after_claim policy Whole turns held number tracer other (event.Publish row n stop ∷ es) is due = due
after_claim policy Whole turns held number tracer other (event.Claim row n third ∷ es) is due = due
after_claim policy Whole turns held number tracer other (event.Resume row n how third ∷ es) is due = due
after_claim policy Whole turns held number tracer other (event.Exit row death ∷ es) is due = cc

pub holds_made : (policy : Policy) (Whole : Type 0) (turns : List Turn) (born : Bool) (number tracer : ℕ)
    (es : List Event) → state_in born es ≡ state.Claimed number tracer
    → IsDueAt policy Whole turns (phase_in es) → IsMade turns
holds_made policy Whole turns true number tracer [] is due = cc
holds_made policy Whole turns false number tracer [] is due = cc
holds_made policy Whole turns born number tracer (event.Publish row n stop ∷ es) is due = cc
holds_made policy Whole turns born number tracer (event.Claim row n other ∷ es) is due =
    after_claim policy Whole turns (number_in es) number tracer other es is due
holds_made policy Whole turns born number tracer (event.Resume row n how other ∷ es) is due = cc
holds_made policy Whole turns born number tracer (event.Exit row death ∷ es) is due = cc

-- ---- a reaped row

after_reap : (policy : Policy) (Whole : Type 0) (turns : List Turn) (held other : ℕ) (es : List Event)
    → claimed_state held other es ≡ state.Reaped
    → IsDueAt policy Whole turns (claimed_phase other es) → Whole
after_reap policy Whole turns held other [] is due = cc
after_reap policy Whole turns held other (event.Publish row n stop ∷ es) is due = cc
after_reap policy Whole turns held other (event.Claim row n third ∷ es) is due = cc
after_reap policy Whole turns held other (event.Resume row n how third ∷ es) is due = cc
after_reap policy Whole turns held other (event.Exit row death ∷ es) is due = due

pub reaped_whole : (policy : Policy) (Whole : Type 0) (turns : List Turn) (born : Bool) (es : List Event)
    → state_in born es ≡ state.Reaped
    → IsDueAt policy Whole turns (phase_in es) → Whole
reaped_whole policy Whole turns true [] is due = cc
reaped_whole policy Whole turns false [] is due = cc
reaped_whole policy Whole turns born (event.Publish row number stop ∷ es) is due = cc
reaped_whole policy Whole turns born (event.Claim row number tracer ∷ es) is due =
    after_reap policy Whole turns (number_in es) tracer es is due
reaped_whole policy Whole turns born (event.Resume row number how tracer ∷ es) is due = cc
reaped_whole policy Whole turns born (event.Exit row death ∷ es) is due = cc
