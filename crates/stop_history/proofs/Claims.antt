-- A legal history has at most one claim of the stop of each number.
use Rattle.std.proofs.Common.{refl, ◌≡◌, ◌+◌, ◌<◌, ◌≤◌, ◌≢◌, ◌∷◌, ◌++◌, [], ℕ, Bool, true, false, List}
use Rattle.std.proofs.Common.{arith, ◌∙◌, sym}
use Rattle.std.proofs.Common.{ap, inl, inr, cond, eqb, eqb-true}
use Rattle.std.proofs.lemmas.Bool.{cases_Bool}
use Rattle.stop_history.specs.declared.roster.Row.{Row}
use Rattle.stop_history.specs.Event as event
use Rattle.stop_history.specs.Event.{Event, History, events_of, subject}
use Rattle.stop_history.specs.State.{is_born, is_waitable, last_number, number_in, state_in}
use Rattle.stop_history.specs.History.{Fits, IsLegal, stop_claims_in}
use Rattle.stop_history.proofs.States.{claim_is_none, fits_within, state_within}

-- a legal history stays legal when its newest events are dropped
pub legal_end : (rows : List Row) (more h : History) → IsLegal rows (more ++ h) → IsLegal rows h
legal_end rows [] h legal = legal
legal_end rows (e ∷ more) h legal = legal_end rows more h legal.1

-- of one row's events: the newest is a publish or a death
abbrev pub IsWaitableNewest : List Event → Type 0
IsWaitableNewest (event.Publish row number stop ∷ es) = Unit {0}
IsWaitableNewest (event.Exit row death ∷ es) = Unit {0}
IsWaitableNewest es = ⊥

-- of one row's events: each publish is numbered one above the last, each claim is of the last number and comes right
-- after a publish or a death
abbrev pub IsNumbered : List Event → Type 0
IsNumbered [] = Unit {0}
IsNumbered (event.Publish row number stop ∷ es) = (number ≡ number_in es + 1) × IsNumbered es
IsNumbered (event.Claim row number tracer ∷ es) = (number ≡ number_in es) × (IsWaitableNewest es × IsNumbered es)
IsNumbered (event.Resume row number how tracer ∷ es) = IsNumbered es
IsNumbered (event.Exit row death ∷ es) = IsNumbered es

with_event : (b : Bool) (e : Event) (es : List Event) → IsNumbered es → (b ≡ true → IsNumbered (e ∷ es))
    → IsNumbered (cond b (e ∷ es) es)
with_event true e es before with = with refl
with_event false e es before with = before

waitable_newest : (born : Bool) (es : List Event) → is_waitable (state_in born es) ≡ true → IsWaitableNewest es
waitable_newest true [] waits = cc
waitable_newest false [] waits = cc
waitable_newest born (event.Publish row number stop ∷ es) waits = tt
waitable_newest born (event.Claim row number tracer ∷ es) waits =
    let clash : true ≡ false = sym waits ∙ claim_is_none (number_in es) tracer es in cc
waitable_newest born (event.Resume row number how tracer ∷ es) waits = cc
waitable_newest born (event.Exit row death ∷ es) waits = tt

claim_numbered : (rows : List Row) (h : History) (at number tracer row : ℕ)
    → Fits rows h (event.Claim at number tracer) → at ≡ row
    → (number ≡ number_in (events_of row h)) × IsWaitableNewest (events_of row h)
claim_numbered rows h at number tracer row fits here =
    let within = fits_within rows h (event.Claim at number tracer) fits in
    let waits : is_waitable (state_in (is_born rows h at) (events_of at h)) ≡ true =
    ap is_waitable (sym (state_within rows h at within)) ∙ fits.0 in (
      fits.1 ∙ ap (last_number h) here,
      waitable_newest (is_born rows h at) (events_of row h)
          (ap (λ t. is_waitable (state_in (is_born rows h at) (events_of t h))) (sym here) ∙ waits),
    )

pub numbered : (rows : List Row) (h : History) → IsLegal rows h → (row : ℕ) → IsNumbered (events_of row h)
numbered rows [] legal row = tt
numbered rows (event.Publish at number stop ∷ h) legal row =
    with_event (eqb at row) (event.Publish at number stop) (events_of row h) (numbered rows h legal.1 row)
    (λ here. (legal.0.1 ∙ ap (λ t. last_number h t + 1) (eqb-true at row here), numbered rows h legal.1 row))
numbered rows (event.Claim at number tracer ∷ h) legal row =
    with_event (eqb at row) (event.Claim at number tracer) (events_of row h) (numbered rows h legal.1 row)
    (λ here. let claim = claim_numbered rows h at number tracer row legal.0 (eqb-true at row here) in
    (claim.0, (claim.1, numbered rows h legal.1 row)))
numbered rows (event.Resume at number how tracer ∷ h) legal row =
    with_event (eqb at row) (event.Resume at number how tracer) (events_of row h) (numbered rows h legal.1 row)
    (λ here. numbered rows h legal.1 row)
numbered rows (event.Exit at death ∷ h) legal row =
    with_event (eqb at row) (event.Exit at death) (events_of row h) (numbered rows h legal.1 row)
    (λ here. numbered rows h legal.1 row)

-- a claim of another number is not counted
other_number : (n number : ℕ) (es : List Event) → n ≢ number
    → stop_claims_in number (event.Claim 0 n 0 ∷ es) ≡ stop_claims_in number es
other_number n number es other =
    elim (cases_Bool (eqb n number)) [ inl same ↦ absurd (other (eqb-true n number same)) | inr differs ↦ rw differs (omega arith) ]

-- no claim of a stop that is still to come
none_above : (number : ℕ) (es : List Event) → IsNumbered es → number_in es < number → stop_claims_in number es ≡ 0
none_above number [] is above = refl
none_above number (event.Publish row n stop ∷ es) is above =
    let before = is.0 in none_above number es is.1 (omega arith)
none_above number (event.Claim row n tracer ∷ es) is above =
    let last = is.0 in other_number n number es (λ same. let at : n ≡ number = same in omega arith)
    ∙ none_above number es is.1.1 above
none_above number (event.Resume row n how tracer ∷ es) is above = none_above number es is above
none_above number (event.Exit row death ∷ es) is above = none_above number es is above

-- one more claim, right after a publish or a death
claimed_again : (number n : ℕ) (es : List Event) → n ≡ number_in es → IsWaitableNewest es → IsNumbered es
    → stop_claims_in number es ≤ 1
    → stop_claims_in number (event.Claim 0 n 0 ∷ es) ≤ 1
claimed_again number n [] last newest is before = absurd newest
claimed_again number n (event.Publish row m stop ∷ es) last newest is before =
    elim (cases_Bool (eqb n number)) [
      | inl same ↦ rw same
          (let at = eqb-true n number same in let above = is.0 in
          let none = none_above number es is.1 (omega arith) in omega arith)
      | inr other ↦ rw other (omega arith)
    ]
claimed_again number n (event.Claim row m tracer ∷ es) last newest is before = absurd newest
claimed_again number n (event.Resume row m how tracer ∷ es) last newest is before = absurd newest
claimed_again number n (event.Exit row death ∷ es) last newest is before =
    elim (cases_Bool (eqb n number)) [ inl same ↦ rw same (omega arith) | inr other ↦ rw other (omega arith) ]

pub claimed_once : (number : ℕ) (es : List Event) → IsNumbered es → stop_claims_in number es ≤ 1
claimed_once number [] is = omega arith
claimed_once number (event.Publish row n stop ∷ es) is = claimed_once number es is.1
claimed_once number (event.Claim row n tracer ∷ es) is =
    claimed_again number n es is.0 is.1.0 is.1.1 (claimed_once number es is.1.1)
claimed_once number (event.Resume row n how tracer ∷ es) is = claimed_once number es is
claimed_once number (event.Exit row death ∷ es) is = claimed_once number es is
