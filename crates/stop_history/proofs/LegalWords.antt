-- The words that a legal history leaves are in range, where its stops, deaths, restarts and tracers are.
use Rattle.std.proofs.Common.{refl, ◌≡◌, ◌<◌, ◌≤◌, ◌∷◌, [], ℕ, Bool, true, false, List, length, arith, cond, eqb}
use Rattle.stop_history.specs.declared.phase.Phase.{Phase}
use Rattle.stop_history.specs.declared.phase.Phase.TheVariants as phase
use Rattle.stop_history.specs.declared.roster.Row.{Row}
use Rattle.stop_history.specs.Event as event
use Rattle.stop_history.specs.Event.{Event, History, events_of, subject}
use Rattle.stop_history.specs.History.{IsLegal, births_in}
use Rattle.stop_history.specs.declared.limits.TheConstants.{LAST_NUMBER}
use Rattle.stop_history.specs.Ranges.{AreInRange, IsInRange}
use Rattle.stop_history.specs.Roster.{IsRoster}
use Rattle.stop_history.specs.State.{last_number, number_in}
use Rattle.stop_history.specs.Word.{IsPhase, IsWord, claimed_phase, phase_in, raised, word_after}
use Rattle.stop_history.proofs.Children.{births_are_few, few_children}
use Rattle.stop_history.proofs.Rosters.{few_rows}
use Rattle.stop_history.proofs.Words.{death_reported, stop_reported}

-- ---- of one row's events

with_ranged : (b : Bool) (e : Event) (es : List Event) → IsInRange e → AreInRange es → AreInRange (cond b (e ∷ es) es)
with_ranged true e es is are = (is, are)
with_ranged false e es is are = are

own_ranged : (h : History) → AreInRange h → (row : ℕ) → AreInRange (events_of row h)
own_ranged [] are row = tt
own_ranged (e ∷ h) are row = with_ranged (eqb (subject e) row) e (events_of row h) are.0 (own_ranged h are.1 row)

claimed_ranged : (tracer : ℕ) (es : List Event) → IsPhase (phase.Claimed tracer) → IsPhase (claimed_phase tracer es)
claimed_ranged tracer [] is = is
claimed_ranged tracer (event.Publish row number stop ∷ es) is = is
claimed_ranged tracer (event.Claim row number other ∷ es) is = is
claimed_ranged tracer (event.Resume row number how other ∷ es) is = is
claimed_ranged tracer (event.Exit row death ∷ es) is = tt

phase_ranged : (es : List Event) → AreInRange es → IsPhase (phase_in es)
phase_ranged [] are = tt
phase_ranged (event.Publish row number stop ∷ es) are = stop_reported stop are.0
phase_ranged (event.Claim row number tracer ∷ es) are = claimed_ranged tracer es are.0
phase_ranged (event.Resume row number how tracer ∷ es) are = are.0.0
phase_ranged (event.Exit row death ∷ es) are = death_reported death are.0

raised_ranged : (taken : Bool) (at : Phase) → IsPhase at → IsPhase (raised taken at)
raised_ranged true at is = tt
raised_ranged false at is = is

not_fresh_claimed : (tracer : ℕ) (es : List Event) → claimed_phase tracer es ≡ phase.Fresh
    → event.Claim 0 0 tracer ∷ es ≡ []
not_fresh_claimed tracer [] is = cc
not_fresh_claimed tracer (event.Publish row number stop ∷ es) is = cc
not_fresh_claimed tracer (event.Claim row number other ∷ es) is = cc
not_fresh_claimed tracer (event.Resume row number how other ∷ es) is = cc
not_fresh_claimed tracer (event.Exit row death ∷ es) is = cc

-- only a row without events is fresh
fresh_is_silent : (taken : Bool) (es : List Event) → raised taken (phase_in es) ≡ phase.Fresh → (births_in es ≡ 0)
    × (number_in es ≡ 0)
fresh_is_silent true es is = cc
fresh_is_silent false [] is = (refl, refl)
fresh_is_silent false (event.Publish row number stop ∷ es) is = cc
fresh_is_silent false (event.Claim row number tracer ∷ es) is = let none = not_fresh_claimed tracer es is in cc
fresh_is_silent false (event.Resume row number how tracer ∷ es) is = cc
fresh_is_silent false (event.Exit row death ∷ es) is = cc

-- ---- of a legal history

last_by : (b : Bool) (e : Event) (es : List Event) → number_in es ≤ LAST_NUMBER
    → (b ≡ true → number_in (e ∷ es) ≤ LAST_NUMBER) → number_in (cond b (e ∷ es) es) ≤ LAST_NUMBER
last_by true e es before here = here refl
last_by false e es before here = before

last_ranged : (rows : List Row) (h : History) → IsLegal rows h → (row : ℕ) → last_number h row ≤ LAST_NUMBER
last_ranged rows [] legal row = omega arith
last_ranged rows (event.Publish at number stop ∷ h) legal row =
    last_by (eqb at row) (event.Publish at number stop) (events_of row h) (last_ranged rows h legal.1 row)
    (λ here. legal.0.2)
last_ranged rows (event.Claim at number tracer ∷ h) legal row =
    last_by (eqb at row) (event.Claim at number tracer) (events_of row h) (last_ranged rows h legal.1 row)
    (λ here. last_ranged rows h legal.1 row)
last_ranged rows (event.Resume at number how tracer ∷ h) legal row =
    last_by (eqb at row) (event.Resume at number how tracer) (events_of row h) (last_ranged rows h legal.1 row)
    (λ here. last_ranged rows h legal.1 row)
last_ranged rows (event.Exit at death ∷ h) legal row =
    last_by (eqb at row) (event.Exit at death) (events_of row h) (last_ranged rows h legal.1 row)
    (λ here. last_ranged rows h legal.1 row)

pub legal_word : (rows : List Row) (h : History) → IsRoster rows → IsLegal rows h → AreInRange h
    → (taken : ℕ → Bool) (row : ℕ) → row < length rows → IsWord (word_after taken h row)
legal_word rows h roster legal are taken row within = record {
  of_phase = raised_ranged (taken row) (phase_in (events_of row h))
      (phase_ranged (events_of row h) (own_ranged h are row));
  few = (let births = births_are_few rows h legal row in let children = few_children rows roster row within in
      let most = few_rows rows roster in omega arith);
  last = last_ranged rows h legal row;
  fresh = fresh_is_silent (taken row) (events_of row h);
}
