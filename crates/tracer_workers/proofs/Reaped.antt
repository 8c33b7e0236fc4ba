-- A row that has been reaped has died, and no tracer has it claimed.
use Rattle.std.proofs.Common.{refl, ◌≡◌, ◌<◌, ◌≤◌, ◌+◌, ◌∷◌, [], ℕ, zero, suc, Bool, true, false, List, Some, ◌∙◌, sym, ap}
use Rattle.std.proofs.Common.{subst, inl, inr, length, filter, arith}
use Rattle.std.specs.List.{range_with_len}
use Rattle.std.proofs.lemmas.Bool.{cases_Bool, cases_eq}
use Rattle.trace_record.specs.Content.{Content}
use Rattle.trace_record.specs.declared.death.Death.{Death}
use Rattle.stop_history.specs.declared.roster.Row.{Row}
use Rattle.stop_history.specs.declared.state.State.TheVariants as state
use Rattle.stop_history.specs.Event as event
use Rattle.stop_history.specs.Event.{Event, events_of, subject}
use Rattle.stop_history.specs.State.{claimed_state, is_born, is_ended, number_in, state_in}
use Rattle.stop_history.specs.Word.{phase_in}
use Rattle.stop_history.proofs.Longer.{unborn_is_silent}
use Rattle.stop_history.proofs.States.{state_within}
use Rattle.stop_table.specs.Entry.{AreLegal, Entry, cell_after, history_of}
use Rattle.stop_table.specs.Tracer.{held_rows, is_claimed_by, is_held}
use Rattle.stop_table.specs.View.{View}
use Rattle.stop_table.proofs.Entries.{legal_history}
use Rattle.tracer_workers.specs.Driven.{AreReaped}
use Rattle.tracer_workers.proofs.Left.{Left, left_of, left_with, other_left, own_left}
use Rattle.tracer_workers.proofs.WholePieces.{AreDead}

-- a row whose events have ended it has a death
abbrev EndsDead : Bool → Left → Type 0
EndsDead born a = is_ended (state_in born a.events) ≡ true → (death : Death) × (a.death ≡ Some death)

claimed_ended : (born : Bool) (number tracer : ℕ) (es : List Event) → is_ended (claimed_state number tracer es) ≡ true
    → is_ended (state_in born es) ≡ true
claimed_ended born number tracer [] ended = cc
claimed_ended born number tracer (event.Publish row n stop ∷ es) ended = cc
claimed_ended born number tracer (event.Claim row n other ∷ es) ended = cc
claimed_ended born number tracer (event.Resume row n how other ∷ es) ended = cc
claimed_ended born number tracer (event.Exit row death ∷ es) ended = refl

own_dead : (rows : List Row) (born : Bool) (h : List Entry) (e : Event) (content : Content)
    → EndsDead born (left_of rows h (subject e)) → EndsDead born (left_with rows h (subject e) e content)
own_dead rows born h (event.Publish row number stop) content before ended = cc
own_dead rows born h (event.Claim row number tracer) content before ended =
    before (claimed_ended born (number_in (events_of row (history_of h))) tracer (events_of row (history_of h)) ended)
own_dead rows born h (event.Resume row number how tracer) content before ended = cc
own_dead rows born h (event.Exit row death) content before ended = (death, refl)

ends_dead : (rows : List Row) (born : Bool) (h : List Entry) (row : ℕ) → EndsDead born (left_of rows h row)
ends_dead rows true [] row ended = cc
ends_dead rows false [] row ended = cc
ends_dead rows born (x ∷ h) row ended =
    elim (cases_eq (subject x.event) row) [
      | inl same ↦
          (subst (λ r. EndsDead born (left_of rows (x ∷ h) r)) same
          (subst (EndsDead born) (sym (own_left rows x h (subject x.event) refl))
          (own_dead rows born h x.event x.content (ends_dead rows born h (subject x.event))))) ended
      | inr other ↦
          (subst (EndsDead born) (sym (other_left rows x h row other)) (ends_dead rows born h row)) ended
    ]

pub reaped_dead : (rows : List Row) (h : List Entry) → AreReaped rows h → AreDead rows h
reaped_dead rows h reaped row within born =
    ends_dead rows (is_born rows (history_of h) row) h row
    (ap is_ended (sym (state_within rows (history_of h) row within) ∙ reaped row within born))

-- ---- no claim is left

reaped_free : (tracer : ℕ) (es : List Event) → state_in true es ≡ state.Reaped → is_claimed_by tracer (phase_in es) ≡ false
reaped_free tracer [] is = cc
reaped_free tracer (event.Publish row n stop ∷ es) is = cc
reaped_free tracer (event.Claim row n other ∷ []) is = cc
reaped_free tracer (event.Claim row n other ∷ event.Publish at k stop ∷ es) is = cc
reaped_free tracer (event.Claim row n other ∷ event.Claim at k third ∷ es) is = cc
reaped_free tracer (event.Claim row n other ∷ event.Resume at k how third ∷ es) is = cc
reaped_free tracer (event.Claim row n other ∷ event.Exit at death ∷ es) is = refl
reaped_free tracer (event.Resume row n how other ∷ es) is = cc
reaped_free tracer (event.Exit row death ∷ es) is = cc

row_free : (rows : List Row) (h : List Entry) → AreLegal rows h → AreReaped rows h → (tracer row : ℕ)
    → row < length rows → is_claimed_by tracer (cell_after rows h row).phase ≡ false
row_free rows h legal reaped tracer row within =
    elim (cases_Bool (is_born rows (history_of h) row)) [
      | inl born ↦
          reaped_free tracer (events_of row (history_of h))
          (ap (λ b. state_in b (events_of row (history_of h))) (sym born)
          ∙ sym (state_within rows (history_of h) row within) ∙ reaped row within born)
      | inr unborn ↦
          ap (λ es. is_claimed_by tracer (phase_in es))
          (unborn_is_silent rows (history_of h) (legal_history rows h legal) row unborn)
    ]

none_kept : (test : ℕ → Bool) (most first count : ℕ) → first + count ≤ most
    → ((n : ℕ) → n < most → test n ≡ false) → filter test (range_with_len first count) ≡ []
none_kept test most first zero within none = refl
none_kept test most first (suc count) within none =
    rw (none first (omega (arith, within))) (none_kept test most (first + 1) count (omega (arith, within)) none)

-- where each born row has been reaped, no tracer has a claim left
pub none_held : (v : View) → AreLegal v.roster v.seen → AreReaped v.roster v.seen → held_rows v ≡ []
none_held v legal reaped =
    none_kept (is_held v) (length v.roster) 0 (length v.roster) (omega arith)
    (row_free v.roster v.seen legal reaped v.number)
