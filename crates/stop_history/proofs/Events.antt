-- What an event does to the events of a row: it is the newest of its own row's, and leaves every other row's.
use Rattle.std.proofs.Common.{refl, ◌≡◌, ◌≢◌, ◌∷◌, ℕ, Bool, true, false, List, cond, eqb, eq-eqb, ne_eqb}
use Rattle.trace_record.specs.declared.resume.Resume.{Resume as Restart}
use Rattle.trace_record.specs.declared.death.Death.{Death}
use Rattle.stop_history.specs.Event.{Event, History, events_of, subject}
use Rattle.stop_history.specs.Event as event
use Rattle.stop_history.specs.History.{births_in, births_after}

pub own_events : (row : ℕ) (e : Event) (h : History) → subject e ≡ row → events_of row (e ∷ h) ≡ e ∷ events_of row h
own_events row e h same = rw (eq-eqb (subject e) row same)

pub other_events : (row : ℕ) (e : Event) (h : History) → subject e ≢ row → events_of row (e ∷ h) ≡ events_of row h
other_events row e h other = rw (ne_eqb (subject e) row other)

either_way : (b : Bool) (e : Event) (es : List Event) → births_in (e ∷ es) ≡ births_in es
    → births_in (cond b (e ∷ es) es) ≡ births_in es
either_way true e es h = h
either_way false e es h = refl

-- claims, resumes and exits create no child
pub claim_births : (row number tracer parent : ℕ) (h : History)
    → births_after (event.Claim row number tracer ∷ h) parent ≡ births_after h parent
claim_births row number tracer parent h =
    either_way (eqb row parent) (event.Claim row number tracer) (events_of parent h) refl

pub resume_births : (row number : ℕ) (how : Restart) (tracer parent : ℕ) (h : History)
    → births_after (event.Resume row number how tracer ∷ h) parent ≡ births_after h parent
resume_births row number how tracer parent h =
    either_way (eqb row parent) (event.Resume row number how tracer) (events_of parent h) refl

pub exit_births : (row : ℕ) (death : Death) (parent : ℕ) (h : History)
    → births_after (event.Exit row death ∷ h) parent ≡ births_after h parent
exit_births row death parent h = either_way (eqb row parent) (event.Exit row death) (events_of parent h) refl
