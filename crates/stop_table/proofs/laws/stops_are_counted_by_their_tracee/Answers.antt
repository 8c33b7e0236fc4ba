-- The numbers of a row's stops and children grow by the publishes of its own tracee alone.
use Rattle.std.proofs.Common.{refl, ◌≡◌, ◌+◌, ◌∷◌, ◌++◌, [], ℕ, Bool, true, false, List, is_some, cond, ◌∙◌, sym, ap, inl, inr}
use Rattle.std.proofs.lemmas.Bool.{cases_eq, false≢true}
use Rattle.trace_record.specs.Stop.{child_of}
use Rattle.stop_history.specs.declared.actor.Actor.{Actor}
use Rattle.stop_history.specs.declared.actor.Actor.TheVariants as actor
use Rattle.stop_history.specs.Actor.{IsQuiet, actor_of}
use Rattle.stop_history.specs.Event as event
use Rattle.stop_history.specs.Event.{Event, events_of, subject}
use Rattle.stop_history.specs.History.{births_in}
use Rattle.stop_history.specs.State.{number_in}
use Rattle.stop_history.proofs.Events.{other_events, own_events}
use Rattle.stop_table.specs.Entry.{Entry, GoesOn, history_of}
use Rattle.stop_table.specs.View.{actors_of}
use Rattle.stop_table.proofs.laws.stops_are_counted_by_their_tracee.Goals as goal

-- an event of a row by anyone but its tracee is not a publish
not_counted : (actors : Actor → Bool) (e : Event) (row : ℕ) (es : List Event) → subject e ≡ row
    → actors (actor.Tracee row) ≡ true → actors (actor_of e) ≡ false
    → (births_in (e ∷ es) ≡ births_in es) × (number_in (e ∷ es) ≡ number_in es)
not_counted actors (event.Publish at number stop) row es own mine quiet =
    absurd (false≢true (sym quiet ∙ ap (λ r. actors (actor.Tracee r)) own ∙ mine))
not_counted actors (event.Claim at number tracer) row es own mine quiet = (refl, refl)
not_counted actors (event.Resume at number how tracer) row es own mine quiet = (refl, refl)
not_counted actors (event.Exit at death) row es own mine quiet = (refl, refl)

counts_stay : (actors : Actor → Bool) (row : ℕ) (more h : List Entry) → actors (actor.Tracee row) ≡ true
    → IsQuiet actors (history_of more)
    → (births_in (events_of row (history_of (more ++ h))) ≡ births_in (events_of row (history_of h)))
    × (number_in (events_of row (history_of (more ++ h))) ≡ number_in (events_of row (history_of h)))
counts_stay actors row [] h mine quiet = (refl, refl)
counts_stay actors row (x ∷ more) h mine quiet =
    let before = counts_stay actors row more h mine quiet.1 in
    elim (cases_eq (subject x.event) row) [
      | inl own ↦
          (let is = own_events row x.event (history_of (more ++ h)) own in
          let same = not_counted actors x.event row (events_of row (history_of (more ++ h))) own mine quiet.0 in
          (ap births_in is ∙ same.0 ∙ before.0, ap number_in is ∙ same.1 ∙ before.1))
      | inr other ↦
          (let is = other_events row x.event (history_of (more ++ h)) other in
          (ap births_in is ∙ before.0, ap number_in is ∙ before.1))
    ]

on_counts : (actors : Actor → Bool) (row : ℕ) (seen h : List Entry) → actors (actor.Tracee row) ≡ true
    → GoesOn actors seen h
    → (births_in (events_of row (history_of h)) ≡ births_in (events_of row (history_of seen)))
    × (number_in (events_of row (history_of h)) ≡ number_in (events_of row (history_of seen)))
on_counts actors row seen h mine on =
    let same = counts_stay actors row on.0 seen mine on.2 in (
      ap (λ k. births_in (events_of row (history_of k))) on.1 ∙ same.0,
      ap (λ k. number_in (events_of row (history_of k))) on.1 ∙ same.1,
    )

pub returns-clause-looks : goal.returns-clause-looks
returns-clause-looks c = λ v w row mine g. on_counts (actors_of v) row v.seen w.seen mine g.goes_on

pub returns-clause-publishes : goal.returns-clause-publishes
returns-clause-publishes c = λ v w before row content mine e.
    let same = on_counts (actors_of v) row v.seen before mine e.goes_on in
    let is = ap (λ k. events_of row (history_of k)) e.seen
    ∙ own_events row (event.Publish row content.number content.stop) (history_of before) refl in
    (ap births_in is ∙ ap (λ b. cond (is_some (child_of content.stop)) (b + 1) b) same.0, ap number_in is)

pub returns-clause-exits : goal.returns-clause-exits
returns-clause-exits c = λ v w before row death mine e.
    let same = on_counts (actors_of v) row v.seen before mine e.goes_on in
    let is = ap (λ k. events_of row (history_of k)) e.seen
    ∙ own_events row (event.Exit row death) (history_of before) refl in
    (ap births_in is ∙ same.0, ap number_in is ∙ same.1)
