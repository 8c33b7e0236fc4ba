-- What several handles know of a driven run makes up what is known of the whole run: where they act for all actors, and
-- one history goes on from what each has seen, that history is driven.
use Rattle.std.proofs.Common.{◌∷◌, [], List, slice_index_or}
use Rattle.std.specs.List.{All}
use Rattle.std.proofs.lemmas.List.Elements.{All-contains, All-weaker}
use Rattle.std.proofs.lemmas.List.Folds.{Any-from_list_any}
use Rattle.stop_history.specs.Actor.{actor_of}
use Rattle.stop_history.specs.declared.roster.Row.{Row}
use Rattle.stop_history.specs.Event as event
use Rattle.stop_history.specs.Event.{Event, events_of, subject}
use Rattle.stop_history.specs.History.{Fits}
use Rattle.stop_history.specs.Ranges.{IsInRange}
use Rattle.stop_history.proofs.States.{fits_within}
use Rattle.stop_table.specs.Entry.{AreLegal, Entry, history_of}
use Rattle.stop_table.specs.View.{View, actors_of}
use Rattle.tracer_workers.specs.Driven.{AreDriven}
use Rattle.tracer_workers.specs.DrivenBy.{AreDrivenBy}
use Rattle.tracer_workers.specs.Gathering.{GoesOnFrom}
use Rattle.tracer_workers.specs.Plan.{Plan}
use Rattle.tracer_workers.specs.Threaded.{ActForAll, IsActor}
use Rattle.tracer_workers.proofs.OwnEntries.{driven_on}

-- ---- whose entry it is

-- an entry of a legal history is one of an actor
actor_in : (rows : List Row) (h : List Entry) (e : Event) → Fits rows (history_of h) e → IsInRange e
    → IsActor rows (actor_of e)
actor_in rows h (event.Publish row number stop) fits range =
    fits_within rows (history_of h) (event.Publish row number stop) fits
actor_in rows h (event.Claim row number tracer) fits range = range
actor_in rows h (event.Resume row number how tracer) fits range = range.1
actor_in rows h (event.Exit row death) fits range = fits_within rows (history_of h) (event.Exit row death) fits

driven_by_all : (plan : Plan) (views : List View) → ActForAll plan.rows views → (h : List Entry) → AreLegal plan.rows h
    → All (λ v. AreDrivenBy (actors_of v) plan h) views → AreDriven plan h
driven_by_all plan views all [] legal driven = tt
driven_by_all plan views all (x ∷ h) legal driven =
    let actor = actor_in plan.rows h x.event legal.0.0 legal.0.1 in
    let mine = Any-from_list_any (λ (v : View). actors_of v (actor_of x.event)) views (all (actor_of x.event) actor) in
    let there = All-contains (λ (v : View). AreDrivenBy (actors_of v) plan (x ∷ h)) views mine.1 driven
    (mine.0, mine.2, mine.3) in (
      there.0 mine.4,
      driven_by_all plan views all h legal.1
          (All-weaker (λ (v : View). AreDrivenBy (actors_of v) plan (x ∷ h)) (λ (v : View). AreDrivenBy (actors_of v) plan h)
          (λ v both. both.1) views driven),
    )

on_and_driven : (plan : Plan) (views : List View) (h : List Entry) → GoesOnFrom views h
    → All (λ v. AreDrivenBy (actors_of v) plan v.seen) views → All (λ v. AreDrivenBy (actors_of v) plan h) views
on_and_driven plan views h on driven =
    λ k d within.
    let v = slice_index_or views k d in
    driven_on (actors_of v) plan v.seen h (on k d within) (driven k d within)

-- a history that goes on from what all have seen is driven
pub all_driven : (plan : Plan) (views : List View) → ActForAll plan.rows views → (h : List Entry) → AreLegal plan.rows h
    → GoesOnFrom views h → All (λ v. AreDrivenBy (actors_of v) plan v.seen) views → AreDriven plan h
all_driven plan views all h legal on driven = driven_by_all plan views all h legal (on_and_driven plan views h on driven)
