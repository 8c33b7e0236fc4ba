-- Handles that have met: the one that is left has seen what each had seen, and acts for all.
use Rattle.std.proofs.Common.{refl, ◌≡◌, ◌||◌, ◌∷◌, [], Bool, true, false, List, ◌∙◌, sym, ap, inl, inr, map}
use Rattle.std.specs.List.{All}
use Rattle.std.proofs.lemmas.Bool.{cases_Bool}
use Rattle.std.proofs.lemmas.List.Elements.{All-append, All-map, All-weaker}
use Rattle.stop_history.specs.declared.actor.Actor.{Actor}
use Rattle.stop_history.specs.Actor.{IsQuiet, actor_of}
use Rattle.stop_table.specs.Entry.{Entry, GoesOn, history_of}
use Rattle.stop_table.specs.Handle.{Looked, Meets}
use Rattle.stop_table.specs.Tracee.{TraceeHandle}
use Rattle.stop_table.specs.Tracer.{TracerHandle}
use Rattle.stop_table.specs.View.{View, actors_of}
use Rattle.stop_table.proofs.Entries.{goes_on}
use Rattle.stop_table.proofs.Own.{actors_of_both, same_actors}
use Rattle.tracer_workers.specs.Gathering.{GoesOnFrom, TakesIn, views_of}

-- who is silent in a set is so in a part of it
quiet_part : (part all : Actor → Bool) → ((a : Actor) → part a ≡ true → all a ≡ true) → (more : List Entry)
    → IsQuiet all (history_of more) → IsQuiet part (history_of more)
quiet_part part all within [] quiet = tt
quiet_part part all within (x ∷ more) quiet = (
  (elim (cases_Bool (part (actor_of x.event))) [
    | inl own ↦ (let clash : true ≡ false = sym (within (actor_of x.event) own) ∙ quiet.0 in cc)
    | inr other ↦ other
  ]),
  quiet_part part all within more quiet.1,
)

-- all that happens beside a handle happens beside those that it has taken in
pub on_beside : (v u : View) (h : List Entry) → TakesIn v u → GoesOn (actors_of u) u.seen h → GoesOn (actors_of v) v.seen h
on_beside v u h taken on =
    goes_on (actors_of v) v.seen u.seen h taken.seen
    (on.0, on.1, quiet_part (actors_of v) (actors_of u) taken.acts on.0 on.2)

or_left : (a b : Bool) → a ≡ true → (a || b) ≡ true
or_left true b is = refl
or_left false b is = cc

or_right : (a b : Bool) → b ≡ true → (a || b) ≡ true
or_right true b is = refl
or_right false b is = is

pub left_of_meeting : (v w u : View) → Meets v w u → TakesIn v u
left_of_meeting v w u m = record {
  seen = m.left;
  acts = λ a own. actors_of_both v w u m a ∙ or_left (actors_of v a) (actors_of w a) own;
}

pub right_of_meeting : (v w u : View) → Meets v w u → TakesIn w u
right_of_meeting v w u m = record {
  seen = m.right;
  acts = λ a own. actors_of_both v w u m a ∙ or_right (actors_of v a) (actors_of w a) own;
}

-- what was taken in stays so
takes_through : (t v u : View) → TakesIn t v → TakesIn v u → TakesIn t u
takes_through t v u first second = record {
  seen = on_beside t v u.seen first second.seen;
  acts = λ a own. second.acts a (first.acts a own);
}

pub taken_on : (t v w u : View) → Meets v w u → TakesIn t v → TakesIn t u
taken_on t v w u met taken = takes_through t v u taken (left_of_meeting v w u met)

pub tracers_through : (v u : View) → TakesIn v u → (tracers : List TracerHandle)
    → All (λ (e : TracerHandle). TakesIn e.view v) tracers → All (λ (e : TracerHandle). TakesIn e.view u) tracers
tracers_through v u taken =
    All-weaker (λ (e : TracerHandle). TakesIn e.view v) (λ (e : TracerHandle). TakesIn e.view u)
    (λ e first. takes_through e.view v u first taken)

-- a handle that has only looked has taken in what it was
pub looked_on_takes : (v u : View) → Looked v u → TakesIn v u
looked_on_takes v u looked = record {
  seen = looked.grows.goes_on;
  acts = λ a own. ap (λ (actors : Actor → Bool). actors a) (same_actors v u looked.grows.same) ∙ own;
}

pub all_taken : (u : View) (tracers : List TracerHandle) (tracees : List TraceeHandle)
    → All (λ (e : TracerHandle). TakesIn e.view u) tracers → All (λ (e : TraceeHandle). TakesIn e.view u) tracees
    → All (λ v. TakesIn v u) (views_of tracers tracees)
all_taken u tracers tracees first second =
    let P : View → Type 0 = λ v. TakesIn v u in
    All-append P (map (λ (e : TracerHandle). e.view) tracers) (map (λ (e : TraceeHandle). e.view) tracees)
    (All-map P (λ (e : TracerHandle). e.view) tracers first)
    (All-map P (λ (e : TraceeHandle). e.view) tracees second)

pub all_through : (v u : View) → TakesIn v u → (views : List View) → All (λ t. TakesIn t v) views
    → All (λ t. TakesIn t u) views
all_through v u taken =
    All-weaker (λ t. TakesIn t v) (λ t. TakesIn t u) (λ t first. takes_through t v u first taken)

-- what goes on from one that has taken in all goes on from all
pub on_from_all : (u : View) (h : List Entry) (views : List View) → All (λ v. TakesIn v u) views
    → GoesOn (actors_of u) u.seen h → GoesOnFrom views h
on_from_all u h views taken on =
    All-weaker (λ v. TakesIn v u) (λ v. GoesOn (actors_of v) v.seen h) (λ v first. on_beside v u h first on) views taken
