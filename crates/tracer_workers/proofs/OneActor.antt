-- Histories that go on by events of one actor.
use Rattle.std.proofs.Common.{refl, ◌≡◌, ◌∷◌, ◌++◌, [], List, ◌∙◌, sym, ap}
use Rattle.std.proofs.lemmas.List.{append_assoc}
use Rattle.std.proofs.lemmas.List.Elements.{All-append, All-cons, All-nil}
use Rattle.stop_history.specs.declared.actor.Actor.{Actor}
use Rattle.stop_history.specs.Actor.{actor_of}
use Rattle.stop_table.specs.Entry.{Entry}
use Rattle.tracer_workers.specs.Scheduled.{GoesOnBy}

abbrev IsBy : Actor → Entry → Type 0
IsBy actor x = actor_of x.event ≡ actor

pub by_one : (actor : Actor) (x : Entry) (h : List Entry) → actor_of x.event ≡ actor → GoesOnBy actor h (x ∷ h)
by_one actor x h is = (x ∷ [], refl, All-cons (IsBy actor) x [] is (All-nil (IsBy actor)))

pub by_more : (actor : Actor) (h mid later : List Entry) → GoesOnBy actor h mid → GoesOnBy actor mid later
    → GoesOnBy actor h later
by_more actor h mid later first second = (
  second.0 ++ first.0,
  second.1 ∙ ap (λ seen. second.0 ++ seen) first.1 ∙ sym (append_assoc second.0 first.0 h),
  All-append (IsBy actor) second.0 first.0 second.2 first.2,
)
