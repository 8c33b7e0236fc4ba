-- What a handle knows of a driven run: the entries of its own actors. The newest entry stands first.
use Rattle.std.specs.Prelude.{◌≡◌, ◌∷◌, [], Bool, true, List}
use Rattle.stop_history.specs.Actor.{actor_of}
use Rattle.stop_history.specs.declared.actor.Actor.{Actor}
use Rattle.stop_table.specs.Entry.{Entry}
use Rattle.tracer_workers.specs.Driven.{IsRestarted, IsTraced}
use Rattle.tracer_workers.specs.Plan.{Plan}

-- the entries of a set of actors are those of a driven run: stops and deaths are what comes next in the script of their
-- row, restarts are the policy's
abbrev pub AreDrivenBy : (Actor → Bool) → Plan → List Entry → Type 0
AreDrivenBy actors plan [] = Unit {0}
AreDrivenBy actors plan (x ∷ h) =
    (actors (actor_of x.event) ≡ true → IsTraced plan h x.event x.content × IsRestarted plan h x.event x.content)
    × AreDrivenBy actors plan h
