-- Who acts: a row's tracee publishes and exits, a tracer claims (waitid(2)) and resumes (ptrace(2), "Restarting").
use Rattle.std.specs.Prelude.{◌≡◌, ◌+◌, ◌-◌, ◌∷◌, [], ℕ, Bool, false, nat_lt, Option, Some, None, if◌then◌else◌}
use Rattle.stop_history.specs.declared.actor.Actor.{Actor}
use Rattle.stop_history.specs.declared.actor.Actor.TheVariants.{Tracee, Tracer}
use Rattle.stop_history.specs.declared.phase.Phase.{Phase}
use Rattle.stop_history.specs.declared.phase.Phase.TheVariants as phase
use Rattle.stop_history.specs.Event as event
use Rattle.stop_history.specs.Event.{Event, History}

-- whose event it is
abbrev pub actor_of : Event → Actor
actor_of (event.Publish row number stop) = Tracee row
actor_of (event.Claim row number tracer) = Tracer tracer
actor_of (event.Resume row number how tracer) = Tracer tracer
actor_of (event.Exit row death) = Tracee row

-- the actor of a number: first the tracees by their rows, then the tracers
abbrev pub numbered_actor : (rows tracers number : ℕ) → Option Actor
numbered_actor rows tracers number =
    if nat_lt number rows then Some (Tracee number)
    else if nat_lt number (rows + tracers) then Some (Tracer (number - rows))
    else None

-- of an event history: no event is one of an actor of the set
abbrev pub IsQuiet : (Actor → Bool) → History → Type 0
IsQuiet actors [] = Unit {0}
IsQuiet actors (e ∷ h) = (actors (actor_of e) ≡ false) × IsQuiet actors h

-- who alone can make the next event of a row of this phase: its tracee where it is fresh or runs, the tracer that has
-- claimed it; any tracer claims a row that waits, and nobody moves a reaped one
abbrev pub mover_of : ℕ → Phase → Option Actor
mover_of row phase.Fresh = Some (Tracee row)
mover_of row (phase.Resumed how) = Some (Tracee row)
mover_of row phase.Active = Some (Tracee row)
mover_of row (phase.Claimed tracer) = Some (Tracer tracer)
mover_of row other = None

-- only an actor of the set can make the next event of a row of this phase
abbrev pub is_moved_by : (Actor → Bool) → Option Actor → Bool
is_moved_by actors None = false
is_moved_by actors (Some actor) = actors actor
