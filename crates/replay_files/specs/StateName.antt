-- The names of states: what a reply, an outcome and a condition call them.
use Rattle.std.specs.Prelude.{◌∷◌, [], ℕ, Bool, true, false, List, codes}
use Rattle.stop_history.specs.declared.state.State.{State}
use Rattle.stop_history.specs.declared.state.State.TheVariants as state
use Rattle.replay_files.specs.declared.state_name.StateName.{StateName}
use Rattle.replay_files.specs.declared.state_name.StateName.TheVariants as name

-- the word of a state, without the numbers that follow it; no command of a file is to an absent row
abbrev pub state_word : State → List ℕ
state_word state.Absent = codes "absent"
state_word state.Unborn = codes "unborn"
state_word state.Running = codes "running"
state_word (state.Stopped number status) = codes "stopped"
state_word (state.Claimed number tracer) = codes "claimed"
state_word (state.Dead number status) = codes "dead"
state_word state.Reaped = codes "reaped"

-- the names that a file may ask for
abbrev pub state_names : List (List ℕ × StateName)
state_names =
    (codes "unborn", name.Unborn) ∷ (codes "running", name.Running) ∷ (codes "stopped", name.Stopped)
    ∷ (codes "claimed", name.Claimed) ∷ (codes "dead", name.Dead) ∷ (codes "reaped", name.Reaped) ∷ []

-- a state by its name, whatever its numbers
abbrev pub has_name : StateName → State → Bool
has_name name.Unborn state.Unborn = true
has_name name.Running state.Running = true
has_name name.Stopped (state.Stopped number status) = true
has_name name.Claimed (state.Claimed number tracer) = true
has_name name.Dead (state.Dead number status) = true
has_name name.Reaped state.Reaped = true
has_name named at = false
