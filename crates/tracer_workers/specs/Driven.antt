-- Runs that follow the scripts: each stop and each death is what comes next in its row's script, and each restart is the
-- policy's (ptrace(2), "Stopped states", "Restarting"). The newest entry of a history stands first.
use Rattle.std.specs.Prelude.{◌≡◌, ◌==◌, ◌<◌, ◌∷◌, [], ℕ, true, false, List, length, if◌then◌else◌}
use Rattle.trace_record.specs.Content.{Content}
use Rattle.trace_record.specs.declared.death.Death.{Death}
use Rattle.trace_record.specs.declared.death.Death.TheVariants.{Signaled}
use Rattle.trace_record.specs.declared.resume.Resume.{Resume as Restart}
use Rattle.stop_history.specs.declared.phase.Phase.{Phase}
use Rattle.stop_history.specs.declared.phase.Phase.TheVariants as phase
use Rattle.stop_history.specs.declared.roster.Row.{Row}
use Rattle.stop_history.specs.declared.state.State.TheVariants as state
use Rattle.stop_history.specs.Event as event
use Rattle.stop_history.specs.Event.{Event, events_of, subject}
use Rattle.stop_history.specs.State.{is_born, state_after}
use Rattle.stop_history.specs.Word.{phase_in}
use Rattle.stop_table.specs.Entry.{Entry, content_after, history_of}
use Rattle.trace_script.specs.StopTrace.{DeathIs, Element, FaultIs, Position, StopIs, Turn, context_of, first_restart}
use Rattle.trace_script.specs.StopTrace.{next_element, position_after}
use Rattle.tracer_workers.specs.Plan.{Plan, opening_of}

-- the restart that a row of this phase takes up: that of its last resume, and before any the one that comes first
abbrev pub restart_at : Phase → Restart
restart_at (phase.Resumed how) = how
restart_at phase.Fresh = first_restart
restart_at phase.Active = first_restart
restart_at (phase.Stopped status) = first_restart
restart_at (phase.Claimed tracer) = first_restart
restart_at (phase.Dead status) = first_restart
restart_at phase.Reaped = first_restart

abbrev pub restart_after : List Entry → ℕ → Restart
restart_after h row = restart_at (phase_in (events_of row (history_of h)))

-- ---- the stops of a row, each with the restart and the content that its tracee took up before it

abbrev pub turns_with : Event → Turn → List Turn → List Turn
turns_with (event.Publish row number stop) turn turns = turn ∷ turns
turns_with (event.Claim row number tracer) turn turns = turns
turns_with (event.Resume row number how tracer) turn turns = turns
turns_with (event.Exit row death) turn turns = turns

abbrev pub turn_after : List Row → List Entry → ℕ → Content → Turn
turn_after rows h row content =
    record { how = restart_after h row; before = context_of (content_after rows h row); content = content }

abbrev pub turns_of : List Row → List Entry → ℕ → List Turn
turns_of rows [] row = []
turns_of rows (x ∷ h) row =
    if subject x.event == row then turns_with x.event (turn_after rows h row x.content) (turns_of rows h row)
    else turns_of rows h row

-- ---- what comes next in a row's script

-- where a row's tracee is in its script
abbrev pub position_at : Plan → List Entry → ℕ → Position
position_at plan h row = position_after (opening_of plan row) (turns_of plan.rows h row)

abbrev pub element_after : Plan → List Entry → ℕ → Element
element_after plan h row =
    next_element (position_at plan h row) (restart_after h row) (context_of (content_after plan.rows h row))

-- a tracee whose store faults dies by SIGSEGV (signal(7))
abbrev pub fault_death : Death
fault_death = Signaled 11 false

abbrev pub IsDeathOf : Element → Death → Type 0
IsDeathOf (StopIs content) death = ⊥
IsDeathOf (DeathIs own) death = own ≡ death
IsDeathOf (FaultIs address) death = fault_death ≡ death

-- ---- runs

-- a publish and an exit are what comes next in the script of their row
abbrev pub IsTraced : Plan → List Entry → Event → Content → Type 0
IsTraced plan h (event.Publish row number stop) content = element_after plan h row ≡ StopIs content
IsTraced plan h (event.Exit row death) content = IsDeathOf (element_after plan h row) death
IsTraced plan h (event.Claim row number tracer) content = Unit {0}
IsTraced plan h (event.Resume row number how tracer) content = Unit {0}

-- a resume is the policy's for the content of the stop, which it leaves as it was published
abbrev pub IsRestarted : Plan → List Entry → Event → Content → Type 0
IsRestarted plan h (event.Resume row number how tracer) content =
    (how ≡ plan.policy (content_after plan.rows h row)) × (content ≡ content_after plan.rows h row)
IsRestarted plan h (event.Publish row number stop) content = Unit {0}
IsRestarted plan h (event.Claim row number tracer) content = Unit {0}
IsRestarted plan h (event.Exit row death) content = Unit {0}

abbrev pub AreDriven : Plan → List Entry → Type 0
AreDriven plan [] = Unit {0}
AreDriven plan (x ∷ h) =
    (IsTraced plan h x.event x.content × IsRestarted plan h x.event x.content) × AreDriven plan h

-- each row that was born has been reaped
abbrev pub AreReaped : List Row → List Entry → Type 0
AreReaped rows h = (row : ℕ) → row < length rows → is_born rows (history_of h) row ≡ true
    → state_after rows (history_of h) row ≡ state.Reaped
