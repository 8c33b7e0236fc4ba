-- A tracee's thread: it runs its row's script from stop to stop until its death, or until the row can never be born
-- (ptrace(2), "Stopped states", "Death under ptrace").
use Rattle.std.specs.Prelude.{◌≡◌, ◌⊎◌, true, [], Some}
use Rattle.stop_history.specs.declared.state.State.TheVariants as state
use Rattle.stop_history.specs.State.{state_after}
use Rattle.stop_table.specs.declared.start.Start.TheVariants as start
use Rattle.stop_table.specs.Entry.{content_after, history_of}
use Rattle.stop_table.specs.Handle.{IsSame, Looked, own_events}
use Rattle.stop_table.specs.Start.{IsFinal}
use Rattle.stop_table.specs.Tracee.{TraceeHandle}
use Rattle.stop_table.specs.View.{actors_of}
use Rattle.trace_record.specs.Content.{Content}
use Rattle.trace_record.specs.Resume.{IsResume}
use Rattle.trace_record.specs.declared.death.Death.{Death}
use Rattle.trace_record.specs.declared.resume.Resume.{Resume as Restart}
use Rattle.trace_script.specs.StopTrace.{Position}
use Rattle.tracer_workers.specs.CaseText.{death_after}
use Rattle.tracer_workers.specs.Driven.{IsDeathOf, element_after, position_at, restart_after}
use Rattle.tracer_workers.specs.DrivenBy.{AreDrivenBy}
use Rattle.tracer_workers.specs.Plan.{IsCasePlan, Plan, opening_of}

-- a tracee that has made no event, with the machine of its row before its first stop, by a plan of a case
pub record IsToStart (plan : Plan) (e : TraceeHandle) (p : Position) : Type 0 where
  pub known : IsCasePlan plan
  pub rows : e.view.roster ≡ plan.rows
  pub silent : own_events e.view ≡ []
  pub opening : p ≡ opening_of plan e.row

-- the same row
abbrev pub IsSameTracee : TraceeHandle → TraceeHandle → Type 0
IsSameTracee a b = (b.table_id ≡ a.table_id) × (b.row ≡ a.row) × IsSame a.view b.view

-- the same row, at which the tracee only looked
abbrev pub HasLooked : TraceeHandle → TraceeHandle → Type 0
HasLooked a b = (b.table_id ≡ a.table_id) × (b.row ≡ a.row) × Looked a.view b.view

-- the row has ended, or it made no event and is born in no later history
abbrev pub IsThrough : TraceeHandle → Type 0
IsThrough e =
    ((death : Death) × (death_after e.view.seen e.row ≡ Some death))
    ⊎ ((own_events e.view ≡ []) × IsFinal e.view.roster e.view.seen e.row start.Never)

-- ---- while the row runs

-- the tracee's stops are those of its script, and its machine is where they have led
pub record IsOnScript (plan : Plan) (e : TraceeHandle) (p : Position) : Type 0 where
  pub known : IsCasePlan plan
  pub rows : e.view.roster ≡ plan.rows
  pub driven : AreDrivenBy (actors_of e.view) plan e.view.seen
  pub position : p ≡ position_at plan e.view.seen e.row

-- the row is taken up: with the restart and the content of its last resume, or those that come before any
pub record HasTaken (e : TraceeHandle) (how : Restart) (content : Content) : Type 0 where
  pub taken : e.view.taken ≡ true
  pub runs : state_after e.view.roster (history_of e.view.seen) e.row ≡ state.Running
  pub restart : how ≡ restart_after e.view.seen e.row
  pub in_range : IsResume how
  pub is_content : content ≡ content_after e.view.roster e.view.seen e.row

-- what comes next in the script of a tracee is this death
abbrev pub IsDue : Plan → TraceeHandle → Death → Type 0
IsDue plan e death = IsDeathOf (element_after plan e.view.seen e.row) death
