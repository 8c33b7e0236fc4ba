-- The stop trace of a script: what comes next at a position, for the restart and the content that the tracee takes up,
-- and from it the whole list of stops and the death under a restart policy (ptrace(2), "Stopped states").
use Rattle.std.specs.Prelude.{◌≡◌, ◌==◌, ◌+◌, ◌∷◌, [], ℕ, false, List, Result, Ok, Err, length, map, if◌then◌else◌}
use Rattle.std.specs.FinMap as finite
use Rattle.trace_options.specs.declared.filter.Filter.{Filter}
use Rattle.trace_options.specs.declared.options.Options.{Options}
use Rattle.trace_options.specs.declared.options.TheConstants.Options.{TRACEEXIT}
use Rattle.trace_pages.specs.FlatMemory.{FlatMemory, run_end, stored}
use Rattle.trace_pages.specs.Memory.{store_answer}
use Rattle.trace_pages.specs.declared.fault.Fault.{Fault}
use Rattle.trace_regs.specs.declared.regs.Regs.{Regs}
use Rattle.trace_record.specs.Content.{Content, content_by, zero_regs}
use Rattle.trace_record.specs.declared.death.Death.{Death}
use Rattle.trace_record.specs.declared.death.Death.TheVariants.{Exited, Signaled}
use Rattle.trace_record.specs.declared.resume.Kind.TheVariants.{Cont}
use Rattle.trace_record.specs.declared.resume.Resume.{Resume}
use Rattle.trace_record.specs.declared.stop.Stop.{Stop}
use Rattle.trace_record.specs.declared.stop.Stop.TheVariants as stop
use Rattle.trace_script.specs.Registers.{first_regs, with_answer, with_call, with_start}
use Rattle.trace_script.specs.Script.{Script}
use Rattle.trace_script.specs.StepStops.{Act, Halts, Loads, Calls, Becomes, Stores, Answers, Delivers, Exits, Dies}
use Rattle.trace_script.specs.StepStops.{act_by, acts_of_script, halts, has_option}
use Rattle.trace_script.specs.declared.setting.Setting.{Setting}

-- what a tracee computes with
pub record Context : Type 0 where
  pub regs : Regs
  pub memory : FlatMemory

abbrev pub context : Regs → FlatMemory → Context
context regs memory = record { regs = regs; memory = memory }

abbrev pub context_of : Content → Context
context_of content = context content.regs content.memory

-- ---- one act

pub data Effect : Type 0 where
  Stops : (at : Stop) → Effect
  -- the tracee's last stop, before this death
  StopsLast : (death : Death) → Effect
  GoesOn : Context → Effect
  Ends : Death → Effect
  Faults : (address : ℕ) → Effect

abbrev pub store_effect : Result (Unit {0}) Fault → Context → Effect
store_effect (Ok done) x = GoesOn x
store_effect (Err fault) x = Faults fault.addr

-- a tracee that exits or is killed stops once more, where PTRACE_O_TRACEEXIT is set (ptrace(2), PTRACE_EVENT_EXIT)
abbrev pub exit_effect : Setting → Death → Effect
exit_effect s death = if has_option s TRACEEXIT then StopsLast death else Ends death

abbrev pub effect_of : Setting → Resume → Act → Context → Effect
effect_of s how (Halts when at) x = if halts s how when then Stops at else GoesOn x
effect_of s how (Loads image) x = GoesOn (context (first_regs image.rip image.rsp) image.memory)
effect_of s how (Calls nr arguments) x = GoesOn (context (with_call nr arguments x.regs) x.memory)
effect_of s how (Becomes image) x = GoesOn (context (with_start image.rip image.rsp x.regs) image.memory)
effect_of s how (Stores fill) x =
    store_effect (store_answer (run_end x.memory fill.address (length fill.bytes)))
    (context x.regs (stored x.memory fill.address fill.bytes))
effect_of s how (Answers answer) x = GoesOn (context (with_answer answer x.regs) x.memory)
effect_of s how Delivers x = if how.signal == 0 then GoesOn x else exit_effect s (Signaled how.signal false)
effect_of s how (Exits death) x = exit_effect s death
effect_of s how (Dies death) x = Ends death

-- ---- acts, up to the next stop, the death or a fault

pub data Outcome : Type 0 where
  Stopped : (left : List Act) → (at : Stop) → Context → Outcome
  -- at the stop before this death, which alone is left
  Exiting : (death : Death) → Context → Outcome
  -- no act is left
  Through : Context → Outcome
  Died : Death → Outcome
  Faulted : (address : ℕ) → Outcome

abbrev pub outcome_by : Effect → List Act → Context → (Context → Outcome) → Outcome
outcome_by (Stops at) acts x more = Stopped acts at x
outcome_by (StopsLast death) acts x more = Exiting death x
outcome_by (GoesOn y) acts x more = more y
outcome_by (Ends death) acts x more = Died death
outcome_by (Faults address) acts x more = Faulted address

abbrev pub advance : Setting → Resume → List Act → Context → Outcome
advance s how [] x = Through x
advance s how (act ∷ acts) x = outcome_by (effect_of s how act x) acts x (advance s how acts)

-- ---- positions: where a tracee is in its script

pub record Position : Type 0 where
  pub setting : Setting
  -- of the last stop
  pub number : ℕ
  pub left : List Act

abbrev pub position : Setting → ℕ → List Act → Position
position s number left = record { setting = s; number = number; left = left }

abbrev pub opening_position : Setting → Script → Position
opening_position s script = position s 0 (acts_of_script s script)

-- a position from which the tracee stops by other options (ptrace(2), PTRACE_SETOPTIONS)
abbrev pub under_options : Options → Position → Position
under_options options p =
    position (record { tid = p.setting.tid; options = options; filter = p.setting.filter }) p.number p.left

-- a position from which another filter stops its calls (seccomp(2), SECCOMP_RET_TRACE)
abbrev pub under_filter : Filter → Position → Position
under_filter filter p =
    position (record { tid = p.setting.tid; options = p.setting.options; filter = filter }) p.number
    (map (act_by filter) p.left)

-- the next element of a trace
pub data Element : Type 0 where
  StopIs : Content → Element
  DeathIs : Death → Element
  FaultIs : (address : ℕ) → Element

-- the acts of a script end with an exit, so they never run out; other acts that do end so too, with code 0
abbrev pub element_by : Position → Outcome → Element
element_by p (Stopped left at x) = StopIs (content_by p.setting.tid (p.number + 1) at x.regs x.memory)
element_by p (Exiting death x) =
    StopIs (content_by p.setting.tid (p.number + 1) (stop.Ending death) x.regs x.memory)
element_by p (Through x) = DeathIs (Exited 0)
element_by p (Died death) = DeathIs death
element_by p (Faulted address) = FaultIs address

-- after a death, the death comes again; after a fault, nothing has changed
abbrev pub position_by : Position → Outcome → Position
position_by p (Stopped left at x) = position p.setting (p.number + 1) left
position_by p (Exiting death x) = position p.setting (p.number + 1) (Dies death ∷ [])
position_by p (Through x) = position p.setting p.number (Dies (Exited 0) ∷ [])
position_by p (Died death) = position p.setting p.number (Dies death ∷ [])
position_by p (Faulted address) = p

abbrev pub outcome_at : Position → Resume → Context → Outcome
outcome_at p how x = advance p.setting how p.left x

abbrev pub next_element : Position → Resume → Context → Element
next_element p how x = element_by p (outcome_at p how x)

abbrev pub next_position : Position → Resume → Context → Position
next_position p how x = position_by p (outcome_at p how x)

-- ---- a run: the stops that were made, each for the restart and the context that the tracee took up; the newest first

pub record Turn : Type 0 where
  pub how : Resume
  pub before : Context
  pub content : Content

abbrev pub position_after : Position → List Turn → Position
position_after p [] = p
position_after p (turn ∷ turns) = next_position (position_after p turns) turn.how turn.before

-- each stop is the next element of the trace
abbrev pub FollowsTrace : Position → List Turn → Type 0
FollowsTrace p [] = Unit {0}
FollowsTrace p (turn ∷ turns) =
    (next_element (position_after p turns) turn.how turn.before ≡ StopIs turn.content) × FollowsTrace p turns

-- how a tracer restarts its tracee at each stop
abbrev pub Policy : Type 0
Policy = Content → Resume

-- the restart after the newest stop, or the one before any
abbrev pub how_after : Policy → Resume → List Turn → Resume
how_after policy how [] = how
how_after policy how (turn ∷ turns) = policy turn.content

abbrev pub context_after : Context → List Turn → Context
context_after x [] = x
context_after x (turn ∷ turns) = context_of turn.content

-- each stop but the first came after the policy's restart, with the content as it was published
abbrev pub Obeys : Policy → Resume → Context → List Turn → Type 0
Obeys policy how x [] = Unit {0}
Obeys policy how x (turn ∷ turns) =
    (turn.how ≡ how_after policy how turns) × (turn.before ≡ context_after x turns) × Obeys policy how x turns

-- ---- the whole trace under a policy

pub data Ending : Type 0 where
  Dead : Death → Ending
  -- a store to an address that is not mapped
  Broken : (address : ℕ) → Ending

pub record Trace : Type 0 where
  -- in order
  pub stops : List Content
  pub ending : Ending

abbrev pub with_stop : Content → Trace → Trace
with_stop content t = record { stops = content ∷ t.stops; ending = t.ending }

abbrev pub ended_trace : Ending → Trace
ended_trace ending = record { stops = []; ending = ending }

-- the stops of a run, before those of a trace
abbrev pub with_stops : List Turn → Trace → Trace
with_stops [] t = t
with_stops (turn ∷ turns) t = with_stops turns (with_stop turn.content t)

abbrev pub trace_by : Effect → (Stop → Content) → (Content → Trace) → (Context → Trace) → Trace
trace_by (Stops at) content stopped more = with_stop (content at) (stopped (content at))
-- whatever the restart from its last stop is, the tracee dies
trace_by (StopsLast death) content stopped more = with_stop (content (stop.Ending death)) (ended_trace (Dead death))
trace_by (GoesOn y) content stopped more = more y
trace_by (Ends death) content stopped more = ended_trace (Dead death)
trace_by (Faults address) content stopped more = ended_trace (Broken address)

unfoldable pub trace_from : Policy → Setting → (number : ℕ) → Resume → List Act → Context → Trace
trace_from policy s number how [] x = ended_trace (Dead (Exited 0))
trace_from policy s number how (act ∷ acts) x =
    trace_by (effect_of s how act x) (λ at. content_by s.tid (number + 1) at x.regs x.memory)
    (λ c. trace_from policy s (number + 1) (policy c) acts x)
    (λ y. trace_from policy s number how acts y)

-- from a position on, with the restart and the context that the tracee takes up there
abbrev pub trace_at : Policy → Position → Resume → Context → Trace
trace_at policy p how x = trace_from policy p.setting p.number how p.left x

-- the restart that a tracee takes up before its first stop
abbrev pub first_restart : Resume
first_restart = record { kind = Cont; signal = 0 }

-- the stop trace of a script: it loads its program first, whatever it takes up
abbrev pub trace_of : Policy → Setting → Script → Trace
trace_of policy s script = trace_at policy (opening_position s script) first_restart (context zero_regs finite.empty)
