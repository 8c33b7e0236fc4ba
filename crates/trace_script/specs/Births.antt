-- The children of a tracee: those that its script creates, and those that its stops name (ptrace(2),
-- PTRACE_EVENT_FORK, PTRACE_EVENT_CLONE). And acts whose stops and deaths are ones that a tracee can have.
use Rattle.std.specs.Prelude.{◌≡◌, ◌∷◌, ◌++◌, [], ℕ, Bool, true, false, List, Option, Some, None, if◌then◌else◌}
use Rattle.std.specs.List.{filter_map}
use Rattle.trace_options.specs.declared.options.TheConstants.Options.{TRACECLONE, TRACEFORK}
use Rattle.trace_record.specs.Death.{IsDeath}
use Rattle.trace_record.specs.Stop.{IsStop, child_of}
use Rattle.trace_status.specs.WaitStatus.{IsSignal}
use Rattle.trace_script.specs.Script.{Step}
use Rattle.trace_script.specs.Script as step
use Rattle.trace_script.specs.StepStops.{Act, Halts, Loads, Calls, Becomes, Stores, Answers, Delivers, Exits, Dies}
use Rattle.trace_script.specs.StepStops.{When, Always, Traced, Filtered, ByOption, has_option}
use Rattle.trace_script.specs.StopTrace.{Outcome, Stopped, Exiting, Through, Died, Faulted}
use Rattle.trace_script.specs.declared.setting.Setting.{Setting}

-- ---- scripts

-- the children that steps create, in order
abbrev pub children_of : Step → List ℕ
children_of (step.Fork child) = child ∷ []
children_of (step.Thread child) = child ∷ []
children_of other = []

abbrev pub born_by : List Step → List ℕ
born_by [] = []
born_by (step ∷ steps) = children_of step ++ born_by steps

-- each signal that arrives is one of Linux's
abbrev pub HasValidSignal : Step → Type 0
HasValidSignal (step.Signal signal deadly) = IsSignal signal
HasValidSignal other = Unit {0}

abbrev pub HaveValidSignals : List Step → Type 0
HaveValidSignals [] = Unit {0}
HaveValidSignals (step ∷ steps) = HasValidSignal step × HaveValidSignals steps

-- ---- acts

-- whether a tracee of the setting can stop at a place
abbrev pub may_halt : Setting → When → Bool
may_halt s Always = true
may_halt s Traced = true
may_halt s (Filtered nr) = true
may_halt s (ByOption option) = has_option s option

abbrev pub reported_if : Bool → Option ℕ → Option ℕ
reported_if may child = if may then child else None

abbrev pub with_child : Option ℕ → List ℕ → List ℕ
with_child None children = children
with_child (Some child) children = child ∷ children

-- the children that stops still name, in order
abbrev pub children_reported : Setting → List Act → List ℕ
children_reported s [] = []
children_reported s (Halts when at ∷ acts) = with_child (reported_if (may_halt s when) (child_of at)) (children_reported s acts)
children_reported s (Loads image ∷ acts) = children_reported s acts
children_reported s (Calls nr arguments ∷ acts) = children_reported s acts
children_reported s (Becomes image ∷ acts) = children_reported s acts
children_reported s (Stores fill ∷ acts) = children_reported s acts
children_reported s (Answers answer ∷ acts) = children_reported s acts
children_reported s (Delivers ∷ acts) = children_reported s acts
children_reported s (Exits death ∷ acts) = children_reported s acts
children_reported s (Dies death ∷ acts) = children_reported s acts

-- the child that a stop at a place would name
abbrev pub child_at : Act → Option ℕ
child_at (Halts when at) = child_of at
child_at other = None

-- the children that acts create, in order, whether stops name them or not
abbrev pub children_left : List Act → List ℕ
children_left acts = filter_map child_at acts

-- a stop that names a child comes by an option alone
abbrev pub NamesByOption : When → Option ℕ → Type 0
NamesByOption when None = Unit {0}
NamesByOption (ByOption option) (Some child) = Unit {0}
NamesByOption Always (Some child) = ⊥
NamesByOption Traced (Some child) = ⊥
NamesByOption (Filtered nr) (Some child) = ⊥

-- stops and deaths that a tracee can have
abbrev pub AreGood : List Act → Type 0
AreGood [] = Unit {0}
AreGood (Halts when at ∷ acts) = (IsStop at × NamesByOption when (child_of at)) × AreGood acts
AreGood (Exits death ∷ acts) = IsDeath death × AreGood acts
AreGood (Dies death ∷ acts) = IsDeath death × AreGood acts
AreGood (Loads image ∷ acts) = AreGood acts
AreGood (Calls nr arguments ∷ acts) = AreGood acts
AreGood (Becomes image ∷ acts) = AreGood acts
AreGood (Stores fill ∷ acts) = AreGood acts
AreGood (Answers answer ∷ acts) = AreGood acts
AreGood (Delivers ∷ acts) = AreGood acts

-- what comes next is a stop or a death that a tracee can have, and a child that it names is the first of those that
-- were still to be named
abbrev pub IsGoodOutcome : Setting → (children : List ℕ) → Outcome → Type 0
IsGoodOutcome s children (Stopped left at x) =
    IsStop at × AreGood left × (children ≡ with_child (child_of at) (children_reported s left))
IsGoodOutcome s children (Exiting death x) = IsDeath death
IsGoodOutcome s children (Died death) = IsDeath death
IsGoodOutcome s children (Through x) = Unit {0}
IsGoodOutcome s children (Faulted address) = Unit {0}

-- forks and clones are both reported, or neither is
abbrev pub ReportsBirths : Setting → Type 0
ReportsBirths s = (has_option s TRACEFORK ≡ true) × (has_option s TRACECLONE ≡ true)

abbrev pub ReportsNoBirths : Setting → Type 0
ReportsNoBirths s = (has_option s TRACEFORK ≡ false) × (has_option s TRACECLONE ≡ false)
