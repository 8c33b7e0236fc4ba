-- How many stops acts can make: each stop leaves fewer, a step makes four at most, and no number passes the last one.
use Rattle.std.proofs.Common.{◌≡◌, ◌+◌, ◌*◌, ◌≤◌, ◌∷◌, ◌++◌, [], ℕ, Bool, true, false, List, Some, None}
use Rattle.std.proofs.Common.{length, drop, cond, eqb, arith, ap, sym, ◌∙◌, subst}
use Rattle.std.proofs.lemmas.List.{length-map}
use Rattle.trace_options.specs.declared.options.TheConstants.Options.{TRACEEXIT}
use Rattle.trace_pages.specs.FlatMemory.{FlatMemory, RunEnd, Full, Absent, Top, run_end, stored}
use Rattle.trace_pages.specs.Memory.{store_answer}
use Rattle.trace_record.specs.declared.death.Death.{Death}
use Rattle.trace_record.specs.declared.death.Death.TheVariants.{Signaled}
use Rattle.trace_record.specs.declared.resume.Resume.{Resume}
use Rattle.trace_record.specs.declared.stop.Stop.{Stop}
use Rattle.stop_history.specs.declared.limits.TheConstants.{LAST_NUMBER}
use Rattle.trace_script.specs.Arrivals.{exit_outcome}
use Rattle.trace_script.specs.Kept.{step_of, steps_of}
use Rattle.trace_script.specs.Left.{left_by, left_in}
use Rattle.trace_script.specs.Script.{Fill, Script, Step}
use Rattle.trace_script.specs.Script as step
use Rattle.trace_script.specs.StepStops.{Act, Halts, Loads, Calls, Becomes, Stores, Answers, Delivers, Exits, Dies}
use Rattle.trace_script.specs.StepStops.{acts_of, acts_of_steps, halts, has_option}
use Rattle.trace_script.specs.StopNumbers.{IsWithin, stops_in}
use Rattle.trace_script.specs.StopTrace.{Context, Stops, StopsLast, GoesOn, Ends, Outcome, Stopped, Exiting}
use Rattle.trace_script.specs.StopTrace.{Through, Died}
use Rattle.trace_script.specs.StopTrace.{Faulted, Position, advance, context, next_position, opening_position}
use Rattle.trace_script.specs.StopTrace.{outcome_at, outcome_by, position, position_by, store_effect}
use Rattle.trace_script.specs.declared.machine.progress.Progress.{Progress}
use Rattle.trace_script.specs.declared.machine.progress.Progress.TheVariants as progress
use Rattle.trace_script.specs.declared.script.Image.{Image as KeptImage}
use Rattle.trace_script.specs.declared.script.Step.{Step as KeptStep}
use Rattle.trace_script.specs.declared.setting.Setting.{Setting}
use Rattle.trace_script.proofs.Steps.{left_first}

-- ---- a stop leaves fewer stops

abbrev pub LeavesLess : Outcome → ℕ → Type 0
LeavesLess (Stopped left at y) most = stops_in left + 1 ≤ most
LeavesLess (Exiting death y) most = 1 ≤ most
LeavesLess (Through y) most = Unit {0}
LeavesLess (Died death) most = Unit {0}
LeavesLess (Faulted address) most = Unit {0}

and_more : (o : Outcome) (most : ℕ) → LeavesLess o most → LeavesLess o (most + 1)
and_more (Stopped left at y) most less = omega (arith, less)
and_more (Exiting death y) most less = omega (arith, less)
and_more (Through y) most less = tt
and_more (Died death) most less = tt
and_more (Faulted address) most less = tt

at_halt : (s : Setting) (how : Resume) (b : Bool) (at : Stop) (acts : List Act) (x : Context)
    → LeavesLess (advance s how acts x) (stops_in acts)
    → LeavesLess (outcome_by (cond b (Stops at) (GoesOn x)) acts x (advance s how acts)) (stops_in acts + 1)
at_halt s how true at acts x again = omega arith
at_halt s how false at acts x again = and_more (advance s how acts x) (stops_in acts) again

at_store : (s : Setting) (how : Resume) (end : RunEnd) (acts : List Act) (x y : Context)
    → LeavesLess (advance s how acts y) (stops_in acts)
    → LeavesLess (outcome_by (store_effect (store_answer end) y) acts x (advance s how acts)) (stops_in acts)
at_store s how Full acts x y again = again
at_store s how (Absent address) acts x y again = tt
at_store s how Top acts x y again = tt

at_exit : (b : Bool) (death : Death) (acts : List Act) (x : Context) (more : Context → Outcome) (most : ℕ)
    → LeavesLess (outcome_by (cond b (StopsLast death) (Ends death)) acts x more) (most + 1)
at_exit true death acts x more most = omega arith
at_exit false death acts x more most = tt

at_signal : (s : Setting) (how : Resume) (b stops : Bool) (death : Death) (acts : List Act) (x : Context)
    → LeavesLess (advance s how acts x) (stops_in acts)
    → LeavesLess (outcome_by (cond b (GoesOn x) (cond stops (StopsLast death) (Ends death))) acts x
    (advance s how acts)) (stops_in acts + 1)
at_signal s how true stops death acts x again = and_more (advance s how acts x) (stops_in acts) again
at_signal s how false stops death acts x again = at_exit stops death acts x (advance s how acts) (stops_in acts)

pub leaves_less : (s : Setting) (how : Resume) (acts : List Act) (x : Context)
    → LeavesLess (advance s how acts x) (stops_in acts)
leaves_less s how [] x = tt
leaves_less s how (Halts when at ∷ acts) x =
    at_halt s how (halts s how when) at acts x (leaves_less s how acts x)
leaves_less s how (Loads image ∷ acts) x = leaves_less s how acts _
leaves_less s how (Calls nr arguments ∷ acts) x = leaves_less s how acts _
leaves_less s how (Becomes image ∷ acts) x = leaves_less s how acts _
leaves_less s how (Stores fill ∷ acts) x =
    let y = context x.regs (stored x.memory fill.address fill.bytes) in
    at_store s how (run_end x.memory fill.address (length fill.bytes)) acts x y (leaves_less s how acts y)
leaves_less s how (Answers answer ∷ acts) x = leaves_less s how acts _
leaves_less s how (Delivers ∷ acts) x =
    at_signal s how (eqb how.signal 0) (has_option s TRACEEXIT) (Signaled how.signal false) acts x
    (leaves_less s how acts x)
leaves_less s how (Exits death ∷ acts) x =
    at_exit (has_option s TRACEEXIT) death acts x (advance s how acts) (stops_in acts)
leaves_less s how (Dies death ∷ acts) x = tt

within_by : (most : ℕ) (p : Position) (o : Outcome) → IsWithin most p → LeavesLess o (stops_in p.left)
    → IsWithin most (position_by p o)
within_by most p (Stopped left at y) within less = omega (arith, within, less)
within_by most p (Exiting death y) within less = omega (arith, within, less)
within_by most p (Through y) within less = omega (arith, within)
within_by most p (Died death) within less = omega (arith, within)
within_by most p (Faulted address) within less = within

pub stays_within : (most : ℕ) (p : Position) (how : Resume) (x : Context) → IsWithin most p
    → IsWithin most (next_position p how x)
stays_within most p how x within =
    within_by most p (outcome_at p how x) within (leaves_less p.setting how p.left x)

-- ---- a step makes four stops at most

stops_append : (a b : List Act) → stops_in (a ++ b) ≡ stops_in a + stops_in b
stops_append [] b = omega arith
stops_append (Halts when at ∷ a) b = let again = stops_append a b in omega (arith, again)
stops_append (Loads image ∷ a) b = stops_append a b
stops_append (Calls nr arguments ∷ a) b = stops_append a b
stops_append (Becomes image ∷ a) b = stops_append a b
stops_append (Stores fill ∷ a) b = stops_append a b
stops_append (Answers answer ∷ a) b = stops_append a b
stops_append (Delivers ∷ a) b = let again = stops_append a b in omega (arith, again)
stops_append (Exits death ∷ a) b = let again = stops_append a b in omega (arith, again)
stops_append (Dies death ∷ a) b = stops_append a b

four_at_most : (s : Setting) (step : Step) → stops_in (acts_of s step) ≤ 4
four_at_most s (step.Call nr arguments answer None) = omega arith
four_at_most s (step.Call nr arguments answer (Some fill)) = omega arith
four_at_most s (step.Fork child) = omega arith
four_at_most s (step.Thread child) = omega arith
four_at_most s (step.Exec path image) = omega arith
four_at_most s (step.Signal signal true) = omega arith
four_at_most s (step.Signal signal false) = omega arith
four_at_most s (step.Exit status) = omega arith

-- and one at the end, where they run out
pub four_each : (s : Setting) (steps : List Step) → stops_in (acts_of_steps s steps) ≤ 1 + 4 * length steps
unfolding acts_of_steps
four_each s [] = omega arith
four_each s (step ∷ steps) =
    let both = stops_append (acts_of s step) (acts_of_steps s steps) in
    let here = four_at_most s step in
    let rest = four_each s steps in omega (arith, both, here, rest)

pub opening_within : (s : Setting) (script : Script)
    → IsWithin (2 + 4 * length script.steps) (opening_position s script)
opening_within s script = let all = four_each s script.steps in omega (arith, all)

-- ---- the numbers of a machine

-- the stop before a death was among those that could still come
exit_less : (s : Setting) (how : Resume) (b : Bool) (death : Death) (y : Context) (most : ℕ) → b ≡ true
    → LeavesLess (outcome_by (cond b (StopsLast death) (Ends death)) [] y (advance s how [])) most → 1 ≤ most
exit_less s how true death y most is less = less
exit_less s how false death y most is less = cc is

pub new_within : (s : Setting) (image : KeptImage FlatMemory) (filled : List ℕ)
    (copies steps : List (KeptStep FlatMemory))
    → steps_of filled copies ≡ steps_of filled steps → length steps ≤ 65536
    → IsWithin LAST_NUMBER (position s 0 (left_by s progress.New image filled copies))
new_within s image filled copies steps same few =
    let all = four_each s (steps_of filled copies) in
    let long : length (steps_of filled copies) ≡ length steps = ap length same ∙ length-map steps (step_of filled) in
    omega (arith, all, long, few)

pub loaded_within : (s : Setting) (at : Progress) (image : KeptImage FlatMemory) (filled : List ℕ)
    (steps : List (KeptStep FlatMemory)) (number : ℕ) → at ≡ progress.New
    → IsWithin LAST_NUMBER (position s number (left_by s at image filled steps))
    → IsWithin LAST_NUMBER (position s (number + 1) (left_in s filled steps 0))
loaded_within s at image filled steps number new within =
    let opened : IsWithin LAST_NUMBER (position s number (left_by s progress.New image filled steps)) =
    subst (λ p. IsWithin LAST_NUMBER (position s number (left_by s p image filled steps))) new within in
    subst (λ acts. IsWithin LAST_NUMBER (position s (number + 1) acts)) (sym (left_first s filled steps))
    (omega (arith, opened))

pub stopped_within : (s : Setting) (how : Resume) (was : Progress) (image : KeptImage FlatMemory) (filled : List ℕ)
    (steps : List (KeptStep FlatMemory)) (number index place : ℕ) (left : List Act) (at : Stop) (x y : Context)
    → was ≡ progress.Going index place
    → advance s how (left_in s filled (drop index steps) place) x ≡ Stopped left at y
    → IsWithin LAST_NUMBER (position s number (left_by s was image filled steps))
    → IsWithin LAST_NUMBER (position s (number + 1) left)
stopped_within s how was image filled steps number index place left at x y going is within =
    let acts = left_in s filled (drop index steps) place in
    let less : stops_in left + 1 ≤ stops_in acts =
    subst (λ o. LeavesLess o (stops_in acts)) is (leaves_less s how acts x) in
    let before : IsWithin LAST_NUMBER (position s number acts) =
    subst (λ p. IsWithin LAST_NUMBER (position s number (left_by s p image filled steps))) going within in
    omega (arith, before, less)

pub exiting_within : (s : Setting) (how : Resume) (was : Progress) (image : KeptImage FlatMemory) (filled : List ℕ)
    (steps : List (KeptStep FlatMemory)) (number index place : ℕ) (death : Death) (x y : Context)
    → was ≡ progress.Going index place
    → advance s how (left_in s filled (drop index steps) place) x ≡ exit_outcome s how death y
    → has_option s TRACEEXIT ≡ true
    → IsWithin LAST_NUMBER (position s number (left_by s was image filled steps))
    → IsWithin LAST_NUMBER (position s (number + 1) (Dies death ∷ []))
exiting_within s how was image filled steps number index place death x y going is stops within =
    let acts = left_in s filled (drop index steps) place in
    let less : 1 ≤ stops_in acts =
    exit_less s how (has_option s TRACEEXIT) death y (stops_in acts) stops
    (subst (λ o. LeavesLess o (stops_in acts)) is (leaves_less s how acts x)) in
    let before : IsWithin LAST_NUMBER (position s number acts) =
    subst (λ p. IsWithin LAST_NUMBER (position s number (left_by s p image filled steps))) going within in
    omega (arith, before, less)
