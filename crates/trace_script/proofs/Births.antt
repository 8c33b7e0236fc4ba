-- Stops and deaths are ones that a tracee can have, and name its children in order.
use Rattle.std.proofs.Common.{refl, ◌≡◌, ◌%◌, ◌<◌, ◌∷◌, ◌++◌, [], ℕ, Bool, true, false, List, Option, Some, None}
use Rattle.std.proofs.Common.{◌&&◌, nat_le, not, length, cond, eqb, arith, ap, sym, ◌∙◌, subst, inl, inr}
use Rattle.std.proofs.lemmas.Bool.Decides.{eqb_tells, nat_tests}
use Rattle.trace_options.specs.declared.options.TheConstants.Options.{TRACEEXEC, TRACEEXIT}
use Rattle.trace_pages.specs.FlatMemory.{RunEnd, Full, Absent, Top, run_end, stored}
use Rattle.trace_pages.specs.Memory.{store_answer}
use Rattle.trace_record.specs.Death.{IsDeath}
use Rattle.trace_record.specs.Resume.{IsResume}
use Rattle.trace_record.specs.Stop.{IsStop, child_of}
use Rattle.trace_record.specs.declared.death.Death.{Death}
use Rattle.trace_record.specs.declared.death.Death.TheVariants.{Signaled}
use Rattle.trace_record.specs.declared.resume.Resume.{Resume}
use Rattle.trace_record.specs.declared.stop.Stop.{Stop}
use Rattle.trace_script.specs.Births.{AreGood, HasValidSignal, HaveValidSignals, IsGoodOutcome, NamesByOption}
use Rattle.trace_script.specs.Births.{ReportsBirths, ReportsNoBirths, born_by, children_of, children_reported, may_halt}
use Rattle.trace_script.specs.Births.{reported_if, with_child}
use Rattle.trace_script.specs.CaseFacts.{AreSteps}
use Rattle.trace_script.specs.Script.{Fill, Script, Step}
use Rattle.trace_script.specs.Script as step
use Rattle.trace_script.specs.Signals.{can_arrive, kills_or_stops}
use Rattle.trace_script.specs.StepStops.{Act, Halts, Loads, Calls, Becomes, Stores, Answers, Delivers, Exits, Dies}
use Rattle.trace_script.specs.StepStops.{When, Always, Traced, Filtered, ByOption, acts_of_script, acts_of_steps, halts}
use Rattle.trace_script.specs.StepStops.{acts_of, has_option}
use Rattle.trace_script.specs.StopTrace.{Context, Stops, StopsLast, GoesOn, Ends, Outcome}
use Rattle.trace_script.specs.StopTrace.{advance, context, exit_effect, outcome_by, store_effect}
use Rattle.trace_script.specs.declared.case.signals.TheConstants.{LAST_STANDARD}
use Rattle.trace_script.specs.declared.setting.Setting.{Setting}
use Rattle.trace_status.specs.WaitStatus.{IsSignal}

-- ---- what comes next

none_reported : (b : Bool) → reported_if b None ≡ None
none_reported true = refl
none_reported false = refl

-- a child is named exactly where the tracee stops
reported_is : (s : Setting) (how : Resume) (when : When) (child : Option ℕ) → NamesByOption when child
    → reported_if (may_halt s when) child ≡ reported_if (halts s how when) child
reported_is s how when None names = none_reported (may_halt s when) ∙ sym (none_reported (halts s how when))
reported_is s how (ByOption option) (Some child) names = refl
reported_is s how Always (Some child) names = absurd names
reported_is s how Traced (Some child) names = absurd names
reported_is s how (Filtered nr) (Some child) names = absurd names

halt_by : (s : Setting) (how : Resume) (b : Bool) (at : Stop) (acts : List Act) (x : Context) (children : List ℕ)
    → IsStop at → AreGood acts → children ≡ with_child (reported_if b (child_of at)) (children_reported s acts)
    → IsGoodOutcome s (children_reported s acts) (advance s how acts x)
    → IsGoodOutcome s children (outcome_by (cond b (Stops at) (GoesOn x)) acts x (advance s how acts))
halt_by s how true at acts x children stop good same again = (stop, good, same)
halt_by s how false at acts x children stop good same again =
    subst (λ cs. IsGoodOutcome s cs (advance s how acts x)) (sym same) again

at_store : (s : Setting) (how : Resume) (end : RunEnd) (acts : List Act) (x y : Context)
    → IsGoodOutcome s (children_reported s acts) (advance s how acts y)
    → IsGoodOutcome s (children_reported s acts) (outcome_by (store_effect (store_answer end) y) acts x (advance s how acts))
at_store s how Full acts x y again = again
at_store s how (Absent address) acts x y again = tt
at_store s how Top acts x y again = tt

at_exit : (s : Setting) (b : Bool) (death : Death) (children : List ℕ) (acts : List Act) (x : Context)
    (more : Context → Outcome) → IsDeath death
    → IsGoodOutcome s children (outcome_by (cond b (StopsLast death) (Ends death)) acts x more)
at_exit s true death children acts x more is = is
at_exit s false death children acts x more is = is

at_signal : (s : Setting) (how : Resume) (acts : List Act) (x : Context) → IsResume how
    → IsGoodOutcome s (children_reported s acts) (advance s how acts x)
    → IsGoodOutcome s (children_reported s acts)
    (outcome_by (cond (eqb how.signal 0) (GoesOn x) (exit_effect s (Signaled how.signal false))) acts x
    (advance s how acts))
at_signal s how acts x range again = elim (eqb_tells how.signal 0) [
  | inl none ↦ rw none.0 again
  | inr some ↦
      (let is : IsDeath (Signaled how.signal false) = (omega (arith, some.1), range) in
      rw some.0 (at_exit s (has_option s TRACEEXIT) (Signaled how.signal false) (children_reported s acts) acts x
      (advance s how acts) is))
]

pub good_next : (s : Setting) (how : Resume) (acts : List Act) (x : Context) → IsResume how → AreGood acts
    → IsGoodOutcome s (children_reported s acts) (advance s how acts x)
good_next s how [] x range good = tt
good_next s how (Halts when at ∷ acts) x range good =
    halt_by s how (halts s how when) at acts x _ good.0.0 good.1
    (ap (λ child. with_child child (children_reported s acts)) (reported_is s how when (child_of at) good.0.1))
    (good_next s how acts x range good.1)
good_next s how (Loads image ∷ acts) x range good = good_next s how acts _ range good
good_next s how (Calls nr arguments ∷ acts) x range good = good_next s how acts _ range good
good_next s how (Becomes image ∷ acts) x range good = good_next s how acts _ range good
good_next s how (Stores fill ∷ acts) x range good =
    let y = context x.regs (stored x.memory fill.address fill.bytes) in
    at_store s how (run_end x.memory fill.address (length fill.bytes)) acts x y (good_next s how acts y range good)
good_next s how (Answers answer ∷ acts) x range good = good_next s how acts _ range good
good_next s how (Delivers ∷ acts) x range good = at_signal s how acts x range (good_next s how acts x range good)
good_next s how (Exits death ∷ acts) x range good =
    at_exit s (has_option s TRACEEXIT) death (children_reported s acts) acts x (advance s how acts) good.0
good_next s how (Dies death ∷ acts) x range good = good.0

-- ---- scripts

good_append : (a b : List Act) → AreGood a → AreGood b → AreGood (a ++ b)
good_append [] b first second = second
good_append (Halts when at ∷ a) b first second = (first.0, good_append a b first.1 second)
good_append (Loads image ∷ a) b first second = good_append a b first second
good_append (Calls nr arguments ∷ a) b first second = good_append a b first second
good_append (Becomes image ∷ a) b first second = good_append a b first second
good_append (Stores fill ∷ a) b first second = good_append a b first second
good_append (Answers answer ∷ a) b first second = good_append a b first second
good_append (Delivers ∷ a) b first second = good_append a b first second
good_append (Exits death ∷ a) b first second = (first.0, good_append a b first.1 second)
good_append (Dies death ∷ a) b first second = (first.0, good_append a b first.1 second)

good_step : (s : Setting) (step : Step) → HasValidSignal step → AreGood (acts_of s step)
good_step s (step.Call nr arguments answer None) range = ((tt, tt), ((tt, tt), ((tt, tt), tt)))
good_step s (step.Call nr arguments answer (Some fill)) range = ((tt, tt), ((tt, tt), ((tt, tt), tt)))
good_step s (step.Fork child) range = ((tt, tt), ((tt, tt), ((tt, tt), ((tt, tt), tt))))
good_step s (step.Thread child) range = ((tt, tt), ((tt, tt), ((tt, tt), ((tt, tt), tt))))
good_step s (step.Exec path image) range = ((tt, tt), ((tt, tt), ((tt, tt), ((tt, tt), tt))))
good_step s (step.Signal signal true) range = ((range, tt), tt)
good_step s (step.Signal signal false) range = ((range, tt), tt)
good_step s (step.Exit status) range =
    let low : status % 256 < 256 = omega arith in ((tt, tt), ((tt, tt), (low, tt)))

good_steps : (s : Setting) (steps : List Step) → HaveValidSignals steps → AreGood (acts_of_steps s steps)
unfolding acts_of_steps
good_steps s [] range = let low : 0 < 256 = omega arith in (low, tt)
good_steps s (step ∷ steps) range =
    good_append (acts_of s step) (acts_of_steps s steps) (good_step s step range.0) (good_steps s steps range.1)

pub good_script : (s : Setting) (script : Script) → HaveValidSignals script.steps → AreGood (acts_of_script s script)
good_script s script range = ((tt, tt), good_steps s script.steps range)

with_append : (child : Option ℕ) (a b : List ℕ) → with_child child (a ++ b) ≡ with_child child a ++ b
with_append None a b = refl
with_append (Some child) a b = refl

reported_append : (s : Setting) (a b : List Act) → children_reported s (a ++ b) ≡ children_reported s a ++ children_reported s b
reported_append s [] b = refl
reported_append s (Halts when at ∷ a) b =
    let child = reported_if (may_halt s when) (child_of at) in
    ap (with_child child) (reported_append s a b) ∙ with_append child (children_reported s a) (children_reported s b)
reported_append s (Loads image ∷ a) b = reported_append s a b
reported_append s (Calls nr arguments ∷ a) b = reported_append s a b
reported_append s (Becomes image ∷ a) b = reported_append s a b
reported_append s (Stores fill ∷ a) b = reported_append s a b
reported_append s (Answers answer ∷ a) b = reported_append s a b
reported_append s (Delivers ∷ a) b = reported_append s a b
reported_append s (Exits death ∷ a) b = reported_append s a b
reported_append s (Dies death ∷ a) b = reported_append s a b

reported_step : (s : Setting) (step : Step) → ReportsBirths s → children_reported s (acts_of s step) ≡ children_of step
reported_step s (step.Call nr arguments answer None) tells = refl
reported_step s (step.Call nr arguments answer (Some fill)) tells = refl
reported_step s (step.Fork child) tells = ap (λ b. with_child (reported_if b (Some child)) []) tells.0
reported_step s (step.Thread child) tells = ap (λ b. with_child (reported_if b (Some child)) []) tells.1
reported_step s (step.Exec path image) tells = ap (λ c. with_child c []) (none_reported (has_option s TRACEEXEC))
reported_step s (step.Signal signal true) tells = refl
reported_step s (step.Signal signal false) tells = refl
reported_step s (step.Exit status) tells = refl

reported_steps : (s : Setting) (steps : List Step) → ReportsBirths s → children_reported s (acts_of_steps s steps) ≡ born_by steps
unfolding acts_of_steps
reported_steps s [] tells = refl
reported_steps s (step ∷ steps) tells =
    reported_append s (acts_of s step) (acts_of_steps s steps)
    ∙ ap (λ children. children ++ children_reported s (acts_of_steps s steps)) (reported_step s step tells)
    ∙ ap (λ children. children_of step ++ children) (reported_steps s steps tells)

pub reported_script : (s : Setting) (script : Script) → ReportsBirths s
    → children_reported s (acts_of_script s script) ≡ born_by script.steps
reported_script s script tells = reported_steps s script.steps tells

unreported_step : (s : Setting) (step : Step) → ReportsNoBirths s → children_reported s (acts_of s step) ≡ []
unreported_step s (step.Call nr arguments answer None) tells = refl
unreported_step s (step.Call nr arguments answer (Some fill)) tells = refl
unreported_step s (step.Fork child) tells = ap (λ b. with_child (reported_if b (Some child)) []) tells.0
unreported_step s (step.Thread child) tells = ap (λ b. with_child (reported_if b (Some child)) []) tells.1
unreported_step s (step.Exec path image) tells = ap (λ c. with_child c []) (none_reported (has_option s TRACEEXEC))
unreported_step s (step.Signal signal true) tells = refl
unreported_step s (step.Signal signal false) tells = refl
unreported_step s (step.Exit status) tells = refl

unreported_steps : (s : Setting) (steps : List Step) → ReportsNoBirths s → children_reported s (acts_of_steps s steps) ≡ []
unfolding acts_of_steps
unreported_steps s [] tells = refl
unreported_steps s (step ∷ steps) tells =
    reported_append s (acts_of s step) (acts_of_steps s steps)
    ∙ ap (λ children. children ++ children_reported s (acts_of_steps s steps)) (unreported_step s step tells)
    ∙ unreported_steps s steps tells

pub unreported_script : (s : Setting) (script : Script) → ReportsNoBirths s → children_reported s (acts_of_script s script) ≡ []
unreported_script s script tells = unreported_steps s script.steps tells

-- ---- the signals of a case

arriving_by : (low high : Bool) (signal : ℕ) (others : Bool) → nat_le 1 signal ≡ low → nat_le signal LAST_STANDARD ≡ high
    → (low && (high && others)) ≡ true → IsSignal signal
arriving_by true true signal others first last can = grind (arith, nat_tests)
arriving_by true false signal others first last can = cc can
arriving_by false high signal others first last can = cc can

-- a signal that can arrive is one of Linux's
arriving : (signal : ℕ) → can_arrive signal ≡ true → IsSignal signal
arriving signal can =
    arriving_by (nat_le 1 signal) (nat_le signal LAST_STANDARD) signal (not (kills_or_stops signal)) refl refl can

pub arriving_in_range : (steps : List Step) → AreSteps steps → HaveValidSignals steps
arriving_in_range [] can = tt
arriving_in_range (step.Call nr arguments answer fill ∷ steps) can = (tt, arriving_in_range steps can.1)
arriving_in_range (step.Fork child ∷ steps) can = (tt, arriving_in_range steps can.1)
arriving_in_range (step.Thread child ∷ steps) can = (tt, arriving_in_range steps can.1)
arriving_in_range (step.Exec path image ∷ steps) can = (tt, arriving_in_range steps can.1)
arriving_in_range (step.Signal signal deadly ∷ steps) can = (arriving signal can.0, arriving_in_range steps can.1)
arriving_in_range (step.Exit status ∷ steps) can = (tt, arriving_in_range steps can.1)
