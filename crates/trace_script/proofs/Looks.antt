-- What a look ahead finds is what comes.
use Rattle.std.proofs.Common.{refl, ◌≡◌, ◌∷◌, [], ℕ, Bool, true, false, List, Result, Ok, Err, length}
use Rattle.std.proofs.Common.{ap, sym, ◌∙◌, cond, eqb, Some, None}
use Rattle.text_lines.specs.Ranges.{◌>>=◌}
use Rattle.trace_options.specs.declared.options.TheConstants.Options.{TRACEEXIT}
use Rattle.trace_pages.specs.FlatMemory.{FlatMemory, RunEnd, Full, Absent, Top, SameAddresses, run_end, stored}
use Rattle.trace_pages.specs.Memory.{store_answer}
use Rattle.trace_pages.proofs.Memories.{same_run_end, stored_same}
use Rattle.trace_record.specs.declared.death.Death.{Death}
use Rattle.trace_record.specs.declared.death.Death.TheVariants.{Signaled}
use Rattle.trace_record.specs.declared.resume.Resume.{Resume}
use Rattle.trace_record.specs.declared.stop.Stop.{Stop}
use Rattle.trace_script.specs.LookAhead.{fill_check, fault_in, look_at, look_over}
use Rattle.trace_script.specs.StepStops.{Act, Halts, Loads, Calls, Becomes, Stores, Answers, Delivers, Exits, Dies}
use Rattle.trace_script.specs.StepStops.{halts, has_option}
use Rattle.trace_script.specs.StopTrace.{Context, Effect, Stops, StopsLast, GoesOn, Ends, Faults}
use Rattle.trace_script.specs.StopTrace.{Outcome, Stopped, Exiting, Through, Died}
use Rattle.trace_script.specs.StopTrace.{Faulted, advance, context, effect_of, outcome_by, store_effect}
use Rattle.trace_script.specs.declared.setting.Setting.{Setting}
use Rattle.trace_script.specs.declared.step.found.Found.{Found}
use Rattle.trace_script.specs.declared.step.found.Found.TheVariants.{Fault, Halt}

-- ---- what is found beside what comes

-- of one act
abbrev Agrees : Effect → Result FlatMemory Found → Type 0
Agrees (Stops at) (Err Halt) = Unit {0}
Agrees (StopsLast death) (Err Halt) = Unit {0}
Agrees (Ends death) (Err Halt) = Unit {0}
Agrees (GoesOn y) (Ok m) = SameAddresses m y.memory
Agrees (Faults address) (Err (Fault found)) = address ≡ found
Agrees effect found = ⊥

at_halt : (b : Bool) (at : Stop) (x : Context) (m : FlatMemory) → SameAddresses m x.memory
    → Agrees (cond b (Stops at) (GoesOn x)) (cond b (Err Halt) (Ok m))
at_halt true at x m same = tt
at_halt false at x m same = same

at_exit : (b : Bool) (death : Death) → Agrees (cond b (StopsLast death) (Ends death)) (Err Halt)
at_exit true death = tt
at_exit false death = tt

at_signal : (b stops : Bool) (death : Death) (x : Context) (m : FlatMemory) → SameAddresses m x.memory
    → Agrees (cond b (GoesOn x) (cond stops (StopsLast death) (Ends death))) (cond b (Ok m) (Err Halt))
at_signal true stops death x m same = same
at_signal false stops death x m same = at_exit stops death

at_store : (end : RunEnd) (y : Context) (m : FlatMemory) → (end ≡ Full → SameAddresses m y.memory)
    → Agrees (store_effect (store_answer end) y) (fill_check (store_answer end) >>= λ done. Ok m)
at_store Full y m same = same refl
at_store (Absent address) y m same = refl
at_store Top y m same = refl

pub same_back : (m n : FlatMemory) → SameAddresses m n → SameAddresses n m
same_back m n same = λ q. sym (same q)

pub same_on : (l m n : FlatMemory) → SameAddresses l m → SameAddresses m n → SameAddresses l n
same_on l m n first second = λ q. first q ∙ second q

act_agrees : (s : Setting) (how : Resume) (act : Act) (x : Context) (m : FlatMemory) → SameAddresses m x.memory
    → Agrees (effect_of s how act x) (look_at s how act m)
act_agrees s how (Halts when at) x m same = at_halt (halts s how when) at x m same
act_agrees s how (Loads image) x m same = λ q. refl
act_agrees s how (Calls nr arguments) x m same = same
act_agrees s how (Becomes image) x m same = λ q. refl
act_agrees s how (Stores fill) x m same =
    rw (same_run_end m x.memory fill.address (length fill.bytes) same)
    (at_store (run_end x.memory fill.address (length fill.bytes))
    (context x.regs (stored x.memory fill.address fill.bytes)) m
    (λ whole. same_on m x.memory (stored x.memory fill.address fill.bytes) same
    (same_back (stored x.memory fill.address fill.bytes) x.memory
    (stored_same x.memory fill.address fill.bytes whole))))
act_agrees s how (Answers answer) x m same = same
act_agrees s how Delivers x m same =
    at_signal (eqb how.signal 0) (has_option s TRACEEXIT) (Signaled how.signal false) x m same
act_agrees s how (Exits death) x m same = at_exit (has_option s TRACEEXIT) death
act_agrees s how (Dies death) x m same = tt

-- of acts in a row
abbrev AgreeAll : Outcome → Result FlatMemory Found → Type 0
AgreeAll (Stopped left at y) (Err Halt) = Unit {0}
AgreeAll (Exiting death y) (Err Halt) = Unit {0}
AgreeAll (Died death) (Err Halt) = Unit {0}
AgreeAll (Through y) (Ok m) = SameAddresses m y.memory
AgreeAll (Faulted address) (Err (Fault found)) = address ≡ found
AgreeAll outcome found = ⊥

one_more : (s : Setting) (how : Resume) (acts : List Act) (x : Context) (e : Effect) (l : Result FlatMemory Found)
    → Agrees e l
    → ((y : Context) (n : FlatMemory) → SameAddresses n y.memory
    → AgreeAll (advance s how acts y) (look_over s how acts n))
    → AgreeAll (outcome_by e acts x (advance s how acts)) (l >>= look_over s how acts)
one_more s how acts x (Stops at) (Err Halt) agrees again = tt
one_more s how acts x (Stops at) (Err (Fault found)) agrees again = absurd agrees
one_more s how acts x (Stops at) (Ok m) agrees again = absurd agrees
one_more s how acts x (StopsLast death) (Err Halt) agrees again = tt
one_more s how acts x (StopsLast death) (Err (Fault found)) agrees again = absurd agrees
one_more s how acts x (StopsLast death) (Ok m) agrees again = absurd agrees
one_more s how acts x (Ends death) (Err Halt) agrees again = tt
one_more s how acts x (Ends death) (Err (Fault found)) agrees again = absurd agrees
one_more s how acts x (Ends death) (Ok m) agrees again = absurd agrees
one_more s how acts x (GoesOn y) (Ok m) agrees again = again y m agrees
one_more s how acts x (GoesOn y) (Err Halt) agrees again = absurd agrees
one_more s how acts x (GoesOn y) (Err (Fault found)) agrees again = absurd agrees
one_more s how acts x (Faults address) (Err (Fault found)) agrees again = agrees
one_more s how acts x (Faults address) (Err Halt) agrees again = absurd agrees
one_more s how acts x (Faults address) (Ok m) agrees again = absurd agrees

all_agree : (s : Setting) (how : Resume) (acts : List Act) (x : Context) (m : FlatMemory) → SameAddresses m x.memory
    → AgreeAll (advance s how acts x) (look_over s how acts m)
all_agree s how [] x m same = same
all_agree s how (act ∷ acts) x m same =
    one_more s how acts x (effect_of s how act x) (look_at s how act m) (act_agrees s how act x m same)
    (λ y n alike. all_agree s how acts y n alike)

found_faults : (o : Outcome) (l : Result FlatMemory Found) (at : ℕ) → AgreeAll o l → fault_in l ≡ Some at
    → o ≡ Faulted at
found_faults (Faulted address) (Err (Fault found)) at agree h = let same : found ≡ at = cc in ap Faulted (agree ∙ same)
found_faults (Faulted address) (Err Halt) at agree h = absurd agree
found_faults (Faulted address) (Ok m) at agree h = absurd agree
found_faults (Stopped left stop y) (Err (Fault found)) at agree h = absurd agree
found_faults (Stopped left stop y) (Err Halt) at agree h = cc
found_faults (Stopped left stop y) (Ok m) at agree h = absurd agree
found_faults (Exiting death y) (Err (Fault found)) at agree h = absurd agree
found_faults (Exiting death y) (Err Halt) at agree h = cc
found_faults (Exiting death y) (Ok m) at agree h = absurd agree
found_faults (Died death) (Err (Fault found)) at agree h = absurd agree
found_faults (Died death) (Err Halt) at agree h = cc
found_faults (Died death) (Ok m) at agree h = absurd agree
found_faults (Through y) (Err (Fault found)) at agree h = absurd agree
found_faults (Through y) (Err Halt) at agree h = absurd agree
found_faults (Through y) (Ok m) at agree h = cc

-- a fault that is found comes
pub faults_come : (s : Setting) (how : Resume) (acts : List Act) (x : Context) (at : ℕ)
    → fault_in (look_over s how acts x.memory) ≡ Some at → advance s how acts x ≡ Faulted at
faults_come s how acts x at h =
    found_faults (advance s how acts x) (look_over s how acts x.memory) at
    (all_agree s how acts x x.memory (λ q. refl)) h

-- where none is found, none comes
none_faults : (o : Outcome) (l : Result FlatMemory Found) (at : ℕ) → AgreeAll o l → fault_in l ≡ None → o ≡ Faulted at
    → ⊥
none_faults (Faulted address) (Err (Fault found)) at agree h is = cc
none_faults (Faulted address) (Err Halt) at agree h is = absurd agree
none_faults (Faulted address) (Ok m) at agree h is = absurd agree
none_faults (Stopped left stop y) l at agree h is = cc
none_faults (Exiting death y) l at agree h is = cc
none_faults (Died death) l at agree h is = cc
none_faults (Through y) l at agree h is = cc

pub none_comes : (s : Setting) (how : Resume) (acts : List Act) (x : Context) (at : ℕ)
    → fault_in (look_over s how acts x.memory) ≡ None → advance s how acts x ≡ Faulted at → ⊥
none_comes s how acts x at h is =
    none_faults (advance s how acts x) (look_over s how acts x.memory) at
    (all_agree s how acts x x.memory (λ q. refl)) h is
