-- Acts whose stores are mapped in the image in force never fault: what they do keeps which addresses are mapped, but
-- for a program that is put in, and its own stores are mapped in it.
use Rattle.std.proofs.Common.{refl, ◌≡◌, ◌≢◌, ◌+◌, ◌∷◌, [], ℕ, Bool, true, false, List, Some, None, length}
use Rattle.std.proofs.Common.{cond, eqb, sym, ◌∙◌, subst}
use Rattle.trace_options.specs.declared.options.TheConstants.Options.{TRACEEXIT}
use Rattle.trace_pages.specs.FlatMemory.{FlatMemory, Full, SameAddresses, run_end, stored}
use Rattle.trace_pages.proofs.Memories.{same_run_end, stored_same}
use Rattle.trace_record.specs.Content.{Content, content_by}
use Rattle.trace_record.specs.declared.death.Death.{Death}
use Rattle.trace_record.specs.declared.death.Death.TheVariants.{Signaled}
use Rattle.trace_record.specs.declared.resume.Resume.{Resume}
use Rattle.trace_record.specs.declared.stop.Stop.{Stop}
use Rattle.trace_script.specs.Fills.{AreFillsMapped, EndsDead, HasMappedFills, KeepsAddresses}
use Rattle.trace_script.specs.Script.{Fill, Script, Step}
use Rattle.trace_script.specs.Script as step
use Rattle.trace_script.specs.StepStops.{Act, Halts, Loads, Calls, Becomes, Stores, Answers, Delivers, Exits, Dies}
use Rattle.trace_script.specs.StepStops.{acts_of_script, acts_of_steps, halts, has_option}
use Rattle.trace_script.specs.StopTrace.{Context, Stops, StopsLast, GoesOn, Ends, FaultIs, FollowsTrace, Outcome}
use Rattle.trace_script.specs.StopTrace.{Stopped, Exiting, Through}
use Rattle.trace_script.specs.StopTrace.{Died, Faulted, Policy, Position, StopIs, Trace, Turn, advance, context}
use Rattle.trace_script.specs.StopTrace.{context_after, element_by, next_element, opening_position, outcome_at}
use Rattle.trace_script.specs.StopTrace.{outcome_by, position_after, position_by, trace_by, trace_from}
use Rattle.trace_script.specs.declared.setting.Setting.{Setting}
use Rattle.trace_script.proofs.Looks.{same_back, same_on}

-- each store is mapped in the image in force
abbrev AreStoresMapped : FlatMemory → List Act → Type 0
AreStoresMapped m [] = Unit {0}
AreStoresMapped m (Stores fill ∷ acts) =
    (run_end m fill.address (length fill.bytes) ≡ Full) × AreStoresMapped m acts
AreStoresMapped m (Becomes image ∷ acts) = AreStoresMapped image.memory acts
AreStoresMapped m (Loads image ∷ acts) = AreStoresMapped image.memory acts
AreStoresMapped m (Halts when at ∷ acts) = AreStoresMapped m acts
AreStoresMapped m (Calls nr arguments ∷ acts) = AreStoresMapped m acts
AreStoresMapped m (Answers answer ∷ acts) = AreStoresMapped m acts
AreStoresMapped m (Delivers ∷ acts) = AreStoresMapped m acts
AreStoresMapped m (Exits death ∷ acts) = AreStoresMapped m acts
AreStoresMapped m (Dies death ∷ acts) = AreStoresMapped m acts

mapped_steps : (s : Setting) (m : FlatMemory) (steps : List Step) → AreFillsMapped m steps
    → AreStoresMapped m (acts_of_steps s steps)
unfolding acts_of_steps
mapped_steps s m [] mapped = tt
mapped_steps s m (step.Call nr arguments answer None ∷ steps) mapped = mapped_steps s m steps mapped.1
mapped_steps s m (step.Call nr arguments answer (Some fill) ∷ steps) mapped =
    (mapped.0, mapped_steps s m steps mapped.1)
mapped_steps s m (step.Fork child ∷ steps) mapped = mapped_steps s m steps mapped.1
mapped_steps s m (step.Thread child ∷ steps) mapped = mapped_steps s m steps mapped.1
mapped_steps s m (step.Exec path image ∷ steps) mapped = mapped_steps s image.memory steps mapped.1
mapped_steps s m (step.Signal signal true ∷ steps) mapped = mapped_steps s m steps mapped.1
mapped_steps s m (step.Signal signal false ∷ steps) mapped = mapped_steps s m steps mapped.1
mapped_steps s m (step.Exit status ∷ steps) mapped = mapped_steps s m steps mapped.1

mapped_script : (s : Setting) (m : FlatMemory) (script : Script) → HasMappedFills script
    → AreStoresMapped m (acts_of_script s script)
mapped_script s m script mapped = mapped_steps s script.image.memory script.steps mapped

-- a store that is mapped is done
store_done : (m : FlatMemory) (x : Context) (fill : Fill) → SameAddresses m x.memory
    → run_end m fill.address (length fill.bytes) ≡ Full → run_end x.memory fill.address (length fill.bytes) ≡ Full
store_done m x fill same mapped = sym (same_run_end m x.memory fill.address (length fill.bytes) same) ∙ mapped

store_keeps : (m : FlatMemory) (x : Context) (fill : Fill) → SameAddresses m x.memory
    → run_end x.memory fill.address (length fill.bytes) ≡ Full
    → SameAddresses m (stored x.memory fill.address fill.bytes)
store_keeps m x fill same whole =
    same_on m x.memory (stored x.memory fill.address fill.bytes) same
    (same_back (stored x.memory fill.address fill.bytes) x.memory
    (stored_same x.memory fill.address fill.bytes whole))

-- ---- what comes next

-- at a stop, the stores that are left are mapped in a memory with the same addresses
record IsMappedAt (m : FlatMemory) (left : List Act) : Type 0 where
  pub image : FlatMemory
  pub same : SameAddresses image m
  pub mapped : AreStoresMapped image left

abbrev KeepsMapped : Outcome → Type 0
KeepsMapped (Stopped left at y) = IsMappedAt y.memory left
KeepsMapped (Exiting death y) = Unit {0}
KeepsMapped (Through y) = Unit {0}
KeepsMapped (Died death) = Unit {0}
KeepsMapped (Faulted address) = ⊥

at_halt : (s : Setting) (how : Resume) (b : Bool) (at : Stop) (acts : List Act) (x : Context)
    → IsMappedAt x.memory acts → KeepsMapped (advance s how acts x)
    → KeepsMapped (outcome_by (cond b (Stops at) (GoesOn x)) acts x (advance s how acts))
at_halt s how true at acts x here again = here
at_halt s how false at acts x here again = again

at_exit : (b : Bool) (death : Death) (acts : List Act) (x : Context) (more : Context → Outcome)
    → KeepsMapped (outcome_by (cond b (StopsLast death) (Ends death)) acts x more)
at_exit true death acts x more = tt
at_exit false death acts x more = tt

at_signal : (s : Setting) (how : Resume) (b stops : Bool) (death : Death) (acts : List Act) (x : Context)
    → KeepsMapped (advance s how acts x)
    → KeepsMapped (outcome_by (cond b (GoesOn x) (cond stops (StopsLast death) (Ends death))) acts x
    (advance s how acts))
at_signal s how true stops death acts x again = again
at_signal s how false stops death acts x again = at_exit stops death acts x (advance s how acts)

keeps_mapped : (s : Setting) (how : Resume) (acts : List Act) (x : Context) (m : FlatMemory)
    → SameAddresses m x.memory → AreStoresMapped m acts → KeepsMapped (advance s how acts x)
keeps_mapped s how [] x m same mapped = tt
keeps_mapped s how (Halts when at ∷ acts) x m same mapped =
    at_halt s how (halts s how when) at acts x (record { image = m; same = same; mapped = mapped })
    (keeps_mapped s how acts x m same mapped)
keeps_mapped s how (Loads image ∷ acts) x m same mapped =
    keeps_mapped s how acts _ image.memory (λ q. refl) mapped
keeps_mapped s how (Calls nr arguments ∷ acts) x m same mapped = keeps_mapped s how acts _ m same mapped
keeps_mapped s how (Becomes image ∷ acts) x m same mapped =
    keeps_mapped s how acts _ image.memory (λ q. refl) mapped
keeps_mapped s how (Stores fill ∷ acts) x m same mapped =
    let whole = store_done m x fill same mapped.0 in
    let y = context x.regs (stored x.memory fill.address fill.bytes) in
    rw whole (keeps_mapped s how acts y m (store_keeps m x fill same whole) mapped.1)
keeps_mapped s how (Answers answer ∷ acts) x m same mapped = keeps_mapped s how acts _ m same mapped
keeps_mapped s how (Delivers ∷ acts) x m same mapped =
    at_signal s how (eqb how.signal 0) (has_option s TRACEEXIT) (Signaled how.signal false) acts x
    (keeps_mapped s how acts x m same mapped)
keeps_mapped s how (Exits death ∷ acts) x m same mapped =
    at_exit (has_option s TRACEEXIT) death acts x (advance s how acts)
keeps_mapped s how (Dies death ∷ acts) x m same mapped = tt

-- ---- a run

after_stop : (p : Position) (o : Outcome) (c : Content) → KeepsMapped o → element_by p o ≡ StopIs c
    → IsMappedAt c.memory (position_by p o).left
after_stop p (Stopped left at y) c keeps h =
    let same : content_by p.setting.tid (p.number + 1) at y.regs y.memory ≡ c = cc in
    subst (λ (d : Content). IsMappedAt d.memory left) same keeps
after_stop p (Exiting death y) c keeps h = record { image = c.memory; same = λ q. refl; mapped = tt }
after_stop p (Through y) c keeps h = cc
after_stop p (Died death) c keeps h = cc
after_stop p (Faulted address) c keeps h = cc

moved : (m n : FlatMemory) (left : List Act) → SameAddresses n m → IsMappedAt m left → IsMappedAt n left
moved m n left same at =
    record { image = at.image; same = same_on at.image m n at.same (same_back n m same); mapped = at.mapped }

next_keeps : (p : Position) (how : Resume) (x : Context) → IsMappedAt x.memory p.left → KeepsMapped (outcome_at p how x)
next_keeps p how x at = keeps_mapped p.setting how p.left x at.image at.same at.mapped

run_mapped : (s : Setting) (script : Script) (x : Context) (turns : List Turn) → HasMappedFills script
    → FollowsTrace (opening_position s script) turns → KeepsAddresses x turns
    → IsMappedAt (context_after x turns).memory (position_after (opening_position s script) turns).left
run_mapped s script x [] mapped follows keeps =
    record { image = x.memory; same = λ q. refl; mapped = mapped_script s x.memory script mapped }
run_mapped s script x (turn ∷ turns) mapped follows keeps =
    let p = position_after (opening_position s script) turns in
    let before = run_mapped s script x turns mapped follows.1 keeps.1 in
    let here = moved (context_after x turns).memory turn.before.memory p.left keeps.0 before in
    after_stop p (outcome_at p turn.how turn.before) turn.content (next_keeps p turn.how turn.before here) follows.0

no_fault : (p : Position) (o : Outcome) (a : ℕ) → KeepsMapped o → element_by p o ≢ FaultIs a
no_fault p (Stopped left at y) a keeps = λ h. cc
no_fault p (Exiting death y) a keeps = λ h. cc
no_fault p (Through y) a keeps = λ h. cc
no_fault p (Died death) a keeps = λ h. cc
no_fault p (Faulted address) a keeps = λ h. keeps

pub runs_never_fault : (s : Setting) (script : Script) (x : Context) (turns : List Turn) (how : Resume) (now : Context)
    (address : ℕ) → HasMappedFills script → FollowsTrace (opening_position s script) turns → KeepsAddresses x turns
    → SameAddresses now.memory (context_after x turns).memory
    → next_element (position_after (opening_position s script) turns) how now ≢ FaultIs address
runs_never_fault s script x turns how now address mapped follows keeps same =
    let p = position_after (opening_position s script) turns in
    let here = moved (context_after x turns).memory now.memory p.left same
    (run_mapped s script x turns mapped follows keeps) in
    no_fault p (outcome_at p how now) address (next_keeps p how now here)

-- ---- a trace

trace_halt : (b : Bool) (at : Stop) (x : Context) (content : Stop → Content) (stopped : Content → Trace)
    (more : Context → Trace) → EndsDead (stopped (content at)).ending → EndsDead (more x).ending
    → EndsDead (trace_by (cond b (Stops at) (GoesOn x)) content stopped more).ending
trace_halt true at x content stopped more first second = first
trace_halt false at x content stopped more first second = second

trace_exit : (b : Bool) (death : Death) (content : Stop → Content) (stopped : Content → Trace) (more : Context → Trace)
    → EndsDead (trace_by (cond b (StopsLast death) (Ends death)) content stopped more).ending
trace_exit true death content stopped more = tt
trace_exit false death content stopped more = tt

trace_signal : (b stops : Bool) (death : Death) (x : Context) (content : Stop → Content) (stopped : Content → Trace)
    (more : Context → Trace) → EndsDead (more x).ending
    → EndsDead (trace_by (cond b (GoesOn x) (cond stops (StopsLast death) (Ends death))) content stopped more).ending
trace_signal true stops death x content stopped more again = again
trace_signal false stops death x content stopped more again = trace_exit stops death content stopped more

trace_ends : (policy : Policy) (s : Setting) (number : ℕ) (how : Resume) (acts : List Act) (x : Context)
    (m : FlatMemory) → SameAddresses m x.memory → AreStoresMapped m acts
    → EndsDead (trace_from policy s number how acts x).ending
unfolding trace_from
trace_ends policy s number how [] x m same mapped = tt
trace_ends policy s number how (Halts when at ∷ acts) x m same mapped =
    trace_halt (halts s how when) at x (λ at. content_by s.tid (number + 1) at x.regs x.memory)
    (λ c. trace_from policy s (number + 1) (policy c) acts x) (λ y. trace_from policy s number how acts y)
    (trace_ends policy s (number + 1) _ acts x m same mapped) (trace_ends policy s number how acts x m same mapped)
trace_ends policy s number how (Loads image ∷ acts) x m same mapped =
    trace_ends policy s number how acts _ image.memory (λ q. refl) mapped
trace_ends policy s number how (Calls nr arguments ∷ acts) x m same mapped =
    trace_ends policy s number how acts _ m same mapped
trace_ends policy s number how (Becomes image ∷ acts) x m same mapped =
    trace_ends policy s number how acts _ image.memory (λ q. refl) mapped
trace_ends policy s number how (Stores fill ∷ acts) x m same mapped =
    let whole = store_done m x fill same mapped.0 in
    let y = context x.regs (stored x.memory fill.address fill.bytes) in
    rw whole (trace_ends policy s number how acts y m (store_keeps m x fill same whole) mapped.1)
trace_ends policy s number how (Answers answer ∷ acts) x m same mapped =
    trace_ends policy s number how acts _ m same mapped
trace_ends policy s number how (Delivers ∷ acts) x m same mapped =
    trace_signal (eqb how.signal 0) (has_option s TRACEEXIT) (Signaled how.signal false) x
    (λ at. content_by s.tid (number + 1) at x.regs x.memory)
    (λ c. trace_from policy s (number + 1) (policy c) acts x) (λ y. trace_from policy s number how acts y)
    (trace_ends policy s number how acts x m same mapped)
trace_ends policy s number how (Exits death ∷ acts) x m same mapped =
    trace_exit (has_option s TRACEEXIT) death (λ at. content_by s.tid (number + 1) at x.regs x.memory)
    (λ c. trace_from policy s (number + 1) (policy c) acts x) (λ y. trace_from policy s number how acts y)
trace_ends policy s number how (Dies death ∷ acts) x m same mapped = tt

pub traces_never_fault : (policy : Policy) (s : Setting) (script : Script) (number : ℕ) (how : Resume) (x : Context)
    → HasMappedFills script → EndsDead (trace_from policy s number how (acts_of_script s script) x).ending
traces_never_fault policy s script number how x mapped =
    trace_ends policy s number how (acts_of_script s script) x x.memory (λ q. refl)
    (mapped_script s x.memory script mapped)
