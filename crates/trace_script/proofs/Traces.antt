-- A run and the trace under a policy: what comes next is the next stop of the trace, or how it ends.
use Rattle.std.proofs.Common.{refl, ◌≡◌, ◌+◌, ◌∷◌, [], ℕ, List, ap, sym, ◌∙◌}
use Rattle.trace_record.specs.Content.{Content, content_by}
use Rattle.trace_record.specs.declared.death.Death.{Death}
use Rattle.trace_record.specs.declared.death.Death.TheVariants.{Exited}
use Rattle.trace_record.specs.declared.resume.Resume.{Resume}
use Rattle.trace_record.specs.declared.stop.Stop.TheVariants as stop
use Rattle.trace_script.specs.Script.{Script}
use Rattle.trace_script.specs.StepStops.{Act}
use Rattle.trace_script.specs.StopTrace.{Broken, Context, Dead, DeathIs, Ends, Exiting, FaultIs, Faulted, Faults}
use Rattle.trace_script.specs.StopTrace.{FollowsTrace, GoesOn, Obeys, Outcome, Policy, Position, StopIs, Stopped}
use Rattle.trace_script.specs.StopTrace.{Stops, StopsLast, Through}
use Rattle.trace_script.specs.StopTrace.{Died, Trace, Turn, advance, context_after, context_of, effect_of, element_by}
use Rattle.trace_script.specs.StopTrace.{ended_trace, how_after, next_element, next_position, opening_position}
use Rattle.trace_script.specs.StopTrace.{outcome_at, outcome_by, position_after, position_by, trace_at, trace_by}
use Rattle.trace_script.specs.StopTrace.{trace_from, trace_of, with_stop, with_stops}
use Rattle.trace_script.specs.declared.setting.Setting.{Setting}

-- the trace from where acts lead
abbrev trace_on : Policy → Setting → (number : ℕ) → Outcome → Trace
trace_on policy s number (Stopped left at y) =
    with_stop (content_by s.tid (number + 1) at y.regs y.memory)
    (trace_from policy s (number + 1) (policy (content_by s.tid (number + 1) at y.regs y.memory)) left y)
trace_on policy s number (Exiting death y) =
    with_stop (content_by s.tid (number + 1) (stop.Ending death) y.regs y.memory) (ended_trace (Dead death))
trace_on policy s number (Through y) = ended_trace (Dead (Exited 0))
trace_on policy s number (Died death) = ended_trace (Dead death)
trace_on policy s number (Faulted address) = ended_trace (Broken address)

goes_on : (policy : Policy) (s : Setting) (number : ℕ) (how : Resume) (acts : List Act) (x : Context)
    → trace_from policy s number how acts x ≡ trace_on policy s number (advance s how acts x)
unfolding trace_from
goes_on policy s number how [] x = refl
goes_on policy s number how (act ∷ acts) x =
    elim (effect_of s how act x) as (λ e. trace_by e (λ at. content_by s.tid (number + 1) at x.regs x.memory)
    (λ c. trace_from policy s (number + 1) (policy c) acts x) (λ y. trace_from policy s number how acts y)
    ≡ trace_on policy s number (outcome_by e acts x (advance s how acts))) [
      | Stops at ↦ refl
      | StopsLast death ↦ refl
      | GoesOn y ↦ goes_on policy s number how acts y
      | Ends death ↦ refl
      | Faults address ↦ refl
    ]

at_stop : (policy : Policy) (p : Position) (o : Outcome) (c : Content) → element_by p o ≡ StopIs c
    → trace_on policy p.setting p.number o ≡ with_stop c (trace_at policy (position_by p o) (policy c) (context_of c))
unfolding trace_from
at_stop policy p (Stopped left at y) c h =
    let same : content_by p.setting.tid (p.number + 1) at y.regs y.memory ≡ c = cc in
    ap (λ (d : Content). with_stop d (trace_from policy p.setting (p.number + 1) (policy d) left (context_of d))) same
at_stop policy p (Exiting death y) c h =
    let same : content_by p.setting.tid (p.number + 1) (stop.Ending death) y.regs y.memory ≡ c = cc in
    ap (λ (d : Content). with_stop d (ended_trace (Dead death))) same
at_stop policy p (Through y) c h = cc
at_stop policy p (Died death) c h = cc
at_stop policy p (Faulted address) c h = cc

-- a stop is the next one of the trace
pub one_stop : (policy : Policy) (p : Position) (how : Resume) (x : Context) (c : Content)
    → next_element p how x ≡ StopIs c
    → trace_at policy p how x ≡ with_stop c (trace_at policy (next_position p how x) (policy c) (context_of c))
one_stop policy p how x c h =
    goes_on policy p.setting p.number how p.left x ∙ at_stop policy p (outcome_at p how x) c h

at_death : (policy : Policy) (p : Position) (o : Outcome) (d : Death) → element_by p o ≡ DeathIs d
    → trace_on policy p.setting p.number o ≡ ended_trace (Dead d)
at_death policy p (Stopped left at y) d h = cc
at_death policy p (Exiting death y) d h = cc
at_death policy p (Through y) d h = let same : Exited 0 ≡ d = cc in ap (λ (e : Death). ended_trace (Dead e)) same
at_death policy p (Died death) d h = let same : death ≡ d = cc in ap (λ (e : Death). ended_trace (Dead e)) same
at_death policy p (Faulted address) d h = cc

pub the_death : (policy : Policy) (p : Position) (how : Resume) (x : Context) (d : Death)
    → next_element p how x ≡ DeathIs d → trace_at policy p how x ≡ ended_trace (Dead d)
the_death policy p how x d h =
    goes_on policy p.setting p.number how p.left x ∙ at_death policy p (outcome_at p how x) d h

at_fault : (policy : Policy) (p : Position) (o : Outcome) (a : ℕ) → element_by p o ≡ FaultIs a
    → trace_on policy p.setting p.number o ≡ ended_trace (Broken a)
at_fault policy p (Stopped left at y) a h = cc
at_fault policy p (Exiting death y) a h = cc
at_fault policy p (Through y) a h = cc
at_fault policy p (Died death) a h = cc
at_fault policy p (Faulted address) a h = let same : address ≡ a = cc in ap (λ (b : ℕ). ended_trace (Broken b)) same

pub the_fault : (policy : Policy) (p : Position) (how : Resume) (x : Context) (a : ℕ)
    → next_element p how x ≡ FaultIs a → trace_at policy p how x ≡ ended_trace (Broken a)
the_fault policy p how x a h =
    goes_on policy p.setting p.number how p.left x ∙ at_fault policy p (outcome_at p how x) a h

-- the stops of a run are those with which the trace begins
pub beginning : (policy : Policy) (p : Position) (how : Resume) (x : Context) (turns : List Turn) → FollowsTrace p turns
    → Obeys policy how x turns
    → trace_at policy p how x
    ≡ with_stops turns (trace_at policy (position_after p turns) (how_after policy how turns) (context_after x turns))
beginning policy p how x [] follows obeys = refl
beginning policy p how x (turn ∷ turns) follows obeys =
    let q = position_after p turns in
    let here : trace_at policy q (how_after policy how turns) (context_after x turns)
    ≡ trace_at policy q turn.how turn.before =
    ap (λ h. trace_at policy q h (context_after x turns)) (sym obeys.0) ∙ ap (trace_at policy q turn.how) (sym obeys.1) in
    beginning policy p how x turns follows.1 obeys.2
    ∙ ap (with_stops turns) (here ∙ one_stop policy q turn.how turn.before turn.content follows.0)

-- the program is loaded whatever is taken up first
pub from_opening : (policy : Policy) (s : Setting) (script : Script) (how : Resume) (x : Context)
    → trace_of policy s script ≡ trace_at policy (opening_position s script) how x
unfolding trace_from
from_opening policy s script how x = refl

-- ---- a stop's number and its tracee

by_setting : (p : Position) (o : Outcome) → (position_by p o).setting ≡ p.setting
by_setting p (Stopped left at y) = refl
by_setting p (Exiting death y) = refl
by_setting p (Through y) = refl
by_setting p (Died death) = refl
by_setting p (Faulted address) = refl

pub setting_stays : (p : Position) (how : Resume) (x : Context) → (next_position p how x).setting ≡ p.setting
setting_stays p how x = by_setting p (outcome_at p how x)

by_number : (p : Position) (o : Outcome) (c : Content) → element_by p o ≡ StopIs c
    → (c.tid ≡ p.setting.tid) × (c.number ≡ p.number + 1) × ((position_by p o).number ≡ c.number)
by_number p (Stopped left at y) c h =
    let same : content_by p.setting.tid (p.number + 1) at y.regs y.memory ≡ c = cc in (
      ap (λ (d : Content). d.tid) (sym same),
      ap (λ (d : Content). d.number) (sym same),
      ap (λ (d : Content). d.number) same,
    )
by_number p (Exiting death y) c h =
    let same : content_by p.setting.tid (p.number + 1) (stop.Ending death) y.regs y.memory ≡ c = cc in (
      ap (λ (d : Content). d.tid) (sym same),
      ap (λ (d : Content). d.number) (sym same),
      ap (λ (d : Content). d.number) same,
    )
by_number p (Through y) c h = cc
by_number p (Died death) c h = cc
by_number p (Faulted address) c h = cc

pub stop_is_next : (p : Position) (how : Resume) (x : Context) (c : Content) → next_element p how x ≡ StopIs c
    → (c.tid ≡ p.setting.tid) × (c.number ≡ p.number + 1) × ((next_position p how x).number ≡ c.number)
stop_is_next p how x c h = by_number p (outcome_at p how x) c h
