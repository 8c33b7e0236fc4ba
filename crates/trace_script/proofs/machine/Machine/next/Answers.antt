-- No number passes the last one; what is left after the program was loaded; and that more than a death is left before
-- an exit.
use Rattle.std.proofs.Common.{ap, drop, subst, sym, ◌+◌, ◌∙◌}
use Rattle.stop_history.specs.declared.limits.TheConstants.{LAST_NUMBER}
use Rattle.trace_script.specs.Arrivals.{reached}
use Rattle.trace_script.specs.Left.{left_in}
use Rattle.trace_script.specs.StopNumbers.{IsWithin}
use Rattle.trace_script.specs.StopTrace.{advance, context_of, position}
use Rattle.trace_script.proofs.Deaths.{left_not_over}
use Rattle.trace_script.proofs.Steps.{left_first, written_back}
use Rattle.trace_script.proofs.StopNumbers.{exiting_within, loaded_within, stopped_within}
use Rattle.trace_script.proofs.machine.Machine.next.Goals as goal

pub invariant_of-self : goal.invariant_of-self
invariant_of-self g c =
    loaded_within c.self.inside.setting c.self.inside.progress c.self.inside.image c.self.inside.filled.items
    c.self.inside.steps.items c.self.inside.number c.in-New.is c.self.invariant

pub invariant_of-self-in-Stopped : goal.invariant_of-self-in-Stopped
invariant_of-self-in-Stopped g c =
    let s = c.self.inside.setting in
    let filled = c.self.inside.filled.items in
    let seen = c.as_slice.result.now in
    let kept = written_back c.go_on.new.steps c.self.inside.steps.items c.self.inside.steps.len
    (c.go_on.ensures.len ∙ c.as_mut_slice.ensures.len) in
    subst (λ steps. IsWithin LAST_NUMBER (position s (c.self.inside.number + 1)
    (left_in s filled (drop c.in-Stopped.index steps) c.in-Stopped.place))) (sym kept)
    (stopped_within s c.args.how c.self.inside.progress c.self.inside.image c.self.inside.filled.items
    c.self.inside.steps.items c.self.inside.number c.in-Going.index c.in-Going.place
    (left_in s filled (drop c.in-Stopped.index c.go_on.new.steps) c.in-Stopped.place) c.go_on.new.held.stop
    (context_of c.args.held.now) (context_of c.go_on.new.held) c.in-Going.is
    (ap (λ b. advance s c.args.how (left_in s b (drop c.in-Going.index c.self.inside.steps.items) c.in-Going.place)
    (context_of c.args.held.now)) (sym c.as_slice.ensures.value)
    ∙ ap (λ steps. advance s c.args.how (left_in s seen (drop c.in-Going.index steps) c.in-Going.place)
    (context_of c.args.held.now)) (sym c.as_mut_slice.ensures.value) ∙ c.go_on.ensures.outcome
    ∙ ap (λ b. reached s c.args.how c.go_on.result b c.go_on.new.steps c.go_on.new.held.stop
    (context_of c.go_on.new.held)) c.as_slice.ensures.value
    ∙ ap (λ came. reached s c.args.how came filled c.go_on.new.steps c.go_on.new.held.stop
    (context_of c.go_on.new.held)) c.in-Stopped.is)
    c.self.invariant)

pub invariant_of-self-in-AtExit : goal.invariant_of-self-in-AtExit
invariant_of-self-in-AtExit g c =
    let s = c.self.inside.setting in
    let filled = c.self.inside.filled.items in
    let seen = c.as_slice.result.now in
    exiting_within s c.args.how c.self.inside.progress c.self.inside.image filled c.self.inside.steps.items
    c.self.inside.number c.in-Going.index c.in-Going.place c.in-AtExit.death (context_of c.args.held.now)
    (context_of c.go_on.new.held) c.in-Going.is
    (ap (λ b. advance s c.args.how (left_in s b (drop c.in-Going.index c.self.inside.steps.items) c.in-Going.place)
    (context_of c.args.held.now)) (sym c.as_slice.ensures.value)
    ∙ ap (λ steps. advance s c.args.how (left_in s seen (drop c.in-Going.index steps) c.in-Going.place)
    (context_of c.args.held.now)) (sym c.as_mut_slice.ensures.value) ∙ c.go_on.ensures.outcome
    ∙ ap (λ b. reached s c.args.how c.go_on.result b c.go_on.new.steps c.go_on.new.held.stop
    (context_of c.go_on.new.held)) c.as_slice.ensures.value
    ∙ ap (λ came. reached s c.args.how came filled c.go_on.new.steps c.go_on.new.held.stop
    (context_of c.go_on.new.held)) c.in-AtExit.is)
    (sym c.has_option.ensures ∙ c.if-not-has_option.false) c.self.invariant

pub returns-in-New-clause-position : goal.returns-in-New-clause-position
returns-in-New-clause-position g c =
    rw (← c.self.view_is, c.in-New.is)
    (ap (position c.self.inside.setting (c.self.inside.number + 1))
    (left_first c.self.inside.setting c.self.inside.filled.items c.self.inside.steps.items))

pub returns-then-not-has_option-clause-ended : goal.returns-then-not-has_option-clause-ended
returns-then-not-has_option-clause-ended g c =
    rw (← c.self.view_is, c.in-Going.is) (λ at.
    absurd (left_not_over c.self.inside.setting c.self.inside.filled.items
    (drop c.in-Going.index c.self.inside.steps.items) c.in-Going.place at.0 at.1))
