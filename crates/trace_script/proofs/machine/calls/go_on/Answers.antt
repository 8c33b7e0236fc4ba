-- A fault that is found ahead is what comes, and where none is found, none comes.
use Rattle.std.proofs.Common.{ap, drop, sym, ◌∙◌}
use Rattle.trace_script.specs.Arrivals.{reached}
use Rattle.trace_script.specs.Left.{left_in}
use Rattle.trace_script.specs.StopTrace.{context_of}
use Rattle.trace_script.proofs.Looks.{faults_come, none_comes}
use Rattle.trace_script.proofs.machine.calls.go_on.Goals as goal

pub returns-in-Some-clause-outcome : goal.returns-in-Some-clause-outcome
returns-in-Some-clause-outcome g c =
    let walk = c.args.walk.now in
    faults_come walk.setting.now walk.how
    (left_in walk.setting.now walk.filled.now (drop c.args.index c.args.steps.now) c.args.place)
    (context_of c.args.held.now)
    c.in-Some.addr (rw (← c.held.view_is) (sym c.fault_ahead.ensures ∙ c.in-Some.is))

pub returns-clause-fault : goal.returns-clause-fault
returns-clause-fault g c = λ address faulted.
    let walk = c.args.walk.now in
    absurd (none_comes walk.setting.now walk.how
    (left_in walk.setting.now walk.filled.now (drop c.args.index c.args.steps.now) c.args.place)
    (context_of c.args.held.now) address (rw (← c.held.view_is) (sym c.fault_ahead.ensures ∙ c.in_default.is))
    (c.run_steps.ensures.reached
    ∙ ap (λ came. reached walk.setting.now walk.how came walk.filled.now c.run_steps.new.steps
    c.run_steps.new.held.stop (context_of c.run_steps.new.held)) faulted))
