-- What the scan found.
use Rattle.std.proofs.Common.{◌∙◌, ◌≤◌, ◌+◌, ap, arith, length, subst}
use Rattle.trace_calls.proofs.Scans.{scan_on, found_stop, found_death, found_shown, found_none}
use Rattle.trace_calls.proofs.Tries.{tried_all, tried_on}
use Rattle.trace_calls.proofs.scan.scan.Goals as goal

pub returns-in-Stop-clause-finding : goal.returns-in-Stop-clause-finding
returns-in-Stop-clause-finding g c =
    found_stop c.args.request c.args.tracer.now.view c.loop-row.tracer.view c.turn.new.tracer.view c.loop-row.row
    c.loop-row.pending c.handle_is_legal.ensures.placed c.loop-row.invariant.1 c.in-Stop.claim c.in-Stop.ensures.turn

pub returns-in-Ended-clause-finding : goal.returns-in-Ended-clause-finding
returns-in-Ended-clause-finding g c =
    found_death c.args.request c.args.tracer.now.view c.loop-row.tracer.view c.turn.new.tracer.view c.loop-row.row
    c.loop-row.pending c.handle_is_legal.ensures.placed c.loop-row.invariant.1 c.in-Ended.death c.in-Ended.number
    c.in-Ended.ensures.turn

pub returns-in-Shows-clause-finding : goal.returns-in-Shows-clause-finding
returns-in-Shows-clause-finding g c =
    found_shown c.args.request c.args.tracer.now.view c.loop-row.tracer.view c.turn.new.tracer.view c.loop-row.row
    c.loop-row.pending c.handle_is_legal.ensures.placed c.loop-row.invariant.1 c.in-Shows.number c.in-Shows.status
    c.in-Shows.ensures.turn

pub loop-row-preserved : goal.loop-row-preserved
loop-row-preserved g c = (
  c.in-Passes.ensures.handle ∙ c.loop-row.invariant.0,
  scan_on c.args.request c.args.tracer.now.view c.loop-row.tracer.view c.turn.new.tracer.view c.loop-row.row
      c.loop-row.pending c.handle_is_legal.ensures.placed c.loop-row.invariant.1 c.in-Passes.more
      c.in-Passes.ensures.turn,
  tried_on c.args.request c.args.tracer.now.view c.loop-row.tracer.view c.turn.new.tracer.view c.loop-row.row _
      c.loop-row.invariant.1.looked.grows.same.roster c.loop-row.invariant.2 c.in-Passes.ensures.turn
      c.turn.ensures.once,
)

pub returns-clause-finding : goal.returns-clause-finding
returns-clause-finding g c =
    let here : length c.args.roster.now ≤ c.loop-row.row = omega arith in
    let long = subst (λ rows. length rows ≤ c.loop-row.row) c.requires here in
    found_none c.args.request c.args.tracer.now.view c.loop-row.tracer.view c.loop-row.row c.loop-row.pending
    c.loop-row.invariant.1 long c.if-pending.false

pub returns-in-Stop-clause-once : goal.returns-in-Stop-clause-once
returns-in-Stop-clause-once g c =
    let long = ap length c.requires in
    tried_all c.args.request c.args.tracer.now.view c.turn.new.tracer.view (c.loop-row.row + 1) (omega arith)
    (tried_on c.args.request c.args.tracer.now.view c.loop-row.tracer.view c.turn.new.tracer.view c.loop-row.row _
    c.loop-row.invariant.1.looked.grows.same.roster c.loop-row.invariant.2 c.in-Stop.ensures.turn c.turn.ensures.once)

pub returns-in-Ended-clause-once : goal.returns-in-Ended-clause-once
returns-in-Ended-clause-once g c =
    let long = ap length c.requires in
    tried_all c.args.request c.args.tracer.now.view c.turn.new.tracer.view (c.loop-row.row + 1) (omega arith)
    (tried_on c.args.request c.args.tracer.now.view c.loop-row.tracer.view c.turn.new.tracer.view c.loop-row.row _
    c.loop-row.invariant.1.looked.grows.same.roster c.loop-row.invariant.2 c.in-Ended.ensures.turn c.turn.ensures.once)

pub returns-in-Shows-clause-once : goal.returns-in-Shows-clause-once
returns-in-Shows-clause-once g c =
    let long = ap length c.requires in
    tried_all c.args.request c.args.tracer.now.view c.turn.new.tracer.view (c.loop-row.row + 1) (omega arith)
    (tried_on c.args.request c.args.tracer.now.view c.loop-row.tracer.view c.turn.new.tracer.view c.loop-row.row _
    c.loop-row.invariant.1.looked.grows.same.roster c.loop-row.invariant.2 c.in-Shows.ensures.turn c.turn.ensures.once)

pub returns-then-pending-clause-once : goal.returns-then-pending-clause-once
returns-then-pending-clause-once g c =
    let long = ap length c.requires in
    tried_all c.args.request c.args.tracer.now.view c.loop-row.tracer.view c.loop-row.row (omega arith)
    c.loop-row.invariant.2

pub returns-clause-once : goal.returns-clause-once
returns-clause-once g c =
    let long = ap length c.requires in
    tried_all c.args.request c.args.tracer.now.view c.loop-row.tracer.view c.loop-row.row (omega arith)
    c.loop-row.invariant.2
