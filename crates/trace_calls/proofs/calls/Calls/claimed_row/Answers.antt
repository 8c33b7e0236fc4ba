-- The claim at the place of a row says whether the caller has claimed it, and has its record.
use Rattle.std.proofs.Common.{◌∙◌, ◌<◌, length, arith}
use Rattle.trace_calls.proofs.Keeping.{has_claimed, in_roster, is_recorded, not_claimed}
use Rattle.trace_calls.proofs.calls.Calls.claimed_row.Goals as goal

pub returns-in-None-clause-none : goal.returns-in-None-clause-none
returns-in-None-clause-none g c = λ within.
    let x = c.self.inside in
    not_claimed c.args.self.now x.tracer x.roster x.held.items x.counts.items c.self.view_is c.self.invariant c.args.row
    c.index.result.now within c.index.ensures c.in-None.is

pub returns-in-Some-clause-some : goal.returns-in-Some-clause-some
returns-in-Some-clause-some g c =
    let x = c.self.inside in
    let a = c.args.self.now in
    let low : c.args.row < length x.roster = omega (arith, c.if-row-len.false, c.len.ensures) in
    let within =
    in_roster a x.tracer x.roster x.held.items x.counts.items c.args.row c.self.view_is c.self.invariant low in (
      has_claimed a x.tracer x.roster x.held.items x.counts.items c.self.view_is c.self.invariant c.args.row
          c.index.result.now within c.index.ensures c.in-Some.claim c.in-Some.is,
      c.record.ensures
          ∙ is_recorded a x.tracer x.roster x.held.items x.counts.items c.self.view_is c.self.invariant c.args.row
          c.index.result.now within c.index.ensures c.in-Some.claim c.in-Some.is,
    )
