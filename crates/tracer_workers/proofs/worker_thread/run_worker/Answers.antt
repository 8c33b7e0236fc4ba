-- What each wait claims is served: its piece is kept, and a stop is restarted.
use Rattle.std.proofs.Common.{◌∙◌, List, false, refl, sym, subst}
use Rattle.record_printer.specs.Piece.{Piece}
use Rattle.tracer_workers.specs.Config.{show_of}
use Rattle.tracer_workers.specs.WorkerThread.{HasServed, own_pieces}
use Rattle.tracer_workers.proofs.WorkerThreads.{holds, no_child, served_death, served_look, served_none, served_stop}
use Rattle.tracer_workers.proofs.WorkerThreads.{found_within, none_found, recorded, tracer_on, waited}
use Rattle.tracer_workers.proofs.worker_thread.run_worker.Goals as goal

pub loop-init : goal.loop-init
loop-init g c =
    let v = c.args.calls.now.view in (
      tt,
      tt,
      c.of_calls.ensures.handle,
      refl,
      subst (λ (kept : List Piece). HasServed c.args.config.now v v kept false) (sym c.new.ensures.items)
          (served_none c.args.config.now v c.requires),
    )

pub returns-in_default-clause-free : goal.returns-in_default-clause-free
returns-in_default-clause-free g c =
    let i = c.loop.invariant in
    let last = no_child c.loop.calls c.next_found.new.calls (none_found c.loop.calls c.next_found.new.calls c.next_found.result
    c.in_default.not-Some c.next_found.ensures.answer) in
    (served_look c.args.config.now c.args.calls.now.view c.loop.calls.view c.next_found.new.calls.view
    c.loop.kept.pieces.items c.loop.kept.short i.2.mine last.0 i.4).free

pub returns-in_default-clause-restarts : goal.returns-in_default-clause-restarts
returns-in_default-clause-restarts g c =
    let i = c.loop.invariant in
    let last = no_child c.loop.calls c.next_found.new.calls (none_found c.loop.calls c.next_found.new.calls c.next_found.result
    c.in_default.not-Some c.next_found.ensures.answer) in
    (served_look c.args.config.now c.args.calls.now.view c.loop.calls.view c.next_found.new.calls.view
    c.loop.kept.pieces.items c.loop.kept.short i.2.mine last.0 i.4).restarts

pub returns-in_default-clause-pieces : goal.returns-in_default-clause-pieces
returns-in_default-clause-pieces g c =
    let i = c.loop.invariant in
    let last = no_child c.loop.calls c.next_found.new.calls (none_found c.loop.calls c.next_found.new.calls c.next_found.result
    c.in_default.not-Some c.next_found.ensures.answer) in
    (served_look c.args.config.now c.args.calls.now.view c.loop.calls.view c.next_found.new.calls.view
    c.loop.kept.pieces.items c.loop.kept.short i.2.mine last.0 i.4).pieces

pub returns-in_default-clause-over : goal.returns-in_default-clause-over
returns-in_default-clause-over g c =
    (no_child c.loop.calls c.next_found.new.calls (none_found c.loop.calls c.next_found.new.calls c.next_found.result
    c.in_default.not-Some c.next_found.ensures.answer)).1

pub tid-requires : goal.tid-requires
tid-requires g c =
    found_within c.loop.calls c.next_found.new.calls c.in-Some-next_found.found c.in-Some-next_found.ensures.answer

pub loop-preserved-in-Some-death : goal.loop-preserved-in-Some-death
loop-preserved-in-Some-death g c =
    let i = c.loop.invariant in
    let some = waited c.loop.calls c.next_found.new.calls c.in-Some-next_found.found c.in-Some-next_found.ensures.answer in
    let u = c.args.calls.now.view in
    let v = c.loop.calls.view in
    let b = c.next_found.new.calls in
    let show = show_of c.args.config.now in
    let kept = c.keep_death.ensures (own_pieces show u) (own_pieces show v) i.4.pieces in (
      tt,
      tt,
      tracer_on c.loop.calls b i.2 some.claimed.1.same some.claimed.1.legal,
      c.next_found.ensures.table ∙ i.3,
      served_death v b c.in-Some-next_found.found i.2.mine i.4.free some c.args.config.now u
          c.loop.kept.pieces.items c.keep_death.new.self.pieces.items c.loop.kept.short c.keep_death.new.self.short i.4
          c.tid.result c.tid.ensures c.in-Some-death.death c.in-Some-death.is kept,
    )

pub keep_stop-requires : goal.keep_stop-requires
keep_stop-requires g c =
    let i = c.loop.invariant in
    let some = waited c.loop.calls c.next_found.new.calls c.in-Some-next_found.found c.in-Some-next_found.ensures.answer in
    holds c.loop.calls.view c.next_found.new.calls c.in-Some-next_found.found i.2.mine i.4.free some
    c.in-None-death.is

pub restart-requires-clause-row : goal.restart-requires-clause-row
restart-requires-clause-row g c =
    let i = c.loop.invariant in
    let some = waited c.loop.calls c.next_found.new.calls c.in-Some-next_found.found c.in-Some-next_found.ensures.answer in
    holds c.loop.calls.view c.next_found.new.calls c.in-Some-next_found.found i.2.mine i.4.free some
    c.in-None-death.is

pub restart-requires-clause-record : goal.restart-requires-clause-record
restart-requires-clause-record g c =
    let i = c.loop.invariant in
    let some = waited c.loop.calls c.next_found.new.calls c.in-Some-next_found.found c.in-Some-next_found.ensures.answer in
    let has = holds c.loop.calls.view c.next_found.new.calls c.in-Some-next_found.found i.2.mine i.4.free some
    c.in-None-death.is in
    recorded c.loop.calls c.next_found.new.calls c.in-Some-next_found.found c.in-Some-next_found.ensures.answer has
    c.of_calls-in-None-death.ensures.records

pub loop-preserved : goal.loop-preserved
loop-preserved g c =
    let i = c.loop.invariant in
    let some = waited c.loop.calls c.next_found.new.calls c.in-Some-next_found.found c.in-Some-next_found.ensures.answer in
    let u = c.args.calls.now.view in
    let v = c.loop.calls.view in
    let b = c.next_found.new.calls in
    let show = show_of c.args.config.now in
    let kept = c.keep_stop.ensures (own_pieces show u) (own_pieces show v) i.4.pieces in
    let made = c.restart.ensures.restarts in
    let has = holds v b c.in-Some-next_found.found i.2.mine i.4.free some c.in-None-death.is in
    let stands = recorded c.loop.calls b c.in-Some-next_found.found c.in-Some-next_found.ensures.answer has
    c.of_calls-in-None-death.ensures.records in (
      tt,
      tt,
      tracer_on b c.restart.new.calls (tracer_on c.loop.calls b i.2 some.claimed.1.same some.claimed.1.legal) made.2.same
          made.2.legal,
      c.restart.ensures.table ∙ c.next_found.ensures.table ∙ i.3,
      served_stop v b c.in-Some-next_found.found i.2.mine i.4.free some c.args.config.now u
          c.loop.kept.pieces.items c.keep_stop.new.self.pieces.items c.loop.kept.short c.keep_stop.new.self.short i.4
          c.in-None-death.is stands c.restart.new.calls.view made kept,
    )
