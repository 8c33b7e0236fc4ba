-- What the machine answers is what comes next in the script, and the row may make it.
use Rattle.std.proofs.Common.{◌∙◌, refl, sym, ap, arith}
use Rattle.stop_history.specs.Event.{events_of}
use Rattle.stop_history.specs.History.{births_in, creates_next}
use Rattle.stop_history.specs.Roster.{row_at}
use Rattle.stop_table.specs.Entry.{history_of}
use Rattle.tracer_workers.proofs.FittingCases.{plan_tid}
use Rattle.tracer_workers.proofs.TraceeThreads.{death_due, handle_on, next_is_death, next_is_stop, publishes, stop_due}
use Rattle.tracer_workers.proofs.tracee_thread.run_on.Goals as goal

pub publish-requires-clause-stop : goal.publish-requires-clause-stop
publish-requires-clause-stop g c =
    let s = c.requires.script in
    let e = c.args.tracee.now in
    let due = stop_due _ _ _ c.next.new.held c.next.ensures.element c.in-Stop.is in
    let next =
    next_is_stop s.0 e c.args.machine.now c.args.how c.args.stop c.requires.handle c.requires.taken s.1
    c.next.new.held due in (
      next.tid ∙ plan_tid s.0 s.1.known e.row ∙ sym (ap (λ rows. (row_at rows e.row).tid) s.1.rows),
      next.number,
      (let few = next.few in omega (arith, few)),
      next.stop,
    )

pub publish-requires-clause-birth : goal.publish-requires-clause-birth
publish-requires-clause-birth g c =
    let s = c.requires.script in
    let e = c.args.tracee.now in
    let due = stop_due _ _ _ c.next.new.held c.next.ensures.element c.in-Stop.is in
    let next =
    next_is_stop s.0 e c.args.machine.now c.args.how c.args.stop c.requires.handle c.requires.taken s.1
    c.next.new.held due in
    let births = births_in (events_of e.row (history_of e.view.seen)) in
    ap (λ rows. creates_next rows e.row births c.next.new.held.stop) s.1.rows ∙ next.next

pub returns-in-Stop-clause-none : goal.returns-in-Stop-clause-none
returns-in-Stop-clause-none g c =
    let e = c.args.tracee.now in
    let due = stop_due _ _ _ c.next.new.held c.next.ensures.element c.in-Stop.is in
    let made = c.publish.ensures.made in
    let handle = c.publish.ensures.handle in (
      handle_on e c.publish.new.self c.requires.handle handle.1 made.1.same made.1.legal,
      handle.2,
      λ plan on.
          publishes plan e c.args.machine.now c.args.how c.args.stop c.requires.handle c.requires.taken on
          c.publish.new.self made.0 c.next.new.held c.next.new.self due c.next.ensures.position handle.1 made.1,
    )

pub returns-in-Death-clause-some : goal.returns-in-Death-clause-some
returns-in-Death-clause-some g c =
    let e = c.args.tracee.now in
    let s = c.requires.script in
    let due = death_due _ _ _ c.next.new.held c.in-Death.death c.next.ensures.element c.in-Death.is in (
      refl,
      (next_is_death s.0 e c.args.machine.now c.args.how c.args.stop c.requires.handle c.requires.taken s.1
          c.in-Death.death due).0,
      λ plan on.
          (next_is_death plan e c.args.machine.now c.args.how c.args.stop c.requires.handle c.requires.taken on
          c.in-Death.death due).1,
    )
