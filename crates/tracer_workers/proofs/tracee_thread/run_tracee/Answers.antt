-- A row that is never born has made no event; a born one runs its script from its beginning.
use Rattle.tracer_workers.proofs.TraceeThreads.{never_ran, script_begins, script_on}
use Rattle.tracer_workers.proofs.tracee_thread.run_tracee.Goals as goal

pub returns-then-not-await_birth-clause-driven : goal.returns-then-not-await_birth-clause-driven
returns-then-not-await_birth-clause-driven g c = λ plan s.
    let e = c.args.tracee.now in
    let looked = c.await_birth.ensures.handle in
    (script_on plan e c.await_birth.new.tracee c.args.machine c.of_tracee.ensures looked.1
    looked.2.grows.same looked.2.grows.goes_on
    (script_begins plan e c.args.machine c.of_tracee.ensures s)).driven

pub returns-then-not-await_birth-clause-through : goal.returns-then-not-await_birth-clause-through
returns-then-not-await_birth-clause-through g c =
    let looked = c.await_birth.ensures.handle in
    never_ran c.args.tracee.now c.await_birth.new.tracee c.requires.new.1.silent looked.1 looked.2
    (c.await_birth.ensures.never c.if-not-await_birth.true)

pub run_row-requires-clause-script : goal.run_row-requires-clause-script
run_row-requires-clause-script g c =
    let e = c.args.tracee.now in
    let s = c.requires.new in
    let looked = c.await_birth.ensures.handle in (
      s.0,
      script_on s.0 e c.await_birth.new.tracee c.args.machine c.of_tracee.ensures looked.1 looked.2.grows.same
          looked.2.grows.goes_on (script_begins s.0 e c.args.machine c.of_tracee.ensures s.1),
    )

pub returns-clause-driven : goal.returns-clause-driven
returns-clause-driven g c = λ plan s.
    let e = c.args.tracee.now in
    let looked = c.await_birth.ensures.handle in
    c.run_row.ensures.driven plan
    (script_on plan e c.await_birth.new.tracee c.args.machine c.of_tracee.ensures looked.1
    looked.2.grows.same looked.2.grows.goes_on
    (script_begins plan e c.args.machine c.of_tracee.ensures s))
