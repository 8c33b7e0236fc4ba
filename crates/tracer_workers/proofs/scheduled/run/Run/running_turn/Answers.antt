-- The tracee runs on to a stop, which is published, or to its end.
use Rattle.stop_history.specs.declared.actor.Actor.TheVariants.{Tracee}
use Rattle.tracer_workers.proofs.Rounds.{if_ok, left_same, moved_by_from, turned_from}
use Rattle.tracer_workers.proofs.TurnStarts.{ran_world, ran_to_death, ran_to_fault, ran_to_stop}
use Rattle.tracer_workers.proofs.scheduled.run.Run.running_turn.Goals as goal

pub publish-requires : goal.publish-requires
publish-requires g c =
    let to = ran_to_stop c.requires.0 c.args.self.now c.run_on.new.self c.requires.1 c.args.row c.in_ok-told.told c.requires.2
    c.in_ok-told.ensures.ran c.in-Stop.is in
    (c.requires.0, c.requires.1, to.0, to.1)

pub exit-requires : goal.exit-requires
exit-requires g c = (
  c.requires.0,
  c.requires.1,
  ran_to_death c.requires.0 c.args.self.now c.run_on.new.self c.requires.1 c.args.row c.in_ok-told.told c.requires.2
      c.in_ok-told.ensures.ran c.in-Death.death c.in-Death.is,
)

pub exit-requires-in-Fault : goal.exit-requires-in-Fault
exit-requires-in-Fault g c = (
  c.requires.0,
  c.requires.1,
  ran_to_fault c.requires.0 c.args.self.now c.run_on.new.self c.requires.1 c.args.row c.in_ok-told.told c.requires.2
      c.in_ok-told.ensures.ran c.in-Fault.field-0 c.in-Fault.is,
)

pub returns-in_ok-publish-in-Stop-clause-turned : goal.returns-in_ok-publish-in-Stop-clause-turned
returns-in_ok-publish-in-Stop-clause-turned g c content h s =
    let to = ran_to_stop content c.args.self.now c.run_on.new.self h c.args.row c.in_ok-told.told s c.in_ok-told.ensures.ran c.in-Stop.is in
    moved_by_from (Tracee c.args.row) content c.args.self.now c.run_on.new.self c.publish.new.self h
    (left_same c.args.self.now c.run_on.new.self
    (ran_world content c.args.self.now c.run_on.new.self h c.args.row c.in_ok-told.told s c.in_ok-told.ensures.ran))
    (c.in_ok-publish-in-Stop.ensures.moved content h to.0 to.1)

pub returns-in-Death-clause-turned : goal.returns-in-Death-clause-turned
returns-in-Death-clause-turned g c content h s =
    if_ok c.exit.result
    (λ moved turned.
    turned_from content c.args.self.now c.run_on.new.self c.exit.new.self h c.args.row moved
    (left_same c.args.self.now c.run_on.new.self
    (ran_world content c.args.self.now c.run_on.new.self h c.args.row c.in_ok-told.told s c.in_ok-told.ensures.ran)) turned)
    (c.exit.ensures.turned content h
    (ran_to_death content c.args.self.now c.run_on.new.self h c.args.row c.in_ok-told.told s c.in_ok-told.ensures.ran c.in-Death.death
    c.in-Death.is))

pub returns-in-Fault-clause-turned : goal.returns-in-Fault-clause-turned
returns-in-Fault-clause-turned g c content h s =
    if_ok c.exit-in-Fault.result
    (λ moved turned.
    turned_from content c.args.self.now c.run_on.new.self c.exit-in-Fault.new.self h c.args.row moved
    (left_same c.args.self.now c.run_on.new.self
    (ran_world content c.args.self.now c.run_on.new.self h c.args.row c.in_ok-told.told s c.in_ok-told.ensures.ran)) turned)
    (c.exit-in-Fault.ensures.turned content h
    (ran_to_fault content c.args.self.now c.run_on.new.self h c.args.row c.in_ok-told.told s c.in_ok-told.ensures.ran
    c.in-Fault.field-0 c.in-Fault.is))
