-- One step of a World: the reply is the one of its moment, the World comes to the next moment, the actor has seen
-- its part.
use Rattle.std.proofs.Common.{◌≡◌, ◌∙◌, arith, length}
use Rattle.std.proofs.lemmas.List.{with_items_is}
use Rattle.stop_history.specs.Actor.{numbered_actor}
use Rattle.stop_board.proofs.Worlds.{among_tracers, has_place, replies_at, seen_after_step, stands_after_step}
use Rattle.stop_board.proofs.world.World.step.Goals as goal

pub step_of-requires-clause-actor : goal.step_of-requires-clause-actor
step_of-requires-clause-actor g c =
    rw (c.actor_of-actor.ensures, c.as_mut_slice-2.ensures.value) (
    has_place (length c.self.inside.roster) c.self.inside.tracers c.args.actor
    (length c.self.inside.seen.items) c.self.invariant.few c.self.invariant.each)

pub returns-clause-reply : goal.returns-clause-reply
returns-clause-reply g c = λ m s.
    let at = rw (← c.self.view_is) at s in
    rw (← c.self.view_is) (
    replies_at c.self.inside.roster c.self.inside.words.items c.self.inside.seen.items c.self.inside.tracers m
    at.0 c.self.invariant.held.each c.self.invariant.held.roster at.1
    (numbered_actor (length c.self.inside.roster) c.self.inside.tracers c.args.actor)
    (among_tracers (length c.self.inside.roster) c.self.inside.tracers c.args.actor) c.args.action c.step_of.result
    (rw (
      c.actor_of-actor.ensures,
      c.as_mut_slice.ensures.value,
      c.as_mut_slice-2.ensures.value,
    ) at c.step_of.ensures.reply))

pub returns-clause-stands : goal.returns-clause-stands
returns-clause-stands g c = λ m s.
    let at = rw (← c.self.view_is) at s in
    let long : length c.step_of.new.words
    ≡ c.self.inside.words.len = omega (arith, c.step_of.auto.words, c.as_mut_slice.ensures.len) in
    rw (← c.self.view_is) (
    stands_after_step c.self.inside.roster c.self.inside.words.items _ m at.0 c.self.invariant.held.each
    (numbered_actor (length c.self.inside.roster) c.self.inside.tracers c.args.actor) c.args.action c.step_of.result
    (rw (← c.self.view_is) at (returns-clause-reply g c m s))
    (with_items_is c.self.inside.words c.step_of.new.words long
    ∙ rw (c.actor_of-actor.ensures, c.as_mut_slice.ensures.value) at
    c.step_of.ensures.words))

pub returns-clause-seen : goal.returns-clause-seen
returns-clause-seen g c = λ m s.
    let at = rw (← c.self.view_is) at s in
    let who = numbered_actor (length c.self.inside.roster) c.self.inside.tracers c.args.actor in
    let long : length c.step_of.new.seen
    ≡ c.self.inside.seen.len = omega (arith, c.step_of.auto.seen, c.as_mut_slice-2.ensures.len) in
    let each : length c.step_of.new.words ≡ length c.self.inside.roster =
    omega (
      arith,
      c.step_of.auto.words,
      c.as_mut_slice.ensures.len,
      c.self.invariant.held.each,
      c.self.inside.words.ok.0,
    ) in
    let new = stands_after_step c.self.inside.roster c.self.inside.words.items c.step_of.new.words m at.0
    c.self.invariant.held.each who c.args.action c.step_of.result
    (rw (← c.self.view_is) at (returns-clause-reply g c m s))
    (rw (c.actor_of-actor.ensures, c.as_mut_slice.ensures.value) at
    c.step_of.ensures.words) in
    rw (← c.self.view_is, with_items_is c.self.inside.seen c.step_of.new.seen long) (
    seen_after_step c.self.inside.roster c.self.inside.tracers c.step_of.new.words c.self.inside.seen.items
    c.step_of.new.seen _ _ new each m.seen c.self.invariant.each at.1 who
    (among_tracers (length c.self.inside.roster) c.self.inside.tracers c.args.actor) c.args.action c.step_of.result
    c.step_of.ensures.row
    (rw (c.actor_of-actor.ensures, c.as_mut_slice-2.ensures.value) at
    c.step_of.ensures.seen))
