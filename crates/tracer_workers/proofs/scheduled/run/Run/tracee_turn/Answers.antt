-- The world tells whether the row runs.
use Rattle.std.proofs.Common.{◌∙◌, refl, sym, ap, subst, inl}
use Rattle.stop_history.specs.State.{state_after}
use Rattle.stop_table.specs.Entry.{history_of}
use Rattle.tracer_workers.specs.Scheduled.{Stands}
use Rattle.tracer_workers.proofs.scheduled.run.Run.tracee_turn.Goals as goal

pub returns-in-Running-clause-turned : goal.returns-in-Running-clause-turned
returns-in-Running-clause-turned g c content h stands within =
    let s = subst (λ r. Stands content r h) (sym c.self.view_is) stands in
    let is = c.state.ensures (history_of h) s.0.world
    ∙ ap (λ rows. state_after rows (history_of h) c.args.row) s.0.world_rows in
    c.running_turn.ensures.turned content h (record { stands = stands; within = within; runs = sym is ∙ c.in-Running.is })

pub returns-in_default : goal.returns-in_default
returns-in_default g c = record {
  turned = λ content h stands within.
      let s = subst (λ r. Stands content r h) (sym c.self.view_is) stands in
      let is = c.state.ensures (history_of h) s.0.world
      ∙ ap (λ rows. state_after rows (history_of h) c.args.row) s.0.world_rows in
      (stands, refl, inl (λ runs. c.in_default.not-Running (is ∙ runs)));
  config = refl;
}

pub running_turn-requires : goal.running_turn-requires
running_turn-requires g c =
    let content = c.requires.0 in
    let h = c.requires.1 in
    let stands = c.requires.2 in
    let s = subst (λ r. Stands content r h) (sym c.self.view_is) stands in
    let is = c.state.ensures (history_of h) s.0.world
    ∙ ap (λ rows. state_after rows (history_of h) c.args.row) s.0.world_rows in
    (content, h, record { stands = stands; within = c.requires.3; runs = sym is ∙ c.in-Running.is })
