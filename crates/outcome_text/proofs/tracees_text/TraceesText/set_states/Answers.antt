-- The states are the same already.
use Rattle.std.proofs.Common.{◌∙◌, sym}
use Rattle.outcome_text.proofs.EqualStates.{states_tell}
use Rattle.outcome_text.proofs.tracees_text.TraceesText.set_states.Goals as goal

pub returns-then-eq-clause-states : goal.returns-then-eq-clause-states
returns-then-eq-clause-states g c =
    rw (← c.self.view_is)
    (sym c.as_slice.ensures.value ∙ states_tell c.as_slice.result.now c.args.states.now (sym c.eq.ensures ∙ c.if-eq.true))
