-- Where a World comes to by a call of one thread.
use Rattle.std.proofs.Common.{◌≡◌, ◌∷◌, ◌∙◌, Result, Ok, Err, ap}
use Rattle.stop_board.specs.OneThread.{HasHistory}
use Rattle.stop_board.specs.World.{Contents}
use Rattle.stop_history.specs.declared.limits.TheConstants.{TRACERS}
use Rattle.stop_history.specs.declared.refused.Refused.{Refused}
use Rattle.stop_history.specs.Event.{Event, History}
use Rattle.stop_history.specs.Sequential.{goes_on}
use Rattle.tracer_workers.specs.Scheduled.{CameTo}

module _ {A : Type 0} (new : Contents) (m h : History) (same : m ≡ h) (e : History → Event) (result : Result A Refused)
    (old : HasHistory new (goes_on result (e m) m)) (tracers : new.tracers ≡ TRACERS) where
  pub came_on : (answer : A) → result ≡ Ok answer → CameTo new (e h ∷ h)
  came_on answer is = record {
    moment = old.0;
    stands = old.1;
    history = old.2 ∙ ap (λ r. goes_on r (e m) m) is ∙ ap (λ g. e g ∷ g) same;
    tracers = tracers;
  }

  pub came_back : (refusal : Refused) → result ≡ Err refusal → CameTo new h
  came_back refusal is = record {
    moment = old.0;
    stands = old.1;
    history = old.2 ∙ ap (λ r. goes_on r (e m) m) is ∙ same;
    tracers = tracers;
  }
