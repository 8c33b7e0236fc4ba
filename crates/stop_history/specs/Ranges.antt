-- Histories whose stops, deaths, restarts and tracers are in range. A caller keeps these ranges (signals are those of
-- signal(7)); legal histories do not speak of them.
use Rattle.std.specs.Prelude.{◌<◌, ◌∷◌, []}
use Rattle.trace_record.specs.Death.{IsDeath}
use Rattle.trace_record.specs.Resume.{IsResume}
use Rattle.trace_record.specs.Stop.{IsStop}
use Rattle.stop_history.specs.Event as event
use Rattle.stop_history.specs.Event.{Event, History}
use Rattle.stop_history.specs.declared.limits.TheConstants.{TRACERS}

abbrev pub IsInRange : Event → Type 0
IsInRange (event.Publish row number stop) = IsStop stop
IsInRange (event.Claim row number tracer) = tracer < TRACERS
IsInRange (event.Resume row number how tracer) = IsResume how × (tracer < TRACERS)
IsInRange (event.Exit row death) = IsDeath death

abbrev pub AreInRange : History → Type 0
AreInRange [] = Unit {0}
AreInRange (e ∷ h) = IsInRange e × AreInRange h
