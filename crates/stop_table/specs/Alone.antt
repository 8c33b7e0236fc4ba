-- What one thread alone is answered, by what the cells show of a row.
use Rattle.std.specs.Prelude.{◌≡◌, ◌∷◌, Err, Ok, Result}
use Rattle.stop_history.specs.declared.got.Got.{Got}
use Rattle.stop_history.specs.declared.got.Got.TheVariants as got
use Rattle.stop_history.specs.declared.refused.Refused.{Refused}
use Rattle.stop_history.specs.declared.refused.Refused.TheVariants as refused
use Rattle.stop_history.specs.Event.{Event, History}
use Rattle.stop_table.specs.declared.shown.Shown.{Shown}
use Rattle.stop_table.specs.declared.shown.Shown.TheVariants as shows
use Rattle.stop_table.specs.Entry.{history_of}
use Rattle.stop_table.specs.View.{View}

-- a claim, or a look at what a claim would get
abbrev pub claim_by_shown : Shown → Result Got Refused
claim_by_shown shows.Unborn = Err refused.Unborn
claim_by_shown (shows.Stopped number status) = Ok (got.Stop number status)
claim_by_shown (shows.Dead number status) = Ok (got.Ended number status)
claim_by_shown other = Err refused.NotWaitable

-- a publish or an exit, if it is refused since the row does not run
abbrev pub running_by_shown : Shown → Result (Unit {0}) Refused
running_by_shown shows.Unborn = Err refused.Unborn
running_by_shown shows.Running = Ok tt
running_by_shown other = Err refused.NotRunning

-- one thread is answered so at a history, and what is seen directly after it is the history with the call's event
abbrev pub IsAnsweredAt : {A : Type 0} → (answer told : Result A Refused) → (h : History) → Event → View → Type 0
IsAnsweredAt answer told h e w = (answer ≡ told) × (history_of w.seen ≡ e ∷ h)
