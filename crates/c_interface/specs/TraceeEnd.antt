-- The end of a tracee, and its calls for C, from the end before a call (a) to the end after it (b) (ptrace(2)).
use Rattle.std.specs.Prelude.{◌≡◌, ◌≢◌, ◌⊎◌, ◌+◌, ◌≤◌, ℕ, true, false, List, Result, Ok, Err, is_some}
use Rattle.std.specs.Prelude.{if◌then◌else◌}
use Rattle.trace_record.specs.Content.{Content, content_by}
use Rattle.trace_record.specs.Death.{IsDeath, death_status}
use Rattle.trace_record.specs.Stop.{child_of}
use Rattle.trace_record.specs.declared.death.Death.{Death}
use Rattle.trace_record.specs.declared.stop.Stop.{Stop}
use Rattle.stop_history.specs.Event as event
use Rattle.stop_history.specs.History.{creates_next}
use Rattle.stop_history.specs.declared.limits.TheConstants.{LAST_NUMBER}
use Rattle.stop_table.specs.Entry.{Entry, bare, publish_of}
use Rattle.stop_table.specs.Group.{SawHeldBack}
use Rattle.stop_table.specs.Handle.{EndsWith, Looked, LooksAt, TakesUp}
use Rattle.stop_table.specs.Start.{IsFinal, StartsAt}
use Rattle.stop_table.specs.View.{View}
use Rattle.stop_table.specs.declared.shown.Shown.{Shown}
use Rattle.stop_table.specs.declared.shown.Shown.TheVariants as shows
use Rattle.stop_table.specs.declared.start.Start.{Start}
use Rattle.stop_table.specs.declared.start.Start.TheVariants as start
use Rattle.c_interface.specs.Board.{IsOfNoDeath}
use Rattle.c_interface.specs.Restart.{restart_numbers}
use Rattle.c_interface.specs.Stop.{AreOfNoStop, IsMade, numbers_of}
use Rattle.c_interface.specs.declared.error.Error.{Error}
use Rattle.c_interface.specs.declared.error.Error.TheVariants as error
use Rattle.c_interface.specs.declared.restart.CRestart.{CRestart}
use Rattle.c_interface.specs.declared.stop.CStop.{CStop}
use Rattle.c_interface.specs.declared.hand.Hand.{Hand}
use Rattle.c_interface.specs.declared.hand.Hand.TheVariants as hand
use Rattle.c_interface.specs.declared.hand.InHand.{InHand}
use Rattle.c_interface.specs.declared.tracee_end.TraceeEnd.{TraceeEnd}

-- the end is of the same row of the same table
pub record IsSameEnd (a b : TraceeEnd) : Type 0 where
  pub table : b.tracee.table_id ≡ a.tracee.table_id
  pub roster : b.roster ≡ a.roster
  pub row : b.row ≡ a.row

-- a refusal that changes nothing
abbrev pub IsRefused : {T : Type 0} → (a b : TraceeEnd) → Error → Result T Error → Type 0
IsRefused a b refusal result = (result ≡ Err refusal) × (b ≡ a)

-- ---- taking the row up

-- the row was not to run, and then its ancestors showed this of it
abbrev pub IsNotToRun : (a b : TraceeEnd) → Start → Type 0
IsNotToRun a b at =
    (m : View) × ((shown : Shown) × LooksAt a.tracee.view m a.tracee.row shown × (shown ≢ shows.Running))
    × StartsAt m b.tracee.view a.tracee.row at × IsFinal a.tracee.view.roster b.tracee.view.seen a.tracee.row at

abbrev pub why_not : Start → Error
why_not start.Born = error.EAGAIN
why_not start.NotYet = error.EAGAIN
why_not start.Never = error.ECHILD

abbrev pub IsTakeUpFrom : Hand → (a b : TraceeEnd) → Result CRestart Error → Type 0
IsTakeUpFrom hand.AtRest a b (Ok told) =
    (held : InHand) × (b.hand ≡ hand.Taken held) × (told ≡ restart_numbers held.how)
    × TakesUp a.tracee.view b.tracee.view a.tracee.row held.how held.stopped
IsTakeUpFrom hand.AtRest a b (Err refusal) =
    (b.hand ≡ hand.AtRest) × ((at : Start) × IsNotToRun a b at × (refusal ≡ why_not at))
IsTakeUpFrom (hand.Taken held) a b result = IsRefused a b error.EALREADY result
IsTakeUpFrom hand.Ended a b result = IsRefused a b error.EALREADY result

pub record IsTraceeTakeUp (a b : TraceeEnd) (result : Result CRestart Error) : Type 0 where
  pub same : IsSameEnd a b
  pub births : b.births ≡ a.births
  pub answer : IsTakeUpFrom a.hand a b result

-- ---- publishing

abbrev pub births_with : ℕ → Stop → ℕ
births_with births at = if is_some (child_of at) then births + 1 else births

-- the record of the row's next stop: registers and memory are those of the record in hand
abbrev pub next_content : Content → Stop → Content
next_content a at = content_by a.tid (a.number + 1) at a.regs a.memory

abbrev pub PublishesFrom : Hand → (a b : TraceeEnd) → Stop → Type 0
PublishesFrom hand.AtRest a b at = ⊥
PublishesFrom (hand.Taken held) a b at =
    (before : List Entry) × EndsWith a.tracee.view b.tracee.view before
    (publish_of a.tracee.row (next_content held.stopped at))
PublishesFrom hand.Ended a b at = ⊥

-- the row makes its next stop, with the record in hand
pub record Publishes (a b : TraceeEnd) (at : Stop) : Type 0 where
  pub same : IsSameEnd a b
  pub births : b.births ≡ births_with a.births at
  pub rests : b.hand ≡ hand.AtRest
  pub made : PublishesFrom a.hand a b at

abbrev pub IsPublishBy : InHand → (a b : TraceeEnd) → Stop → Result ℕ Error → Type 0
IsPublishBy held a b at (Ok number) =
    (number ≡ held.stopped.number + 1) × (number ≤ LAST_NUMBER)
    × (creates_next a.roster a.row a.births at ≡ true) × Publishes a b at
IsPublishBy held a b at (Err refusal) =
    (b ≡ a) × (((creates_next a.roster a.row a.births at ≡ false) × (refusal ≡ error.EINVAL))
    ⊎ ((creates_next a.roster a.row a.births at ≡ true) × (LAST_NUMBER ≤ held.stopped.number)
    × (refusal ≡ error.EOVERFLOW)))

abbrev pub IsPublishFrom : Hand → (a b : TraceeEnd) → Stop → Result ℕ Error → Type 0
IsPublishFrom hand.AtRest a b at result = IsRefused a b error.EALREADY result
IsPublishFrom (hand.Taken held) a b at result = IsPublishBy held a b at result
IsPublishFrom hand.Ended a b at result = IsRefused a b error.EALREADY result

-- EINVAL for numbers of no stop
abbrev pub IsTraceePublish : (a b : TraceeEnd) → CStop → Result ℕ Error → Type 0
IsTraceePublish a b numbers result =
    (AreOfNoStop numbers × IsRefused a b error.EINVAL result)
    ⊎ ((at : Stop) × IsMade at × (numbers_of at ≡ numbers) × IsPublishFrom a.hand a b at result)

-- ---- the exit

-- the row ends; or another row of the group that it leads was alive, and it is as it was
abbrev pub IsExitBy : InHand → (a b : TraceeEnd) → Death → Result (Unit {0}) Error → Type 0
IsExitBy held a b death (Ok done) =
    ((before : List Entry)
    × EndsWith a.tracee.view b.tracee.view before (bare (event.Exit a.tracee.row death)))
    × (b.hand ≡ hand.Ended) × IsSameEnd a b
IsExitBy held a b death (Err refusal) =
    (refusal ≡ error.EBUSY) × Looked a.tracee.view b.tracee.view
    × ((other : ℕ) × SawHeldBack a.tracee.view b.tracee.view a.tracee.row other)
    × (b.hand ≡ a.hand) × (b.births ≡ a.births) × IsSameEnd a b

abbrev pub IsExitFrom : Hand → (a b : TraceeEnd) → Death → Result (Unit {0}) Error → Type 0
IsExitFrom hand.AtRest a b death result = IsRefused a b error.EALREADY result
IsExitFrom (hand.Taken held) a b death result = IsExitBy held a b death result
IsExitFrom hand.Ended a b death result = IsRefused a b error.EALREADY result

-- EINVAL for a status of no death
abbrev pub IsTraceeExit : (a b : TraceeEnd) → (status : ℕ) → Result (Unit {0}) Error → Type 0
IsTraceeExit a b status result =
    (IsOfNoDeath status × IsRefused a b error.EINVAL result)
    ⊎ ((death : Death) × IsDeath death × (death_status death ≡ status) × IsExitFrom a.hand a b death result)
