-- Running histories. The cells run with the tracees' registers and memory, so an entry of their history is an event
-- with its content: a publish carries the content of its stop, and a resume that of the claimed record as its holder
-- leaves it. The other events carry none. The newest entry stands first.
use Rattle.std.specs.Prelude.{◌≡◌, ◌==◌, ◌∷◌, ◌++◌, [], ℕ, Bool, List, if◌then◌else◌}
use Rattle.trace_record.specs.Content.{Content, empty_content}
use Rattle.trace_record.specs.declared.resume.Resume.{Resume as Restart}
use Rattle.stop_history.specs.declared.actor.Actor.{Actor}
use Rattle.stop_history.specs.declared.phase.Phase.{Phase}
use Rattle.stop_history.specs.declared.roster.Row.{Row}
use Rattle.stop_history.specs.Actor.{IsQuiet}
use Rattle.stop_history.specs.Event as event
use Rattle.stop_history.specs.Event.{Event, History, events_of, subject}
use Rattle.stop_history.specs.History.{Fits, births_in}
use Rattle.stop_history.specs.Ranges.{IsInRange}
use Rattle.stop_history.specs.Roster.{row_at}
use Rattle.stop_history.specs.State.{number_in}
use Rattle.stop_history.specs.Word.{Word, phase_in, raised}
use Rattle.stop_table.specs.Written.{IsWrittenOver}

pub record Entry : Type 0 where
  pub event : Event
  pub content : Content

-- the events of a running history
abbrev pub history_of : List Entry → History
history_of [] = []
history_of (x ∷ h) = x.event ∷ history_of h

-- an event that carries no content
abbrev pub bare : Event → Entry
bare e = record { event = e; content = empty_content 0 }

-- the publish of a content
abbrev pub publish_of : ℕ → Content → Entry
publish_of row content = record { event = event.Publish row content.number content.stop; content = content }

-- the resume of a claimed record
abbrev pub resume_of : (row number : ℕ) → Restart → (tracer : ℕ) → Content → Entry
resume_of row number how tracer content =
    record { event = event.Resume row number how tracer; content = content }

-- ---- what a running history leaves of a row

abbrev pub content_with : Event → (carried before : Content) → Content
content_with (event.Publish row number stop) carried before = carried
content_with (event.Claim row number tracer) carried before = before
content_with (event.Resume row number how tracer) carried before = carried
content_with (event.Exit row death) carried before = before

-- the content of a row's last publish or resume; before any, that of the empty record
abbrev pub content_after : List Row → List Entry → ℕ → Content
content_after rows [] row = empty_content (row_at rows row).tid
content_after rows (x ∷ h) row =
    if subject x.event == row then content_with x.event x.content (content_after rows h row) else content_after rows h row

-- what a publish carries is the content of its stop; what a resume carries is the content of the last publish, with
-- what its holder has written
abbrev pub IsCarried : List Row → (before : Content) → Event → Content → Type 0
IsCarried rows before (event.Publish row number stop) content =
    (content.tid ≡ (row_at rows row).tid) × (content.number ≡ number) × (content.stop ≡ stop)
IsCarried rows before (event.Claim row number tracer) content = Unit {0}
IsCarried rows before (event.Resume row number how tracer) content = IsWrittenOver before content
IsCarried rows before (event.Exit row death) content = Unit {0}

-- each event fits the state before it and is in range, and publishes and resumes carry their content
abbrev pub AreLegal : List Row → List Entry → Type 0
AreLegal rows [] = Unit {0}
AreLegal rows (x ∷ h) =
    (Fits rows (history_of h) x.event × IsInRange x.event
    × IsCarried rows (content_after rows h (subject x.event)) x.event x.content)
    × AreLegal rows h

-- all that a row's events leave of it
pub record Cell : Type 0 where
  pub phase : Phase
  pub births : ℕ
  pub number : ℕ
  pub content : Content

abbrev pub cell_after : List Row → List Entry → ℕ → Cell
cell_after rows h row = record {
  phase = phase_in (events_of row (history_of h));
  births = births_in (events_of row (history_of h));
  number = number_in (events_of row (history_of h));
  content = content_after rows h row;
}

-- the word of a cell, of a row that its tracee has taken up or not
abbrev pub word_of : (taken : Bool) → Cell → Word
word_of taken cell = record { phase = raised taken cell.phase; births = cell.births; number = cell.number }

-- ---- beginnings

-- a history begins with another
abbrev pub Begins : (sooner later : List Entry) → Type 0
Begins sooner later = (more : List Entry) × (later ≡ more ++ sooner)

-- a history goes on from another by events of actors outside a set
abbrev pub GoesOn : (Actor → Bool) → (sooner later : List Entry) → Type 0
GoesOn actors sooner later = (more : List Entry) × (later ≡ more ++ sooner) × IsQuiet actors (history_of more)
