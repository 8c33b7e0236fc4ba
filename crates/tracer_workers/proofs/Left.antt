-- All that a history leaves of a row, in one record: what an entry of the row's own makes of it, and that an entry of
-- another row leaves it.
use Rattle.std.proofs.Common.{refl, ◌≡◌, ◌≢◌, ◌∷◌, ℕ, List, Option, eq-eqb, ne_eqb}
use Rattle.trace_record.specs.Content.{Content}
use Rattle.trace_record.specs.declared.death.Death.{Death}
use Rattle.stop_history.specs.declared.roster.Row.{Row}
use Rattle.stop_history.specs.Event.{Event, events_of, subject}
use Rattle.stop_table.specs.Entry.{Entry, content_after, content_with, history_of}
use Rattle.trace_script.specs.StopTrace.{Turn}
use Rattle.tracer_workers.specs.CaseText.{contents_with, death_after, death_with, published_contents}
use Rattle.tracer_workers.specs.Driven.{turn_after, turns_of, turns_with}

pub record Left : Type 0 where
  pub events : List Event
  pub turns : List Turn
  pub stops : List Content
  pub death : Option Death
  pub content : Content

abbrev pub left_of : List Row → List Entry → ℕ → Left
left_of rows h row = record {
  events = events_of row (history_of h);
  turns = turns_of rows h row;
  stops = published_contents h row;
  death = death_after h row;
  content = content_after rows h row;
}

-- with one entry of its own more
abbrev pub left_with : List Row → List Entry → ℕ → Event → Content → Left
left_with rows h row e content = record {
  events = e ∷ events_of row (history_of h);
  turns = turns_with e (turn_after rows h row content) (turns_of rows h row);
  stops = contents_with e content (published_contents h row);
  death = death_with e (death_after h row);
  content = content_with e content (content_after rows h row);
}

pub own_left : (rows : List Row) (x : Entry) (h : List Entry) (row : ℕ) → subject x.event ≡ row
    → left_of rows (x ∷ h) row ≡ left_with rows h row x.event x.content
own_left rows x h row same = rw (eq-eqb (subject x.event) row same) refl

pub other_left : (rows : List Row) (x : Entry) (h : List Entry) (row : ℕ) → subject x.event ≢ row
    → left_of rows (x ∷ h) row ≡ left_of rows h row
other_left rows x h row other = rw (ne_eqb (subject x.event) row other) refl
