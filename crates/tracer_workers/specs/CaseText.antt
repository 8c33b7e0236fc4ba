-- The text of a case, by the traces of its scripts, and the text of a run, by what its history has of each row. Rows are
-- printed in the order of the roster, those that were born alone.
use Rattle.std.specs.Prelude.{◌==◌, ◌&&◌, ◌++◌, ◌∷◌, [], ℕ, zero, suc, Bool, true, false, List, Option, Some, None}
use Rattle.std.specs.Prelude.{length, if◌then◌else◌}
use Rattle.std.specs.List.{flat_map, list_any, range_with_len}
use Rattle.trace_record.specs.Content.{Content}
use Rattle.trace_record.specs.Stop.{child_of}
use Rattle.trace_record.specs.declared.death.Death.{Death}
use Rattle.stop_history.specs.declared.roster.Row.{Row}
use Rattle.stop_history.specs.Event as event
use Rattle.stop_history.specs.Event.{Event, subject}
use Rattle.stop_history.specs.Roster.{parent_of, row_at}
use Rattle.stop_history.specs.State.{creates, is_born}
use Rattle.stop_table.specs.Entry.{Entry, history_of}
use Rattle.trace_script.specs.StopTrace.{Broken, Dead, Ending}
use Rattle.tracer_workers.specs.Driven.{fault_death}
use Rattle.tracer_workers.specs.Plan.{Plan, row_trace}

-- the lines of a row: of its tid, the contents of its stops in order, and its death
abbrev pub Printer : Type 0
Printer = ℕ → List Content → Option Death → List ℕ

abbrev pub text_if : Bool → List ℕ → List ℕ
text_if born lines = if born then lines else []

-- ---- of a run

abbrev pub contents_with : Event → Content → List Content → List Content
contents_with (event.Publish row number stop) content contents = contents ++ content ∷ []
contents_with (event.Claim row number tracer) content contents = contents
contents_with (event.Resume row number how tracer) content contents = contents
contents_with (event.Exit row death) content contents = contents

-- the contents that a row has published, in order
abbrev pub published_contents : List Entry → ℕ → List Content
published_contents [] row = []
published_contents (x ∷ h) row =
    if subject x.event == row then contents_with x.event x.content (published_contents h row)
    else published_contents h row

abbrev pub death_with : Event → Option Death → Option Death
death_with (event.Exit row death) before = Some death
death_with (event.Publish row number stop) before = before
death_with (event.Claim row number tracer) before = before
death_with (event.Resume row number how tracer) before = before

-- a row's death, if it has died
abbrev pub death_after : List Entry → ℕ → Option Death
death_after [] row = None
death_after (x ∷ h) row =
    if subject x.event == row then death_with x.event (death_after h row) else death_after h row

abbrev pub history_lines : Printer → List Row → List Entry → ℕ → List ℕ
history_lines print rows h row =
    text_if (is_born rows (history_of h) row)
    (print (row_at rows row).tid (published_contents h row) (death_after h row))

abbrev pub history_text : Printer → List Row → List Entry → List ℕ
history_text print rows h = flat_map (history_lines print rows h) (range_with_len 0 (length rows))

-- ---- of a case

-- how a tracee whose trace ends so dies
abbrev pub death_of : Ending → Death
death_of (Dead death) = death
death_of (Broken address) = fault_death

-- one of the stops creates the child of a tid
abbrev pub bears : ℕ → List Content → Bool
bears tid contents = list_any (λ content. creates tid (child_of content.stop)) contents

-- a root is born, and so is a row that its parent's trace creates, where the parent is born
abbrev pub is_borne_of : Plan → (ℕ → Bool) → Option ℕ → ℕ → Bool
is_borne_of plan born None tid = true
is_borne_of plan born (Some parent) tid = born parent && bears tid (row_trace plan parent).stops

-- the rows of the first generations, the roots being the first one
unfoldable pub is_born_within : Plan → (generations : ℕ) → ℕ → Bool
is_born_within plan zero row = false
is_born_within plan (suc n) row =
    is_borne_of plan (is_born_within plan n) (parent_of plan.rows row) (row_at plan.rows row).tid

-- parents stand before their children, so a roster has no more generations than rows
abbrev pub is_case_born : Plan → ℕ → Bool
is_case_born plan row = is_born_within plan (length plan.rows) row

abbrev pub case_lines : Printer → Plan → ℕ → List ℕ
case_lines print plan row =
    text_if (is_case_born plan row)
    (print (row_at plan.rows row).tid (row_trace plan row).stops (Some (death_of (row_trace plan row).ending)))

abbrev pub case_text : Printer → Plan → List ℕ
case_text print plan = flat_map (case_lines print plan) (range_with_len 0 (length plan.rows))
