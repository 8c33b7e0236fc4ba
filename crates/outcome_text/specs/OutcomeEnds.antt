-- How outcomes end, and how many end alike: the last states of the tracees, by their names alone, and the threads that
-- wait. Outcomes end alike where this is written alike.
use Rattle.std.specs.Prelude.{◌≡◌, ◌+◌, ◌==◌, ◌++◌, ◌∷◌, [], ℕ, zero, suc, Bool, not, List, length, map, filter}
use Rattle.std.specs.Prelude.{flat_map, Option, codes, decimal, bytes_eq, slice_index_or, count_by, zip, if◌then◌else◌}
use Rattle.std.specs.Prelude.{string_bytes, String}
use Rattle.std.specs.List.{list_any, range_with_len}
use Rattle.stop_history.specs.declared.roster.Row.{Row}
use Rattle.stop_history.specs.declared.state.State.{State}
use Rattle.stop_program.specs.declared.command.ThreadCommand.{ThreadCommand}
use Rattle.stop_program.specs.Program.{Log}
use Rattle.stop_program.specs.Run.{EndedRun}
use Rattle.outcome_text.specs.declared.end_tallies.Tally.{Tally}
use Rattle.outcome_text.specs.Conditions.{waits_at_end}
use Rattle.outcome_text.specs.OutcomeText.{allowed_line, counts_line, name_at, thread_word}
use Rattle.replay_files.specs.StateName.{state_word}

-- ---- one end

-- words with a comma between them
abbrev pub more_listed : List (List ℕ) → List ℕ
more_listed words = flat_map (λ word. codes ", " ++ word) words

abbrev pub listed : List (List ℕ) → List ℕ
listed [] = []
listed (word ∷ words) = word ++ more_listed words

abbrev pub last_state : Row × State → List ℕ
last_state tracee = decimal tracee.0.tid ++ codes " " ++ state_word tracee.1

abbrev pub last_states : List Row → List State → List ℕ
last_states [] states = codes "no tracees"
last_states (row ∷ rows) states = listed (map last_state (zip (row ∷ rows) states))

-- threads are named in their order
abbrev pub who_waits : (words : List (List ℕ)) → List ℕ
who_waits [] = codes "nobody waits"
who_waits (word ∷ []) = word ++ codes " waits"
who_waits (word ∷ words) = listed (word ∷ words) ++ codes " wait"

abbrev pub waiting_words : (names : List (Option (List ℕ))) → (commands : ℕ → List ThreadCommand) → Log
    → List (List ℕ)
waiting_words names commands turns =
    map (λ thread. thread_word (thread + 1) (name_at names thread))
    (filter (waits_at_end commands turns) (range_with_len 0 (length names)))

abbrev pub outcome_end : List Row → (names : List (Option (List ℕ))) → (commands : ℕ → List ThreadCommand) → EndedRun
    → List ℕ
outcome_end rows names commands ending =
    last_states rows ending.states ++ codes "; " ++ who_waits (waiting_words names commands ending.turns)

-- ---- those that end alike, by the ends of all outcomes in their order

abbrev pub end_at : (ends : List (List ℕ)) → (place : ℕ) → List ℕ
end_at ends place = slice_index_or ends place []

-- as many end so
abbrev pub count_like : (ends : List (List ℕ)) → (end : List ℕ) → ℕ
count_like ends end = count_by (λ other. bytes_eq other end) ends

-- no outcome before it ends so
abbrev pub is_first_end : (ends : List (List ℕ)) → (place : ℕ) → Bool
is_first_end ends place =
    not (list_any (λ before. bytes_eq (end_at ends before) (end_at ends place)) (range_with_len 0 place))

-- the first outcome of each end, by its place
abbrev pub first_ends : (ends : List (List ℕ)) → List ℕ
first_ends ends = filter (is_first_end ends) (range_with_len 0 (length ends))

-- the outcomes that end as the one of this place
abbrev pub tally_of : (ends : List (List ℕ)) → (first : ℕ) → Tally
tally_of ends first = record { first = first; count = count_like ends (end_at ends first) }

-- one for each end, by the first outcome of each
abbrev pub tallies_of : (ends : List (List ℕ)) → List Tally
tallies_of ends = map (tally_of ends) (first_ends ends)

-- an end and its outcomes, by the first of them
abbrev pub end_with_tally : (ends : List (List ℕ)) → (first : ℕ) → List ℕ × Tally
end_with_tally ends first = (end_at ends first, tally_of ends first)

-- the same, as it is kept
abbrev pub entry_told : {Z : Type 0} → String Z × Tally → List ℕ × Tally
entry_told entry = (string_bytes entry.0, entry.1)

-- each end is kept once, in the order of the first outcomes, and how many outcomes there are
pub record AreTallied {Z : Type 0} (entries : List (String Z × Tally)) (outcomes : ℕ) (ends : List (List ℕ)) : Type 0
  where
    pub counted : outcomes ≡ length ends
    pub each : map entry_told entries ≡ map (end_with_tally ends) (first_ends ends)

-- ---- their lines

-- outcomes are numbered from 1
abbrev pub end_head : (count place : ℕ) → List ℕ
end_head count place = decimal count ++ codes " outcomes, first " ++ decimal (place + 1) ++ codes ": "

-- the line of an end that is kept
abbrev pub end_line : {Z : Type 0} → String Z × Tally → List ℕ
end_line entry = end_head entry.1.count entry.1.first ++ (string_bytes entry.0 ++ codes "\n")

-- the line of outcomes that end alike, where there are this many of them
abbrev pub tally_line : (ends : List (List ℕ)) → (count : ℕ) → Tally → List ℕ
tally_line ends count tally =
    if tally.count == count then end_head count tally.first ++ (end_at ends tally.first ++ codes "\n") else []

abbrev pub tally_lines : (ends : List (List ℕ)) → (count : ℕ) → List Tally → List ℕ
tally_lines ends count tallies = flat_map (tally_line ends count) tallies

-- the lines of the ends that at most this many outcomes have: an end that more outcomes have comes first, and of those
-- that as many have the one of the earlier outcome
unfoldable pub lines_to : (ends : List (List ℕ)) → (most : ℕ) → List ℕ
lines_to ends zero = []
lines_to ends (suc fewer) = tally_lines ends (suc fewer) (tallies_of ends) ++ lines_to ends fewer

abbrev pub ends_lines : (ends : List (List ℕ)) → List ℕ
ends_lines ends = lines_to ends (length ends)

abbrev pub ends_text : List Row → (names : List (Option (List ℕ))) → (commands : ℕ → List ThreadCommand)
    → (required : Bool) → (places : ℕ) → (chosen : List EndedRun) → List ℕ
ends_text rows names commands required places chosen =
    ends_lines (map (outcome_end rows names commands) chosen)
    ++ (counts_line (length chosen) places ++ allowed_line required)
