-- The line of a condition, by the words after `only`: what has to hold where an outcome ends, or the first fault in the
-- order of causes. All words are tested (UnknownWord) before any number (BadNumber).
use Rattle.std.specs.Prelude.{◌==◌, ◌&&◌, ℕ, Bool, List, length, codes, bytes_eq, Result, Ok, Err}
use Rattle.std.specs.Prelude.{if◌then◌else◌}
use Rattle.text_lines.specs.declared.fault.LineFault.{LineFault}
use Rattle.text_lines.specs.declared.fault.LineFault.TheVariants.{UnknownWord}
use Rattle.text_lines.specs.Keywords.{value_beside}
use Rattle.text_lines.specs.Lines.{nth_word}
use Rattle.text_lines.specs.Ranges.{◌>>=◌}
use Rattle.trace_script.specs.RowWords.{id_of}
use Rattle.litmus_files.specs.declared.condition.LitmusCondition.{LitmusCondition}
use Rattle.litmus_files.specs.declared.condition.LitmusCondition.TheVariants as kept
use Rattle.litmus_files.specs.declared.condition.Sense.{Sense}
use Rattle.litmus_files.specs.declared.condition.Sense.TheVariants.{Is, IsNot}
use Rattle.replay_files.specs.declared.state_name.StateName.{StateName}
use Rattle.litmus_files.specs.LitmusReply.{is_any_word}
use Rattle.replay_files.specs.StateName.{state_names}

-- what has to hold where an outcome ends
pub data Asked : Type 0 where
  -- the tracee of this thread id is in this state, or is not
  Tid : (tid : ℕ) → (sense : Sense) → (state : StateName) → Asked
  -- some tracee is, or some is not
  Any : (sense : Sense) → (state : StateName) → Asked
  -- the thread of this name waits, or does not
  Thread : (name : List ℕ) → (sense : Sense) → Asked

-- a condition whose name is a slice of the file, read as what it asks
abbrev pub condition_asked : LitmusCondition → Asked
condition_asked (kept.Tid tid sense state) = Tid tid sense state
condition_asked (kept.Any sense state) = Any sense state
condition_asked (kept.Thread name sense) = Thread name.now sense

-- ---- words

abbrev pub is_thread_word : List ℕ → Bool
is_thread_word word = bytes_eq word (codes "thread")

abbrev pub is_not_word : List ℕ → Bool
is_not_word word = bytes_eq word (codes "not")

abbrev pub is_waits_word : List ℕ → Bool
is_waits_word word = bytes_eq word (codes "waits")

-- ---- conditions

-- some tracee, or that of a thread id
abbrev pub tracee_aim : (named : List ℕ) → Sense → StateName → Result Asked LineFault
tracee_aim named sense state =
    if is_any_word named then Ok (Any sense state) else (id_of named >>= λ t. Ok (Tid t sense state))

abbrev pub tracee_in_state : (named : List ℕ) → Sense → (state : List ℕ) → Result Asked LineFault
tracee_in_state named sense state = value_beside state_names state >>= tracee_aim named sense

-- TID STATE, TID not STATE, any STATE, any not STATE
abbrev pub tracee_condition : List (List ℕ) → Result Asked LineFault
tracee_condition words =
    if length words == 2 then tracee_in_state (nth_word words 0) Is (nth_word words 1)
    else if length words == 3 && is_not_word (nth_word words 1)
    then tracee_in_state (nth_word words 0) IsNot (nth_word words 2)
    else Err UnknownWord

-- thread NAME waits, thread NAME not waits: what NAME names is left to the file
abbrev pub thread_condition : List (List ℕ) → Result Asked LineFault
thread_condition words =
    if length words == 3 && is_waits_word (nth_word words 2) then Ok (Thread (nth_word words 1) Is)
    else if length words == 4 && (is_not_word (nth_word words 2) && is_waits_word (nth_word words 3))
    then Ok (Thread (nth_word words 1) IsNot)
    else Err UnknownWord

abbrev pub condition_of_words : List (List ℕ) → Result Asked LineFault
condition_of_words words =
    if is_thread_word (nth_word words 0) then thread_condition words else tracee_condition words
