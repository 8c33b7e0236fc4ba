-- What a line of a replay file says, by its words: the first fault of the line in the order of causes, or what it
-- says. All words are tested (UnknownWord) before any number (BadNumber).
use Rattle.std.specs.Prelude.{◌==◌, ◌-◌, ◌∷◌, [], ℕ, Bool, true, false, List, length, map, Result, Ok, Err}
use Rattle.std.specs.Prelude.{if◌then◌else◌, slice_index}
use Rattle.trace_record.specs.declared.stop.Stop.{Stop}
use Rattle.trace_record.specs.declared.stop.Stop.TheVariants as stop
use Rattle.trace_record.specs.declared.resume.Kind.{Kind}
use Rattle.trace_record.specs.declared.death.Death.{Death}
use Rattle.trace_record.specs.declared.death.Death.TheVariants as death
use Rattle.stop_history.specs.declared.limits.TheConstants.{TRACERS}
use Rattle.text_lines.specs.declared.fault.LineFault.{LineFault}
use Rattle.text_lines.specs.declared.fault.LineFault.TheVariants.{UnknownWord}
use Rattle.text_lines.specs.Keywords.{value_beside}
use Rattle.text_lines.specs.Lines.{nth_word}
use Rattle.text_lines.specs.Ranges.{◌>>=◌, number_between}
use Rattle.trace_options.specs.declared.signal.TheConstants.{LAST_SIGNAL}
use Rattle.trace_script.specs.RowWords.{id_of, row_of_words}
use Rattle.replay_files.specs.declared.command.Command.TheVariants as command
use Rattle.replay_files.specs.declared.grammar.Line.{Line}
use Rattle.replay_files.specs.declared.grammar.Line.TheVariants as line
use Rattle.replay_files.specs.declared.grammar.ReplayKeyword.{ReplayKeyword}
use Rattle.replay_files.specs.declared.grammar.ReplayKeyword.TheVariants as keyword
use Rattle.replay_files.specs.declared.grammar.Numbered.{Numbered}
use Rattle.replay_files.specs.declared.grammar.Numbered.TheVariants as numbered
use Rattle.replay_files.specs.declared.grammar.DeathWord.{DeathWord}
use Rattle.replay_files.specs.declared.grammar.DeathWord.TheVariants as death_word
use Rattle.replay_files.specs.Command.{IsCommand}
use Rattle.replay_files.specs.declared.grammar.TheConstants.{DEATH_STOPS, ENDINGS, KEYWORDS, KINDS, NUMBERED_STOPS}
use Rattle.replay_files.specs.declared.grammar.TheConstants.{PLAIN_STOPS}

-- ---- numbers in range

-- one of the board's tracers
abbrev pub tracer_number : List ℕ → Result ℕ LineFault
tracer_number word = number_between 0 (TRACERS - 1) word

-- ---- words

abbrev pub replay_keyword_of : List ℕ → Result ReplayKeyword LineFault
replay_keyword_of word = value_beside (map (λ row. (row.0.now, row.1)) KEYWORDS) word

-- the stops that are one word
abbrev pub plain_stop : List ℕ → Result Stop LineFault
plain_stop word = value_beside (map (λ row. (row.0.now, row.1)) PLAIN_STOPS) word

-- the stops that are a word and a number
abbrev pub numbered_stop : List ℕ → Result Numbered LineFault
numbered_stop word = value_beside (map (λ row. (row.0.now, row.1)) NUMBERED_STOPS) word

-- the stop that is a word and a death
abbrev pub death_stop : List ℕ → Result (Unit {0}) LineFault
death_stop word = value_beside (map (λ row. (row.0.now, row.1)) DEATH_STOPS) word

abbrev pub kind_of : List ℕ → Result Kind LineFault
kind_of word = value_beside (map (λ row. (row.0.now, row.1)) KINDS) word

abbrev pub ending_named : List ℕ → Result DeathWord LineFault
ending_named word = value_beside (map (λ row. (row.0.now, row.1)) ENDINGS) word

-- ---- numbers after words

abbrev pub stop_with_number : Numbered → List ℕ → Result Stop LineFault
stop_with_number numbered.Seccomp number = number_between 0 65535 number >>= λ n. Ok (stop.Seccomp n)
stop_with_number numbered.Fork number = id_of number >>= λ n. Ok (stop.Fork n)
stop_with_number numbered.Clone number = id_of number >>= λ n. Ok (stop.Clone n)
stop_with_number numbered.Exec number = id_of number >>= λ n. Ok (stop.Exec n)
stop_with_number numbered.Signal number = number_between 1 LAST_SIGNAL number >>= λ n. Ok (stop.Signal n)

abbrev pub death_with_number : DeathWord → List ℕ → Result Death LineFault
death_with_number death_word.Exited number = number_between 0 255 number >>= λ n. Ok (death.Exited n)
death_with_number death_word.Killed number = number_between 1 LAST_SIGNAL number >>= λ n. Ok (death.Signaled n false)

-- ---- lines

-- row TID TGID PGID PARENT
abbrev pub row_line : (tid tgid pgid parent : List ℕ) → Result Line LineFault
row_line tid tgid pgid parent = do
  row ← row_of_words tid tgid pgid parent
  Ok (line.Row row)

-- publish TID STOP, where STOP is one word
abbrev pub publish_plain : (tid name : List ℕ) → Result Line LineFault
publish_plain tid name = do
  s ← plain_stop name
  t ← id_of tid
  Ok (line.Command t (command.Publish s))

-- publish TID STOP, where STOP is a word and a number
abbrev pub publish_numbered : (tid name number : List ℕ) → Result Line LineFault
publish_numbered tid name number = do
  w ← numbered_stop name
  t ← id_of tid
  s ← stop_with_number w number
  Ok (line.Command t (command.Publish s))

-- publish TID ending exited CODE, publish TID ending killed SIGNAL
abbrev pub publish_ending : (tid name how number : List ℕ) → Result Line LineFault
publish_ending tid name how number = do
  u ← death_stop name
  w ← ending_named how
  t ← id_of tid
  d ← death_with_number w number
  Ok (line.Command t (command.Publish (stop.Ending d)))

-- claim TID C
abbrev pub claim_line : (tid tracer : List ℕ) → Result Line LineFault
claim_line tid tracer = do
  t ← id_of tid
  c ← tracer_number tracer
  Ok (line.Command t (command.Claim c))

-- resume TID C KIND SIGNAL
abbrev pub resume_line : (tid tracer kind signal : List ℕ) → Result Line LineFault
resume_line tid tracer kind signal = do
  k ← kind_of kind
  t ← id_of tid
  c ← tracer_number tracer
  s ← number_between 0 LAST_SIGNAL signal
  Ok (line.Command t (command.Resume c (record { kind = k; signal = s })))

-- exit TID exited CODE, exit TID killed SIGNAL
abbrev pub exit_line : (tid how number : List ℕ) → Result Line LineFault
exit_line tid how number = do
  w ← ending_named how
  t ← id_of tid
  d ← death_with_number w number
  Ok (line.Command t (command.Exit d))

-- state TID
abbrev pub state_line : List ℕ → Result Line LineFault
state_line tid = do
  t ← id_of tid
  Ok (line.Command t command.State)

abbrev pub publish_line : List (List ℕ) → Result Line LineFault
publish_line words =
    if length words == 2 then publish_plain (nth_word words 0) (nth_word words 1)
    else if length words == 3 then publish_numbered (nth_word words 0) (nth_word words 1) (nth_word words 2)
    else if length words == 4
    then publish_ending (nth_word words 0) (nth_word words 1) (nth_word words 2) (nth_word words 3)
    else Err UnknownWord

-- what follows the first word of a line
abbrev pub replay_rest_of : ReplayKeyword → List (List ℕ) → Result Line LineFault
replay_rest_of keyword.Row words =
    if length words == 4 then row_line (nth_word words 0) (nth_word words 1) (nth_word words 2) (nth_word words 3)
    else Err UnknownWord
replay_rest_of keyword.Publish words = publish_line words
replay_rest_of keyword.Claim words =
    if length words == 2 then claim_line (nth_word words 0) (nth_word words 1) else Err UnknownWord
replay_rest_of keyword.Resume words =
    if length words == 4 then resume_line (nth_word words 0) (nth_word words 1) (nth_word words 2) (nth_word words 3)
    else Err UnknownWord
replay_rest_of keyword.Exit words =
    if length words == 3 then exit_line (nth_word words 0) (nth_word words 1) (nth_word words 2) else Err UnknownWord
replay_rest_of keyword.State words = if length words == 1 then state_line (nth_word words 0) else Err UnknownWord

-- rows come before the first command
abbrev pub replay_in_place : (begun : Bool) → ReplayKeyword → Result ReplayKeyword LineFault
replay_in_place true keyword.Row = Err UnknownWord
replay_in_place begun word = Ok word

-- a line without words, and one whose first word begins with #, says nothing
abbrev pub replay_line_of : (begun : Bool) → List (List ℕ) → Result Line LineFault
replay_line_of begun [] = Ok line.Nothing
replay_line_of begun (first ∷ words) = if slice_index first 0 == 35 then Ok line.Nothing else do
  k ← replay_keyword_of first
  w ← replay_in_place begun k
  replay_rest_of w words

-- the command of a line is in range
abbrev pub IsLine : Line → Type 0
IsLine line.Nothing = Unit {0}
IsLine (line.Row row) = Unit {0}
IsLine (line.Command tid command) = IsCommand command
