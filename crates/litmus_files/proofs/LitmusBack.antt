-- A program that is spelled as a litmus file is read back, row by row, and then thread by thread.
use Rattle.std.proofs.Common.{refl, ◌≡◌, ◌∙◌, ◌<◌, ◌≤◌, ◌+◌, ◌-◌, ◌++◌, ◌∷◌, [], ℕ, Bool, true, false, cond, List}
use Rattle.std.proofs.Common.{Option, Some, None, Result, Ok, Err, IfSome, ap, append-nil, append_assoc, arith, eqb}
use Rattle.std.proofs.Common.{filter, le-leb, length, length-append, ne_eqb, sym}
use Rattle.std.proofs.lemmas.List.Elements.{All-filter, All-head, All-map, All-tail}
use Rattle.std.specs.List.{All}
use Rattle.stop_program.specs.declared.command.ProgramLine.{ProgramLine}
use Rattle.stop_program.specs.declared.command.ThreadCommand.{ThreadCommand}
use Rattle.stop_program.specs.declared.voice.Voice.{Voice}
use Rattle.stop_program.specs.declared.voice.Voice.TheVariants.{Loud, Quiet}
use Rattle.stop_program.specs.Program.{is_line_of}
use Rattle.stop_program.specs.Replies.{without_reply}
use Rattle.stop_history.proofs.Rosters.{few_rows}
use Rattle.stop_history.specs.declared.limits.TheConstants.{MOST_ROWS}
use Rattle.stop_history.specs.declared.roster.Row.{Row}
use Rattle.stop_history.specs.Roster.{IsRoster, fault_after}
use Rattle.text_lines.proofs.Spelled.{AreWords}
use Rattle.text_lines.specs.declared.fault.LineFault.{LineFault}
use Rattle.text_lines.specs.declared.fault.LineFault.TheVariants as fault
use Rattle.text_lines.specs.Lines.{last_line, line_text, lines_of}
use Rattle.text_lines.specs.Ranges.{◌>>=◌}
use Rattle.trace_script.proofs.LinesRead.{all_read}
use Rattle.trace_script.proofs.RowsBack.{HasRanges, row_fits, row_read, rows_fine}
use Rattle.trace_script.proofs.SpelledLines.{first_line}
use Rattle.trace_script.specs.CaseFile.{roster_cause, unless_fault}
use Rattle.trace_script.specs.declared.cause.CaseError.{CaseError}
use Rattle.replay_files.proofs.RowsSpelled.{rows_read}
use Rattle.replay_files.specs.Spelling.{row_words}
use Rattle.litmus_files.specs.declared.draft.TheConstants.{MOST_COMMANDS, MOST_THREADS}
use Rattle.litmus_files.specs.declared.line.Within.TheVariants as within
use Rattle.litmus_files.specs.declared.required.NumberedLine.{NumberedLine}
use Rattle.litmus_files.specs.CommandText.{command_text}
use Rattle.litmus_files.specs.LitmusFile.{LitmusContent, LitmusReading, content_unless_open, current_thread}
use Rattle.litmus_files.specs.LitmusFile.{litmus_content_of, litmus_line_added, litmus_line_read}
use Rattle.litmus_files.specs.LitmusFile.{litmus_lines_after, no_lines, numbered_command, place_past, plain_lines}
use Rattle.litmus_files.specs.LitmusFile.{thread_command, wanted_of, within_of}
use Rattle.litmus_files.specs.LitmusGrammar.{is_thread_name, litmus_line_of, thread_line}
use Rattle.litmus_files.specs.LitmusLine.{Said}
use Rattle.litmus_files.specs.LitmusLine as line
use Rattle.litmus_files.specs.LitmusSpelling.{IsSpelledLitmus, IsSpelledThreadCommand, commands_text, head_words}
use Rattle.litmus_files.specs.LitmusSpelling.{lines_in_turn, litmus_spelling, name_words, spelled_threads}
use Rattle.litmus_files.specs.LitmusSpelling.{thread_commands, threads_in_turn, voice_word}
use Rattle.litmus_files.proofs.CommandsSpelled.{IsLineOf, command_line, said_of}
use Rattle.litmus_files.proofs.LitmusFiles.{content_read, few_bytes}
use Rattle.litmus_files.proofs.LitmusSteps.{added, room_for, taken_once, thread_taken}
use Rattle.litmus_files.proofs.ThreadNames.{name_is_word}

-- ---- what was read so far, and what a line of words says there

abbrev reading : List Row → List (Option (List ℕ)) → List Voice → (before : ℕ) → List NumberedLine → LitmusReading
reading rows names voices before lines =
    record no_lines { rows = rows; names = names; voices = voices; lines = lines; before = before }

abbrev of_rows : List Row → LitmusReading
of_rows rows = reading rows [] [] 0 []

abbrev says_there : LitmusReading → List (List ℕ) → Result Said LineFault
says_there so_far words = litmus_line_of (within_of so_far) words

-- ---- rows

row_says : (before : List Row) (row : Row) → HasRanges row
    → says_there (of_rows before) (row_words row) ≡ Ok (line.Declares row)
row_says before row has = ap (λ r. r >>= λ row. Ok (line.Declares row)) (row_read row has)

row_takes : (n : ℕ) (before : List Row) (row : Row) → length before < MOST_ROWS → fault_after before row ≡ None
    → litmus_line_added n (of_rows before) (line.Declares row) ≡ Ok (of_rows (before ++ row ∷ []))
row_takes n before row room fits =
    ap (λ found. unless_fault (roster_cause found) (of_rows (before ++ row ∷ []))) (row_fits before row room fits)

-- ---- heads of threads

abbrev IsName : Option (List ℕ) → Type 0
IsName name = IfSome name (λ word. is_thread_name word ≡ true)

head_begins : (none : Bool) (voice : Voice) (words : List (List ℕ))
    → litmus_line_of (cond none within.Rows within.Thread) (voice_word voice ∷ words) ≡ thread_line voice words
head_begins true Loud words = refl
head_begins true Quiet words = refl
head_begins false Loud words = refl
head_begins false Quiet words = refl

head_ends : (voice : Voice) (name : Option (List ℕ)) → IsName name
    → thread_line voice (name_words name) ≡ Ok (line.Thread voice name)
head_ends voice None is = refl
head_ends voice (Some word) is =
    ap (λ b. cond b (Ok (line.Thread voice (Some word))) (Err fault.UnknownWord)) is

name_are_words : (name : Option (List ℕ)) → IsName name → AreWords (name_words name)
name_are_words None is = tt
name_are_words (Some word) is = (name_is_word word is, tt)

head_are_words : (voice : Voice) (name : Option (List ℕ)) → IsName name → AreWords (head_words voice name)
head_are_words Loud name is = (refl, name_are_words name is)
head_are_words Quiet name is = (refl, name_are_words name is)

head_read : (n : ℕ) (rows : List Row) (names : List (Option (List ℕ))) (voices : List Voice) (before : ℕ)
    (lines : List NumberedLine) (voice : Voice) (name : Option (List ℕ)) (rest : List ℕ) → IsName name
    → length names < MOST_THREADS
    → litmus_lines_after n (reading rows names voices before lines)
    (lines_of (line_text (head_words voice name) ++ rest))
    ≡ litmus_lines_after (n + 1) (reading rows (names ++ name ∷ []) (voices ++ voice ∷ []) (length lines) lines)
    (lines_of rest)
head_read n rows names voices before lines voice name rest is room =
    first_line says_there litmus_line_added n (reading rows names voices before lines)
    (reading rows (names ++ name ∷ []) (voices ++ voice ∷ []) (length lines) lines) (head_words voice name)
    (line.Thread voice name) rest (head_are_words voice name is)
    (head_begins (eqb (length names) 0) voice (name_words name) ∙ head_ends voice name is)
    (thread_taken (reading rows names voices before lines) voice name (names ++ name ∷ []) (voices ++ voice ∷ [])
    (room_for (length names) (length names) MOST_THREADS room refl) refl refl refl)

-- ---- commands of a thread

in_thread : (threads thread : ℕ) → threads ≡ thread + 1
    → cond (eqb threads 0) within.Rows within.Thread ≡ within.Thread
in_thread threads thread is = rw (ne_eqb threads 0 (λ none. omega (arith, none, is))) refl

thread_is : (rows : List Row) (names : List (Option (List ℕ))) (voices : List Voice) (before : ℕ)
    (lines : List NumberedLine) (thread : ℕ) → length names ≡ thread + 1
    → Ok thread ≡ current_thread (reading rows names voices before lines)
thread_is rows names voices before lines thread is =
    let last : thread ≡ length names - 1 = omega (arith, is) in
    rw (ne_eqb (length names) 0 (λ none. omega (arith, none, is))) (ap Ok last)

place_is : (rows : List Row) (names : List (Option (List ℕ))) (voices : List Voice) (before at : ℕ)
    (lines : List NumberedLine) → length lines ≡ before + at → length lines + 1 ≤ MOST_COMMANDS
    → Ok (at + 1) ≡ place_past (reading rows names voices before lines) 1
place_is rows names voices before at lines is few =
    let next : at + 1 ≡ length lines - before + 1 = omega (arith, is) in
    rw (le-leb (length lines + 1) MOST_COMMANDS few) (ap Ok next)

-- a command as it is read, whose place is not known yet
abbrev unplaced : ThreadCommand → ThreadCommand
unplaced command = record (without_reply command) { leave_to = 0 }

made : (rows : List Row) (command : ThreadCommand)
    → (it : IsLineOf rows command.which (command_text rows command)
    (said_of rows command.which command.waits command.call))
    → Ok (unplaced command) ≡ thread_command rows (said_of rows command.which command.waits command.call)
made rows command it =
    sym (ap (λ r. r >>= λ about. wanted_of rows None >>= λ needed. Ok
    (record { which = about; call = command.call; waits = command.waits; wanted = needed; leave_to = 0 })) it.means)

-- where a thread's commands are: it is the last one, and has this many
record IsPlace (names : List (Option (List ℕ))) (before : ℕ) (lines : List NumberedLine) (thread at : ℕ) : Type 0 where
  last : length names ≡ thread + 1
  own : length lines ≡ before + at

command_read : (n : ℕ) (rows : List Row) (names : List (Option (List ℕ))) (voices : List Voice) (before : ℕ)
    (lines : List NumberedLine) (thread at : ℕ) (command : ThreadCommand) (rest : List ℕ) → IsRoster rows
    → IsSpelledThreadCommand rows command → IsPlace names before lines thread at → length lines + 1 ≤ MOST_COMMANDS
    → litmus_lines_after n (reading rows names voices before lines)
    (lines_of ((command_text rows command ++ 10 ∷ []) ++ rest))
    ≡ litmus_lines_after (n + 1) (reading rows names voices before (lines ++ lines_in_turn thread at (command ∷ [])))
    (lines_of rest)
command_read n rows names voices before lines thread at command rest roster is place few =
    let so_far : LitmusReading = reading rows names voices before lines in
    let all : List NumberedLine = lines ++ lines_in_turn thread at (command ∷ []) in
    let it = command_line rows command.call command.which command.waits roster is.call is.spelled is.about is.waits in
    ap (λ text. litmus_lines_after n so_far (lines_of ((text ++ 10 ∷ []) ++ rest))) it.joined
    ∙ first_line says_there litmus_line_added n so_far (reading rows names voices before all) it.words
    (line.Command (said_of rows command.which command.waits command.call)) rest it.are
    (ap (λ there. litmus_line_of there it.words) (in_thread (length names) thread place.last) ∙ it.says)
    (taken_once n so_far (said_of rows command.which command.waits command.call) (unplaced command)
    (made rows command it) refl
    ∙ added so_far (numbered_command so_far (unplaced command) ∷ []) thread (at + 1) all
    (thread_is rows names voices before lines thread place.last)
    (place_is rows names voices before at lines place.own few) refl)

commands_read : (n : ℕ) (rows : List Row) (names : List (Option (List ℕ))) (voices : List Voice) (before : ℕ)
    (lines : List NumberedLine) (thread at : ℕ) (commands : List ThreadCommand) (rest : List ℕ) → IsRoster rows
    → All (IsSpelledThreadCommand rows) commands → IsPlace names before lines thread at
    → length lines + length commands ≤ MOST_COMMANDS
    → (m : ℕ) × (litmus_lines_after n (reading rows names voices before lines)
    (lines_of (commands_text rows commands ++ rest))
    ≡ litmus_lines_after m (reading rows names voices before (lines ++ lines_in_turn thread at commands))
    (lines_of rest))
commands_read n rows names voices before lines thread at [] rest roster are place few =
    (n, ap (λ ls. litmus_lines_after n (reading rows names voices before ls) (lines_of rest)) (sym (append-nil lines)))
commands_read n rows names voices before lines thread at (command ∷ commands) rest roster are place few =
    let Spelled : ThreadCommand → Type 0 = IsSpelledThreadCommand rows in
    let one : List NumberedLine = lines_in_turn thread at (command ∷ []) in
    let size : length (lines ++ one) ≡ length lines + 1 = length-append lines one in
    let next : IsPlace names before (lines ++ one) thread (at + 1) =
    record { last = place.last; own = omega (arith, size, place.own) } in
    let later = commands_read (n + 1) rows names voices before (lines ++ one) thread (at + 1) commands rest roster
    (All-tail Spelled command commands are) next (omega (arith, size, few)) in (
      later.0,
      ap (λ text. litmus_lines_after n (reading rows names voices before lines) (lines_of text))
          (append_assoc (command_text rows command ++ 10 ∷ []) (commands_text rows commands) rest)
          ∙ command_read n rows names voices before lines thread at command (commands_text rows commands ++ rest)
          roster (All-head Spelled command commands are) place (omega (arith, few))
          ∙ later.1
          ∙ ap (λ ls. litmus_lines_after later.0 (reading rows names voices before ls) (lines_of rest))
          (append_assoc lines one (lines_in_turn thread (at + 1) commands)),
    )

-- ---- threads

abbrev read_as : List Row → List (Option (List ℕ)) → List Voice → List NumberedLine → LitmusContent
read_as rows names voices lines = content_read (reading rows names voices 0 lines)

abbrev closed : (last : ℕ) → Result LitmusReading CaseError → Result LitmusContent CaseError
closed last lines = lines >>= λ all. content_unless_open last all all.repeat

size_in_turn : (thread at : ℕ) (commands : List ThreadCommand)
    → length (lines_in_turn thread at commands) ≡ length commands
size_in_turn thread at [] = refl
size_in_turn thread at (command ∷ commands) =
    let more = size_in_turn thread (at + 1) commands in omega (arith, more)

module _ (last : ℕ) (rows : List Row) (roster : IsRoster rows) (commands : ℕ → List ThreadCommand)
    (are : (thread : ℕ) → All (IsSpelledThreadCommand rows) (commands thread)) where
  -- threads are read after those before them
  threads_read : (n : ℕ) (old : List (Option (List ℕ))) (old_voices : List Voice) (before : ℕ)
      (lines : List NumberedLine) (thread : ℕ) (names : List (Option (List ℕ))) (voices : List Voice)
      → All IsName names → length voices ≡ length names → length old ≡ thread
      → length old + length names ≤ MOST_THREADS
      → length lines + length (threads_in_turn commands thread (length names)) ≤ MOST_COMMANDS
      → closed last (litmus_lines_after n (reading rows old old_voices before lines)
      (lines_of (spelled_threads rows commands thread names voices)))
      ≡ Ok (read_as rows (old ++ names) (old_voices ++ voices)
      (lines ++ threads_in_turn commands thread (length names)))
  threads_read n old old_voices before lines thread [] [] named heard begun room few =
      ap (closed last) (all_read litmus_line_read n (reading rows old old_voices before lines))
      ∙ ap (λ ns. Ok (read_as rows ns old_voices lines)) (sym (append-nil old))
      ∙ ap (λ vs. Ok (read_as rows (old ++ []) vs lines)) (sym (append-nil old_voices))
      ∙ ap (λ ls. Ok (read_as rows (old ++ []) (old_voices ++ []) ls)) (sym (append-nil lines))
  threads_read n old old_voices before lines thread [] (voice ∷ voices) named heard begun room few =
      absurd (omega (arith, heard))
  threads_read n old old_voices before lines thread (name ∷ names) [] named heard begun room few =
      absurd (omega (arith, heard))
  threads_read n old old_voices before lines thread (name ∷ names) (voice ∷ voices) named heard begun room few =
      let own : List NumberedLine = lines_in_turn thread 0 (commands thread) in
      let more : List NumberedLine = threads_in_turn commands (thread + 1) (length names) in
      let rest : List ℕ = spelled_threads rows commands (thread + 1) names voices in
      let size : length (threads_in_turn commands thread (length (name ∷ names))) ≡ length own + length more =
      length-append own more in
      let own_size = size_in_turn thread 0 (commands thread) in
      let all_size = length-append lines own in
      let one = length-append old (name ∷ []) in
      let place : IsPlace (old ++ name ∷ []) (length lines) lines thread 0 =
      record { last = omega (arith, one, begun); own = omega arith } in
      let mine = commands_read (n + 1) rows (old ++ name ∷ []) (old_voices ++ voice ∷ []) (length lines) lines thread
      0 (commands thread) rest roster (are thread) place (omega (arith, few, size, own_size)) in
      ap (closed last)
      (head_read n rows old old_voices before lines voice name (commands_text rows (commands thread) ++ rest)
      (All-head IsName name names named) (omega (arith, room)) ∙ mine.1)
      ∙ threads_read mine.0 (old ++ name ∷ []) (old_voices ++ voice ∷ []) (length lines) (lines ++ own) (thread + 1)
      names voices (All-tail IsName name names named) (omega (arith, heard)) (omega (arith, one, begun))
      (omega (arith, one, room)) (omega (arith, few, size, own_size, all_size))
      ∙ ap (λ ns. Ok (read_as rows ns ((old_voices ++ voice ∷ []) ++ voices) ((lines ++ own) ++ more)))
      (append_assoc old (name ∷ []) names)
      ∙ ap (λ vs. Ok (read_as rows (old ++ name ∷ names) vs ((lines ++ own) ++ more)))
      (append_assoc old_voices (voice ∷ []) voices)
      ∙ ap (λ ls. Ok (read_as rows (old ++ name ∷ names) (old_voices ++ voice ∷ voices) ls))
      (append_assoc lines own more)

-- ---- files

own_spelled : (all : LitmusContent) (thread : ℕ)
    → All (λ numbered. IsSpelledThreadCommand all.rows numbered.line.command) all.lines
    → All (IsSpelledThreadCommand all.rows) (thread_commands all thread)
own_spelled all thread are =
    let Spelled : ThreadCommand → Type 0 = IsSpelledThreadCommand all.rows in
    let OfLine : ProgramLine → Type 0 = λ l. Spelled l.command in
    All-map Spelled (λ (l : ProgramLine). l.command) (filter (is_line_of thread) (plain_lines all.lines))
    (All-filter (is_line_of thread) OfLine (plain_lines all.lines)
    (All-map OfLine (λ (numbered : NumberedLine). numbered.line) all.lines are))

pub litmus_back : (all : LitmusContent) → IsSpelledLitmus all → litmus_content_of (litmus_spelling all) ≡ Ok all
litmus_back all is =
    let text : List ℕ = litmus_spelling all in
    let commands : ℕ → List ThreadCommand = thread_commands all in
    let fits : length all.rows ≤ MOST_ROWS = few_rows all.rows is.roster in
    let few : length (threads_in_turn commands 0 (length all.names)) ≡ length all.lines =
    ap (λ (ls : List NumberedLine). length ls) is.in_turn in
    let rows = rows_read says_there litmus_line_added of_rows (λ row. line.Declares row) 1 [] all.rows
    (spelled_threads all.rows commands 0 all.names all.voices) row_says row_takes (rows_fine all.rows is.roster)
    (omega (arith, fits)) in
    ap (closed (last_line text)) (few_bytes text is.size ∙ rows.1)
    ∙ threads_read (last_line text) all.rows is.roster commands (λ thread. own_spelled all thread is.commands) rows.0
    [] [] 0 [] 0 all.names all.voices is.names is.voices refl (omega (arith, is.few_threads))
    (omega (arith, few, is.few_commands))
    ∙ ap (λ ls. Ok (read_as all.rows all.names all.voices ls)) is.in_turn
    ∙ ap (λ rs. Ok (record (read_as all.rows all.names all.voices all.lines) { requirements = rs }))
    (sym is.no_requirement)
    ∙ ap (λ cs. Ok (record all { conditions = cs })) (sym is.no_condition)
