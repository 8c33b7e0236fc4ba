-- A content as a file: one line for each row, then one for each order. Numbers are decimal, one space is between
-- words, and a line feed ends each line.
use Rattle.std.specs.Prelude.{◌≡◌, ◌<◌, ◌≤◌, ◌++◌, ◌∷◌, [], ℕ, false, IsTrue, List, length, codes, decimal}
use Rattle.std.specs.List.{All}
use Rattle.text_lines.specs.Lines.{line_text}
use Rattle.trace_script.specs.Reading.{most_bytes}
use Rattle.trace_script.specs.RowWords.{spelled_row}
use Rattle.trace_record.specs.declared.stop.Stop.{Stop}
use Rattle.trace_record.specs.declared.stop.Stop.TheVariants as stop
use Rattle.trace_record.specs.declared.resume.Kind.{Kind}
use Rattle.trace_record.specs.declared.resume.Kind.TheVariants as kind
use Rattle.trace_record.specs.declared.death.Death.{Death}
use Rattle.trace_record.specs.declared.death.Death.TheVariants as death
use Rattle.stop_history.specs.declared.roster.Row.{Row}
use Rattle.stop_history.specs.Roster.{IsRoster, is_id, row_at}
use Rattle.stop_history.specs.declared.limits.TheConstants.{TRACERS}
use Rattle.replay_files.specs.declared.command.Command.{Command}
use Rattle.replay_files.specs.declared.command.Command.TheVariants as command
use Rattle.replay_files.specs.declared.order.Order.{Order}
use Rattle.replay_files.specs.Command.{IsCommand}
use Rattle.replay_files.specs.File.{ReplayContent}

-- ---- words

abbrev pub row_words : Row → List (List ℕ)
row_words row = codes "row" ∷ spelled_row row

-- a file has no word for a core dump
abbrev pub death_words : Death → List (List ℕ)
death_words (death.Exited code) = codes "exited" ∷ decimal code ∷ []
death_words (death.Signaled signal core) = codes "killed" ∷ decimal signal ∷ []

abbrev pub stop_words : Stop → List (List ℕ)
stop_words stop.Start = codes "start" ∷ []
stop_words stop.Enter = codes "enter" ∷ []
stop_words stop.Exit = codes "exit" ∷ []
stop_words (stop.Seccomp ret_data) = codes "seccomp" ∷ decimal ret_data ∷ []
stop_words (stop.Fork child) = codes "fork" ∷ decimal child ∷ []
stop_words (stop.Clone child) = codes "clone" ∷ decimal child ∷ []
stop_words (stop.Exec former) = codes "exec" ∷ decimal former ∷ []
stop_words (stop.Signal signal) = codes "signal" ∷ decimal signal ∷ []
stop_words (stop.Ending death) = codes "ending" ∷ death_words death

abbrev pub kind_word : Kind → List ℕ
kind_word kind.Syscall = codes "syscall"
kind_word kind.Cont = codes "cont"

-- the words of a command, with the word for its tracee
abbrev pub words_about : (tracee : List ℕ) → Command → List (List ℕ)
words_about tracee (command.Publish stop) = codes "publish" ∷ tracee ∷ stop_words stop
words_about tracee (command.Claim tracer) = codes "claim" ∷ tracee ∷ decimal tracer ∷ []
words_about tracee (command.Resume tracer how) =
    codes "resume" ∷ tracee ∷ decimal tracer ∷ kind_word how.kind ∷ decimal how.signal ∷ []
words_about tracee (command.Exit death) = codes "exit" ∷ tracee ∷ death_words death
words_about tracee command.State = codes "state" ∷ tracee ∷ []

abbrev pub command_words : (tid : ℕ) → Command → List (List ℕ)
command_words tid command = words_about (decimal tid) command

-- an order names its row by the row's tid
abbrev pub order_words : List Row → Order → List (List ℕ)
order_words rows order = command_words (row_at rows order.row).tid order.command

-- ---- lines

abbrev pub rows_text : List Row → List ℕ
rows_text [] = []
rows_text (row ∷ rows) = line_text (row_words row) ++ rows_text rows

abbrev pub orders_text : List Row → List Order → List ℕ
orders_text rows [] = []
orders_text rows (order ∷ orders) = line_text (order_words rows order) ++ orders_text rows orders

abbrev pub spelling : ReplayContent → List ℕ
spelling content = rows_text content.rows ++ orders_text content.rows content.orders

-- ---- what can be spelled

abbrev pub IsSpelledDeath : Death → Type 0
IsSpelledDeath (death.Exited code) = Unit {0}
IsSpelledDeath (death.Signaled signal core) = core ≡ false

-- the ranges of a stop that a file can write, beside those of IsStop
abbrev pub IsSpelledStop : Stop → Type 0
IsSpelledStop stop.Start = Unit {0}
IsSpelledStop stop.Enter = Unit {0}
IsSpelledStop stop.Exit = Unit {0}
IsSpelledStop (stop.Seccomp ret_data) = ret_data < 65536
IsSpelledStop (stop.Fork child) = IsTrue (is_id child)
IsSpelledStop (stop.Clone child) = IsTrue (is_id child)
IsSpelledStop (stop.Exec former) = IsTrue (is_id former)
IsSpelledStop (stop.Signal signal) = Unit {0}
IsSpelledStop (stop.Ending death) = IsSpelledDeath death

-- the ranges of a command that a file can write, beside those of IsCommand
abbrev pub IsSpelledCommand : Command → Type 0
IsSpelledCommand (command.Publish stop) = IsSpelledStop stop
IsSpelledCommand (command.Claim tracer) = tracer < TRACERS
IsSpelledCommand (command.Resume tracer how) = tracer < TRACERS
IsSpelledCommand (command.Exit death) = IsSpelledDeath death
IsSpelledCommand command.State = Unit {0}

-- an order to one of the rows
pub record IsOrderOf (rows : List Row) (order : Order) : Type 0 where
  pub there : order.row < length rows
  pub in_range : IsCommand order.command
  pub spelled : IsSpelledCommand order.command

-- what a file can say
pub record IsContent (content : ReplayContent) : Type 0 where
  pub roster : IsRoster content.rows
  pub orders : All (IsOrderOf content.rows) content.orders
  pub size : length (spelling content) ≤ most_bytes
