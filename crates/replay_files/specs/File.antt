-- What a replay file says: its rows and its orders, or its first fault, with the line.
use Rattle.std.specs.Prelude.{◌++◌, ◌∷◌, [], ℕ, Bool, nat_lt, List, length, Option, Some, None, Result, Ok, Err}
use Rattle.stop_history.specs.declared.roster.Row.{Row}
use Rattle.stop_history.specs.declared.roster.RosterError.{RosterError}
use Rattle.stop_history.specs.Roster.{push_fault, row_of}
use Rattle.text_lines.specs.Lines.{words_in}
use Rattle.text_lines.specs.Ranges.{◌>>=◌}
use Rattle.trace_script.specs.declared.cause.CaseError.{CaseError}
use Rattle.trace_script.specs.declared.cause.Cause.{Cause}
use Rattle.trace_script.specs.declared.cause.Cause.TheVariants.{NoSuchTracee}
use Rattle.trace_script.specs.Cause.{cause_of}
use Rattle.trace_script.specs.Reading.{read_after, read_file, with_cause}
use Rattle.replay_files.specs.declared.command.Command.{Command}
use Rattle.replay_files.specs.declared.order.Order.{Order}
use Rattle.replay_files.specs.declared.grammar.Line.{Line}
use Rattle.replay_files.specs.declared.grammar.Line.TheVariants as line
use Rattle.replay_files.specs.declared.reading.ReplayFile.{ReplayFile}
use Rattle.replay_files.specs.Grammar.{replay_line_of}

-- the rows, and the commands to them, each in the order of the file
pub record ReplayContent : Type 0 where
  pub rows : List Row
  pub orders : List Order

-- what was read of a file, as the program keeps it
abbrev pub replay_content_in : {Z : Type 0} → ReplayFile Z → ReplayContent
replay_content_in file = record { rows = file.rows; orders = file.orders.items }

abbrev pub nothing : ReplayContent
nothing = record { rows = []; orders = [] }

-- commands have begun
abbrev pub has_begun : ReplayContent → Bool
has_begun so_far = nat_lt 0 (length so_far.orders)

abbrev pub with_next_row : ReplayContent → Row → ReplayContent
with_next_row so_far row = record { rows = so_far.rows ++ row ∷ []; orders = so_far.orders }

abbrev pub with_order : ReplayContent → (row : ℕ) → Command → ReplayContent
with_order so_far row command =
    record { rows = so_far.rows; orders = so_far.orders ++ (record { row = row; command = command }) ∷ [] }

-- a row that has no fault as one more of the rows
abbrev pub row_added : ReplayContent → Row → Option RosterError → Result ReplayContent Cause
row_added so_far row (Some fault) = Err (cause_of fault)
row_added so_far row None = Ok (with_next_row so_far row)

-- a command to a row that is there
abbrev pub order_added : ReplayContent → Command → Option ℕ → Result ReplayContent Cause
order_added so_far command None = Err NoSuchTracee
order_added so_far command (Some row) = Ok (with_order so_far row command)

abbrev pub line_added : ReplayContent → Line → Result ReplayContent Cause
line_added so_far line.Nothing = Ok so_far
line_added so_far (line.Row row) = row_added so_far row (push_fault so_far.rows row)
line_added so_far (line.Command tid command) = order_added so_far command (row_of so_far.rows tid)

-- what one more line makes of the content so far, or its first fault
abbrev pub replay_line_read : ReplayContent → List ℕ → Result ReplayContent Cause
replay_line_read so_far line = with_cause (replay_line_of (has_begun so_far) (words_in line)) >>= line_added so_far

-- what lines make of the content before them, or their first fault; the first of them has number n
abbrev pub replay_content_after : (n : ℕ) → ReplayContent → List (List ℕ) → Result ReplayContent CaseError
replay_content_after n so_far lines = read_after (λ n. replay_line_read) n so_far lines

-- the content of a file, or its first fault
abbrev pub content_of : List ℕ → Result ReplayContent CaseError
content_of text = read_file (λ n. replay_line_read) nothing text
