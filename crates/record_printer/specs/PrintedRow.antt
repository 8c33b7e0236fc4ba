-- The lines of a row, by the places of its stops.
use Rattle.std.specs.Prelude.{◌++◌, ℕ, Option, Some, None, List, [], length, if◌then◌else◌}
use Rattle.std.specs.List.{flat_map, range_with_len}
use Rattle.record_printer.specs.Note.{CallStart, Note, Enter, Seccomp, Exit, Signal, Birth, Quiet}
use Rattle.record_printer.specs.Note.{ended_line, unfinished_line}
use Rattle.record_printer.specs.CallStarts.{is_call_start, next_bound, note_at}

-- the line of a call that this stop bounds: it has ended where the stop is a syscall-exit-stop
abbrev pub line_to : CallStart → Note → List ℕ
line_to start (Exit end) = ended_line start end
line_to start _ = []

-- the line of a call that no stop bounds: it has one where its row died in it
abbrev pub line_left : Option (List ℕ) → CallStart → List ℕ
line_left None start = []
line_left (Some death) start = unfinished_line start

abbrev pub call_line : List Note → Option (List ℕ) → CallStart → Option ℕ → List ℕ
call_line notes death start None = line_left death start
call_line notes death start (Some j) = line_to start (note_at notes j)

-- the line of a stop: that of a call at its start, that of a signal
abbrev pub stop_line : List Note → Option (List ℕ) → ℕ → Note → List ℕ
stop_line notes death i (Enter start) = call_line notes death start (next_bound notes i)
stop_line notes death i (Seccomp start) =
    if is_call_start notes i then call_line notes death start (next_bound notes i) else []
stop_line notes death i (Exit end) = []
stop_line notes death i (Signal line) = line
stop_line notes death i (Birth child) = []
stop_line notes death i Quiet = []

abbrev pub line_at : List Note → Option (List ℕ) → ℕ → List ℕ
line_at notes death i = stop_line notes death i (note_at notes i)

abbrev pub death_line : Option (List ℕ) → List ℕ
death_line None = []
death_line (Some line) = line

-- the lines of a row's stops in order, and then that of its death, if it has died
unfoldable pub row_lines : List Note → Option (List ℕ) → List ℕ
row_lines notes death = flat_map (line_at notes death) (range_with_len 0 (length notes)) ++ death_line death
