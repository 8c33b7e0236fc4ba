-- What a line of a case file says, by its words and by where in the file it is: what it says, or its first fault in
-- the order of causes. All words are tested (UnknownWord) before any number (BadNumber), and numbers before bytes
-- (BadHex). What only the lines before it can refuse is left to the case of a file.
use Rattle.std.specs.Prelude.{◌==◌, ◌&&◌, ◌||◌, ◌+◌, ◌%◌, ◌∷◌, [], ℕ, Bool, true, false, nat_le, nat_lt, List, length}
use Rattle.std.specs.Prelude.{codes, bytes_eq, drop, map, ok_or, Option, Some, None, position, Result, Ok, Err, ℤ, take}
use Rattle.std.specs.Prelude.{if◌then◌else◌, slice_index}
use Rattle.std.specs.FinMap as finite
use Rattle.std.specs.Int.{cast_unsigned, w64}
use Rattle.std.specs.List.{list_all}
use Rattle.std.specs.Result.{result_unwrap_or}
use Rattle.hex.specs.Hex.{decode_of, is_hex_digit}
use Rattle.stop_history.specs.declared.roster.Row.{Row}
use Rattle.text_lines.specs.declared.fault.LineFault.{LineFault}
use Rattle.text_lines.specs.declared.fault.LineFault.TheVariants.{BadHex, BadNumber, UnknownWord}
use Rattle.text_lines.specs.Keywords.{value_beside}
use Rattle.text_lines.specs.Lines.{nth_word}
use Rattle.text_lines.specs.Numbers.{integer_of, number_of}
use Rattle.text_lines.specs.Ranges.{◌>>=◌}
use Rattle.trace_options.specs.Syscalls.{SyscallRow, syscall_named}
use Rattle.trace_pages.specs.declared.pages.TheConstants.{PAGE_SIZE}
use Rattle.trace_script.specs.declared.calls.TheConstants.{CLONE, EXECVE, EXIT, FORK}
use Rattle.trace_script.specs.declared.case.keyword.Keyword.{Keyword}
use Rattle.trace_script.specs.declared.case.keyword.Keyword.TheVariants as keyword
use Rattle.trace_script.specs.declared.case.keyword.Place.{Place}
use Rattle.trace_script.specs.declared.case.keyword.Place.TheVariants.{Loading, Outside, Stepping}
use Rattle.trace_script.specs.declared.case.keyword.TheConstants.{KEYWORDS}
use Rattle.trace_script.specs.RowWords.{id_of, row_of_words}
use Rattle.trace_script.specs.Script.{Fill, Image, Step}
use Rattle.trace_script.specs.Script as step

-- a part of a program as it is loaded: a page of zeros, bytes, or the two registers that it starts with
pub data Part : Type 0 where
  Page : (address : ℕ) → Part
  Data : (address : ℕ) → (bytes : List ℕ) → Part
  Start : (rip rsp : ℕ) → Part

pub data Line : Type 0 where
  -- it has no words, or is a comment
  Nothing : Line
  -- it opens the block of a row
  Opens : (row : Row) → Line
  -- a part of the image of the `tracee` or `exec` line before it
  Loads : (part : Part) → Line
  -- a step; an exec has no image yet
  Does : (step : Step) → Line
  -- it closes the block
  Closes : Line

-- a program of no page, whose registers are 0
abbrev pub no_image : Image
no_image = record { memory = finite.empty; rip = 0; rsp = 0 }

-- ---- words

abbrev pub keyword_of : List ℕ → Result Keyword LineFault
keyword_of word = value_beside (map (λ row. (row.0.now, row.1)) KEYWORDS) word

-- a block opens outside of blocks; the lines of an image follow its `tracee` or `exec`; all others are in a block
abbrev pub may_come : Place → Keyword → Bool
may_come Outside keyword.Tracee = true
may_come Outside other = false
may_come Loading keyword.Tracee = false
may_come Loading other = true
may_come Stepping keyword.Tracee = false
may_come Stepping keyword.Page = false
may_come Stepping keyword.Data = false
may_come Stepping keyword.At = false
may_come Stepping other = true

abbrev pub in_place : Place → Keyword → Result Keyword LineFault
in_place place word = if may_come place word then Ok word else Err UnknownWord

abbrev pub keyword_at : Place → List ℕ → Result Keyword LineFault
keyword_at place word = keyword_of word >>= in_place place

-- ---- numbers and bytes

-- a number of 64 bits
abbrev pub any_number : List ℕ → Result ℕ LineFault
any_number word = ok_or (number_of word) BadNumber

-- an even number of hexadecimal digits, at least two
abbrev pub is_byte_word : List ℕ → Bool
is_byte_word word = nat_le 2 (length word) && (length word % 2 == 0 && list_all is_hex_digit word)

-- the bytes that a byte word writes
unfoldable pub bytes_written : List ℕ → List ℕ
bytes_written word = result_unwrap_or (decode_of word) []

abbrev pub bytes_of_word : List ℕ → Result (List ℕ) LineFault
bytes_of_word word = if is_byte_word word then Ok (bytes_written word) else Err BadHex

-- the address of a page is a multiple of its size
abbrev pub whole_page : ℕ → Result ℕ LineFault
whole_page address = if address % PAGE_SIZE == 0 then Ok address else Err BadNumber

abbrev pub page_address : List ℕ → Result ℕ LineFault
page_address word = any_number word >>= whole_page

-- a negative answer is in rax by its two's complement
abbrev pub rax_of : Option ℤ → Result ℕ LineFault
rax_of None = Err BadNumber
rax_of (Some n) = Ok (cast_unsigned w64 n)

abbrev pub answer_of : List ℕ → Result ℕ LineFault
answer_of word = rax_of (integer_of word)

-- ---- call NAME A1 .. An = R, and the same with `fill ADDR BYTES`

-- these calls have lines of their own
abbrev pub has_own_line : ℕ → Bool
has_own_line nr = nr == CLONE || (nr == FORK || (nr == EXECVE || nr == EXIT))

abbrev pub nr_in : Option SyscallRow → Result ℕ LineFault
nr_in None = Err UnknownWord
nr_in (Some call) = if has_own_line call.number then Err UnknownWord else Ok call.number

-- the number of a call by its name
abbrev pub nr_named : List ℕ → Result ℕ LineFault
nr_named name = nr_in (syscall_named name)

abbrev pub is_equals : List ℕ → Bool
is_equals word = bytes_eq word (codes "=")

-- at most six arguments come before the first `=`
abbrev pub few_before : Option ℕ → Result ℕ LineFault
few_before None = Err UnknownWord
few_before (Some count) = if nat_le count 6 then Ok count else Err UnknownWord

abbrev pub argument_count : List (List ℕ) → Result ℕ LineFault
argument_count words = few_before (position is_equals words)

-- an argument by its place, 0 where it is missing
abbrev pub argument : List (List ℕ) → ℕ → Result ℕ LineFault
argument words i = if nat_lt i (length words) then any_number (nth_word words i) else Ok 0

abbrev pub argument_numbers : List (List ℕ) → Result (List ℕ) LineFault
argument_numbers words = do
  a ← argument words 0
  b ← argument words 1
  c ← argument words 2
  d ← argument words 3
  e ← argument words 4
  f ← argument words 5
  Ok (a ∷ b ∷ c ∷ d ∷ e ∷ f ∷ [])

abbrev pub plain_call : (nr : ℕ) → (arguments : List (List ℕ)) → (answer : List ℕ) → Result Step LineFault
plain_call nr arguments answer = do
  numbers ← argument_numbers arguments
  word ← answer_of answer
  Ok (step.Call nr numbers word None)

abbrev pub filled_call : (nr : ℕ) → (arguments : List (List ℕ)) → (answer address bytes : List ℕ)
    → Result Step LineFault
filled_call nr arguments answer address bytes = do
  numbers ← argument_numbers arguments
  word ← answer_of answer
  at ← any_number address
  written ← bytes_of_word bytes
  Ok (step.Call nr numbers word (Some (record { address = at; bytes = written })))

abbrev pub is_fill : List ℕ → Bool
is_fill word = bytes_eq word (codes "fill")

-- what follows the `=`
abbrev pub answered_call : (nr : ℕ) → (arguments after : List (List ℕ)) → Result Step LineFault
answered_call nr arguments after =
    if length after == 1 then plain_call nr arguments (nth_word after 0)
    else if length after == 4 && is_fill (nth_word after 1)
    then filled_call nr arguments (nth_word after 0) (nth_word after 2) (nth_word after 3)
    else Err UnknownWord

-- what follows the name
abbrev pub named_call : (nr : ℕ) → List (List ℕ) → Result Step LineFault
named_call nr words = do
  count ← argument_count words
  answered_call nr (take count words) (drop (count + 1) words)

abbrev pub call_of : List (List ℕ) → Result Step LineFault
call_of words =
    if length words == 0 then Err UnknownWord
    else (nr_named (nth_word words 0) >>= λ nr. named_call nr (drop 1 words))

-- ---- the other lines

-- page ADDR
abbrev pub page_part : List ℕ → Result Part LineFault
page_part address = page_address address >>= λ page. Ok (Page page)

-- data ADDR BYTES
abbrev pub data_part : (address bytes : List ℕ) → Result Part LineFault
data_part address bytes = do
  at ← any_number address
  written ← bytes_of_word bytes
  Ok (Data at written)

-- at RIP RSP
abbrev pub start_part : (rip rsp : List ℕ) → Result Part LineFault
start_part rip rsp = do
  i ← any_number rip
  s ← any_number rsp
  Ok (Start i s)

-- signal S, where the second word may be `deadly`
abbrev pub signal_step : (signal : List ℕ) → (deadly : Bool) → Result Step LineFault
signal_step signal deadly = any_number signal >>= λ n. Ok (step.Signal n deadly)

abbrev pub is_deadly_word : List ℕ → Bool
is_deadly_word word = bytes_eq word (codes "deadly")

abbrev pub signal_of : List (List ℕ) → Result Step LineFault
signal_of words =
    if length words == 1 then signal_step (nth_word words 0) false
    else if length words == 2 && is_deadly_word (nth_word words 1) then signal_step (nth_word words 0) true
    else Err UnknownWord

-- fork TID, thread TID, exec ADDR, exit N
abbrev pub fork_step : List ℕ → Result Step LineFault
fork_step tid = id_of tid >>= λ child. Ok (step.Fork child)

abbrev pub thread_step : List ℕ → Result Step LineFault
thread_step tid = id_of tid >>= λ child. Ok (step.Thread child)

abbrev pub exec_step : List ℕ → Result Step LineFault
exec_step address = any_number address >>= λ path. Ok (step.Exec path no_image)

abbrev pub exit_step : List ℕ → Result Step LineFault
exit_step status = any_number status >>= λ n. Ok (step.Exit n)

abbrev pub opens : Result Row LineFault → Result Line LineFault
opens row = row >>= λ r. Ok (Opens r)

abbrev pub does : Result Step LineFault → Result Line LineFault
does step = step >>= λ s. Ok (Does s)

abbrev pub loads : Result Part LineFault → Result Line LineFault
loads part = part >>= λ p. Ok (Loads p)

-- the word, where there is one alone
abbrev pub only_word : List (List ℕ) → Result (List ℕ) LineFault
only_word words = if length words == 1 then Ok (nth_word words 0) else Err UnknownWord

-- what the words after the first one say
abbrev pub case_rest_of : Keyword → List (List ℕ) → Result Line LineFault
case_rest_of keyword.Tracee words =
    if length words == 4
    then opens (row_of_words (nth_word words 0) (nth_word words 1) (nth_word words 2) (nth_word words 3))
    else Err UnknownWord
case_rest_of keyword.Page words = only_word words >>= λ word. loads (page_part word)
case_rest_of keyword.Data words =
    if length words == 2 then loads (data_part (nth_word words 0) (nth_word words 1)) else Err UnknownWord
case_rest_of keyword.At words =
    if length words == 2 then loads (start_part (nth_word words 0) (nth_word words 1)) else Err UnknownWord
case_rest_of keyword.Call words = does (call_of words)
case_rest_of keyword.Fork words = only_word words >>= λ word. does (fork_step word)
case_rest_of keyword.Thread words = only_word words >>= λ word. does (thread_step word)
case_rest_of keyword.Exec words = only_word words >>= λ word. does (exec_step word)
case_rest_of keyword.Signal words = does (signal_of words)
case_rest_of keyword.Exit words = only_word words >>= λ word. does (exit_step word)
case_rest_of keyword.End words = if length words == 0 then Ok Closes else Err UnknownWord

-- a line without words, and one whose first word begins with #, says nothing
abbrev pub line_of : Place → List (List ℕ) → Result Line LineFault
line_of place [] = Ok Nothing
line_of place (first ∷ words) =
    if slice_index first 0 == 35 then Ok Nothing else (keyword_at place first >>= λ word. case_rest_of word words)
