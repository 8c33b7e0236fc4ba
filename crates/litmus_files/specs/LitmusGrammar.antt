-- What a line of a litmus file says, by its words and by where it is: what it says, or its first fault in the order of
-- causes. All words are tested (UnknownWord) before any number (BadNumber). What only the lines before it can refuse
-- is left to the file.
use Rattle.std.specs.Prelude.{◌==◌, ◌&&◌, ◌||◌, ◌<◌, ◌∷◌, [], ℕ, Bool, true, false, nat_le, List, length}
use Rattle.std.specs.Prelude.{IfSome, IsUtf8, Option, Some, None, codes, Result, Ok, Err, slice_index, if◌then◌else◌}
use Rattle.std.specs.Char.{is_ascii_alphabetic, is_ascii_alphanumeric}
use Rattle.std.specs.List.{list_all}
use Rattle.stop_program.specs.BoardCall.{IsBoardCall}
use Rattle.stop_program.specs.declared.board_call.BoardCall.{BoardCall}
use Rattle.stop_program.specs.declared.board_call.BoardCall.TheVariants as call
use Rattle.stop_program.specs.declared.voice.Voice.{Voice}
use Rattle.stop_program.specs.declared.voice.Voice.TheVariants.{Loud, Quiet}
use Rattle.stop_history.specs.declared.limits.TheConstants.{TRACERS}
use Rattle.text_lines.specs.declared.fault.LineFault.{LineFault}
use Rattle.text_lines.specs.declared.fault.LineFault.TheVariants.{UnknownWord}
use Rattle.text_lines.specs.Keywords.{value_beside}
use Rattle.text_lines.specs.Lines.{nth_word}
use Rattle.text_lines.specs.Ranges.{◌>>=◌, number_between}
use Rattle.text_lines.specs.Words.{split_at}
use Rattle.trace_options.specs.declared.signal.TheConstants.{LAST_SIGNAL}
use Rattle.trace_script.specs.RowWords.{id_of, row_of_words}
use Rattle.replay_files.specs.declared.command.Command.TheVariants as command
use Rattle.replay_files.specs.declared.grammar.Line.{Line}
use Rattle.replay_files.specs.declared.grammar.Line.TheVariants as replay_line
use Rattle.replay_files.specs.declared.grammar.ReplayKeyword.TheVariants as replay
use Rattle.litmus_files.specs.declared.grammar.TheConstants.{LONGEST_NAME, MOST_REPEATS}
use Rattle.litmus_files.specs.declared.keyword.CommandKeyword.{CommandKeyword}
use Rattle.litmus_files.specs.declared.keyword.CommandKeyword.TheVariants.{Publish, Exit, State, Claim, Wait, Look}
use Rattle.litmus_files.specs.declared.keyword.CommandKeyword.TheVariants.{ExitGroup, Kill, Peek, Resume}
use Rattle.litmus_files.specs.declared.keyword.LitmusKeyword.{LitmusKeyword}
use Rattle.litmus_files.specs.declared.keyword.LitmusKeyword.TheVariants as keyword
use Rattle.litmus_files.specs.declared.line.Aim.{Aim}
use Rattle.litmus_files.specs.declared.line.Aim.TheVariants as aim
use Rattle.litmus_files.specs.declared.line.LitmusCommand.{LitmusCommand}
use Rattle.litmus_files.specs.declared.line.LitmusReply.{LitmusReply}
use Rattle.litmus_files.specs.declared.line.Within.{Within}
use Rattle.litmus_files.specs.declared.line.Within.TheVariants as within
use Rattle.replay_files.specs.Grammar.{kind_of, replay_rest_of, tracer_number}
use Rattle.litmus_files.specs.LitmusCondition.{condition_of_words}
use Rattle.litmus_files.specs.LitmusLine.{Said}
use Rattle.litmus_files.specs.LitmusLine as line
use Rattle.litmus_files.specs.LitmusReply.{is_any_word, is_group_word, is_it_word, reply_of_words}

-- ---- the first words of lines, and where each may come

abbrev pub litmus_keywords : List (List ℕ × LitmusKeyword)
litmus_keywords =
    (codes "row", keyword.Row) ∷ (codes "thread", keyword.Thread Loud) ∷ (codes "quiet", keyword.Thread Quiet)
    ∷ (codes "repeat", keyword.Repeat) ∷ (codes "end", keyword.End) ∷ (codes "only", keyword.Only)
    ∷ (codes "publish", keyword.Command Publish) ∷ (codes "exit", keyword.Command Exit)
    ∷ (codes "state", keyword.Command State) ∷ (codes "claim", keyword.Command Claim)
    ∷ (codes "wait", keyword.Command Wait) ∷ (codes "look", keyword.Command Look)
    ∷ (codes "peek", keyword.Command Peek) ∷ (codes "resume", keyword.Command Resume)
    ∷ (codes "kill", keyword.Command Kill) ∷ (codes "exit_group", keyword.Command ExitGroup) ∷ []

-- rows come before the first thread; commands, repeats and their ends in a thread; no repeat in a repeat, and no
-- condition. After the first condition only conditions come. That no thread begins in a repeat is left to the file.
abbrev pub litmus_may_come : LitmusKeyword → Within → Bool
litmus_may_come keyword.Row within.Rows = true
litmus_may_come (keyword.Thread voice) within.Conditions = false
litmus_may_come (keyword.Thread voice) within = true
litmus_may_come keyword.Repeat within.Thread = true
litmus_may_come keyword.End within.Repeat = true
litmus_may_come keyword.Only within.Repeat = false
litmus_may_come keyword.Only within = true
litmus_may_come (keyword.Command word) within.Thread = true
litmus_may_come (keyword.Command word) within.Repeat = true
litmus_may_come other within = false

abbrev pub litmus_keyword_in : Within → List ℕ → Result LitmusKeyword LineFault
litmus_keyword_in within word = do
  k ← value_beside litmus_keywords word
  if litmus_may_come k within then Ok k else Err UnknownWord

-- ---- threads and repeats

-- a letter, a digit, `_` or `-`
abbrev pub is_name_byte : ℕ → Bool
is_name_byte c = is_ascii_alphanumeric c || c == 95 || c == 45

-- a name begins with a letter
abbrev pub is_thread_name : List ℕ → Bool
is_thread_name word =
    is_ascii_alphabetic (slice_index word 0) && (nat_le (length word) LONGEST_NAME && list_all is_name_byte word)

-- thread, thread NAME, and so of quiet
abbrev pub thread_line : Voice → List (List ℕ) → Result Said LineFault
thread_line voice words =
    if length words == 0 then Ok (line.Thread voice None)
    else if length words == 1 && is_thread_name (nth_word words 0) then Ok (line.Thread voice (Some (nth_word words 0)))
    else Err UnknownWord

-- repeat N
abbrev pub repeat_line : (count : List ℕ) → Result Said LineFault
repeat_line count = number_between 1 MOST_REPEATS count >>= λ n. Ok (line.Repeat n)

-- ---- commands without a reply

-- `claim`, `peek`, `state` and `resume` are done at once
abbrev pub does_wait : CommandKeyword → Bool
does_wait Publish = true
does_wait Exit = true
does_wait State = false
does_wait Claim = false
does_wait Wait = true
does_wait Look = true
does_wait Peek = false
does_wait Resume = false
does_wait Kill = true
does_wait ExitGroup = true

abbrev pub asking : CommandKeyword → Aim → BoardCall → LitmusCommand
asking keyword aim call = record { aim = aim; call = call; waits = does_wait keyword; reply = None }

-- a command of a replay file that has the same words here
abbrev pub as_in_replay : CommandKeyword → Line → Result LitmusCommand LineFault
as_in_replay keyword (replay_line.Command tid (command.Publish stop)) =
    Ok (asking keyword (aim.Tid tid) (call.Publish stop))
as_in_replay keyword (replay_line.Command tid (command.Exit death)) =
    Ok (asking keyword (aim.Tid tid) (call.Exit death))
as_in_replay keyword (replay_line.Command tid command.State) = Ok (asking keyword (aim.Tid tid) call.State)
as_in_replay keyword other = Err UnknownWord

-- a wait takes what is there as a claim does; a look and a peek leave it
abbrev pub claim_call : CommandKeyword → (tracer : ℕ) → BoardCall
claim_call Look tracer = call.Look tracer
claim_call Peek tracer = call.Look tracer
claim_call other tracer = call.Claim tracer

abbrev pub any_or_tid : List ℕ → Result Aim LineFault
any_or_tid word = if is_any_word word then Ok aim.Any else (id_of word >>= λ t. Ok (aim.Tid t))

abbrev pub it_or_tid : List ℕ → Result Aim LineFault
it_or_tid word = if is_it_word word then Ok aim.It else (id_of word >>= λ t. Ok (aim.Tid t))

-- a group is there whatever its number: it may have no row
abbrev pub group_aim : (pgid : List ℕ) → Result Aim LineFault
group_aim pgid = id_of pgid >>= λ g. Ok (aim.Group g)

abbrev pub claim_command : CommandKeyword → Result Aim LineFault → (tracer : List ℕ) → Result LitmusCommand LineFault
claim_command keyword about tracer = do
  a ← about
  c ← tracer_number tracer
  Ok (asking keyword a (claim_call keyword c))

-- claim TID TRACER, claim any TRACER, claim group PGID TRACER, and so of wait, look and peek
abbrev pub claim_of_words : CommandKeyword → List (List ℕ) → Result LitmusCommand LineFault
claim_of_words keyword words =
    if length words == 2 then claim_command keyword (any_or_tid (nth_word words 0)) (nth_word words 1)
    else if length words == 3 && is_group_word (nth_word words 0)
    then claim_command keyword (group_aim (nth_word words 1)) (nth_word words 2)
    else Err UnknownWord

-- resume TID TRACER KIND SIGNAL, resume it TRACER KIND SIGNAL
abbrev pub resume_command : (named tracer kind signal : List ℕ) → Result LitmusCommand LineFault
resume_command named tracer kind signal = do
  k ← kind_of kind
  a ← it_or_tid named
  c ← tracer_number tracer
  s ← number_between 0 LAST_SIGNAL signal
  Ok (asking Resume a (call.Resume c (record { kind = k; signal = s })))

abbrev pub resume_of_words : List (List ℕ) → Result LitmusCommand LineFault
resume_of_words words =
    if length words == 4
    then resume_command (nth_word words 0) (nth_word words 1) (nth_word words 2) (nth_word words 3)
    else Err UnknownWord

-- kill TID
abbrev pub kill_of_words : List (List ℕ) → Result LitmusCommand LineFault
kill_of_words words =
    if length words == 1 then (id_of (nth_word words 0) >>= λ t. Ok (asking Kill (aim.Tid t) call.Kill))
    else Err UnknownWord

-- exit_group TID CODE
abbrev pub exit_group_command : (named code : List ℕ) → Result LitmusCommand LineFault
exit_group_command named code = do
  t ← id_of named
  c ← number_between 0 255 code
  Ok (asking ExitGroup (aim.Tid t) (call.ExitGroup c))

abbrev pub exit_group_of_words : List (List ℕ) → Result LitmusCommand LineFault
exit_group_of_words words =
    if length words == 2 then exit_group_command (nth_word words 0) (nth_word words 1) else Err UnknownWord

-- publish TID STOP, exit TID DEATH and state TID are those of a replay file
abbrev pub bare_command_of : CommandKeyword → List (List ℕ) → Result LitmusCommand LineFault
bare_command_of Publish words = replay_rest_of replay.Publish words >>= as_in_replay Publish
bare_command_of Exit words = replay_rest_of replay.Exit words >>= as_in_replay Exit
bare_command_of State words = replay_rest_of replay.State words >>= as_in_replay State
bare_command_of Claim words = claim_of_words Claim words
bare_command_of Wait words = claim_of_words Wait words
bare_command_of Look words = claim_of_words Look words
bare_command_of Peek words = claim_of_words Peek words
bare_command_of Resume words = resume_of_words words
bare_command_of Kill words = kill_of_words words
bare_command_of ExitGroup words = exit_group_of_words words

-- ---- commands with a reply

-- an unknown word of the reply comes before a wrong number of the command
abbrev pub so_answered : Result LitmusReply LineFault → Result LitmusCommand LineFault → Result LitmusCommand LineFault
so_answered (Err UnknownWord) asked = Err UnknownWord
so_answered reply asked = do
  c ← asked
  r ← reply
  Ok (record c { reply = Some r })

abbrev pub replied_command : CommandKeyword → (words reply : List (List ℕ)) → Result LitmusCommand LineFault
replied_command keyword words reply =
    so_answered (reply_of_words keyword (nth_word words 0) reply) (bare_command_of keyword words)

-- the reply follows the first `=`, where there is one
abbrev pub command_parted : CommandKeyword → List (List ℕ) → Option (List (List ℕ) × List (List ℕ))
    → Result LitmusCommand LineFault
command_parted keyword words None = bare_command_of keyword words
command_parted keyword words (Some parts) = replied_command keyword parts.0 parts.1

abbrev pub command_of_words : CommandKeyword → List (List ℕ) → Result LitmusCommand LineFault
command_of_words keyword words = command_parted keyword words (split_at (codes "=") words)

-- ---- lines

-- what follows the first word of a line
abbrev pub litmus_rest_of : LitmusKeyword → List (List ℕ) → Result Said LineFault
litmus_rest_of keyword.Row words =
    if length words == 4
    then (row_of_words (nth_word words 0) (nth_word words 1) (nth_word words 2) (nth_word words 3)
    >>= λ row. Ok (line.Declares row))
    else Err UnknownWord
litmus_rest_of (keyword.Thread voice) words = thread_line voice words
litmus_rest_of keyword.Repeat words = if length words == 1 then repeat_line (nth_word words 0) else Err UnknownWord
litmus_rest_of keyword.End words = if length words == 0 then Ok line.End else Err UnknownWord
litmus_rest_of keyword.Only words = condition_of_words words >>= λ condition. Ok (line.Only condition)
litmus_rest_of (keyword.Command word) words = command_of_words word words >>= λ command. Ok (line.Command command)

-- a line without words, and one whose first word begins with #, says nothing
abbrev pub litmus_line_of : Within → List (List ℕ) → Result Said LineFault
litmus_line_of within [] = Ok line.Nothing
litmus_line_of within (first ∷ words) = if slice_index first 0 == 35 then Ok line.Nothing else do
  k ← litmus_keyword_in within first
  litmus_rest_of k words

-- a tracer is one of the board's
abbrev pub HasTracer : BoardCall → Type 0
HasTracer (call.Look tracer) = tracer < TRACERS
HasTracer (call.Claim tracer) = tracer < TRACERS
HasTracer (call.Resume tracer how) = tracer < TRACERS
HasTracer other = Unit {0}

-- a call's stop, restart, death and tracer are ones that there are
abbrev pub IsLitmusCall : BoardCall → Type 0
IsLitmusCall asked = IsBoardCall asked × HasTracer asked

abbrev pub IsLitmusCommand : LitmusCommand → Type 0
IsLitmusCommand command = IsLitmusCall command.call

-- the name of a thread is text
abbrev pub IsLitmusLine : Said → Type 0
IsLitmusLine (line.Thread voice name) = IfSome name IsUtf8
IsLitmusLine (line.Command command) = IsLitmusCommand command
IsLitmusLine other = Unit {0}
