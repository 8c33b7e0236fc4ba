-- One more line of a litmus file: what it adds, and which faults it may have.
use Rattle.std.proofs.Common.{refl, ◌≡◌, ◌∙◌, ◌<◌, ◌+◌, ◌*◌, ◌-◌, ◌++◌, ◌∷◌, [], ℕ, Bool, true, false, cond}
use Rattle.std.proofs.Common.{List, Option, Some, None, Result, Ok, Err, IfErr, IsOk, OnOk, ap, arith, eqb, is_ok, is_some}
use Rattle.std.proofs.Common.{length, map, nat_le, subst, sym}
use Rattle.std.proofs.lemmas.Bool.Decides.{nat_tests}
use Rattle.stop_program.specs.declared.command.ThreadCommand.{ThreadCommand}
use Rattle.stop_program.specs.declared.voice.Voice.{Voice}
use Rattle.text_lines.specs.Ranges.{◌>>=◌}
use Rattle.trace_script.specs.Reading.{TakesLine}
use Rattle.trace_script.specs.declared.cause.Cause.{Cause}
use Rattle.trace_script.specs.declared.cause.Cause.TheVariants.{NoEnd, NoMemory, TooMany, UnknownWord}
use Rattle.litmus_files.specs.declared.draft.TheConstants.{MOST_COMMANDS, MOST_THREADS}
use Rattle.litmus_files.specs.declared.line.LitmusCommand.{LitmusCommand}
use Rattle.litmus_files.specs.declared.required.NumberedCommand.{NumberedCommand}
use Rattle.litmus_files.specs.declared.required.NumberedLine.{NumberedLine}
use Rattle.litmus_files.specs.LitmusDraft.{repeat_kept}
use Rattle.std.proofs.lemmas.Option.{none-some, same_Some}
use Rattle.litmus_files.specs.LitmusFile.{LitmusReading, OpenRepeat, command_in, commands_added}
use Rattle.litmus_files.specs.LitmusFile.{copies_of, current_thread, leaving_line, litmus_command_added}
use Rattle.litmus_files.specs.LitmusFile.{numbered_command, place_past, repeat_ended, reply_required}
use Rattle.litmus_files.specs.LitmusFile.{thread_added, thread_command}
use Rattle.litmus_files.proofs.LitmusCopies.{length_copies}

-- ---- out of memory is found by no test

abbrev pub IsFound : Cause → Type 0
IsFound NoMemory = ⊥
IsFound other = Unit {0}

pub err_taken : {S : Type 0} (cause : Cause) (new : S) (read : Result S Cause) → IsFound cause → read ≡ Err cause
    → TakesLine (Err cause) new read
err_taken NoMemory new read found is = absurd found
err_taken cause new read found is = is

found_first : {A S : Type 0} (cause : Cause) (new : S) (r : Result A Cause) (next : A → Result S Cause)
    → IfErr r IsFound → Err cause ≡ r → TakesLine (Err cause) new (r >>= next)
found_first {A} {S} cause new r next found is =
    let Found : Result A Cause → Type 0 = λ r. IfErr r IsFound in
    err_taken cause new (r >>= next) (subst Found (sym is) found) (ap (λ r. r >>= next) (sym is))

thread_by : (n : ℕ) (none : Bool) → IfErr (cond none (Err UnknownWord) (Ok (n - 1))) IsFound
thread_by n true = tt
thread_by n false = tt

room_by : (n : ℕ) (room : Bool) → IfErr (cond room (Ok n) (Err TooMany)) IsFound
room_by n true = tt
room_by n false = tt

-- ---- commands of the last thread

abbrev with_commands : LitmusReading → (thread place : ℕ) → List NumberedCommand → LitmusReading
with_commands so_far thread place commands =
    record so_far { lines = so_far.lines ++ map (leaving_line thread place) commands }

abbrev added_at : LitmusReading → List NumberedCommand → (thread : ℕ) → Result LitmusReading Cause
added_at so_far commands thread =
    place_past so_far (length commands) >>= λ place. Ok (with_commands so_far thread place commands)

pub thread_refused : (so_far new : LitmusReading) (commands : List NumberedCommand) (cause : Cause)
    → Err cause ≡ current_thread so_far → TakesLine (Err cause) new (commands_added so_far commands)
thread_refused so_far new commands cause is =
    found_first cause new (current_thread so_far) (added_at so_far commands)
    (thread_by (length so_far.names) (eqb (length so_far.names) 0)) is

pub room_refused : (so_far new : LitmusReading) (commands : List NumberedCommand) (thread : ℕ) (cause : Cause)
    → Ok thread ≡ current_thread so_far → Err cause ≡ place_past so_far (length commands)
    → TakesLine (Err cause) new (commands_added so_far commands)
room_refused so_far new commands thread cause at is =
    let Takes : Result LitmusReading Cause → Type 0 = λ read. TakesLine (Err cause) new read in
    let here : added_at so_far commands thread ≡ commands_added so_far commands =
    ap (λ r. r >>= added_at so_far commands) at in
    subst Takes here
    (found_first cause new (place_past so_far (length commands))
    (λ place. Ok (with_commands so_far thread place commands))
    (room_by (length so_far.lines - so_far.before + length commands)
    (nat_le (length so_far.lines + length commands) MOST_COMMANDS)) is)

pub added : (so_far : LitmusReading) (commands : List NumberedCommand) (thread place : ℕ) (lines : List NumberedLine)
    → Ok thread ≡ current_thread so_far → Ok place ≡ place_past so_far (length commands)
    → lines ≡ so_far.lines ++ map (leaving_line thread place) commands
    → commands_added so_far commands ≡ Ok (record so_far { lines = lines })
added so_far commands thread place lines at past is =
    ap (λ r. r >>= added_at so_far commands) (sym at)
    ∙ ap (λ r. r >>= λ place. Ok (with_commands so_far thread place commands)) (sym past)
    ∙ ap (λ ls. Ok (record so_far { lines = ls })) (sym is)

pub fits : (so_far : LitmusReading) (commands : List NumberedCommand) (thread place : ℕ)
    → Ok thread ≡ current_thread so_far → Ok place ≡ place_past so_far (length commands)
    → IsOk (commands_added so_far commands)
fits so_far commands thread place at past =
    ap (λ r. is_ok r) (added so_far commands thread place _ at past refl)

-- ---- the end of a repeat

pub ends_with : (so_far : LitmusReading) (times : Option ℕ) (n : ℕ) (body : List NumberedCommand) → times ≡ Some n
    → repeat_ended so_far (repeat_kept times body)
    ≡ commands_added (record so_far { repeat = None }) (copies_of n body)
ends_with so_far times n body is = ap (λ t. repeat_ended so_far (repeat_kept t body)) is

-- as many places as the copies have commands
pub place_of_copies : (so_far : LitmusReading) (n : ℕ) (body : List NumberedCommand) (len : ℕ) → len ≡ length body
    → place_past so_far (n * len) ≡ place_past so_far (length (copies_of n body))
place_of_copies so_far n body len is =
    ap (λ l. place_past so_far (n * l)) is ∙ ap (place_past so_far) (sym (length_copies n body))

-- ---- one more command

pub command_taken : (n : ℕ) (so_far : LitmusReading) (command : LitmusCommand) (made : ThreadCommand)
    → Ok made ≡ thread_command so_far.rows command
    → litmus_command_added n so_far command
    ≡ command_in (reply_required n so_far made) so_far.repeat (numbered_command so_far made)
command_taken n so_far command made is =
    ap (λ r. r >>= λ c. command_in (reply_required n so_far c) so_far.repeat (numbered_command so_far c)) (sym is)

pub taken_once : (n : ℕ) (so_far : LitmusReading) (command : LitmusCommand) (made : ThreadCommand)
    → Ok made ≡ thread_command so_far.rows command → so_far.repeat ≡ None
    → litmus_command_added n so_far command
    ≡ commands_added (reply_required n so_far made) (numbered_command so_far made ∷ [])
taken_once n so_far command made is none =
    command_taken n so_far command made is
    ∙ ap (λ r. command_in (reply_required n so_far made) r (numbered_command so_far made)) none

-- the repeat that is open is done as often as it was
pub times_kept : (old new : Option ℕ) (t : ℕ) (old_body new_body : List NumberedCommand) → old ≡ Some t
    → repeat_kept new new_body ≡ repeat_kept old old_body → new ≡ Some t
times_kept old None t old_body new_body is same =
    let open_is : repeat_kept old old_body ≡ repeat_kept (Some t) old_body = ap (λ o. repeat_kept o old_body) is in
    absurd (none-some _ (same ∙ open_is))
times_kept old (Some u) t old_body new_body is same =
    let open_is : repeat_kept old old_body ≡ repeat_kept (Some t) old_body = ap (λ o. repeat_kept o old_body) is in
    ap (λ (r : OpenRepeat). Some r.times) (same_Some _ _ (same ∙ open_is))

-- a command of a repeat has room
pub fits_in_repeat : (n : ℕ) (so_far : LitmusReading) (command : LitmusCommand) (made : ThreadCommand)
    (times : Option ℕ) (t : ℕ) (old : List NumberedCommand) → Ok made ≡ thread_command so_far.rows command
    → times ≡ Some t → so_far.repeat ≡ repeat_kept times old → IsOk (litmus_command_added n so_far command)
fits_in_repeat n so_far command made times t old is open_is same =
    ap (λ r. is_ok r) (command_taken n so_far command made is
    ∙ ap (λ r. command_in (reply_required n so_far made) r (numbered_command so_far made))
    (same ∙ ap (λ t. repeat_kept t old) open_is))

pub taken_in_repeat : (n : ℕ) (so_far required : LitmusReading) (command : LitmusCommand) (made : ThreadCommand)
    (numbered : NumberedCommand) (times : Option ℕ) (t : ℕ) (old new : List NumberedCommand)
    → Ok made ≡ thread_command so_far.rows command → times ≡ Some t → so_far.repeat ≡ repeat_kept times old
    → required ≡ reply_required n so_far made → numbered ≡ numbered_command so_far made → new ≡ old ++ numbered ∷ []
    → litmus_command_added n so_far command ≡ Ok (record required { repeat = repeat_kept times new })
taken_in_repeat n so_far required command made numbered times t old new is open_is same required_is numbered_is pushed =
    command_taken n so_far command made is
    ∙ ap (λ r. command_in (reply_required n so_far made) r (numbered_command so_far made))
    (same ∙ ap (λ t. repeat_kept t old) open_is)
    ∙ ap (λ s. command_in s (Some (record { times = t; body = old })) (numbered_command so_far made)) (sym required_is)
    ∙ ap (λ c. command_in required (Some (record { times = t; body = old })) c) (sym numbered_is)
    ∙ ap (λ b. Ok (record required { repeat = Some (record { times = t; body = b }) })) (sym pushed)
    ∙ ap (λ t. Ok (record required { repeat = repeat_kept t new })) (sym open_is)

pub at_ok : {T E P : Type 0} (r : Result T E) → is_ok r ≡ true → OnOk r P → P
at_ok (Ok x) is holds = holds
at_ok (Err e) is holds = absurd (let clash : false ≡ true = is in cc)

-- ---- one more thread

pub room_for : (n len most : ℕ) → len < most → n ≡ len → nat_le most n ≡ false
room_for n len most less is = grind (arith, nat_tests)

by_tests : {S : Type 0} (full within : Bool) (x : S) → full ≡ false → within ≡ false
    → cond full (Err TooMany) (cond within (Err NoEnd) (Ok x)) ≡ Ok x
by_tests full within x room closed = rw (room, closed)

pub thread_taken : (so_far : LitmusReading) (voice : Voice) (name : Option (List ℕ)) (names : List (Option (List ℕ)))
    (voices : List Voice) → nat_le MOST_THREADS (length so_far.names) ≡ false → is_some so_far.repeat ≡ false
    → names ≡ so_far.names ++ name ∷ [] → voices ≡ so_far.voices ++ voice ∷ []
    → thread_added so_far voice name
    ≡ Ok (record so_far { names = names; voices = voices; before = length so_far.lines })
thread_taken so_far voice name names voices room closed is voices_are =
    by_tests (nat_le MOST_THREADS (length so_far.names)) (is_some so_far.repeat)
    (record so_far {
      names = so_far.names ++ name ∷ [];
      voices = so_far.voices ++ voice ∷ [];
      before = length so_far.lines;
    }) room closed
    ∙ ap (λ ns. Ok (record so_far { names = ns; voices = so_far.voices ++ voice ∷ []; before = length so_far.lines }))
    (sym is)
    ∙ ap (λ vs. Ok (record so_far { names = names; voices = vs; before = length so_far.lines })) (sym voices_are)
