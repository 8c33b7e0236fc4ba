-- What is known of a litmus file's beginning is known with one more line.
use Rattle.std.proofs.Common.{refl, ◌≡◌, ◌≤◌, ◌+◌, ◌++◌, ◌∷◌, [], ℕ, Bool, true, false, cond, List, Option}
use Rattle.std.specs.Prelude.{IsUtf8}
use Rattle.std.proofs.Common.{Some, None, Result, Ok, Err, OnOk, IfSome, arith, is_some, length, map, nat_le, subst}
use Rattle.std.proofs.lemmas.Bool.Decides.{nat_tests}
use Rattle.std.proofs.lemmas.List.{length_push}
use Rattle.std.proofs.lemmas.List.Elements.{All-append, All-cons, All-map, All-nil, All-push}
use Rattle.stop_program.specs.declared.command.ThreadCommand.{ThreadCommand}
use Rattle.stop_program.specs.declared.voice.Voice.{Voice}
use Rattle.stop_history.specs.Roster.{push_fault}
use Rattle.stop_history.specs.declared.roster.Row.{Row}
use Rattle.text_lines.specs.Ranges.{◌>>=◌}
use Rattle.trace_script.specs.CaseFile.{roster_cause}
use Rattle.trace_script.specs.Reading.{TakesLine}
use Rattle.trace_script.specs.declared.cause.Cause.{Cause}
use Rattle.trace_script.specs.declared.cause.Cause.TheVariants.{NoEnd, TooMany, UnknownWord}
use Rattle.litmus_files.specs.declared.draft.TheConstants.{MOST_THREADS}
use Rattle.litmus_files.specs.declared.line.LitmusCommand.{LitmusCommand}
use Rattle.litmus_files.specs.LitmusCondition.{Asked}
use Rattle.litmus_files.specs.LitmusLine.{Said}
use Rattle.litmus_files.specs.LitmusLine as line
use Rattle.litmus_files.specs.declared.required.NumberedCommand.{NumberedCommand}
use Rattle.litmus_files.specs.declared.required.NumberedLine.{NumberedLine}
use Rattle.litmus_files.specs.LitmusFile.{AreLitmusCalls, IsLitmusReading, LitmusReading, OpenRepeat, command_in}
use Rattle.litmus_files.specs.LitmusFile.{commands_added, copies_of, leaving_line, litmus_line_added, no_lines}
use Rattle.litmus_files.specs.LitmusFile.{condition_added, condition_of, litmus_row_added, numbered_command}
use Rattle.litmus_files.specs.LitmusFile.{repeat_ended, reply_required, thread_added, thread_command}
use Rattle.litmus_files.specs.LitmusFile.{wanted_of, which_of, with_condition}
use Rattle.litmus_files.specs.LitmusGrammar.{IsLitmusCall, IsLitmusLine}
use Rattle.litmus_files.proofs.LitmusCopies.{copies_asked}
use Rattle.litmus_files.proofs.LitmusPlaces.{IsAdded, IsPlaced, begun_placed, bind_ok, is_added, lines_placed}
use Rattle.litmus_files.proofs.LitmusPlaces.{nothing_placed, same_ok, unless_ok, with_commands, with_thread}

-- where its commands are, of what was read
placed_of : (so_far : LitmusReading) → IsLitmusReading so_far → IsPlaced so_far
placed_of so_far known = record { begun = known.threads; forward = known.forward; own = known.own }

-- ---- commands of the last thread

with_known : (so_far new : LitmusReading) (commands : List NumberedCommand) → IsLitmusReading so_far
    → AreLitmusCalls commands → (added : IsAdded so_far new commands)
    → IsLitmusReading (with_commands so_far added.thread added.place commands)
with_known so_far new commands known asked added =
    let lines = map (leaving_line added.thread added.place) commands in
    let Asks : NumberedLine → Type 0 = λ l. IsLitmusCall l.line.command.call in
    let placed : IsPlaced (with_commands so_far added.thread added.place commands) =
    lines_placed (length so_far.names) so_far.before added.thread added.place so_far.lines commands
    (placed_of so_far known) added.begun added.last added.past in
    record {
      few = known.few;
      names = known.names;
      voices = known.voices;
      calls = All-append Asks so_far.lines lines known.calls
          (All-map Asks (leaving_line added.thread added.place) commands asked);
      threads = placed.begun;
      forward = placed.forward;
      own = placed.own;
      body = known.body;
    }

commands_kept : (so_far new : LitmusReading) (commands : List NumberedCommand) → IsLitmusReading so_far
    → AreLitmusCalls commands → commands_added so_far commands ≡ Ok new → IsLitmusReading new
commands_kept so_far new commands known asked is =
    let added = is_added so_far new commands is in
    subst IsLitmusReading added.is (with_known so_far new commands known asked added)

-- ---- each line

row_kept : (so_far new : LitmusReading) (row : Row) → IsLitmusReading so_far → litmus_row_added so_far row ≡ Ok new
    → IsLitmusReading new
row_kept so_far new row known is =
    subst IsLitmusReading
    (unless_ok (roster_cause (push_fault so_far.rows row)) (record so_far { rows = so_far.rows ++ row ∷ [] }) new is)
    (record {
      few = known.few;
      names = known.names;
      voices = known.voices;
      calls = known.calls;
      threads = known.threads;
      forward = known.forward;
      own = known.own;
      body = known.body;
    })

few_more : (n more most : ℕ) → nat_le most n ≡ false → more ≡ n + 1 → more ≤ most
few_more n more most room is = grind (arith, nat_tests)

thread_by : (so_far new : LitmusReading) (voice : Voice) (name : Option (List ℕ)) (full within : Bool)
    → nat_le MOST_THREADS (length so_far.names) ≡ full → IsLitmusReading so_far → IfSome name IsUtf8
    → cond full (Err TooMany) (cond within (Err NoEnd) (Ok (with_thread so_far voice name))) ≡ Ok new → IsLitmusReading new
thread_by so_far new voice name true within room known valid is = absurd (let clash : Err TooMany ≡ Ok new = is in cc)
thread_by so_far new voice name false true room known valid is = absurd (let clash : Err NoEnd ≡ Ok new = is in cc)
thread_by so_far new voice name false false room known valid is =
    let more = length_push so_far.names name in
    let loud = length_push so_far.voices voice in
    let placed : IsPlaced (with_thread so_far voice name) = begun_placed so_far voice name (placed_of so_far known) in
    subst IsLitmusReading (same_ok (with_thread so_far voice name) new _ refl is)
    (record {
      few = few_more (length so_far.names) (length (so_far.names ++ name ∷ [])) MOST_THREADS room more;
      names = All-push (λ (n : Option (List ℕ)). IfSome n IsUtf8) so_far.names name known.names valid;
      voices = omega (arith, more, loud, known.voices);
      calls = known.calls;
      threads = placed.begun;
      forward = placed.forward;
      own = placed.own;
      body = known.body;
    })

thread_kept : (so_far new : LitmusReading) (voice : Voice) (name : Option (List ℕ)) → IsLitmusReading so_far → IfSome name IsUtf8
    → thread_added so_far voice name ≡ Ok new → IsLitmusReading new
thread_kept so_far new voice name known valid is =
    thread_by so_far new voice name (nat_le MOST_THREADS (length so_far.names)) (is_some so_far.repeat) refl known valid is

ended_kept : (so_far new : LitmusReading) (repeat : Option OpenRepeat) → IsLitmusReading so_far
    → IfSome repeat (λ r. AreLitmusCalls r.body) → repeat_ended so_far repeat ≡ Ok new → IsLitmusReading new
ended_kept so_far new None known asked is = absurd (let clash : Err UnknownWord ≡ Ok new = is in cc)
ended_kept so_far new (Some repeat) known asked is =
    commands_kept (record so_far { repeat = None }) new (copies_of repeat.times repeat.body)
    (record {
      few = known.few;
      names = known.names;
      voices = known.voices;
      calls = known.calls;
      threads = known.threads;
      forward = known.forward;
      own = known.own;
      body = tt;
    })
    (copies_asked repeat.times repeat.body asked) is

-- a command asks what its line says
asks_so : (rows : List Row) (command : LitmusCommand) (made : ThreadCommand) → thread_command rows command ≡ Ok made
    → IsLitmusCall command.call → IsLitmusCall made.call
asks_so rows command made is asked =
    let about = bind_ok (which_of rows command.aim)
    (λ about. wanted_of rows command.reply >>= λ needed. Ok
    (record { which = about; call = command.call; waits = command.waits; wanted = needed; leave_to = 0 })) made is in
    let needed = bind_ok (wanted_of rows command.reply)
    (λ needed. Ok
    (record { which = about.0; call = command.call; waits = command.waits; wanted = needed; leave_to = 0 })) made
    about.2 in
    let Asks : ThreadCommand → Type 0 = λ c. IsLitmusCall c.call in
    subst Asks
    (same_ok
    (record { which = about.0; call = command.call; waits = command.waits; wanted = needed.0; leave_to = 0 }) made
    _ refl needed.2) asked

in_kept : (so_far new : LitmusReading) (repeat : Option OpenRepeat) (numbered : NumberedCommand)
    → IsLitmusReading so_far → IfSome repeat (λ r. AreLitmusCalls r.body) → IsLitmusCall numbered.command.call
    → command_in so_far repeat numbered ≡ Ok new → IsLitmusReading new
in_kept so_far new None numbered known asked asks is =
    let Asks : NumberedCommand → Type 0 = λ c. IsLitmusCall c.command.call in
    commands_kept so_far new (numbered ∷ []) known (All-cons Asks numbered [] asks (All-nil Asks)) is
in_kept so_far new (Some repeat) numbered known asked asks is =
    let Asks : NumberedCommand → Type 0 = λ c. IsLitmusCall c.command.call in
    subst IsLitmusReading
    (same_ok (record so_far { repeat = Some (record repeat { body = repeat.body ++ numbered ∷ [] }) }) new _ refl is)
    (record {
      few = known.few;
      names = known.names;
      voices = known.voices;
      calls = known.calls;
      threads = known.threads;
      forward = known.forward;
      own = known.own;
      body = All-push Asks repeat.body numbered asked asks;
    })

-- what is known does not depend on the replies so far
pub required_kept : (n : ℕ) (so_far : LitmusReading) (command : ThreadCommand) → IsLitmusReading so_far
    → IsLitmusReading (reply_required n so_far command)
required_kept n so_far command known = record {
  few = known.few;
  names = known.names;
  voices = known.voices;
  calls = known.calls;
  threads = known.threads;
  forward = known.forward;
  own = known.own;
  body = known.body;
}

condition_kept : (n : ℕ) (so_far new : LitmusReading) (asked : Asked) → IsLitmusReading so_far
    → condition_added n so_far asked ≡ Ok new → IsLitmusReading new
condition_kept n so_far new asked known is =
    let made = bind_ok (condition_of so_far.rows so_far.names asked) (λ c. Ok (with_condition n so_far c)) new is in
    subst IsLitmusReading (same_ok (with_condition n so_far made.0) new _ refl made.2)
    (record {
      few = known.few;
      names = known.names;
      voices = known.voices;
      calls = known.calls;
      threads = known.threads;
      forward = known.forward;
      own = known.own;
      body = known.body;
    })

kept : (n : ℕ) (so_far new : LitmusReading) (said : Said) → IsLitmusReading so_far
    → IsLitmusLine said → litmus_line_added n so_far said ≡ Ok new → IsLitmusReading new
kept n so_far new line.Nothing known fits is = subst IsLitmusReading (same_ok so_far new _ refl is) known
kept n so_far new (line.Declares row) known fits is = row_kept so_far new row known is
kept n so_far new (line.Thread voice name) known fits is = thread_kept so_far new voice name known fits is
kept n so_far new (line.Repeat times) known fits is =
    subst IsLitmusReading
    (same_ok (record so_far { repeat = Some (record { times = times; body = [] }) }) new _ refl is)
    (record {
      few = known.few;
      names = known.names;
      voices = known.voices;
      calls = known.calls;
      threads = known.threads;
      forward = known.forward;
      own = known.own;
      body = All-nil (λ (c : NumberedCommand). IsLitmusCall c.command.call);
    })
kept n so_far new line.End known fits is = ended_kept so_far new so_far.repeat known known.body is
kept n so_far new (line.Only asked) known fits is = condition_kept n so_far new asked known is
kept n so_far new (line.Command command) known fits is =
    let made = bind_ok (thread_command so_far.rows command)
    (λ c. command_in (reply_required n so_far c) so_far.repeat (numbered_command so_far c)) new is in
    in_kept (reply_required n so_far made.0) new so_far.repeat (numbered_command so_far made.0)
    (required_kept n so_far made.0 known) known.body
    (asks_so so_far.rows command made.0 made.1 fits) made.2

pub taken_kept : (result : Result (Unit {0}) Cause) (n : ℕ) (so_far new : LitmusReading) (said : Said) → IsLitmusReading so_far → IsLitmusLine said
    → TakesLine result new (litmus_line_added n so_far said) → OnOk result (IsLitmusReading new)
taken_kept (Ok done) n so_far new said known fits takes =
    kept n so_far new said known fits takes
taken_kept (Err cause) n so_far new said known fits takes = tt

-- ---- before the first line

pub nothing_read : IsLitmusReading no_lines
nothing_read = record {
  few = omega arith;
  names = All-nil (λ (n : Option (List ℕ)). IfSome n IsUtf8);
  voices = refl;
  calls = All-nil (λ (n : NumberedLine). IsLitmusCall n.line.command.call);
  threads = nothing_placed.begun;
  forward = nothing_placed.forward;
  own = nothing_placed.own;
  body = tt;
}
