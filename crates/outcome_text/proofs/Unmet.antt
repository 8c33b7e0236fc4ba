-- What a search with the first n requirements of a file tells: whether some run has them all.
use Rattle.std.proofs.Common.{refl, ◌≡◌, ◌∙◌, ◌∷◌, ◌-◌, ◌<◌, ◌≤◌, ◌⊎◌, ◌&&◌, [], ℕ, Bool, true, false, not}
use Rattle.std.proofs.Common.{List, ap, arith, cond, inl, inr, length, nat_le, subst, sym, eqb, is_some, slice_get}
use Rattle.std.specs.Bool.{Decides}
use Rattle.std.specs.List.{All, list_any}
use Rattle.std.specs.Prelude.{filter}
use Rattle.std.proofs.lemmas.Bool.Decides.{nat_tests}
use Rattle.std.proofs.lemmas.Bool.{and_from, and_parts, cases_Bool, false≢true, or_cases, or_left, or_right}
use Rattle.std.proofs.lemmas.List.Elements.{All-head, All-map, All-tail, All-weaker}
use Rattle.stop_program.specs.Alike.{HasAlike}
use Rattle.stop_program.specs.BoardCall.{IsBoardCall}
use Rattle.stop_program.specs.declared.command.ProgramLine.{ProgramLine}
use Rattle.stop_program.specs.declared.command.ThreadCommand.{ThreadCommand}
use Rattle.stop_program.specs.Progress.{Progress, is_quiet}
use Rattle.stop_program.specs.Replies.{GoForward, without_reply}
use Rattle.stop_program.specs.Run.{AreEndings, EndedRun, HasOutcome, HaveOneOutcome, IsEnding, ended_run}
use Rattle.stop_program.proofs.Commands.{no_commands}
use Rattle.stop_program.proofs.RepliesShown.{replies_shown}
use Rattle.stop_history.specs.declared.state.State.{State}
use Rattle.litmus_files.specs.declared.required.NumberedLine.{NumberedLine}
use Rattle.litmus_files.specs.declared.required.Condition.{Condition}
use Rattle.litmus_files.specs.declared.required.Condition.TheVariants as condition
use Rattle.outcome_text.specs.Chosen.{have_come_true, is_chosen}
use Rattle.outcome_text.specs.Conditions.{agrees, condition_holds, conditions_hold}
use Rattle.outcome_text.specs.Halving.{IsFirstUnmet}
use Rattle.outcome_text.specs.Searched.{AreOutcomes, CanMeet, all_required, chosen_with, commands_with, forbids}
use Rattle.outcome_text.specs.Searched.{have_numbers_to, is_chosen_with}
use Rattle.litmus_files.specs.LitmusFile.{LitmusContent}
use Rattle.litmus_files.specs.LitmusGrammar.{IsLitmusCall}
use Rattle.litmus_files.specs.Required.{conditions_with, program_with, required_line}
use Rattle.replay_files.specs.StateName.{has_name}
use Rattle.outcome_text.specs.Waiting.{state_at}
use Rattle.outcome_text.proofs.CameTrue.{came_true, true_came}
use Rattle.litmus_files.proofs.LitmusForward.{forward_with}
use Rattle.litmus_files.proofs.LitmusPlaces.{AreKnown}

-- ---- the program with the first n replies makes the same calls, in the same threads

call_by : (b : Bool) (n : NumberedLine)
    → (cond b n.line (record { thread = n.line.thread; command = without_reply n.line.command })).command.call
    ≡ n.line.command.call
call_by true n = refl
call_by false n = refl

thread_by : (b : Bool) (n : NumberedLine)
    → (cond b n.line (record { thread = n.line.thread; command = without_reply n.line.command })).thread ≡ n.line.thread
thread_by true n = refl
thread_by false n = refl

pub asked_with : (count : ℕ) (lines : List NumberedLine) → All (λ n. IsLitmusCall n.line.command.call) lines
    → All (λ line. IsLitmusCall line.command.call) (program_with count lines)
asked_with count lines known =
    let Calls : NumberedLine → Type 0 = λ n. IsLitmusCall n.line.command.call in
    let Asks : NumberedLine → Type 0 = λ n. IsLitmusCall (required_line count n).command.call in
    All-map (λ (line : ProgramLine). IsLitmusCall line.command.call) (required_line count) lines
    (All-weaker Calls Asks (λ n asked. subst IsLitmusCall (sym (call_by (nat_le n.number count) n)) asked) lines known)

pub calls_with : (count : ℕ) (lines : List NumberedLine) → All (λ n. IsLitmusCall n.line.command.call) lines
    → All (λ line. IsBoardCall line.command.call) (program_with count lines)
calls_with count lines known =
    All-weaker (λ (line : ProgramLine). IsLitmusCall line.command.call) (λ (line : ProgramLine). IsBoardCall line.command.call)
    (λ line asked. asked.0) (program_with count lines) (asked_with count lines known)

pub threads_with : (count threads : ℕ) (lines : List NumberedLine) → All (λ n. n.line.thread < threads) lines
    → All (λ line. line.thread < threads) (program_with count lines)
threads_with count threads lines known =
    let Within : NumberedLine → Type 0 = λ n. n.line.thread < threads in
    let Below : NumberedLine → Type 0 = λ n. (required_line count n).thread < threads in
    let Less : ℕ → Type 0 = λ t. t < threads in
    All-map (λ (line : ProgramLine). line.thread < threads) (required_line count) lines
    (All-weaker Within Below (λ n less. subst Less (sym (thread_by (nat_le n.number count) n)) less) lines known)

-- ---- a program that has all its replies has them with more requirements too

line_within : (count more : ℕ) (n : NumberedLine) → count ≤ more → nat_le n.number count ≡ true
    → required_line count n ≡ required_line more n
line_within count more n few within =
    let later : nat_le n.number more ≡ true = grind (arith, nat_tests) in
    ap (λ b. cond b n.line (record { thread = n.line.thread; command = without_reply n.line.command })) (within ∙ sym later)

pub program_within : (count more : ℕ) (lines : List NumberedLine) → count ≤ more → have_numbers_to count lines ≡ true
    → program_with count lines ≡ program_with more lines
program_within count more [] few within = refl
program_within count more (n ∷ lines) few within =
    let both = and_parts (nat_le n.number count) (have_numbers_to count lines) within in
    ap (λ line. line ∷ program_with count lines) (line_within count more n few both.0)
    ∙ ap (λ rest. required_line more n ∷ rest) (program_within count more lines few both.1)

-- ---- some run has the requirements

ended_so : (content : LitmusContent) (count : ℕ) (ending : EndedRun)
    → IsEnding content.rows (length content.names) (commands_with content count) ending
    → is_chosen_with content count ending ≡ true → CanMeet content count
ended_so content count ending is chosen = record {
  run = ending.turns;
  last = is.last;
  is_run = is.is_run;
  met = ap (λ states. is_chosen_with content count (record { turns = ending.turns; states = states })) (sym is.states)
      ∙ chosen;
}

pub some_met : (content : LitmusContent) (count : ℕ) (found : List EndedRun)
    → AreEndings content.rows (length content.names) (commands_with content count) found
    → list_any (is_chosen_with content count) found ≡ true → CanMeet content count
some_met content count [] are some = absurd (false≢true some)
some_met content count (ending ∷ more) are some =
    let Ends : EndedRun → Type 0 = IsEnding content.rows (length content.names) (commands_with content count) in
    elim (or_cases (is_chosen_with content count ending) (list_any (is_chosen_with content count) more) some)
    as (λ _. CanMeet content count) [
      | inl here ↦ ended_so content count ending (All-head Ends ending more are) here
      | inr later ↦ some_met content count more (All-tail Ends ending more are) later
    ]

-- ---- no run has them

same_outcome : (quiet : ℕ → Bool) (commands : ℕ → List ThreadCommand) (a b : EndedRun)
    → HaveOneOutcome quiet commands a b → HaveOneOutcome quiet commands b a
same_outcome quiet commands a b same =
    record { threads = λ thread. sym (same.threads thread); states = sym same.states }

-- a condition looks at the last states, and at how far threads came
condition_alike : (quiet : ℕ → Bool) (commands : ℕ → List ThreadCommand) (a b : EndedRun)
    → HaveOneOutcome quiet commands a b → (asked : Condition)
    → condition_holds commands a asked ≡ condition_holds commands b asked
condition_alike quiet commands a b same (condition.Tracee row sense named) =
    ap (λ (states : List State). agrees sense (has_name named (state_at states row))) same.states
condition_alike quiet commands a b same (condition.SomeTracee sense named) =
    ap (λ (states : List State). list_any (λ at. agrees sense (has_name named at)) states) same.states
condition_alike quiet commands a b same (condition.Thread thread sense) =
    ap (λ (came : Progress). agrees sense (is_some (slice_get (commands thread) came.at))) (same.threads thread)

conditions_alike : (quiet : ℕ → Bool) (commands : ℕ → List ThreadCommand) (a b : EndedRun)
    → HaveOneOutcome quiet commands a b → (conditions : List Condition)
    → conditions_hold commands conditions a ≡ conditions_hold commands conditions b
conditions_alike quiet commands a b same [] = refl
conditions_alike quiet commands a b same (asked ∷ conditions) =
    ap (λ here. here && conditions_hold commands conditions a) (condition_alike quiet commands a b same asked)
    ∙ ap (λ rest. condition_holds commands b asked && rest) (conditions_alike quiet commands a b same conditions)

chosen_alike : (threads : ℕ) (quiet : ℕ → Bool) (commands : ℕ → List ThreadCommand) (conditions : List Condition)
    (a b : EndedRun) → ((thread : ℕ) → threads ≤ thread → commands thread ≡ []) → GoForward commands
    → HaveOneOutcome quiet commands a b → is_chosen threads commands conditions b ≡ true
    → is_chosen threads commands conditions a ≡ true
unfolding is_chosen
chosen_alike threads quiet commands conditions a b past forward same chosen =
    let both = and_parts (have_come_true threads commands b.turns) (conditions_hold commands conditions b) chosen in
    and_from (have_come_true threads commands a.turns) (conditions_hold commands conditions a)
    (true_came threads commands a.turns
    (replies_shown quiet commands forward b a (same_outcome quiet commands a b same)
    (came_true threads commands past b.turns both.0)))
    (conditions_alike quiet commands a b same conditions ∙ both.1)

-- a run that has them has an outcome that was found
found_alike : (threads : ℕ) (quiet : ℕ → Bool) (commands : ℕ → List ThreadCommand) (conditions : List Condition)
    (found : List EndedRun) (b : EndedRun) → ((thread : ℕ) → threads ≤ thread → commands thread ≡ [])
    → GoForward commands → HasOutcome quiet commands found b → is_chosen threads commands conditions b ≡ true
    → list_any (is_chosen threads commands conditions) found ≡ true
unfolding HasAlike
found_alike threads quiet commands conditions [] b past forward has chosen = absurd has
found_alike threads quiet commands conditions (ending ∷ more) b past forward (inl here) chosen =
    or_left (is_chosen threads commands conditions ending) (list_any (is_chosen threads commands conditions) more)
    (chosen_alike threads quiet commands conditions ending b past forward here chosen)
found_alike threads quiet commands conditions (ending ∷ more) b past forward (inr later) chosen =
    or_right (is_chosen threads commands conditions ending) (list_any (is_chosen threads commands conditions) more)
    (found_alike threads quiet commands conditions more b past forward later chosen)

pub none_met : (content : LitmusContent) (count places : ℕ) (found : List EndedRun) → AreKnown content
    → AreOutcomes content count found places → list_any (is_chosen_with content count) found ≡ false
    → CanMeet content count → ⊥
none_met content count places found known all none can =
    let commands : ℕ → List ThreadCommand = commands_with content count in
    let threads : ℕ = length content.names in
    let past : (thread : ℕ) → threads ≤ thread → commands thread ≡ [] =
    no_commands threads (program_with count content.lines) (threads_with count threads content.lines known.threads) in
    let some : list_any (is_chosen_with content count) found ≡ true =
    found_alike threads (is_quiet content.voices) commands (conditions_with count content.conditions) found
    (ended_run content.rows can.run can.last) past (forward_with count content.lines known.forward)
    (all.complete can.run can.last can.is_run) can.met in
    false≢true (sym none ∙ some)

pub decided : (content : LitmusContent) (count places : ℕ) (found : List EndedRun) (can : Bool) → AreKnown content
    → AreOutcomes content count found places → can ≡ list_any (is_chosen_with content count) found
    → Decides can (CanMeet content count)
decided content count places found true known all is =
    (λ _. some_met content count found all.sound (sym is), λ _. refl)
decided content count places found false known all is =
    (λ wrong. absurd (false≢true wrong), λ can. absurd (none_met content count places found known all (sym is) can))

-- ---- nothing was chosen

none_chosen : (test : EndedRun → Bool) (found : List EndedRun) → eqb (length (filter test found)) 0 ≡ true
    → list_any test found ≡ false
none_chosen test [] none = refl
none_chosen test (ending ∷ more) none = elim (cases_Bool (test ending)) as (λ _. list_any test (ending ∷ more) ≡ false) [
  | inl here ↦ absurd (let some : eqb (length (filter test (ending ∷ more))) 0 ≡ false = rw here (grind (arith, nat_tests)) in
      let clash : true ≡ false = sym none ∙ some in cc)
  | inr not_here ↦
      let left : eqb (length (filter test more)) 0 ≡ true =
      ap (λ (b : Bool). eqb (length (cond b (ending ∷ filter test more) (filter test more))) 0) (sym not_here) ∙ none in
      rw not_here (none_chosen test more left)
]

pub nothing_met : (content : LitmusContent) (count places : ℕ) (found : List EndedRun) → AreKnown content
    → AreOutcomes content count found places → eqb (length (chosen_with content count found)) 0 ≡ true
    → CanMeet content count → ⊥
nothing_met content count places found known all none =
    none_met content count places found known all (none_chosen (is_chosen_with content count) found none)

-- ---- the first one that cannot be met

before_last : (content : LitmusContent) (low high : ℕ) → low < high → high - low ≤ 1
    → (low ≡ 0) ⊎ CanMeet content low → (high ≡ 1) ⊎ CanMeet content (high - 1)
before_last content low high between near (inl none) = inl (omega (arith, between, near, none))
before_last content low high between near (inr met) =
    inr (subst (CanMeet content) (omega (arith, between, near)) met)

pub first_at : (content : LitmusContent) (low high : ℕ) → low < high → high - low ≤ 1
    → high ≤ all_required content → (low ≡ 0) ⊎ CanMeet content low → (CanMeet content high → ⊥)
    → IsFirstUnmet content high
first_at content low high between near few before unmet = record {
  some = omega (arith, between);
  few = few;
  before = before_last content low high between near before;
  unmet = unmet;
}

-- ---- nothing that the file requires can be met

pub forbidden_unmet : (content : LitmusContent) (count places : ℕ) (found : List EndedRun) → AreKnown content
    → AreOutcomes content count found places → forbids content.requirements (chosen_with content count found) ≡ true
    → CanMeet content count → ⊥
forbidden_unmet content count places found known all is =
    nothing_met content count places found known all
    (and_parts (not (eqb (length content.requirements) 0)) (eqb (length (chosen_with content count found)) 0) is).1
