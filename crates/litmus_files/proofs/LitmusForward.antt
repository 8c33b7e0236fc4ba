-- After "no child" each thread of a litmus file goes on past the command that was so answered.
use Rattle.std.proofs.Common.{refl, ◌≡◌, ◌∙◌, ◌<◌, ◌≤◌, ◌+◌, ◌++◌, ◌∷◌, ◌==◌, ◌⊎◌, [], ℕ, suc, zero, Bool, true, false}
use Rattle.std.proofs.Common.{List, Option, Some, None, ap, append-nil, arith, cond, eqb, filter, inl, inr, length, length-append, map}
use Rattle.std.proofs.Common.{nat_le, slice_get, subst, sym}
use Rattle.std.specs.List.{All}
use Rattle.std.specs.Prelude.{option_map}
use Rattle.std.proofs.lemmas.Bool.{cases_Bool, eq-eqb, eqb-true}
use Rattle.std.proofs.lemmas.List.{length-map, map-append}
use Rattle.std.proofs.lemmas.List.Elements.{All-map, filter-append}
use Rattle.std.proofs.lemmas.Option.{same_Some, slice_get-map, slice_get_within}
use Rattle.stop_program.specs.declared.command.ProgramLine.{ProgramLine}
use Rattle.stop_program.specs.declared.command.ThreadCommand.{ThreadCommand}
use Rattle.stop_program.specs.Program.{is_line_of, own_commands}
use Rattle.stop_program.specs.Replies.{GoForward, without_reply}
use Rattle.stop_program.proofs.Commands.{no_commands}
use Rattle.litmus_files.specs.declared.required.NumberedCommand.{NumberedCommand}
use Rattle.litmus_files.specs.declared.required.NumberedLine.{NumberedLine}
use Rattle.litmus_files.specs.LitmusFile.{leaving_line, plain_lines}
use Rattle.litmus_files.specs.Required.{program_with, required_line}

abbrev own_lines : List NumberedLine → (thread : ℕ) → List ThreadCommand
own_lines lines thread = own_commands (plain_lines lines) thread

-- ---- lines of a thread

own_append : (a b : List NumberedLine) (t : ℕ) → own_lines (a ++ b) t ≡ own_lines a t ++ own_lines b t
own_append a b t =
    ap (λ p. own_commands p t) (map-append (λ (n : NumberedLine). n.line) a b)
    ∙ ap (map (λ (l : ProgramLine). l.command)) (filter-append (is_line_of t) (plain_lines a) (plain_lines b))
    ∙ map-append (λ (l : ProgramLine). l.command) (filter (is_line_of t) (plain_lines a))
    (filter (is_line_of t) (plain_lines b))

abbrev leaves_to : (place : ℕ) → NumberedCommand → ThreadCommand
leaves_to place numbered = record numbered.command { leave_to = place }

own_of_other : (thread place t : ℕ) (commands : List NumberedCommand) → eqb thread t ≡ false
    → own_lines (map (leaving_line thread place) commands) t ≡ []
own_of_other thread place t [] other = refl
own_of_other thread place t (c ∷ commands) other = rw other (own_of_other thread place t commands other)

own_of_same : (thread place t : ℕ) (commands : List NumberedCommand) → eqb thread t ≡ true
    → own_lines (map (leaving_line thread place) commands) t ≡ map (leaves_to place) commands
own_of_same thread place t [] same = refl
own_of_same thread place t (c ∷ commands) same =
    rw same (ap (λ rest. leaves_to place c ∷ rest) (own_of_same thread place t commands same))

-- ---- places

-- what is at an index is in the first of two lists, or in the second
slice_parts : {X : Type 0} (xs ys : List X) (i : ℕ) (x : X) → slice_get (xs ++ ys) i ≡ Some x
    → (slice_get xs i ≡ Some x) ⊎ ((j : ℕ) × (i ≡ length xs + j) × (slice_get ys j ≡ Some x))
slice_parts [] ys i x is = inr (i, omega arith, is)
slice_parts (z ∷ xs) ys zero x is = inl is
slice_parts (z ∷ xs) ys (suc i) x is =
    elim (slice_parts xs ys i x is) [
      | inl first ↦ inl first
      | inr second ↦ inr (second.0, let at = second.1 in omega (arith, at), second.2)
    ]

leaves_there : (place : ℕ) (found : Option NumberedCommand) (command : ThreadCommand)
    → option_map (leaves_to place) found ≡ Some command → command.leave_to ≡ place
leaves_there place None command is = absurd (let clash : None ≡ Some command = is in cc)
leaves_there place (Some n) command is =
    ap (λ (c : ThreadCommand). c.leave_to) (sym (same_Some (leaves_to place n) command is))

-- ---- one more command of the last thread, or several

abbrev with_lines : List NumberedLine → (thread place : ℕ) → List NumberedCommand → List NumberedLine
with_lines lines thread place commands = lines ++ map (leaving_line thread place) commands

added_at : (lines : List NumberedLine) (thread place t : ℕ) (commands : List NumberedCommand)
    → own_lines (with_lines lines thread place commands) t
    ≡ own_lines lines t ++ own_lines (map (leaving_line thread place) commands) t
added_at lines thread place t commands = own_append lines (map (leaving_line thread place) commands) t

pub forward_added : (lines : List NumberedLine) (thread place : ℕ) (commands : List NumberedCommand)
    → GoForward (own_commands (plain_lines lines))
    → length (own_commands (plain_lines lines) thread) + length commands ≤ place
    → GoForward (own_commands (plain_lines (lines ++ map (leaving_line thread place) commands)))
forward_added lines thread place commands forward room t at command is =
    let new : List NumberedLine = map (leaving_line thread place) commands in
    let there : slice_get (own_lines lines t ++ own_lines new t) at ≡ Some command =
    sym (ap (λ cs. slice_get cs at) (added_at lines thread place t commands)) ∙ is in
    elim (cases_Bool (eqb thread t)) as (λ _. at < command.leave_to) [
      | inr other ↦
          forward t at command
          (sym (ap (λ cs. slice_get cs at)
          (ap (λ cs. own_lines lines t ++ cs) (own_of_other thread place t commands other)
          ∙ append-nil (own_lines lines t))) ∙ there)
      | inl same ↦
          elim (slice_parts (own_lines lines t) (own_lines new t) at command there) as (λ _. at < command.leave_to) [
            | inl first ↦ forward t at command first
            | inr second ↦
                let found : slice_get (map (leaves_to place) commands) second.0 ≡ Some command =
                sym (ap (λ cs. slice_get cs second.0) (own_of_same thread place t commands same)) ∙ second.2 in
                let within = slice_get_within (map (leaves_to place) commands) second.0 command found in
                let leaves = leaves_there place (slice_get commands second.0) command
                (sym (slice_get-map (leaves_to place) commands second.0) ∙ found) in
                let long = length-map commands (leaves_to place) in
                let own : length (own_lines lines t) ≡ length (own_lines lines thread) =
                ap (λ n. length (own_lines lines n)) (sym (eqb-true thread t same)) in
                let here = second.1 in
                omega (arith, within, leaves, long, own, here, room)
          ]
    ]

-- the thread has as many more commands as lines were added
pub own_added : (lines : List NumberedLine) (thread place before : ℕ) (commands : List NumberedCommand)
    → before + length (own_commands (plain_lines lines) thread) ≤ length lines
    → before + length (own_commands (plain_lines (lines ++ map (leaving_line thread place) commands)) thread)
    ≤ length (lines ++ map (leaving_line thread place) commands)
own_added lines thread place before commands few =
    let new : List NumberedLine = map (leaving_line thread place) commands in
    let own : length (own_lines (lines ++ new) thread) ≡ length (own_lines lines thread) + length commands =
    ap (λ cs. length cs) (added_at lines thread place thread commands
    ∙ ap (λ cs. own_lines lines thread ++ cs) (own_of_same thread place thread commands (eq-eqb thread thread refl)))
    ∙ length-append (own_lines lines thread) (map (leaves_to place) commands)
    ∙ ap (λ n. length (own_lines lines thread) + n) (length-map commands (leaves_to place)) in
    let all : length (lines ++ new) ≡ length lines + length commands =
    length-append lines new ∙ ap (λ n. length lines + n) (length-map commands (leaving_line thread place)) in
    omega (arith, own, all, few)

-- a thread that begins has no commands yet
pub own_begun : (lines : List NumberedLine) (threads thread : ℕ) → All (λ n. n.line.thread < threads) lines
    → threads ≤ thread → length lines + length (own_commands (plain_lines lines) thread) ≤ length lines
own_begun lines threads thread known past =
    let none : own_lines lines thread ≡ [] =
    no_commands threads (plain_lines lines)
    (All-map (λ (l : ProgramLine). l.thread < threads) (λ (n : NumberedLine). n.line) lines known) thread past in
    let few : length (own_lines lines thread) ≡ 0 = ap (λ cs. length cs) none in
    omega (arith, few)

-- ---- the program with the first n replies

leave_by : (b : Bool) (n : NumberedLine)
    → (cond b n.line (record { thread = n.line.thread; command = without_reply n.line.command })).command.leave_to
    ≡ n.line.command.leave_to
leave_by true n = refl
leave_by false n = refl

thread_by : (b : Bool) (n : NumberedLine)
    → (cond b n.line (record { thread = n.line.thread; command = without_reply n.line.command })).thread ≡ n.line.thread
thread_by true n = refl
thread_by false n = refl

abbrev places_left_to : List ThreadCommand → List ℕ
places_left_to commands = map (λ (c : ThreadCommand). c.leave_to) commands

same_places_by : (own : Bool) (a b : ProgramLine) (xs ys : List ProgramLine) → a.command.leave_to ≡ b.command.leave_to
    → places_left_to (map (λ (l : ProgramLine). l.command) xs) ≡ places_left_to (map (λ (l : ProgramLine). l.command) ys)
    → places_left_to (map (λ (l : ProgramLine). l.command) (cond own (a ∷ xs) xs))
    ≡ places_left_to (map (λ (l : ProgramLine). l.command) (cond own (b ∷ ys) ys))
same_places_by true a b xs ys here rest =
    ap (λ n. n ∷ places_left_to (map (λ (l : ProgramLine). l.command) xs)) here ∙ ap (λ ns. b.command.leave_to ∷ ns) rest
same_places_by false a b xs ys here rest = rest

same_places : (count t : ℕ) (lines : List NumberedLine)
    → places_left_to (own_commands (program_with count lines) t) ≡ places_left_to (own_commands (plain_lines lines) t)
same_places count t [] = refl
same_places count t (n ∷ lines) =
    let made : ProgramLine = required_line count n in
    let xs : List ProgramLine = filter (is_line_of t) (program_with count lines) in
    let ys : List ProgramLine = filter (is_line_of t) (plain_lines lines) in
    ap (λ (thread : ℕ). places_left_to (map (λ (l : ProgramLine). l.command) (cond (thread == t) (made ∷ xs) xs)))
    (thread_by (nat_le n.number count) n)
    ∙ same_places_by (n.line.thread == t) made n.line xs ys (leave_by (nat_le n.number count) n) (same_places count t lines)

found_by : (found : Option ThreadCommand) (place : ℕ) → option_map (λ (c : ThreadCommand). c.leave_to) found ≡ Some place
    → (command : ThreadCommand) × (found ≡ Some command) × (command.leave_to ≡ place)
found_by None place is = absurd (let clash : None ≡ Some place = is in cc)
found_by (Some command) place is = (command, refl, same_Some command.leave_to place is)

pub forward_with : (count : ℕ) (lines : List NumberedLine) → GoForward (own_commands (plain_lines lines))
    → GoForward (own_commands (program_with count lines))
forward_with count lines forward t at command is =
    let leave : ThreadCommand → ℕ = λ c. c.leave_to in
    let mine : List ThreadCommand = own_commands (program_with count lines) t in
    let plain : List ThreadCommand = own_commands (plain_lines lines) t in
    let there : option_map leave (slice_get plain at) ≡ Some command.leave_to =
    sym (slice_get-map leave plain at)
    ∙ sym (ap (λ (ns : List ℕ). slice_get ns at) (same_places count t lines))
    ∙ slice_get-map leave mine at ∙ ap (option_map leave) is in
    let found = found_by (slice_get plain at) command.leave_to there in
    subst (λ n. at < n) found.2 (forward t at found.0 found.1)
