-- A program as a litmus file, which is written here by hand: it can be spelled, it is spelled so, and so it is read.
use Rattle.std.proofs.Common.{refl, ◌≡◌, ◌∙◌, ◌+◌, ◌++◌, ◌∷◌, [], ℕ, Bool, true, false, List, Some, None, Ok, IfSome}
use Rattle.std.proofs.Common.{ap, arith, codes, sym}
use Rattle.std.proofs.lemmas.List.Elements.{All-from_recursion}
use Rattle.std.specs.Fmt.{digits}
use Rattle.std.specs.List.{AllByRecursion}
use Rattle.trace_record.specs.declared.death.Death.TheVariants as death
use Rattle.trace_record.specs.declared.resume.Kind.TheVariants as kind
use Rattle.trace_record.specs.declared.stop.Stop.TheVariants as stop
use Rattle.stop_program.specs.declared.board_call.BoardCall.{BoardCall}
use Rattle.stop_program.specs.declared.board_call.BoardCall.TheVariants as call
use Rattle.stop_program.specs.declared.command.Which.{Which}
use Rattle.stop_program.specs.declared.command.Which.TheVariants as which
use Rattle.stop_program.specs.declared.voice.Voice.TheVariants.{Loud, Quiet}
use Rattle.litmus_files.specs.declared.required.NumberedLine.{NumberedLine}
use Rattle.litmus_files.specs.LitmusFile.{LitmusContent, litmus_content_of}
use Rattle.litmus_files.specs.LitmusGrammar.{is_thread_name}
use Rattle.litmus_files.specs.LitmusSpelling.{IsSpelledLitmus, IsSpelledThreadCommand, litmus_spelling}
use Rattle.litmus_files.proofs.LitmusBack.{litmus_back}

-- a command at its place in its thread, from 0
abbrev at_place : (thread at : ℕ) → (waits : Bool) → Which → BoardCall → NumberedLine
at_place thread at waits about asked = record {
  line = record {
    thread = thread;
    command = record { which = about; call = asked; waits = waits; wanted = None; leave_to = at + 1 };
  };
  number = 0;
}

abbrev example : LitmusContent
example = record {
  rows =
      (record { tid = 100; tgid = 100; pgid = 77; parent = 0 })
      ∷ (record { tid = 4194303; tgid = 100; pgid = 77; parent = 100 }) ∷ [];
  names = Some (codes "main_1") ∷ None ∷ Some (codes "sup") ∷ [];
  voices = Quiet ∷ Loud ∷ Loud ∷ [];
  lines =
      at_place 0 0 true (which.Row 0) (call.Publish (stop.Clone 4194303))
      ∷ at_place 0 1 true (which.Row 0) (call.Publish (stop.Ending (death.Exited 7)))
      ∷ at_place 0 2 true (which.Row 0) (call.Exit (death.Signaled 9 false))
      ∷ at_place 2 0 true which.Any (call.Claim 0)
      ∷ at_place 2 1 false which.Last (call.Resume 0 (record { kind = kind.Syscall; signal = 0 }))
      ∷ at_place 2 2 true (which.Group 77) (call.Look 15)
      ∷ at_place 2 3 false (which.Row 1) (call.Look 1)
      ∷ at_place 2 4 false (which.Group 77) (call.Claim 1)
      ∷ at_place 2 5 false (which.Row 1) (call.Resume 1 (record { kind = kind.Cont; signal = 64 }))
      ∷ at_place 2 6 false (which.Row 1) call.State ∷ [];
  requirements = [];
  conditions = [];
}

abbrev example_file : List ℕ
example_file =
    codes "row 100 100 77 0\n"
    ++ codes "row 4194303 100 77 100\n"
    ++ codes "quiet main_1\n"
    ++ codes "publish 100 clone 4194303\n"
    ++ codes "publish 100 ending exited 7\n"
    ++ codes "exit 100 killed 9\n"
    ++ codes "thread\n"
    ++ codes "thread sup\n"
    ++ codes "wait any 0\n"
    ++ codes "resume it 0 syscall 0\n"
    ++ codes "look group 77 15\n"
    ++ codes "peek 4194303 1\n"
    ++ codes "claim group 77 1\n"
    ++ codes "resume 4194303 1 cont 64\n"
    ++ codes "state 4194303\n"

example_is_spelled : litmus_spelling example ≡ example_file
unfolding digits
example_is_spelled = refl

-- each command can be a line
each_is_said : AllByRecursion (λ n. IsSpelledThreadCommand example.rows n.line.command) example.lines
each_is_said = (
  record { call = (tt, tt); spelled = refl; about = omega arith; waits = refl },
  (
    record { call = (omega arith, tt); spelled = tt; about = omega arith; waits = refl },
    (
      record { call = ((omega arith, omega arith), tt); spelled = refl; about = omega arith; waits = refl },
      (
        record { call = (tt, omega arith); spelled = tt; about = tt; waits = tt },
        (
          record { call = (omega arith, omega arith); spelled = tt; about = tt; waits = refl },
          (
            record { call = (tt, omega arith); spelled = tt; about = refl; waits = tt },
            (
              record { call = (tt, omega arith); spelled = tt; about = omega arith; waits = tt },
              (
                record { call = (tt, omega arith); spelled = tt; about = refl; waits = tt },
                (
                  record { call = (omega arith, omega arith); spelled = tt; about = omega arith; waits = refl },
                  (
                    record { call = (tt, tt); spelled = tt; about = omega arith; waits = refl },
                    tt,
                  ),
                ),
              ),
            ),
          ),
        ),
      ),
    ),
  ),
)

example_can_be_spelled : IsSpelledLitmus example
unfolding digits
example_can_be_spelled =
    let Spelled : NumberedLine → Type 0 = λ n. IsSpelledThreadCommand example.rows n.line.command in
    record {
      roster = refl;
      few_threads = omega arith;
      names = All-from_recursion (λ name. IfSome name (λ word. is_thread_name word ≡ true)) example.names
          (refl, (tt, (refl, tt)));
      voices = refl;
      few_commands = omega arith;
      commands = All-from_recursion Spelled example.lines each_is_said;
      in_turn = refl;
      no_requirement = refl;
      no_condition = refl;
      size = omega arith;
    }

pub example_is_read : litmus_content_of example_file ≡ Ok example
example_is_read = ap litmus_content_of (sym example_is_spelled) ∙ litmus_back example example_can_be_spelled
