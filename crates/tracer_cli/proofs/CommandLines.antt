-- What the words of a command line ask for is how it is answered, and by which exit status.
use Rattle.std.proofs.Common.{refl, ◌≡◌, ◌∙◌, ◌⊎◌, ap, arith, inl, inr, subst, sym, ⊎_elim, ℕ, true, false, List, Option}
use Rattle.std.proofs.Common.{Some, None, Result, Ok, Err, IfSome, Bor}
use Rattle.std.specs.Prelude.{string_bytes}
use Rattle.std.specs.Option.{option_map}
use Rattle.clap.specs.Words.{IsAmong, subcommand_of}
use Rattle.tracer_cli.specs.declared.arguments.Request.{Request}
use Rattle.tracer_cli.specs.declared.arguments.Request.TheVariants.{Replay, Run, Explore, Help}
use Rattle.tracer_cli.specs.declared.arguments.ExploreOptions.{ExploreOptions}
use Rattle.tracer_cli.specs.declared.arguments.RunOptions.{RunOptions}
use Rattle.tracer_cli.specs.declared.failure.Failure.{Failure}
use Rattle.tracer_cli.specs.declared.failure.Failure.TheVariants.{Refused, Usage, NoText, UnknownCall, NoMemory}
use Rattle.tracer_cli.specs.declared.failure.Failure.TheVariants.{CannotWrite}
use Rattle.tracer_cli.specs.Arguments.{AreExploreOptionsOf, AreOptionsOf, AskExplore, AskInput, AskReplay, AskRun, AskText}
use Rattle.tracer_cli.specs.Arguments.{Contradict, HaveNoFault, HaveReportedFault, HaveShownFault, IsAskedBy}
use Rattle.tracer_cli.specs.Arguments.{IsContradictory, MayContradict, tracer_app}
use Rattle.tracer_cli.specs.CommandLine.{AnswersAsked, AnswersWords, IsExitStatusOf, NameUnknownCall}
use Rattle.tracer_cli.specs.Failure.{failure_status}
use Rattle.tracer_cli.specs.Run.{Ends, Explores, ExploresNamed, IsReported, LeavesInput, MayBeRead, Replays, Runs}
use Rattle.tracer_cli.specs.Run.{RunsNamed, Writes, run_status}
use Rattle.tracer_cli.proofs.Runs.{ends_so}

abbrev Ending : Type 0
Ending = Result (Unit {0}) Failure

-- ---- words without a fault

none_shown : (words : List (List ℕ)) → HaveNoFault words → HaveShownFault words → ⊥
none_shown words none shown = subst (IsAmong shown.0) none shown.1

none_reported : (words : List (List ℕ)) → HaveNoFault words → HaveReportedFault words → ⊥
none_reported words none reported = subst (IsAmong reported.0) none reported.1

-- they fail only without memory, if they do not contradict each other
no_memory : (words : List (List ℕ)) (failure : Failure) → HaveNoFault words
    → ¬ (IsContradictory (subcommand_of tracer_app words)) → IsAskedBy words (Err failure) → failure ≡ NoMemory
no_memory words NoMemory none sound asked = refl
no_memory words (Usage text) none sound asked =
    absurd (⊎_elim (λ fault. none_reported words none fault) (λ clash. sound clash.0.1) asked)
no_memory words failure none sound asked = absurd asked

no_file : (file : Option (Bor (List ℕ))) → option_map (λ text. text.now) file ≡ None → file ≡ None
no_file None none = refl
no_file (Some path) none = cc

-- what holds of a text that may be read holds of standard input, where that is known
of_input : (Q : List ℕ → Type 0) (file : Option (Bor (List ℕ))) (input : Option (List ℕ)) → file ≡ None
    → (text : List ℕ) × MayBeRead file input text × Q text → IfSome input Q
of_input Q None None none read = tt
of_input Q None (Some all) none read = subst Q read.1 read.2
of_input Q (Some path) input none read = absurd (let is : Some path ≡ None = none in cc)

-- what holds of every text where memory ran out
of_memory : (Q : List ℕ → Ending → Type 0) (input : Option (List ℕ)) (failure : Failure) (result : Ending)
    → ((text : List ℕ) → Q text (Err NoMemory)) → result ≡ Err failure → failure ≡ NoMemory
    → IfSome input (λ text. Q text result)
of_memory Q None failure result always fails memory = tt
of_memory Q (Some text) failure result always fails memory =
    subst (Q text) (sym (fails ∙ ap (λ (f : Failure). Err f) memory)) (always text)

-- ---- words of standard input

module _ (words : List (List ℕ)) (input before after : Option (List ℕ)) (result : Ending) where
  replay_from : (asked : Result Request Failure) → AskReplay words → IsAskedBy words asked
      → AnswersAsked asked input before after result → IfSome input (λ text. Replays text before after result)
  replay_from (Ok (Help text)) ask asked answers = absurd (none_shown words ask.0 asked)
  replay_from (Ok (Replay file)) ask asked answers =
      of_input (λ (text : List ℕ). Replays text before after result) file input (no_file file (asked.1.2 ∙ ask.3)) answers
  replay_from (Ok (Run options file)) ask asked answers =
      absurd (let is : false ≡ true = sym ask.1 ∙ asked.1.0 in cc)
  replay_from (Ok (Explore options file)) ask asked answers =
      absurd (let is : false ≡ true = sym ask.2 ∙ asked.1.1 in cc)
  replay_from (Err failure) ask asked answers =
      of_memory (λ text ended. Replays text before after ended) input failure result (λ text. tt) answers
      (no_memory words failure ask.0 (λ clash. let is : false ≡ true = sym ask.2 ∙ clash.1 in cc) asked)

  named_runs : (options : RunOptions) (text : List ℕ) (ended : Ending) → AreOptionsOf words options
      → Runs options text before after ended → RunsNamed words text before after ended
  named_runs options text (Err NoMemory) are runs = tt
  named_runs options text other are runs = (options, are, runs)

  run_from : (asked : Result Request Failure) → AskRun words → IsAskedBy words asked
      → AnswersAsked asked input before after result → IfSome input (λ text. RunsNamed words text before after result)
  run_from (Ok (Help text)) ask asked answers = absurd (none_shown words ask.0 asked)
  run_from (Ok (Replay file)) ask asked answers = absurd (let is : true ≡ false = sym ask.1 ∙ asked.1.0 in cc)
  run_from (Ok (Run options file)) ask asked answers =
      of_input (λ (text : List ℕ). RunsNamed words text before after result) file input
      (no_file file (asked.1.2 ∙ ask.2))
      (answers.0, answers.1, named_runs options answers.0 result asked.1.1 answers.2)
  run_from (Ok (Explore options file)) ask asked answers =
      absurd (let is : true ≡ false = sym ask.1 ∙ asked.1.0 in cc)
  run_from (Err failure) ask asked answers =
      of_memory (λ text ended. RunsNamed words text before after ended) input failure result (λ text. tt) answers
      (no_memory words failure ask.0 (λ clash. let is : true ≡ false = sym ask.1 ∙ clash.0 in cc) asked)

  named_explores : (options : ExploreOptions) (text : List ℕ) (ended : Ending) → AreExploreOptionsOf words options
      → Explores options text before after ended → ExploresNamed words text before after ended
  named_explores options text (Err NoMemory) are explores = tt
  named_explores options text other are explores = (options, are, explores)

  explore_from : (asked : Result Request Failure) → AskExplore words → IsAskedBy words asked
      → AnswersAsked asked input before after result
      → IfSome input (λ text. ExploresNamed words text before after result)
  explore_from (Ok (Help text)) ask asked answers = absurd (none_shown words ask.0 asked)
  explore_from (Ok (Replay file)) ask asked answers = absurd (let is : true ≡ false = sym ask.2 ∙ asked.1.1 in cc)
  explore_from (Ok (Run options file)) ask asked answers =
      absurd (let is : false ≡ true = sym ask.1 ∙ asked.1.0 in cc)
  explore_from (Ok (Explore options file)) ask asked answers =
      of_input (λ (text : List ℕ). ExploresNamed words text before after result) file input
      (no_file file (asked.1.3 ∙ ask.4))
      (answers.0, answers.1, named_explores options answers.0 result asked.1.2 answers.2)
  explore_from (Err failure) ask asked answers =
      of_memory (λ text ended. ExploresNamed words text before after ended) input failure result (λ text. tt) answers
      (no_memory words failure ask.0 (λ clash. ask.3 clash.2) asked)

-- ---- exit statuses

not_done : (failure : Failure) → failure_status failure ≡ 0 → ⊥
not_done (Refused error) is = omega arith
not_done other is = omega arith

help_status : (text : List ℕ) (before after : Option (List ℕ)) (ended : Ending) → Writes text before after ended
    → (run_status ended ≡ 0) ⊎ (run_status ended ≡ 3)
help_status text before after (Ok done) writes = inl refl
help_status text before after (Err CannotWrite) writes = inr refl
help_status text before after (Err failure) writes = absurd writes

failed_status : (words : List (List ℕ)) (failure : Failure) → IsAskedBy words (Err failure)
    → (failure_status failure ≡ 2) ⊎ (failure_status failure ≡ 3)
failed_status words NoMemory asked = inr refl
failed_status words (Usage text) asked = inl refl
failed_status words failure asked = absurd asked

replay_right : (text : List ℕ) (before after : Option (List ℕ)) (ended : Ending) → Replays text before after ended
    → run_status ended ≡ 2 → ⊥
replay_right text before after (Ok done) replays is = omega arith
replay_right text before after (Err (Usage told)) replays is = replays
replay_right text before after (Err NoText) replays is = replays
replay_right text before after (Err (UnknownCall name)) replays is = replays
replay_right text before after (Err other) replays is = omega arith

explore_right : (options : ExploreOptions) (text : List ℕ) (before after : Option (List ℕ)) (ended : Ending)
    → Explores options text before after ended → run_status ended ≡ 2 → ⊥
explore_right options text before after (Ok done) explores is = omega arith
explore_right options text before after (Err (Usage told)) explores is = explores
explore_right options text before after (Err NoText) explores is = explores
explore_right options text before after (Err (UnknownCall name)) explores is = explores
explore_right options text before after (Err other) explores is = omega arith

run_wrong : (words : List (List ℕ)) (options : RunOptions) (text : List ℕ) (before after : Option (List ℕ))
    (ended : Ending) → HaveNoFault words → AreOptionsOf words options → Runs options text before after ended
    → run_status ended ≡ 2 → NameUnknownCall words
run_wrong words options text before after (Ok done) none are runs is = absurd (omega arith)
run_wrong words options text before after (Err (Usage told)) none are runs is = absurd runs.1.2
run_wrong words options text before after (Err NoText) none are runs is = absurd runs.1.2
run_wrong words options text before after (Err (UnknownCall name)) none are runs is =
    (none, (options, are, (string_bytes name, runs)))
run_wrong words options text before after (Err other) none are runs is = absurd (omega arith)

module _ (words : List (List ℕ)) (input before after : Option (List ℕ)) (ended : Ending) where
  done_words : (asked : Result Request Failure) → IsAskedBy words asked → AnswersAsked asked input before after ended
      → run_status ended ≡ 0 → HaveNoFault words ⊎ HaveShownFault words
  done_words (Ok (Help text)) asked answers is = inr asked
  done_words (Ok request) asked answers is = inl asked.0
  done_words (Err failure) asked answers is = absurd (not_done failure (sym (ap run_status answers) ∙ is))

  answered_words : (asked : Result Request Failure) → IsAskedBy words asked
      → AnswersAsked asked input before after ended → (run_status ended ≡ 1) ⊎ (run_status ended ≡ 4)
      → HaveNoFault words
  answered_words (Ok (Help text)) asked answers is =
      absurd (let help = help_status (string_bytes text) before after ended answers in grind arith)
  answered_words (Ok request) asked answers is = asked.0
  answered_words (Err failure) asked answers is =
      absurd (let fails = failed_status words failure asked in let same = ap run_status answers in grind arith)

  wrong_words : (asked : Result Request Failure) → IsAskedBy words asked → AnswersAsked asked input before after ended
      → run_status ended ≡ 2 → HaveReportedFault words ⊎ (MayContradict words ⊎ NameUnknownCall words)
  wrong_words (Ok (Help text)) asked answers is =
      absurd (let help = help_status (string_bytes text) before after ended answers in grind arith)
  wrong_words (Ok (Replay file)) asked answers is =
      absurd (replay_right answers.0 before after ended answers.2 is)
  wrong_words (Ok (Run options file)) asked answers is =
      inr (inr (run_wrong words options answers.0 before after ended asked.0 asked.1.1 answers.2 is))
  wrong_words (Ok (Explore options file)) asked answers is =
      absurd (explore_right options answers.0 before after ended answers.2 is)
  wrong_words (Err (Usage text)) asked answers is =
      ⊎_elim (λ fault. inl fault) (λ clash. inr (inl clash.0)) asked
  wrong_words (Err NoMemory) asked answers is =
      absurd (let same = ap run_status answers in omega arith)
  wrong_words (Err failure) asked answers is = absurd asked

  contradictory_words : (asked : Result Request Failure) → IsAskedBy words asked
      → AnswersAsked asked input before after ended → Contradict words
      → (run_status ended ≡ 2) ⊎ (run_status ended ≡ 3)
  contradictory_words (Ok (Help text)) asked answers clash = absurd (none_shown words clash.0 asked)
  contradictory_words (Ok (Replay file)) asked answers clash =
      absurd (let is : false ≡ true = sym asked.1.1 ∙ clash.2 in cc)
  contradictory_words (Ok (Run options file)) asked answers clash =
      absurd (let is : true ≡ false = sym asked.1.0 ∙ clash.1 in cc)
  contradictory_words (Ok (Explore options file)) asked answers clash = absurd (clash.3 (options, asked.1.2))
  contradictory_words (Err failure) asked answers clash =
      subst (λ (n : ℕ). (n ≡ 2) ⊎ (n ≡ 3)) (sym (ap run_status answers)) (failed_status words failure asked)

  shown_words : (asked : Result Request Failure) → IsAskedBy words asked → AnswersAsked asked input before after ended
      → AskText words → (run_status ended ≡ 0) ⊎ (run_status ended ≡ 3)
  shown_words (Ok (Help text)) asked answers ask = help_status (string_bytes text) before after ended answers
  shown_words (Ok request) asked answers ask = absurd (ask.0 asked.0)
  shown_words (Err (Usage text)) asked answers ask =
      absurd (⊎_elim (λ fault. ask.1 fault) (λ clash. ask.0 clash.0.0) asked)
  shown_words (Err NoMemory) asked answers ask = inr (ap run_status answers)
  shown_words (Err failure) asked answers ask = absurd asked

  pub status_said : (status : ℕ) → AnswersWords words input before after ended → status ≡ run_status ended
      → IsExitStatusOf words status
  status_said status answered is =
      let P : ℕ → Type 0 = λ n. IsExitStatusOf words n in
      subst P (sym is) (record {
        done = done_words answered.asked answered.is_asked answered.answers;
        answered = answered_words answered.asked answered.is_asked answered.answers;
        wrong = wrong_words answered.asked answered.is_asked answered.answers;
        contradictory = contradictory_words answered.asked answered.is_asked answered.answers;
        shown = shown_words answered.asked answered.is_asked answered.answers;
      })

-- ---- how the program ends

module _ (words : List (List ℕ)) (input before after old new : Option (List ℕ)) (ended : Ending) (status : ℕ)
    (answered : AnswersWords words input before after ended) (reported : IsReported old new ended)
    (is : status ≡ run_status ended) where
  pub replay_answered : AskReplay words → IfSome input (λ text. Ends (Replays text before after) old new status)
  replay_answered ask =
      ends_so (λ text. Replays text before after) input old new ended status
      (replay_from words input before after ended answered.asked ask answered.is_asked answered.answers) reported is

  pub run_answered : AskRun words → IfSome input (λ text. Ends (RunsNamed words text before after) old new status)
  run_answered ask =
      ends_so (λ text. RunsNamed words text before after) input old new ended status
      (run_from words input before after ended answered.asked ask answered.is_asked answered.answers) reported is

  pub explore_answered : AskExplore words
      → IfSome input (λ text. Ends (ExploresNamed words text before after) old new status)
  explore_answered ask =
      ends_so (λ text. ExploresNamed words text before after) input old new ended status
      (explore_from words input before after ended answered.asked ask answered.is_asked answered.answers) reported is

-- ---- what is read

pub left_alone : {A : Type 0} (words : List (List ℕ)) (request : Request) (before after : A)
    → ¬ (AskInput words) → IsAskedBy words (Ok request) → LeavesInput request before after → after ≡ before
left_alone {A} words (Help text) before after none asked leaves = leaves
left_alone {A} words (Replay (Some path)) before after none asked leaves = leaves
left_alone {A} words (Replay None) before after none asked leaves = absurd (none (asked.0, sym asked.1.2))
left_alone {A} words (Run options (Some path)) before after none asked leaves = leaves
left_alone {A} words (Run options None) before after none asked leaves = absurd (none (asked.0, sym asked.1.2))
left_alone {A} words (Explore options (Some path)) before after none asked leaves = leaves
left_alone {A} words (Explore options None) before after none asked leaves = absurd (none (asked.0, sym asked.1.3))
