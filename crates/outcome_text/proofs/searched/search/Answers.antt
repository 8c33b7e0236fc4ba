-- What was found is of the program with the first n requirements.
use Rattle.std.proofs.Common.{Err, Result, ◌≡◌, ◌∙◌, ◌<◌, ℕ, List, ap, arith, length, subst, sym}
use Rattle.std.proofs.Math.Path.{fun_ext}
use Rattle.std.proofs.lemmas.Result.{err_from_is_err_and}
use Rattle.std.specs.List.{All}
use Rattle.stop_program.specs.declared.command.ThreadCommand.{ThreadCommand}
use Rattle.stop_program.specs.declared.voice.Voice.{Voice}
use Rattle.stop_program.specs.BoardCall.{IsBoardCall}
use Rattle.stop_program.specs.Program.{Program, own_commands}
use Rattle.stop_program.specs.Threads.{AreCommands, commands_in}
use Rattle.stop_explorer.specs.declared.error.ExploreError.{ExploreError}
use Rattle.litmus_files.specs.LitmusDraft.{content_in}
use Rattle.litmus_files.specs.Required.{conditions_with, program_with}
use Rattle.litmus_files.proofs.LitmusFiles.{length_kept}
use Rattle.outcome_text.specs.Searched.{commands_with}
use Rattle.outcome_text.proofs.SearchedFiles.{AreFound, more_with, not_more_with, outcomes_of}
use Rattle.outcome_text.proofs.Unmet.{calls_with, threads_with}
use Rattle.outcome_text.proofs.searched.search.Goals as goal

same_error : {T : Type 0} (result : Result T ExploreError) (a b : ExploreError) → result ≡ Err a → result ≡ Err b → a ≡ b
same_error result a b first second = cc

pub commands_of-requires-clause-calls : goal.commands_of-requires-clause-calls
commands_of-requires-clause-calls c =
    let program_is = c.as_slice-2.ensures.value ∙ c.in_ok-program.ensures
    ∙ ap (program_with c.args.count) c.as_slice.ensures.value in
    subst (λ (p : Program). All (λ line. IsBoardCall line.command.call) p) (sym program_is)
    (calls_with c.args.count c.args.file.now.lines.items c.requires.calls)

pub commands_of-requires-clause-threads : goal.commands_of-requires-clause-threads
commands_of-requires-clause-threads c =
    let program_is = c.as_slice-2.ensures.value ∙ c.in_ok-program.ensures
    ∙ ap (program_with c.args.count) c.as_slice.ensures.value in
    let threads : length c.args.file.now.names.items ≡ c.len.result =
    omega (arith, c.len.ensures, c.args.file.now.names.ok.0) in
    subst (λ (p : Program). All (λ line. line.thread < c.len.result) p) (sym program_is)
    (subst (λ n. All (λ line. line.thread < n) (program_with c.args.count c.args.file.now.lines.items)) threads
    (threads_with c.args.count (length c.args.file.now.names.items) c.args.file.now.lines.items c.requires.threads))

pub explore-requires-clause-calls : goal.explore-requires-clause-calls
explore-requires-clause-calls c =
    subst AreCommands (sym c.as_slice-own.ensures.value) c.in_ok-commands.ensures.calls

pub explore-requires-clause-threads : goal.explore-requires-clause-threads
explore-requires-clause-threads c =
    ap (λ lists. length lists) c.as_slice-own.ensures.value ∙ c.in_ok-commands.ensures.long
    ∙ omega (arith, c.len.ensures, c.args.file.now.names.ok.0)
    ∙ sym (ap (λ vs. length vs) c.as_slice-voices.ensures.value ∙ c.requires.voices)

-- the commands of each thread are those of the program with these requirements
pub returns-clause-few : goal.returns-clause-few
returns-clause-few c =
    let content = content_in c.args.file.now in
    let program_is = c.as_slice-2.ensures.value ∙ c.in_ok-program.ensures
    ∙ ap (program_with c.args.count) c.as_slice.ensures.value in
    let own_are : commands_in c.as_slice-own.result.now ≡ commands_with content c.args.count = fun_ext (λ thread.
    ap (λ lists. commands_in lists thread) c.as_slice-own.ensures.value ∙ c.in_ok-commands.ensures.commands thread
    ∙ ap (λ (p : Program). own_commands p thread) program_is) in
    not_more_with content c.args.count c.args.budget c.in_ok-explored.explored.places c.as_slice-voices.result.now
    (commands_in c.as_slice-own.result.now) own_are c.as_slice-voices.ensures.value c.in_ok-explored.ensures.places
    c.in_ok-explored.ensures.within c.places_have_one_number.ensures.more

pub returns-in_err-explored-clause-too_many : goal.returns-in_err-explored-clause-too_many
returns-in_err-explored-clause-too_many c = λ fault.
    let content = content_in c.args.file.now in
    let program_is = c.as_slice-2.ensures.value ∙ c.in_ok-program.ensures
    ∙ ap (program_with c.args.count) c.as_slice.ensures.value in
    let own_are : commands_in c.as_slice-own.result.now ≡ commands_with content c.args.count = fun_ext (λ thread.
    ap (λ lists. commands_in lists thread) c.as_slice-own.ensures.value ∙ c.in_ok-commands.ensures.commands thread
    ∙ ap (λ (p : Program). own_commands p thread) program_is) in
    let handed = err_from_is_err_and c.from_residual-in_err-explored.result c.from_residual-in_err-explored.ensures.1 in
    more_with content c.args.count c.args.budget c.as_slice-voices.result.now (commands_in c.as_slice-own.result.now)
    own_are c.as_slice-voices.ensures.value
    (c.in_err-explored.ensures.too_many
    (ap Err (sym handed.2 ∙ same_error c.from_residual-in_err-explored.result _ _ handed.1 fault)))

pub returns-clause-found : goal.returns-clause-found
returns-clause-found c =
    let content = content_in c.args.file.now in
    let explored = c.in_ok-explored.ensures in
    let program_is = c.as_slice-2.ensures.value ∙ c.in_ok-program.ensures
    ∙ ap (program_with c.args.count) c.as_slice.ensures.value in
    let own_are : commands_in c.as_slice-own.result.now ≡ commands_with content c.args.count = fun_ext (λ thread.
    ap (λ lists. commands_in lists thread) c.as_slice-own.ensures.value ∙ c.in_ok-commands.ensures.commands thread
    ∙ ap (λ (p : Program). own_commands p thread) program_is) in
    let named = length_kept c.args.file.now.names.items in
    let voiced = ap (λ (vs : List Voice). length vs) c.as_slice-voices.ensures.value ∙ c.requires.voices in
    let found : AreFound content.rows c.as_slice-voices.result.now (length c.as_slice-voices.result.now)
    (commands_in c.as_slice-own.result.now) c.in_ok-explored.explored.runs c.in_ok-explored.explored.places = record {
      complete = explored.complete;
      sound = explored.sound;
      distinct = explored.distinct;
      ordered = explored.ordered;
      counted = explored.places;
    } in
    record {
      threads = omega (arith, c.in_ok-commands.ensures.long, c.len.ensures, named, c.args.file.now.names.ok.0);
      commands =
          λ thread. c.in_ok-commands.ensures.commands thread ∙ ap (λ (p : Program). own_commands p thread) program_is;
      conditions = c.in_ok-conditions.ensures ∙ ap (conditions_with c.args.count) c.as_slice-3.ensures.value;
      all = outcomes_of content c.args.count c.in_ok-explored.explored.places c.in_ok-explored.explored.runs
          (subst (λ (q : List Voice × ℕ × (ℕ → List ThreadCommand)). AreFound content.rows q.0 q.1 q.2
          c.in_ok-explored.explored.runs c.in_ok-explored.explored.places)
          (λ i. (c.as_slice-voices.ensures.value i, (voiced ∙ sym named) i, own_are i)) found);
      few = explored.within;
    }
