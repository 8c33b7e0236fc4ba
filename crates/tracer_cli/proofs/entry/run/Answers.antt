-- What the words ask for is answered.
use Rattle.std.proofs.Common.{refl, ◌≡◌, ◌∙◌, ap, map, subst, sym, Err, Ok, List, ℕ, Bor, Result}
use Rattle.std.proofs.lemmas.Result.{err_from_is_err_and}
use Rattle.tracer_cli.specs.declared.arguments.Request.{Request}
use Rattle.tracer_cli.specs.declared.failure.Failure.{Failure}
use Rattle.tracer_cli.specs.declared.failure.Failure.TheVariants.{NoMemory}
use Rattle.tracer_cli.specs.Arguments.{AskInput, IsAskedBy}
use Rattle.tracer_cli.specs.Run.{LeavesInput}
use Rattle.tracer_cli.proofs.CommandLines.{left_alone}
use Rattle.tracer_cli.proofs.Runs.{job_answered, no_job_answered}
use Rattle.tracer_cli.proofs.entry.run.Goals as goal

-- what is asked for by the words as slices is asked for by them
asked_alike : (slice items : List (Bor (List ℕ))) (words : List (List ℕ)) (asked : Result Request Failure)
    → slice ≡ items → map (λ (word : Bor (List ℕ)). word.now) items ≡ words
    → IsAskedBy (map (λ (word : Bor (List ℕ)). word.now) slice) asked → IsAskedBy words asked
asked_alike slice items words asked same are is =
    subst (λ (w : List (List ℕ)). IsAskedBy w asked) (ap (map (λ (word : Bor (List ℕ)). word.now)) same ∙ are) is

-- nothing is read for words that do not ask for it
left_alike : {A : Type 0} (slice items : List (Bor (List ℕ))) (words : List (List ℕ)) (request : Request)
    (before after : A) → slice ≡ items → map (λ (word : Bor (List ℕ)). word.now) items ≡ words
    → IsAskedBy (map (λ (word : Bor (List ℕ)). word.now) slice) (Ok request) → ¬ (AskInput words)
    → LeavesInput request before after → after ≡ before
left_alike slice items words request before after same are is none leaves =
    left_alone words request before after none (asked_alike slice items words (Ok request) same are is) leaves

pub returns-clause-asked : goal.returns-clause-asked
returns-clause-asked g c = record {
  asked = Ok c.in_ok-request.request;
  is_asked = asked_alike _ _ _ (Ok c.in_ok-request.request) c.as_slice.ensures.value c.in_ok-words.ensures
      c.in_ok-request.ensures;
  answers = job_answered c.in_ok-request.request c.in_ok-job.job _ _ _ _ c.in_ok-job.ensures.job c.do_job.ensures.done;
}

pub returns-clause-input : goal.returns-clause-input
returns-clause-input g c = λ none.
    left_alike _ _ _ c.in_ok-request.request _ _ c.as_slice.ensures.value c.in_ok-words.ensures c.in_ok-request.ensures
    none c.in_ok-job.ensures.named

pub returns-in_err-job-clause-asked : goal.returns-in_err-job-clause-asked
returns-in_err-job-clause-asked g c =
    let failed = err_from_is_err_and c.from_residual-in_err-job.result c.from_residual-in_err-job.ensures.1 in record {
      asked = Ok c.in_ok-request.request;
      is_asked = asked_alike _ _ _ (Ok c.in_ok-request.request) c.as_slice.ensures.value c.in_ok-words.ensures
          c.in_ok-request.ensures;
      answers = rw (failed.1, failed.2)
          (no_job_answered c.in_ok-request.request _ _ _ _ c.in_err-job.ensures.failure);
    }

pub returns-in_err-job-clause-input : goal.returns-in_err-job-clause-input
returns-in_err-job-clause-input g c = λ none.
    left_alike _ _ _ c.in_ok-request.request _ _ c.as_slice.ensures.value c.in_ok-words.ensures c.in_ok-request.ensures
    none c.in_err-job.ensures.named

pub returns-in_err-request-clause-asked : goal.returns-in_err-request-clause-asked
returns-in_err-request-clause-asked g c =
    let failed = err_from_is_err_and c.from_residual-in_err-request.result c.from_residual-in_err-request.ensures.1 in
    record {
      asked = Err failed.0;
      is_asked = rw failed.2
          (asked_alike _ _ _ (Err _) c.as_slice.ensures.value c.in_ok-words.ensures c.in_err-request.ensures);
      answers = failed.1;
    }

pub returns-in_err-words-clause-asked : goal.returns-in_err-words-clause-asked
returns-in_err-words-clause-asked g c =
    let failed = err_from_is_err_and c.from_residual.result c.from_residual.ensures.1 in
    record {
      asked = Err NoMemory;
      is_asked = tt;
      answers = failed.1 ∙ ap (λ (f : Failure). Err f) failed.2;
    }
