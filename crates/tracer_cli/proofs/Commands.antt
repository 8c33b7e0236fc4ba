-- What clap makes of the command line's definitions, and of words that are written out.
use Rattle.std.proofs.Common.{refl, ◌≡◌, inl, inr, true, List, ℕ, Result, Ok, Err, IfErr, IfOk}
use Rattle.std.proofs.Common.{IsTrue}
use Rattle.std.specs.Prelude.{[]}
use Rattle.clap.specs.Words.{HasKind, fault_of, is_simple, is_simple_and_free, kind_of, subcommand_of}
use Rattle.clap.specs.declared.error.Error.{Error}
use Rattle.clap.specs.declared.error.kind.ErrorKind.TheVariants.{OutOfMemory}
use Rattle.clap.proofs.OnLiterals.{clap_on_literals}
use Rattle.tracer_cli.specs.declared.arguments.Request.{Request}
use Rattle.tracer_cli.specs.declared.arguments.Request.TheVariants.{Replay, Run, Explore, Help}
use Rattle.tracer_cli.specs.declared.failure.Failure.{Failure}
use Rattle.tracer_cli.specs.declared.failure.Failure.TheVariants.{Usage, NoMemory}
use Rattle.tracer_cli.specs.Arguments.{IsAskedBy, IsFailureBy, IsHelp, IsNamedBy}
use Rattle.tracer_cli.specs.Arguments.{shows_text, tracer_app}

pub is_known : is_simple tracer_app ≡ true
unfolding clap_on_literals
is_known = refl

pub is_free : is_simple_and_free tracer_app ≡ true
unfolding clap_on_literals
is_free = refl

-- what is asked for by words that fail
pub failed : (words : List (List ℕ)) (e : Error) (asked : Result Request Failure)
    → HasKind (fault_of tracer_app words) e
    → (kind_of e ≡ OutOfMemory → asked ≡ Err NoMemory)
    → IfOk asked (λ request. IsHelp request × IsTrue (shows_text (kind_of e)))
    → IfErr asked (IsFailureBy (kind_of e)) → IsAskedBy words asked
failed words e (Ok (Replay file)) has memory help usage = absurd help.0
failed words e (Ok (Run options file)) has memory help usage = absurd help.0
failed words e (Ok (Explore options file)) has memory help usage = absurd help.0
failed words e (Ok (Help text)) (inl none) memory help usage = absurd (let clash = memory none in cc)
failed words e (Ok (Help text)) (inr among) memory help usage = (kind_of e, among, help.1)
failed words e (Err (Usage text)) (inl none) memory help usage = absurd (usage.0 none)
failed words e (Err (Usage text)) (inr among) memory help usage = inl (kind_of e, among, usage.1)
failed words e (Err NoMemory) has memory help usage = tt
failed words e (Err failure) has memory help usage = absurd usage

-- what is asked for by words that do not fail
pub named : (words : List (List ℕ)) (asked : Result Request Failure) → fault_of tracer_app words ≡ []
    → IsNamedBy (subcommand_of tracer_app words) asked → IsAskedBy words asked
named words (Ok (Replay file)) fits is_named = (fits, is_named)
named words (Ok (Run options file)) fits is_named = (fits, is_named)
named words (Ok (Explore options file)) fits is_named = (fits, is_named)
named words (Ok (Help text)) fits is_named = absurd is_named
named words (Err (Usage text)) fits is_named = inr ((fits, is_named.0), is_named.1)
named words (Err NoMemory) fits is_named = tt
named words (Err failure) fits is_named = absurd is_named
