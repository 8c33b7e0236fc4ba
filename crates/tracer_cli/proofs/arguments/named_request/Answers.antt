-- The subcommand is the one that clap has found.
use Rattle.std.proofs.Common.{subst, sym}
use Rattle.clap.specs.Words.{found_of, rows_of}
use Rattle.clap.specs.declared.parser.matches.ArgMatches.TheViews.{out-ArgMatches}
use Rattle.tracer_cli.specs.Arguments.{FoundSubcommand, IsNamedBy}
use Rattle.tracer_cli.proofs.Matches.{found_is}
use Rattle.tracer_cli.proofs.arguments.named_request.Goals as goal

pub returns-in-Some : goal.returns-in-Some
returns-in-Some c =
    let found = found_is (out-ArgMatches c.args.matches.now).subcommand c.in-Some.name.now
    (rows_of (found_of c.in-Some.found.now)) c.in-Some.ensures.name c.in-Some.ensures.rows in
    subst (λ (f : FoundSubcommand). IsNamedBy f c.request_of.result) (sym found) c.request_of.ensures
