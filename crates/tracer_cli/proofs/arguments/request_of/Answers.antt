-- What clap's definitions say of these matches.
use Rattle.std.proofs.Common.{◌∙◌, codes, rules}
use Rattle.clap.specs.Words.{found_of, rows_of}
use Rattle.clap.proofs.WalkLemmas.{first_value-rows}
use Rattle.tracer_cli.proofs.Matches.{explore_is_named}
use Rattle.tracer_cli.proofs.arguments.request_of.Goals as goal

pub returns-then-eq : goal.returns-then-eq
returns-then-eq c = (
  search rules,
  c.run_options.ensures,
  c.get_str-file.ensures ∙ first_value-rows (found_of c.args.found.now) (codes "FILE"),
)

pub returns-then-eq-2 : goal.returns-then-eq-2
returns-then-eq-2 c =
    explore_is_named c.args.name.now (rows_of (found_of c.args.found.now)) c.get_str-file.result
    c.explore_request.result (search rules) (search rules)
    (c.get_str-file.ensures ∙ first_value-rows (found_of c.args.found.now) (codes "FILE")) c.explore_request.ensures

pub returns : goal.returns
returns c = (
  search rules,
  search rules,
  c.get_str-file.ensures ∙ first_value-rows (found_of c.args.found.now) (codes "FILE"),
)
