-- What clap's definitions say of these matches.
use Rattle.std.proofs.Common.{◌∙◌, codes, subst, Option}
use Rattle.stop_history.specs.declared.limits.TheConstants.{TRACERS}
use Rattle.clap.specs.Words.{Text, found_of}
use Rattle.clap.proofs.WalkLemmas.{first_value-rows, one_text-rows}
use Rattle.tracer_cli.specs.declared.arguments.TheConstants.{MOST_SHOWN}
use Rattle.tracer_cli.specs.Arguments.{IsFlag, IsNumber}
use Rattle.tracer_cli.proofs.Matches.{flag_is}
use Rattle.tracer_cli.proofs.arguments.run_options.Goals as goal

pub returns : goal.returns
returns c =
    let found = found_of c.args.matches.now in record {
      follow = subst (λ (read : Option Text). IsFlag read c.get_flag.result) (one_text-rows found (codes "follow"))
          (flag_is _ c.get_flag.result c.get_flag.ensures.none c.get_flag.ensures.value c.get_flag.ensures.other);
      seccomp = subst (λ (read : Option Text). IsFlag read c.get_flag-2.result) (one_text-rows found (codes "seccomp-bpf"))
          (flag_is _ c.get_flag-2.result c.get_flag-2.ensures.none c.get_flag-2.ensures.value c.get_flag-2.ensures.other);
      workers = subst (λ (read : Option Text). IsNumber 1 TRACERS read c.number_of.result)
          (one_text-rows found (codes "workers")) c.number_of.ensures.number;
      some_workers = c.number_of.ensures.range;
      limit = subst (λ (read : Option Text). IsNumber 0 MOST_SHOWN read c.number_of-2.result)
          (one_text-rows found (codes "limit")) c.number_of-2.ensures.number;
      names = c.get_str.ensures ∙ first_value-rows found (codes "names");
    }
