-- What clap's definitions say of these matches.
use Rattle.std.proofs.Common.{◌∙◌, codes, subst, sym, Option}
use Rattle.clap.specs.Words.{Text, found_of}
use Rattle.clap.proofs.WalkLemmas.{one_text-rows}
use Rattle.tracer_cli.specs.declared.arguments.TheConstants.{MOST_PLACES}
use Rattle.tracer_cli.specs.Arguments.{IsFlag, IsNumber, IsOptionalNumber}
use Rattle.tracer_cli.proofs.Matches.{flag_is}
use Rattle.tracer_cli.proofs.arguments.explore_options.Goals as goal

pub returns : goal.returns
returns c =
    let found = found_of c.args.matches.now in record {
      budget = subst (λ (read : Option Text). IsNumber 1 MOST_PLACES read c.number_of-budget.result)
          (one_text-rows found (codes "budget")) c.number_of-budget.ensures.number;
      ends = c.get_flag-ends.result;
      outcome = c.place-outcome.result;
      asked = record {
        flag = subst (λ (read : Option Text). IsFlag read c.get_flag-ends.result) (one_text-rows found (codes "ends"))
            (flag_is _ c.get_flag-ends.result c.get_flag-ends.ensures.none c.get_flag-ends.ensures.value
            c.get_flag-ends.ensures.other);
        number = subst (λ (read : Option Text). IsOptionalNumber MOST_PLACES read c.place-outcome.result)
            (one_text-rows found (codes "replay")) c.place-outcome.ensures;
      };
      listing = sym c.listing_of.ensures ∙ c.in-Some.is;
    }

pub returns-in_default : goal.returns-in_default
returns-in_default c =
    let found = found_of c.args.matches.now in record {
      ends = c.get_flag-ends.result;
      outcome = c.place-outcome.result;
      asked = record {
        flag = subst (λ (read : Option Text). IsFlag read c.get_flag-ends.result) (one_text-rows found (codes "ends"))
            (flag_is _ c.get_flag-ends.result c.get_flag-ends.ensures.none c.get_flag-ends.ensures.value
            c.get_flag-ends.ensures.other);
        number = subst (λ (read : Option Text). IsOptionalNumber MOST_PLACES read c.place-outcome.result)
            (one_text-rows found (codes "replay")) c.place-outcome.ensures;
      };
      clash = sym c.listing_of.ensures ∙ c.in_default.is;
    }
