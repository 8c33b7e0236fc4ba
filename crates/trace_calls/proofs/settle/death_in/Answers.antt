-- What a raw status reports is a death, or no death has this status.
use Rattle.std.proofs.Common.{◌≡◌, ℕ, Option, Some, None}
use Rattle.std.specs.Prelude.{IfSome}
use Rattle.trace_calls.specs.RowStatus.{ReportsDeath}
use Rattle.trace_record.specs.Death.{IsDeath, death_status}
use Rattle.trace_record.specs.declared.death.Death.{Death}
use Rattle.trace_calls.proofs.settle.death_in.Goals as goal

reports : (raw : ℕ) (r : Option Death) → IfSome r (λ death. IsDeath death × (death_status death ≡ raw))
    → ((death : Death) → IsDeath death → death_status death ≡ raw → r ≡ Some death) → ReportsDeath raw r
reports raw None told each = λ death ranged same. let clash : None ≡ Some death = each death ranged same in cc
reports raw (Some death) told each = told

pub returns : goal.returns
returns c = reports c.args.raw c.from_status.result c.from_status.ensures.reported c.from_status.ensures.each
