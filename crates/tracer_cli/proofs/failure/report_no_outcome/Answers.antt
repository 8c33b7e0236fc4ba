-- The parts are the text of the failure.
use Rattle.std.proofs.Common.{◌≡◌, ◌∙◌, ◌++◌, ℕ, List, ap, codes}
use Rattle.outcome_text.proofs.TextOfParts.{cut_off_as, written_as}
use Rattle.tracer_cli.proofs.failure.report_no_outcome.Goals as goal

in_one : (said number line : List ℕ) → said ≡ codes "tracer: no outcome " ++ (number ++ codes "\n") → number ≡ line
    → said ≡ codes "tracer: no outcome " ++ (line ++ codes "\n")
in_one said number line is same = is ∙ ap (λ n. codes "tracer: no outcome " ++ (n ++ codes "\n")) same

pub returns-clause-ok : goal.returns-clause-ok
returns-clause-ok g c =
    written_as c.write_parts.result _ _ _ _
    (in_one _ _ _ c.in_five-parts.ensures c.format.ensures.text) c.write_parts.ensures.ok

pub returns-clause-cut_off : goal.returns-clause-cut_off
returns-clause-cut_off g c =
    cut_off_as c.write_parts.result _ _ _ _
    (in_one _ _ _ c.in_five-parts.ensures c.format.ensures.text) c.write_parts.ensures.cut_off
