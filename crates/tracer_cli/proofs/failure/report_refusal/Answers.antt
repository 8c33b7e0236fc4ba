-- The five parts are the text of a refusal.
use Rattle.std.proofs.Common.{◌≡◌, ◌∙◌, ◌++◌, ℕ, List, ap, append_assoc, codes}
use Rattle.outcome_text.proofs.TextOfParts.{cut_off_as, written_as}
use Rattle.tracer_cli.proofs.failure.report_refusal.Goals as goal

in_one : (said number name line cause : List ℕ)
    → said ≡ codes "tracer: line " ++ (number ++ (codes ": " ++ (name ++ codes "\n"))) → number ≡ line → name ≡ cause
    → said ≡ codes "tracer: " ++ ((codes "line " ++ (line ++ (codes ": " ++ cause))) ++ codes "\n")
in_one said number name line cause is same alike = is
    ∙ ap (λ n. codes "tracer: line " ++ (n ++ (codes ": " ++ (name ++ codes "\n")))) same
    ∙ ap (λ n. codes "tracer: line " ++ (line ++ (codes ": " ++ (n ++ codes "\n")))) alike ∙ simp append_assoc

pub returns-clause-ok : goal.returns-clause-ok
returns-clause-ok g c =
    written_as c.write_parts.result _ _ _ _
    (in_one _ _ _ _ _ c.in_five-parts.ensures c.format-line.ensures.text c.name.ensures) c.write_parts.ensures.ok

pub returns-clause-cut_off : goal.returns-clause-cut_off
returns-clause-cut_off g c =
    cut_off_as c.write_parts.result _ _ _ _
    (in_one _ _ _ _ _ c.in_five-parts.ensures c.format-line.ensures.text c.name.ensures) c.write_parts.ensures.cut_off
