-- Halving begins with none of the requirements and all of them.
use Rattle.std.proofs.Common.{◌≡◌, arith, length, string_bytes, subst, sym}
use Rattle.litmus_files.specs.LitmusDraft.{content_in}
use Rattle.outcome_text.proofs.Halving.{AllFew, line_told}
use Rattle.outcome_text.proofs.forbidden.explain.Goals as goal

pub returns-in-Ok : goal.returns-in-Ok
returns-in-Ok c =
    let content = content_in c.args.file.now in
    let all : length c.args.file.now.requirements.items ≡ c.len.result =
    omega (arith, c.len.ensures, c.args.file.now.requirements.ok.0) in
    line_told string_bytes content c.args.budget c.in-Ok.count c.line_of.result c.forbidden_text.result
    c.in-Ok.ensures.found (subst (AllFew content c.args.budget 0) (sym all) c.in-Ok.ensures.few) c.line_of.ensures
    c.forbidden_text.ensures
