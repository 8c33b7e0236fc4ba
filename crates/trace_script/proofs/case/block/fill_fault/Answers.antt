-- A fill is tested by as many bytes as its word has pairs of digits.
use Rattle.std.proofs.Common.{◌∙◌, ap, is_ok, sym}
use Rattle.trace_script.specs.declared.cause.Cause.TheVariants.{Unmapped}
use Rattle.trace_script.specs.CaseFile.{unless}
use Rattle.trace_script.proofs.Images.{mapped_as_tested}
use Rattle.trace_script.proofs.case.block.fill_fault.Goals as goal

pub returns-in-Ok : goal.returns-in-Ok
returns-in-Ok g c =
    let fill = c.in-Some.fill in
    let memory = c.args.memory.now in
    let tested = rw c.in-Some.is at c.requires in
    rw c.in-Some.is (
    ap (λ b. unless b Unmapped)
    (sym (mapped_as_tested memory fill.addr fill.bytes.now tested ∙ ap (λ r. is_ok r) (sym c.in-Ok.ensures))))

pub returns-in-Err : goal.returns-in-Err
returns-in-Err g c =
    let fill = c.in-Some.fill in
    let memory = c.args.memory.now in
    let tested = rw c.in-Some.is at c.requires in
    rw c.in-Some.is (
    ap (λ b. unless b Unmapped)
    (sym (mapped_as_tested memory fill.addr fill.bytes.now tested ∙ ap (λ r. is_ok r) (sym c.in-Err.ensures))))
