-- The addresses are tested before the bytes are decoded, and then the store is done.
use Rattle.std.proofs.Common.{◌/◌, ◌∙◌, ap, is_ok, length, not, sym}
use Rattle.trace_pages.specs.FlatMemory.{FlatMemory, stored}
use Rattle.trace_pages.proofs.Memories.{stored_is}
use Rattle.trace_script.specs.Kept.{image_of}
use Rattle.trace_script.proofs.Images.{as_tested, can_store, data_is_ok, data_refused, tested_store}
use Rattle.trace_script.proofs.case.image.put_bytes.Goals as goal

pub returns-then-is_err-clause-image : goal.returns-then-is_err-clause-image
returns-then-is_err-clause-image g c =
    let image = image_of c.args.image.now in
    data_refused image c.args.addr c.args.word.now c.requires.word
    (as_tested c.args.memory.now image c.args.addr (length c.args.word.now / 2) _ c.requires.in_force
    (ap (λ r. is_ok r) (sym c.check_run.ensures) ∙ c.is_err.ensures.negation ∙ ap not c.if-is_err.true))

pub returns-in_default-clause-image : goal.returns-in_default-clause-image
returns-in_default-clause-image g c =
    let image = image_of c.args.image.now in
    data_is_ok image c.args.addr c.args.word.now c.requires.word
    (as_tested c.args.memory.now image c.args.addr (length c.args.word.now / 2) _ c.requires.in_force
    (ap (λ r. is_ok r) (sym c.check_run.ensures) ∙ c.is_err.ensures.negation ∙ ap not c.if-is_err.false))

pub store-requires : goal.store-requires
store-requires g c =
    let image = image_of c.args.image.now in
    can_store image.memory c.args.addr c.args.word.now c.as_slice.result.now c.requires.word
    (as_tested c.args.memory.now image c.args.addr (length c.args.word.now / 2) _ c.requires.in_force
    (ap (λ r. is_ok r) (sym c.check_run.ensures) ∙ c.is_err.ensures.negation ∙ ap not c.if-is_err.false))
    (c.as_slice.ensures.value ∙ c.in-Ok.ensures)

pub returns-in_default-store-clause-image : goal.returns-in_default-store-clause-image
returns-in_default-store-clause-image g c =
    let image = image_of c.args.image.now in
    data_is_ok image c.args.addr c.args.word.now c.requires.word
    (as_tested c.args.memory.now image c.args.addr (length c.args.word.now / 2) _ c.requires.in_force
    (ap (λ r. is_ok r) (sym c.check_run.ensures) ∙ c.is_err.ensures.negation ∙ ap not c.if-is_err.false))

pub unreachable-requires : goal.unreachable-requires
unreachable-requires g c =
    tested_store c.args.memory.now c.args.addr c.args.word.now c.as_slice-2.result.now c.in-Err.field-0
    c.requires.word (ap (λ r. is_ok r) (sym c.check_run.ensures) ∙ c.is_err.ensures.negation ∙ ap not c.if-is_err.false)
    (c.as_slice-2.ensures.value ∙ c.in-Ok.ensures) c.in-Err.ensures.answer

pub returns-clause-in_force : goal.returns-clause-in_force
returns-clause-in_force g c =
    stored_is c.args.memory.now c.store-2.new.self c.args.addr c.as_slice-2.result.now c.in-Ok-store-2.ensures.ok
    ∙ ap (λ (m : FlatMemory). stored m c.args.addr c.as_slice-2.result.now) c.requires.in_force
    ∙ ap (stored c.args.image.now.memory c.args.addr) (c.as_slice-2.ensures.value ∙ sym c.as_slice.ensures.value)
    ∙ sym c.in-Ok-store.ensures
