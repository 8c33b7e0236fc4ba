-- The bytes that are stored determine the memory after them.
use Rattle.std.proofs.Common.{◌≡◌, ap, subst}
use Rattle.trace_record.specs.Content.{Content, content_by}
use Rattle.stop_table.specs.Written.{with_bytes}
use Rattle.stop_table.proofs.Written.{done_by}
use Rattle.stop_table.proofs.boxed.store_in.Goals as goal

pub returns-clause-ok : goal.returns-clause-ok
returns-clause-ok g c =
    let x = c.held.inside in
    let memory = c.store.new.self in
    done_by c.store.result
    (λ stored.
    subst (λ (r : Content). content_by x.tid x.number x.stop x.regs memory ≡ with_bytes r c.args.addr c.args.bytes.now)
    c.held.view_is
    (ap (content_by x.tid x.number x.stop x.regs)
    ((c.changes_determine_memory.ensures.store x.memory memory c.args.addr c.args.bytes.now).0 stored)))
    c.store.ensures.ok
