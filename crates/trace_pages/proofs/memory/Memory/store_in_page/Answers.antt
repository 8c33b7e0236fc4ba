-- One page has all the addresses, or none does: the bytes are written there, or the first one faults.
use Rattle.std.proofs.Common.{◌≡◌, ◌<◌, ◌%◌, length, drop, get_or, [], None, sym, ap, ◌∙◌, arith}
use Rattle.std.proofs.lemmas.Bool.Decides.{nat_tests}
use Rattle.std.proofs.lemmas.List.{get_or_read}
use Rattle.trace_pages.specs.FlatMemory.{IsPiece, byte_at, run_end}
use Rattle.trace_pages.specs.Memory.{store_answer}
use Rattle.trace_pages.proofs.Changes.{ArePages-stored, byte_at-stored}
use Rattle.trace_pages.proofs.Places.{HasNoPage-absent, IsPiece-rest, byte_at-absent}
use Rattle.trace_pages.proofs.Runs.{run_end-absent, run_end-none, run_end-piece}
use Rattle.trace_pages.proofs.memory.Memory.store_in_page.Goals as goal

pub returns-then-is_empty-clause-answer : goal.returns-then-is_empty-clause-answer
returns-then-is_empty-clause-answer g c =
    let none : length c.args.bytes.now ≡ 0 = grind (arith, nat_tests) in
    sym (ap store_answer (ap (run_end c.args.self.now c.args.addr) none ∙ run_end-none c.args.self.now c.args.addr))

pub returns-in_default-clause-answer : goal.returns-in_default-clause-answer
returns-in_default-clause-answer g c =
    let some : 0 < length c.args.bytes.now = grind (arith, nat_tests) in
    let gap = rw c.as_slice.ensures.value at c.in_default.ensures in
    let absent : byte_at c.args.self.now c.args.addr ≡ None =
    rw (← c.self.view_is) (byte_at-absent c.self.inside.addresses.items c.self.inside.pages.items c.self.invariant
    c.args.addr (HasNoPage-absent c.self.inside.addresses.items c.args.addr c.in_default.field-0 gap)) in
    sym (ap store_answer (run_end-absent c.args.self.now c.args.addr (length c.args.bytes.now) some c.ranges.addr.fits
    absent))

pub invariant_of-self : goal.invariant_of-self
invariant_of-self g c =
    let place = rw c.as_slice.ensures.value at c.in-Ok.ensures in
    let page = get_or_read c.self.inside.pages.items c.in-Ok.place c.index_mut.result.now
    (omega (arith, c.self.invariant.paired, place.0)) c.index_mut.ensures.value [] in
    rw (c.write.ensures, page) (ArePages-stored c.self.inside.addresses.items c.self.inside.pages.items
    c.args.bytes.now c.self.invariant c.in-Ok.place c.args.addr place.0 place.1 c.requires)

pub returns-clause-answer : goal.returns-clause-answer
returns-clause-answer g c =
    let place = rw c.as_slice.ensures.value at c.in-Ok.ensures in
    let piece : IsPiece c.args.self.now c.args.addr (drop (c.args.addr % 4096) (get_or c.self.inside.pages.items c.in-Ok.place [])) =
    rw (← c.self.view_is) (IsPiece-rest c.self.inside.addresses.items c.self.inside.pages.items
    c.self.invariant c.in-Ok.place c.args.addr place.0 place.1) in
    sym (ap store_answer (run_end-piece c.args.self.now c.args.addr (length c.args.bytes.now) _ c.ranges.addr.fits
    piece (omega (arith, piece.to_page_end, c.requires))))

pub returns-clause-ok : goal.returns-clause-ok
returns-clause-ok g c =
    let place = rw c.as_slice.ensures.value at c.in-Ok.ensures in
    let page = get_or_read c.self.inside.pages.items c.in-Ok.place c.index_mut.result.now
    (omega (arith, c.self.invariant.paired, place.0)) c.index_mut.ensures.value [] in
    rw (← c.self.view_is, c.write.ensures, page) (byte_at-stored c.self.inside.addresses.items
    c.self.inside.pages.items c.args.bytes.now c.self.invariant c.in-Ok.place c.args.addr place.0 place.1
    c.requires)
