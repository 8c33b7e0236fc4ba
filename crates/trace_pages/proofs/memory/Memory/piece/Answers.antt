-- A piece is what its page has from the address on.
use Rattle.trace_pages.proofs.Places.{HasNoPage-absent, IsPiece-rest, byte_at-absent}
use Rattle.std.proofs.lemmas.List.{get_or_read}
use Rattle.std.proofs.Common.{[], arith}
use Rattle.trace_pages.proofs.memory.Memory.piece.Goals as goal

pub returns-in_default : goal.returns-in_default
returns-in_default g c =
    let gap = rw c.as_slice.ensures.value at c.in_default.ensures in
    rw (← c.self.view_is) (byte_at-absent c.self.inside.addresses.items c.self.inside.pages.items c.self.invariant
    c.args.addr (HasNoPage-absent c.self.inside.addresses.items c.args.addr c.in_default.field-0 gap))

pub returns : goal.returns
returns g c =
    let place = rw c.as_slice.ensures.value at c.in-Ok.ensures in
    let page = get_or_read c.self.inside.pages.items c.in-Ok.place c.index.result.now
    (omega (arith, c.self.invariant.paired, place.0)) c.index.ensures [] in
    rw (← c.self.view_is, c.rest.ensures, page) (IsPiece-rest c.self.inside.addresses.items c.self.inside.pages.items
    c.self.invariant c.in-Ok.place c.args.addr place.0 place.1)
