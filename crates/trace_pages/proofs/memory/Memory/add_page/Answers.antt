-- A page of zeros is added to the lists, and to the flat memory.
use Rattle.std.proofs.Common.{refl}
use Rattle.trace_pages.proofs.Changes.{ArePages-after, byte_at-after, len-after}
use Rattle.trace_pages.proofs.Places.{byte_at-found}
use Rattle.trace_pages.proofs.Runs.{none_some}
use Rattle.trace_pages.proofs.memory.Memory.add_page.Goals as goal

pub unreachable-requires : goal.unreachable-requires
unreachable-requires g c =
    let place = rw c.as_slice.ensures.value at c.in_default.ensures in
    let some = byte_at-found c.self.inside.addresses.items c.self.inside.pages.items c.self.invariant
    c.in_default.field-0 c.args.page place.0 place.1 in
    none_some _ (rw (← c.self.view_is) at c.requires.absent) (rw some refl)

pub invariant_of-self : goal.invariant_of-self
invariant_of-self g c = ArePages-after c.self.inside.addresses.items c.insert_page.new.addresses.items c.self.inside.pages.items
    c.insert_page.new.pages.items c.in-Err.place c.args.page c.self.invariant c.requires.whole
    (rw c.as_slice.ensures.value at c.in-Err.ensures) (rw (← c.self.view_is) at c.requires.room) c.insert_page.result
    (record {
      addresses_ok = c.insert_page.ensures.addresses;
      pages_ok = c.insert_page.ensures.pages;
      addresses_err = c.insert_page.ensures.err_addresses;
      pages_err = c.insert_page.ensures.err_pages;
    })

pub returns-clause-ok : goal.returns-clause-ok
returns-clause-ok g c = rw (← c.self.view_is) (byte_at-after c.self.inside.addresses.items c.insert_page.new.addresses.items c.self.inside.pages.items
    c.insert_page.new.pages.items c.in-Err.place c.args.page c.self.invariant c.requires.whole
    (rw c.as_slice.ensures.value at c.in-Err.ensures) (rw (← c.self.view_is) at c.requires.room) c.insert_page.result
    (record {
      addresses_ok = c.insert_page.ensures.addresses;
      pages_ok = c.insert_page.ensures.pages;
      addresses_err = c.insert_page.ensures.err_addresses;
      pages_err = c.insert_page.ensures.err_pages;
    }))

pub returns-clause-grown : goal.returns-clause-grown
returns-clause-grown g c = rw (← c.self.view_is) (len-after c.self.inside.addresses.items c.insert_page.new.addresses.items c.self.inside.pages.items
    c.insert_page.new.pages.items c.in-Err.place c.args.page c.self.invariant c.requires.whole
    (rw c.as_slice.ensures.value at c.in-Err.ensures) (rw (← c.self.view_is) at c.requires.room) c.insert_page.result
    (record {
      addresses_ok = c.insert_page.ensures.addresses;
      pages_ok = c.insert_page.ensures.pages;
      addresses_err = c.insert_page.ensures.err_addresses;
      pages_err = c.insert_page.ensures.err_pages;
    }))
