-- There are 256 pages exactly where there are as many bytes.
use Rattle.std.proofs.Common.{◌≡◌, ◌*◌, length, arith}
use Rattle.std.specs.FinMap.{len}
use Rattle.std.proofs.lemmas.Bool.Decides.{nat_tests}
use Rattle.trace_pages.proofs.Counts.{len-flat_of}
use Rattle.trace_pages.proofs.memory.Memory.is_full.Goals as goal

pub returns : goal.returns
returns g c =
    let count : len c.args.self.now ≡ 4096 * length c.self.inside.addresses.items =
    rw (← c.self.view_is) (len-flat_of c.self.inside.addresses.items c.self.inside.pages.items c.self.invariant) in
    let addresses : c.len.result ≡ length c.self.inside.addresses.items =
    omega (arith, c.len.ensures, c.self.inside.addresses.ok.0) in
    grind (arith, nat_tests)
