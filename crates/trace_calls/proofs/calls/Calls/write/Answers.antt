-- The bytes of the word are those of the value.
use Rattle.std.proofs.Common.{◌∙◌, ap, of_z, subst}
use Rattle.std.proofs.lemmas.Int.{to_z-of_z}
use Rattle.std.specs.Int.{to_le_bytes, w32, w64}
use Rattle.trace_calls.specs.ByPid.{IsBytesWrite}
use Rattle.trace_calls.proofs.calls.Calls.write.Goals as goal

pub returns : goal.returns
returns g c =
    let word = c.as_slice.ensures ∙ c.to_le_bytes-bytes.ensures
    ∙ ap (to_le_bytes w64) (c.cast_unsigned.ensures ∙ ap (of_z w64) (to_z-of_z w64 c.args.value c.ranges.value)) in
    let a = c.args.self.now in
    let b = c.store.new.self in
    subst (λ bytes. IsBytesWrite a b c.args.pid c.args.addr bytes c.store.result) word
    (subst (λ pid. IsBytesWrite a b pid c.args.addr c.as_slice.result.now c.store.result)
    (to_z-of_z w32 c.args.pid c.ranges.pid) c.store.ensures)
