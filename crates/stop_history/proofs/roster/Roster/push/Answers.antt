-- A roster with one more row that has no fault is one, and what each row is to those before it stands at its place.
use Rattle.std.proofs.Common.{◌≡◌, ◌∙◌, ◌++◌, ◌∷◌, ◌+◌, ◌-◌, ◌<◌, [], None, ap, arith, length, length-append, sym}
use Rattle.std.specs.Vec.{vec_len}
use Rattle.stop_history.specs.Roster.{IsRoster, push_fault}
use Rattle.stop_history.proofs.Families.{one_more_family}
use Rattle.stop_history.proofs.Rosters.{few_rows, no_fault, one_more}
use Rattle.stop_history.proofs.roster.Roster.push.Goals as goal

pub invariant_of-self-2 : goal.invariant_of-self-2
invariant_of-self-2 g c =
    let rows = c.self.inside.rows.items in
    let more = rows ++ c.args.row ∷ [] in
    let none : push_fault c.as_slice.result.now c.args.row ≡ None = sym c.push_fault.ensures
    ∙ no_fault c.push_fault.result c.in_default.not-Some in
    let longer : IsRoster more = one_more rows c.args.row c.self.invariant.0 (rw c.as_slice.ensures.value at none) in
    let long : length more ≡ length rows + 1 = length-append rows (c.args.row ∷ []) in
    let items : c.push.new.self.items ≡ more = c.in_ok-push.ensures.items in
    let len : vec_len c.push.new.self ≡ length c.push.new.self.items =
    sym c.as_slice-2.ensures.len ∙ ap length c.as_slice-2.ensures.value in
    let at : c.len-at.result - 1 ≡ length rows = omega (arith, c.len-at.ensures, len, ap length items, long) in
    let room : length rows < length c.self.inside.families = omega (arith, few_rows more longer, long, c.self.ranges) in
    rw (c.family_of.ensures, c.as_slice-2.ensures.value, items, at)
    (longer, one_more_family rows c.args.row c.self.inside.families c.self.invariant.0 longer room c.self.invariant.1)
