-- The place of a row's parent is kept at its place.
use Rattle.std.proofs.Common.{arith}
use Rattle.stop_history.proofs.Rosters.{few_rows}
use Rattle.stop_history.proofs.roster.Roster.parent_place.Goals as goal

pub offset_bounds-families-row : goal.offset_bounds-families-row
offset_bounds-families-row g c =
    let within = rw (← c.self.view_is) at c.requires in
    let few = few_rows c.self.inside.rows.items c.self.invariant.0 in omega (arith, within, few)
