-- What each row so far is to those before it stands at its place.
use Rattle.std.proofs.Common.{◌≡◌, ◌<◌, ℕ, Some, length, slice_get}
use Rattle.stop_history.specs.Roster.{family_of}
use Rattle.stop_history.specs.declared.limits.TheConstants.{MOST_ROWS}
use Rattle.stop_history.proofs.roster.families.families_of.Given as goal

abbrev pub invariant-loop-at : goal.invariant-loop-at
invariant-loop-at l = record {
  whole : length l.families ≡ MOST_ROWS;
  so_far : (row : ℕ) → row < l.at → slice_get l.families row ≡ Some (family_of l.rows row);
}
