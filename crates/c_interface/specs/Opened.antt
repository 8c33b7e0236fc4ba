-- The ends of new cells: each handle is that of a new row, or of a new tracer, by its place.
use Rattle.std.specs.Prelude.{◌≡◌, ℕ, List, Some, slice_get}
use Rattle.stop_history.specs.declared.roster.Row.{Row}
use Rattle.stop_table.specs.Opening.{new_tracee, new_tracer}
use Rattle.stop_table.specs.Tracee.{TraceeHandle}
use Rattle.stop_table.specs.Tracer.{TracerHandle}

abbrev pub AreNewTracees : List Row → List TraceeHandle → Type 0
AreNewTracees rows handles =
    (k : ℕ) (e : TraceeHandle) → slice_get handles k ≡ Some e → e ≡ new_tracee e.table_id rows k

abbrev pub AreNewTracers : List Row → List TracerHandle → Type 0
AreNewTracers rows handles =
    (k : ℕ) (e : TracerHandle) → slice_get handles k ≡ Some e → e ≡ new_tracer e.table_id rows k
