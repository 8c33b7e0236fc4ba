-- What a handle knows of the cells: whom it acts for, the history up to its last step, and its steps.
use Rattle.std.specs.Prelude.{◌==◌, ◌&&◌, ℕ, Bool, true, false, not, List, [], count_by}
use Rattle.std.specs.List.{list_any}
use Rattle.stop_history.specs.declared.actor.Actor.{Actor}
use Rattle.stop_history.specs.declared.actor.Actor.TheVariants.{Tracee, Tracer}
use Rattle.stop_history.specs.declared.roster.Row.{Row}
use Rattle.stop_table.specs.Entry.{Entry}

-- a step on a row's word, which is a look at it or an exchange, and the history directly after the step
pub record Observation : Type 0 where
  pub row : ℕ
  pub is_look : Bool
  pub seen : List Entry

abbrev pub a_look : ℕ → List Entry → Observation
a_look row h = record { row = row; is_look = true; seen = h }

abbrev pub an_exchange : ℕ → List Entry → Observation
an_exchange row h = record { row = row; is_look = false; seen = h }

-- how many of these steps are looks at a row's word, and how many are exchanges of it
unfoldable pub looks_at : ℕ → List Observation → ℕ
looks_at row steps = count_by (λ o. o.is_look && o.row == row) steps

unfoldable pub exchanges_of : ℕ → List Observation → ℕ
exchanges_of row steps = count_by (λ o. not o.is_look && o.row == row) steps

-- the actors for which a handle acted, and what it had seen, when it met another
pub record Past : Type 0 where
  pub tracees : List ℕ
  pub tracers : List ℕ
  pub seen : List Entry

-- the rows of all; the tracees for which the handle acts, its own tracer number, the tracers for which it acts;
-- whether it has its row taken up; the history up to its last step; its steps on rows' words, the newest first; and
-- directly after a meeting, what the two had seen
pub record View : Type 0 where
  pub roster : List Row
  pub tracees : List ℕ
  pub number : ℕ
  pub tracers : List ℕ
  pub taken : Bool
  pub seen : List Entry
  pub observations : List Observation
  pub told : List Past

-- a view of nobody, which has seen nothing
abbrev pub view_of_nobody : View
view_of_nobody = record {
  roster = [];
  tracees = [];
  number = 0;
  tracers = [];
  taken = false;
  seen = [];
  observations = [];
  told = [];
}

abbrev pub is_among : ℕ → List ℕ → Bool
is_among number numbers = list_any (λ n. number == n) numbers

-- the actors of these rows and tracers
abbrev pub actors_in : (tracees tracers : List ℕ) → Actor → Bool
actors_in tracees tracers (Tracee row) = is_among row tracees
actors_in tracees tracers (Tracer tracer) = is_among tracer tracers

abbrev pub actors_of : View → Actor → Bool
actors_of v = actors_in v.tracees v.tracers
