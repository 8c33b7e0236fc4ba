-- The calls of a handle, one after another, and who makes each event.
use Rattle.std.specs.Prelude.{◌≡◌, ◌<◌, ◌∷◌, ◌⊎◌, [], ℕ, true, List, Some, length, slice_get}
use Rattle.stop_history.specs.declared.limits.TheConstants.{TRACERS}
use Rattle.stop_history.specs.Actor.{actor_of}
use Rattle.stop_table.specs.Entry.{Entry}
use Rattle.stop_table.specs.Handle.{EndsWith, Grows}
use Rattle.stop_table.specs.View.{View, actors_of, is_among}

-- a call made no event of its own, or what is seen after it ends with one
abbrev pub IsOneCall : View → View → Type 0
IsOneCall v w =
    Grows v w
    ⊎ ((before : List Entry) × (x : Entry) × EndsWith v w before x × (actors_of v (actor_of x.event) ≡ true))

-- a handle that had seen nothing has made calls: this is its view after the last one, and these were those before each
-- call, the newest first
abbrev pub HasCalled : (last : View) → (earlier : List View) → Type 0
HasCalled last [] = last.seen ≡ []
HasCalled last (v ∷ earlier) = IsOneCall v last × HasCalled v earlier

-- the call before which the view at this index was that of the handle made the entry x, directly after a history
pub record IsMadeBy (last : View) (earlier : List View) (before : List Entry) (x : Entry) (at : ℕ) : Type 0 where
  pub v : View
  pub w : View
  pub is_before : slice_get earlier at ≡ Some v
  pub is_after : slice_get (last ∷ earlier) at ≡ Some w
  pub ends : EndsWith v w before x

-- one of the calls made it, and no other
pub record IsMadeByOne (last : View) (earlier : List View) (before : List Entry) (x : Entry) : Type 0 where
  pub at : ℕ
  pub makes : IsMadeBy last earlier before x at
  pub alone : (other : ℕ) → IsMadeBy last earlier before x other → other ≡ at

-- a handle acts for the tracees of all rows, and for all tracers that there can be
pub record ActsForAll (v : View) : Type 0 where
  pub tracees : (row : ℕ) → row < length v.roster → is_among row v.tracees ≡ true
  pub tracers : (tracer : ℕ) → tracer < TRACERS → is_among tracer v.tracers ≡ true
