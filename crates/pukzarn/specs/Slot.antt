-- What a slot owns: nothing, or a value on the heap with the right to free its block.
use Rattle.std.specs.Prelude.{Option, None, Some}
use base.Fml.{Fml, ftrue}
use mir.Syntax.{Ty}
use denote.RattleType.{RattleType}
use denote.RawPtr.{Ptr}
use Rattle.std.specs.declared.alloc.Global.{Global}
use Rattle.std.specs.contracts.impls.GlobalAllocator.TheImpl.{ghosts}
use Rattle.std.specs.Box.Ownership.{box_owns}

-- a `Global` has no bytes, and each is like any other
abbrev pub heap : Global
heap = record { memory = record { seal = tt } }

-- the right to free a block
abbrev pub right_to_free : Ty → Ptr → Fml
right_to_free = ghosts.dealloc_token heap

abbrev pub slot_owns : (R : RattleType) → Ptr → Option R.Denot → Fml
slot_owns R at None = ftrue
slot_owns R at (Some x) = box_owns right_to_free R at x
