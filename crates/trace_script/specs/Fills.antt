-- Scripts whose calls write to mapped addresses alone: each fill is mapped in the image in force, that of the last exec
-- before it, or else the first (execve(2)). A store maps no address and takes none away, so the bytes of an image do
-- not matter.
use Rattle.std.specs.Prelude.{◌≡◌, ◌∷◌, [], List, Option, Some, None, length}
use Rattle.trace_pages.specs.FlatMemory.{FlatMemory, Full, SameAddresses, run_end}
use Rattle.trace_script.specs.Script.{Fill, Script, Step}
use Rattle.trace_script.specs.Script as step
use Rattle.trace_script.specs.StopTrace.{Context, Ending, Dead, Broken, Turn, context_after}

abbrev pub IsFillMapped : FlatMemory → Option Fill → Type 0
IsFillMapped memory None = Unit {0}
IsFillMapped memory (Some fill) = run_end memory fill.address (length fill.bytes) ≡ Full

abbrev pub IsMappedIn : FlatMemory → Step → Type 0
IsMappedIn memory (step.Call nr arguments answer fill) = IsFillMapped memory fill
IsMappedIn memory other = Unit {0}

abbrev pub memory_after : FlatMemory → Step → FlatMemory
memory_after memory (step.Exec path image) = image.memory
memory_after memory other = memory

abbrev pub AreFillsMapped : FlatMemory → List Step → Type 0
AreFillsMapped memory [] = Unit {0}
AreFillsMapped memory (step ∷ steps) = IsMappedIn memory step × AreFillsMapped (memory_after memory step) steps

abbrev pub HasMappedFills : Script → Type 0
HasMappedFills script = AreFillsMapped script.image.memory script.steps

-- a trace that a death ends
abbrev pub EndsDead : Ending → Type 0
EndsDead (Dead death) = Unit {0}
EndsDead (Broken address) = ⊥

-- nobody has changed which addresses are mapped: each stop was made with the addresses of the stop before it
abbrev pub KeepsAddresses : Context → List Turn → Type 0
KeepsAddresses x [] = Unit {0}
KeepsAddresses x (turn ∷ turns) =
    SameAddresses turn.before.memory (context_after x turns).memory × KeepsAddresses x turns
