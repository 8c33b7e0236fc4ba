-- What the holder of a claim makes of the claimed record (ptrace(2), PTRACE_SETREGS, PTRACE_POKEDATA).
use Rattle.std.specs.Prelude.{◌≡◌, ℕ, List}
use Rattle.trace_pages.specs.FlatMemory.{SameAddresses, stored}
use Rattle.trace_record.specs.Content.{Content, content_by}
use Rattle.trace_regs.specs.declared.regs.Regs.{Regs}

-- the record with other registers
abbrev pub with_regs : Content → Regs → Content
with_regs content regs = content_by content.tid content.number content.stop regs content.memory

-- the record with bytes stored in its memory from an address on
abbrev pub with_bytes : Content → ℕ → List ℕ → Content
with_bytes content address bytes =
    content_by content.tid content.number content.stop content.regs (stored content.memory address bytes)

-- The second can be made of the first by writes. They change registers and bytes: it stays the record of this stop of
-- this tracee, and bytes are at the addresses that had one.
pub record IsWrittenOver (before after : Content) : Type 0 where
  pub tid : after.tid ≡ before.tid
  pub number : after.number ≡ before.number
  pub stop : after.stop ≡ before.stop
  pub addresses : SameAddresses after.memory before.memory
