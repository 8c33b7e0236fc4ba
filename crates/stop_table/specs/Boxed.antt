-- A record in a box.
use Rattle.trace_record.specs.Content.{Content}
use Rattle.trace_pages.specs.FlatMemory.{FlatMemory}

-- the same with another memory
abbrev pub with_memory : Content → FlatMemory → Content
with_memory content memory = record {
  tid = content.tid;
  number = content.number;
  stop = content.stop;
  regs = content.regs;
  memory = memory;
}
