-- A wait that tries again while there is nothing to report.
use Rattle.stop_table.specs.Handle.{Looked}
use Rattle.trace_calls.specs.Handle.{CallsHandle, KeepsRows, KeepsTable}

-- the caller looked, and nothing more
abbrev pub OnlyLooked : CallsHandle → CallsHandle → Type 0
OnlyLooked a b = KeepsTable a b × KeepsRows a b × Looked a.view b.view
