-- The rows so far were passed.
use Rattle.stop_table.specs.Tracer.{KeepsHandle}
use Rattle.trace_calls.specs.Scan.{Scanned}
use Rattle.trace_calls.specs.Waiting.{TriesBelow}
use Rattle.trace_calls.proofs.scan.scan.Given as goal

abbrev pub invariant-loop-row : goal.invariant-loop-row
invariant-loop-row g l =
    KeepsHandle l.fn.tracer l.tracer × Scanned l.request l.fn.tracer.view l.tracer.view l.row l.pending
    × TriesBelow l.request l.fn.tracer.view l.tracer.view l.row
