-- The lines of a row, printed from the contents of its stops and its death (strace(1)).
use Rattle.std.specs.Prelude.{map, option_map}
use Rattle.record_printer.specs.DeathLine.{death_text}
use Rattle.record_printer.specs.PrintedRow.{row_lines}
use Rattle.record_printer.specs.StopNote.{stop_note}
use Rattle.record_printer.specs.declared.call.show.Show.{Show}
use Rattle.tracer_workers.specs.CaseText.{Printer}

abbrev pub printed_lines : Show → Printer
printed_lines show tid contents death = row_lines (map (stop_note show) contents) (option_map (death_text tid) death)
