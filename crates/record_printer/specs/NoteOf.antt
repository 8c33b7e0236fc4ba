-- The note of a stop as the program keeps it, read as plain data.
use Rattle.record_printer.specs.Note.{Note}
use Rattle.record_printer.specs.Note as note
use Rattle.record_printer.specs.declared.piece.note.Note.{Note as KeptNote}
use Rattle.record_printer.specs.declared.piece.note.Note.TheVariants as kept

abbrev pub note_of : {Z : Type 0} → KeptNote Z → Note
note_of (kept.Enter start) = note.Enter start
note_of (kept.Seccomp start) = note.Seccomp start
note_of (kept.Exit end) = note.Exit end
note_of (kept.Signal line) = note.Signal line.items
note_of (kept.Birth child) = note.Birth child
note_of kept.Quiet = note.Quiet
