-- The piece of a stop or a death as the program keeps it, read as plain data.
use Rattle.std.specs.Prelude.{ℕ}
use Rattle.record_printer.specs.NoteOf.{note_of}
use Rattle.record_printer.specs.Piece.{Piece, Stopped, Died}
use Rattle.record_printer.specs.declared.piece.Given.{Given}
use Rattle.record_printer.specs.declared.piece.Given.TheVariants as given

abbrev pub piece_of : {Z : Type 0} → (tid number : ℕ) → Given Z → Piece
piece_of tid number (given.Stop note) = Stopped tid number (note_of note)
piece_of tid number (given.Death death) = Died tid number death
