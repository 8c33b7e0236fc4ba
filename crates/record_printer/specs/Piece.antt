-- What a stop or a death of a row gives to the text of a trace.
use Rattle.std.specs.Prelude.{ℕ}
use Rattle.trace_record.specs.declared.death.Death.{Death}
use Rattle.record_printer.specs.Note.{Note}

-- a stop: the tid of its row, its number, and its note; a death: the tid, the number of the row's last stop, and the
-- death itself
pub data Piece : Type 0 where
  Stopped : (tid number : ℕ) (note : Note) → Piece
  Died : (tid number : ℕ) (death : Death) → Piece
