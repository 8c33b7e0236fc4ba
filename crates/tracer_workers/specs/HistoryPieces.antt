-- The pieces of a run: what its history's publishes and exits give to the text. The newest entry stands first, and so does
-- the newest piece.
use Rattle.std.specs.Prelude.{◌∷◌, [], List}
use Rattle.trace_record.specs.Content.{Content}
use Rattle.stop_history.specs.declared.roster.Row.{Row}
use Rattle.stop_history.specs.Event as event
use Rattle.stop_history.specs.Event.{Event}
use Rattle.stop_history.specs.Roster.{row_at}
use Rattle.stop_history.specs.State.{last_number}
use Rattle.stop_table.specs.Entry.{Entry, history_of}
use Rattle.record_printer.specs.Piece.{Piece, Stopped, Died}
use Rattle.record_printer.specs.StopNote.{stop_note}
use Rattle.record_printer.specs.declared.call.show.Show.{Show}

-- the piece of a stop
abbrev pub stop_piece : Show → Content → Piece
stop_piece show content = Stopped content.tid content.number (stop_note show content)

abbrev pub pieces_with : Show → List Row → List Entry → Event → Content → List Piece → List Piece
pieces_with show rows h (event.Publish row number stop) content pieces =
    Stopped (row_at rows row).tid number (stop_note show content) ∷ pieces
pieces_with show rows h (event.Exit row death) content pieces =
    Died (row_at rows row).tid (last_number (history_of h) row) death ∷ pieces
pieces_with show rows h (event.Claim row number tracer) content pieces = pieces
pieces_with show rows h (event.Resume row number how tracer) content pieces = pieces

abbrev pub pieces_of : Show → List Row → List Entry → List Piece
pieces_of show rows [] = []
pieces_of show rows (x ∷ h) = pieces_with show rows h x.event x.content (pieces_of show rows h)
