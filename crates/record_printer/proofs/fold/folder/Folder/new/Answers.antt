use Rattle.record_printer.proofs.Pieces.{keeps_none}
use Rattle.stop_history.specs.Roster.{row_at}
use Rattle.record_printer.proofs.fold.folder.Folder.new.Goals as goal

pub returns-clause-empty : goal.returns-clause-empty
returns-clause-empty g c =
    record {
      taken = tt;
      each = λ row within. rw (c.in_ok-kept.ensures.new row) (keeps_none (row_at c.in_ok-rows.rows.items row).tid);
    }
