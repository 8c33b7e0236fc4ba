-- The record of a row has the row's thread id and the number of its last stop.
use Rattle.stop_table.proofs.Entries.{content_number}
use Rattle.stop_table.proofs.laws.a_record_is_its_rows.Goals as goal

pub returns : goal.returns
returns c = λ rows h legal row. let both = content_number rows h legal row in (both.1, both.0)
