-- A guess that has the thread id is its row: a roster has each thread id once.
use Rattle.stop_history.specs.Roster.{nobody}
use Rattle.replay_files.proofs.Guesses.{guessed}
use Rattle.replay_files.proofs.reading.row_of.Goals as goal

pub returns-in-Some : goal.returns-in-Some
returns-in-Some g c =
    let found = c.in-Some.ensures.lookup.3 in
    guessed c.args.rows.now c.rows.result.now _ c.args.tid c.in-Some.row.now c.rows.ensures.roster c.rows.ensures.rows
    found.0 (found.1 nobody) c.if-row-tid.true
