-- What a one-thread board holds, and the history that it represents.
use Rattle.std.specs.Prelude.{◌≡◌, List, length}
use Rattle.stop_history.specs.Event.{History}
use Rattle.stop_history.specs.Roster.{IsRoster}
use Rattle.stop_history.specs.Standing.{AreAt, none_taken}
use Rattle.stop_history.specs.Word.{Word}
use Rattle.stop_history.specs.declared.roster.Row.{Row}

-- its rows, and the word of each
pub record Held : Type 0 where
  pub rows : List Row
  pub words : List Word

-- whatever the history: a word for each row of a roster
pub record IsHeld (rows : List Row) (words : List Word) : Type 0 where
  pub roster : IsRoster rows
  pub each : length words ≡ length rows

-- the board represents a history; nobody takes a row up on a board
abbrev pub StandsAfter : Held → History → Type 0
StandsAfter board h = AreAt board.rows board.words none_taken h
