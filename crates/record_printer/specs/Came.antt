-- What the pieces that came say of the row of a thread id. They are in the order in which they came, the newest first;
-- no answer depends on that order.
use Rattle.std.specs.Prelude.{◌==◌, ◌&&◌, ℕ, Bool, false, Option, Some, None, List, [], ◌∷◌, max, if◌then◌else◌}
use Rattle.record_printer.specs.Note.{Note, Birth}
use Rattle.record_printer.specs.Piece.{Piece, Stopped, Died}
use Rattle.record_printer.specs.declared.fold.ending.Ending.{Ending}

-- the note of its stop with a number
abbrev pub stop_of : ℕ → List Piece → ℕ → Option Note
stop_of tid [] number = None
stop_of tid (Stopped t n note ∷ pieces) number =
    if t == tid && n == number then Some note else stop_of tid pieces number
stop_of tid (Died t n death ∷ pieces) number = stop_of tid pieces number

-- its death, with the number of its last stop
abbrev pub ending_of : ℕ → List Piece → Option Ending
ending_of tid [] = None
ending_of tid (Stopped t n note ∷ pieces) = ending_of tid pieces
ending_of tid (Died t n death ∷ pieces) =
    if t == tid then Some (record { number = n; death = death }) else ending_of tid pieces

-- the greatest number of its stops, 0 without one
abbrev pub last_of : ℕ → List Piece → ℕ
last_of tid [] = 0
last_of tid (Stopped t n note ∷ pieces) = if t == tid then max (last_of tid pieces) n else last_of tid pieces
last_of tid (Died t n death ∷ pieces) = last_of tid pieces

-- the child that a stop creates
abbrev pub child_noted : Note → Option ℕ
child_noted (Birth child) = Some child
child_noted _ = None

abbrev pub is_child : ℕ → Option ℕ → Bool
is_child tid None = false
is_child tid (Some child) = child == tid

-- a stop that creates the thread
abbrev pub names : ℕ → Piece → Bool
names tid (Stopped t n note) = is_child tid (child_noted note)
names tid (Died t n death) = false

abbrev pub is_of : ℕ → Piece → Bool
is_of tid (Stopped t n note) = t == tid
is_of tid (Died t n death) = t == tid
