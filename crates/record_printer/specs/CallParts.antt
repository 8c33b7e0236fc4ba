-- The parts of a call's line as the program keeps them, several in one vector.
use Rattle.std.specs.Prelude.{◌≤◌, ℕ, ⊤, true, Option, Some, None, List, drop, length, take}
use Rattle.record_printer.specs.Note.{CallStart, CallEnd}

-- ---- a text, and behind it from a place on another, if there is such a place

abbrev pub front : Option ℕ → List ℕ → List ℕ
front None bytes = bytes
front (Some place) bytes = take place bytes

abbrev pub behind : Option ℕ → List ℕ → Option (List ℕ)
behind None bytes = None
behind (Some place) bytes = Some (drop place bytes)

-- the place is one of the text
abbrev pub IsPlace : Option ℕ → List ℕ → Type 0
IsPlace None bytes = ⊤
IsPlace (Some place) bytes = place ≤ length bytes

-- ---- calls

-- the line of a call up to its result, with a gap for the argument whose bytes come out of it, and the address of that
-- argument behind the line
abbrev pub start_in : ℕ → List ℕ → ℕ → Option ℕ → CallStart
start_in number bytes gap address = record {
  shown = true;
  number = number;
  before = take gap (front address bytes);
  out = behind address bytes;
  after = drop gap (front address bytes);
}

-- the result of a call, and the bytes that came out of it behind that
abbrev pub end_in : ℕ → List ℕ → Option ℕ → CallEnd
end_in number bytes out = record { number = number; out = behind out bytes; result = front out bytes }
