-- What each stop of a row gives to the printed text, and the line of a call (strace(1)).
use Rattle.std.specs.Prelude.{◌++◌, ◌==◌, ℕ, Bool, Option, Some, None, List, [], ◌∷◌, codes, if◌then◌else◌}

-- how a call starts: whether calls of its number are printed, its number, its line up to the argument whose bytes come
-- out of the call, the address of that argument if there is one, and the line from there to the result
pub record CallStart : Type 0 where
  pub shown : Bool
  pub number : ℕ
  pub before : List ℕ
  pub out : Option (List ℕ)
  pub after : List ℕ

-- how it ends: its number, the bytes that came out of it, where they are all there, and its result
pub record CallEnd : Type 0 where
  pub number : ℕ
  pub out : Option (List ℕ)
  pub result : List ℕ

-- what is noted of a stop: the start of a call at a syscall-enter-stop or at a seccomp stop, the end of a call at a
-- syscall-exit-stop, the line of a signal, the creation of a child, or nothing
pub data Note : Type 0 where
  Enter : (start : CallStart) → Note
  Seccomp : (start : CallStart) → Note
  Exit : (end : CallEnd) → Note
  Signal : (line : List ℕ) → Note
  Birth : (child : ℕ) → Note
  Quiet : Note

-- the stops of a row: the note of each number that has one
abbrev pub Stops : Type 0
Stops = ℕ → Option Note

-- ---- the line of a call

-- the argument whose bytes come out: these bytes, or else its address; no text where a call has none
abbrev pub out_text : Option (List ℕ) → Option (List ℕ) → List ℕ
out_text None came = []
out_text (Some address) None = address
out_text (Some address) (Some bytes) = bytes

-- what came out of a call, where the end is that of a call with the same number
abbrev pub came_out : CallStart → CallEnd → Option (List ℕ)
came_out start end = if start.number == end.number then end.out else None

-- the line of a call that is printed, with a line feed
abbrev pub line_with : CallStart → Option (List ℕ) → List ℕ → List ℕ
line_with start came result =
    if start.shown then start.before ++ (out_text start.out came ++ (start.after ++ (result ++ 10 ∷ []))) else []

-- the line of a call that has ended
abbrev pub ended_line : CallStart → CallEnd → List ℕ
ended_line start end = line_with start (came_out start end) end.result

-- the line of a call in which its row died
abbrev pub unfinished_line : CallStart → List ℕ
unfinished_line start = line_with start None (codes "?")
