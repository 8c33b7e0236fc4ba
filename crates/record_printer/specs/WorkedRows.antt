-- Rows that were worked out by hand: getpid(2) with a signal inside it, and the same without its end.
use Rattle.std.specs.Prelude.{◌++◌, true, None, List, ℕ, [], ◌∷◌, codes}
use Rattle.record_printer.specs.Note.{CallStart, CallEnd}

abbrev pub getpid : CallStart
getpid =
    record { shown = true; number = 39; before = codes "100 getpid("; out = None; after = codes ") = " }

abbrev pub hundred : CallEnd
hundred = record { number = 39; out = None; result = codes "100" }

-- a text as a line
abbrev pub line : List ℕ → List ℕ
line text = text ++ 10 ∷ []

abbrev pub sigusr1_line : List ℕ
sigusr1_line = line (codes "100 --- SIGUSR1 ---")

abbrev pub exited_line : List ℕ
exited_line = line (codes "100 +++ exited with 0 +++")
