-- What a table names has what each of its values has.
use Rattle.std.proofs.Common.{◌∷◌, [], ℕ, Bool, true, false, List, Result, Ok, IfOk, bytes_eq, cond, map}
use Rattle.text_lines.specs.declared.fault.LineFault.{LineFault}
use Rattle.text_lines.specs.Keywords.{value_beside}
use Rattle.trace_record.specs.Stop.{IsStop}
use Rattle.replay_files.specs.declared.grammar.TheConstants.{PLAIN_STOPS}
use Rattle.replay_files.specs.Grammar.{plain_stop}

abbrev EachValue : {T : Type 0} → (T → Type 0) → List (List ℕ × T) → Type 0
EachValue P [] = Unit {0}
EachValue P (row ∷ rows) = P row.1 × EachValue P rows

first_or_later : {T : Type 0} (P : T → Type 0) (is : Bool) (value : T) (later : Result T LineFault) → P value
    → IfOk later P → IfOk (cond is (Ok value) later) P
first_or_later P true value later first rest = first
first_or_later P false value later first rest = rest

from_table : {T : Type 0} (P : T → Type 0) (table : List (List ℕ × T)) (word : List ℕ) → EachValue P table
    → IfOk (value_beside table word) P
from_table P [] word h = tt
from_table P (row ∷ rows) word h =
    first_or_later P (bytes_eq word row.0) row.1 (value_beside rows word) h.0 (from_table P rows word h.1)

-- the stops that are one word are in range
pub plain_range : (word : List ℕ) → IfOk (plain_stop word) IsStop
plain_range word = from_table IsStop (map (λ row. (row.0.now, row.1)) PLAIN_STOPS) word (tt, (tt, (tt, tt)))
