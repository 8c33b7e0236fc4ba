-- What a tracee's end has in hand of its row.
use Rattle.std.specs.Prelude.{ℕ, Bool, true, false}
use Rattle.c_interface.specs.declared.hand.Hand.{Hand}
use Rattle.c_interface.specs.declared.hand.Hand.TheVariants as hand

abbrev pub is_taken : Hand → Bool
is_taken hand.AtRest = false
is_taken (hand.Taken held) = true
is_taken hand.Ended = false

-- the thread id and the number of the record in hand, or these where there is none
abbrev pub tid_in_hand : Hand → ℕ → ℕ
tid_in_hand hand.AtRest tid = tid
tid_in_hand (hand.Taken held) tid = held.stopped.tid
tid_in_hand hand.Ended tid = tid

abbrev pub number_in_hand : Hand → ℕ → ℕ
number_in_hand hand.AtRest number = number
number_in_hand (hand.Taken held) number = held.stopped.number
number_in_hand hand.Ended number = number
