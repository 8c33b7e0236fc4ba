-- What it means that words represent a history: each row's word is the one that the history leaves.
use Rattle.std.specs.Prelude.{◌≡◌, ℕ, Bool, true, false, List, length, Some, ◌<◌, slice_get, slice_index, slice_set}
use Rattle.std.specs.Prelude.{EachIndex}
use Rattle.stop_history.specs.declared.roster.Row.{Row}
use Rattle.stop_history.specs.Word.{Word}
use Rattle.stop_history.specs.declared.state.State.TheVariants as state
use Rattle.stop_history.specs.Change.{Change, Happened, Nothing, TakenUp, taken_up, word_after_event}
use Rattle.stop_history.specs.Event.{History, subject}
use Rattle.stop_history.specs.Layout.{raw_of}
use Rattle.stop_history.specs.State.{state_after}
use Rattle.stop_history.specs.History.{IsLegal}
use Rattle.stop_history.specs.Word.{word_after}

-- `taken` is the set of rows whose tracees have taken them up
pub record AreAt (rows : List Row) (words : List Word) (taken : ℕ → Bool) (h : History) : Type 0 where
  pub legal : IsLegal rows h
  pub held : EachIndex rows (λ row. slice_get words row ≡ Some (word_after taken h row))
  pub up : (row : ℕ) → taken row ≡ true → state_after rows h row ≡ state.Running

-- the bits of words stand for the rows, one number for each from place 0 on
abbrev pub AreBits : List Row → (bits : List ℕ) → (taken : ℕ → Bool) → History → Type 0
AreBits rows bits taken h = (row : ℕ) → row < length rows → slice_index bits row ≡ raw_of (word_after taken h row)

-- the bits after a change, from the words before it
abbrev pub bits_with : Change → (ℕ → Word) → List ℕ → List ℕ
bits_with Nothing words bits = bits
bits_with (TakenUp row) words bits = slice_set bits row (raw_of (taken_up (words row)))
bits_with (Happened e) words bits = slice_set bits (subject e) (raw_of (word_after_event (words (subject e)) e))

-- no row
abbrev pub none_taken : ℕ → Bool
none_taken row = false
