-- The line that makes a litmus file forbidden, by halving.
use Rattle.std.specs.Prelude.{◌≡◌, ◌≤◌, ◌+◌, ◌-◌, ◌/◌, ◌⊎◌, ℕ, false, None, slice_get, List}
use Rattle.litmus_files.specs.LitmusFile.{LitmusContent}
use Rattle.outcome_text.specs.OutcomeText.{forbidden_line}
use Rattle.outcome_text.specs.Searched.{CanMeet, HasMorePlacesWith, all_required, have_numbers_to}

-- no run has the first n; some run has those before the last of them, if there are any
pub record IsFirstUnmet (content : LitmusContent) (count : ℕ) : Type 0 where
  pub some : 1 ≤ count
  pub few : count ≤ all_required content
  pub before : (count ≡ 1) ⊎ CanMeet content (count - 1)
  pub unmet : ¬ CanMeet content count

-- as many as are midway between two counts, rounded down
abbrev pub midway : (low high : ℕ) → ℕ
midway low high = low + (high - low) / 2

-- two counts that halving comes to from two others: these, and then, while they are not neighbours, one of the last two
-- and what is midway between them: the first where not all down to midway can be met, the second where they can
pub data IsHalved (content : LitmusContent) (first last : ℕ) : (low high : ℕ) → Type 0 where
  whole : IsHalved content first last first last
  lower : (low high : ℕ) → IsHalved content first last low high → 2 ≤ high - low
      → ¬ CanMeet content (midway low high) → IsHalved content first last low (midway low high)
  upper : (low high : ℕ) → IsHalved content first last low high → 2 ≤ high - low
      → CanMeet content (midway low high) → IsHalved content first last (midway low high) high

-- halving from these two counts, it is searched for whether the first n can be met: n is midway, and some command has a
-- reply that is not among them
pub record IsAskedFrom (content : LitmusContent) (first last count : ℕ) : Type 0 where
  pub low : ℕ
  pub high : ℕ
  pub halved : IsHalved content first last low high
  pub wide : 2 ≤ high - low
  pub is_midway : count ≡ midway low high
  pub replies : have_numbers_to count content.lines ≡ false

-- that is searched for, where it begins with none of them and all
abbrev pub IsAsked : LitmusContent → (count : ℕ) → Type 0
IsAsked content count = IsAskedFrom content 0 (all_required content) count

-- what is said where not all can be met: the line of the first one with which those down to it cannot; or no line,
-- where a search that halving asks for has more places than the budget, and only there
abbrev pub IsForbiddenText : (budget : ℕ) → LitmusContent → (text : List ℕ) → Type 0
IsForbiddenText budget content text =
    ((count : ℕ) × IsFirstUnmet content count
    × ((asked : ℕ) → IsAsked content asked → ¬ HasMorePlacesWith content asked budget)
    × (text ≡ forbidden_line (slice_get content.requirements (count - 1))))
    ⊎ (((count : ℕ) × IsAsked content count × HasMorePlacesWith content count budget) × (text ≡ forbidden_line None))
