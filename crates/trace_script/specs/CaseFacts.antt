-- What is known of every case that a file has.
use Rattle.std.specs.Prelude.{◌≡◌, ◌+◌, ◌≤◌, ◌∷◌, [], ℕ, Bool, true, false, List, length, Some}
use Rattle.stop_history.specs.declared.roster.Row.{Row}
use Rattle.stop_history.specs.History.{names_next}
use Rattle.stop_history.specs.Roster.{IsRoster}
use Rattle.trace_script.specs.declared.limits.TheConstants.{MOST_STEPS}
pub use Rattle.trace_script.specs.Births.{born_by}
use Rattle.trace_script.specs.CaseFile.{CaseContent, is_alone}
pub use Rattle.trace_script.specs.Fills.{AreFillsMapped, HasMappedFills, IsFillMapped, IsMappedIn, memory_after}
use Rattle.trace_script.specs.Script.{Fill, Script, Step}
use Rattle.trace_script.specs.Script as step
use Rattle.trace_script.specs.Signals.{can_arrive}

-- each signal of the steps is one that can arrive
abbrev pub IsStep : Step → Type 0
IsStep (step.Signal signal deadly) = can_arrive signal ≡ true
IsStep other = Unit {0}

abbrev pub AreSteps : List Step → Type 0
AreSteps [] = Unit {0}
AreSteps (step ∷ steps) = IsStep step × AreSteps steps

-- each of these tids is the next child of a row that has created this many
abbrev pub AreNext : List Row → (row births : ℕ) → List ℕ → Type 0
AreNext rows row births [] = Unit {0}
AreNext rows row births (child ∷ children) =
    (names_next rows row births (Some child) ≡ true) × AreNext rows row (births + 1) children

abbrev pub is_exec : Step → Bool
is_exec (step.Exec path image) = true
is_exec other = false

-- an exec is in a thread group of one row
abbrev pub AreAlone : List Row → (row : ℕ) → List Step → Type 0
AreAlone rows row [] = Unit {0}
AreAlone rows row (step ∷ steps) = (is_exec step ≡ true → is_alone rows row ≡ true) × AreAlone rows row steps

-- the script of a row
pub record IsScript (rows : List Row) (row : ℕ) (script : Script) : Type 0 where
  pub few : length script.steps ≤ MOST_STEPS
  pub signals : AreSteps script.steps
  pub fills : HasMappedFills script
  pub births : AreNext rows row 0 (born_by script.steps)
  pub alone : AreAlone rows row script.steps

-- the scripts of rows from a place on
abbrev pub AreScripts : List Row → (row : ℕ) → List Script → Type 0
AreScripts rows row [] = Unit {0}
AreScripts rows row (script ∷ scripts) = IsScript rows row script × AreScripts rows (row + 1) scripts

pub record IsCase (content : CaseContent) : Type 0 where
  pub roster : IsRoster content.rows
  pub each : length content.scripts ≡ length content.rows
  pub scripts : AreScripts content.rows 0 content.scripts
