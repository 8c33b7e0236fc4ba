-- How many stops acts can still make; with the number of the last stop, a bound on all numbers of a tracee.
use Rattle.std.specs.Prelude.{◌+◌, ◌≤◌, ◌∷◌, [], ℕ, List}
use Rattle.trace_script.specs.StepStops.{Act, Halts, Loads, Calls, Becomes, Stores, Answers, Delivers, Exits, Dies}
use Rattle.trace_script.specs.StopTrace.{Position}

-- the places at which a tracee may stop
abbrev pub stops_in : List Act → ℕ
stops_in [] = 0
stops_in (Halts when at ∷ acts) = stops_in acts + 1
stops_in (Loads image ∷ acts) = stops_in acts
stops_in (Calls nr arguments ∷ acts) = stops_in acts
stops_in (Becomes image ∷ acts) = stops_in acts
stops_in (Stores fill ∷ acts) = stops_in acts
stops_in (Answers answer ∷ acts) = stops_in acts
-- before the death, where the signal kills
stops_in (Delivers ∷ acts) = stops_in acts + 1
stops_in (Exits death ∷ acts) = stops_in acts + 1
stops_in (Dies death ∷ acts) = stops_in acts

-- no stop from a position on has a number above this one
abbrev pub IsWithin : ℕ → Position → Type 0
IsWithin most p = p.number + stops_in p.left ≤ most
