-- What an attempt to claim a row answers (waitid(2): a stop, and a death with WEXITED).
use Rattle.std.specs.Prelude.{◌≡◌, ◌⊎◌, ℕ, Bool, true, false}
use Rattle.stop_table.specs.declared.shown.Shown.{Shown}
use Rattle.stop_table.specs.declared.claim.Claim.{Claim}
use Rattle.stop_table.specs.declared.claim.Taken.{Taken}
use Rattle.stop_table.specs.declared.claim.Taken.TheVariants as taken
use Rattle.stop_table.specs.Handle.{Claims, IsHolding, LooksLast, LosesAt, LosesClaim, Reaps, is_claimable}
use Rattle.stop_table.specs.View.{View}

-- all of a claim but its record is as it was
abbrev pub IsSameClaim : {A : Type 0} → Claim A → Claim A → Type 0
IsSameClaim before after = (after.row ≡ before.row) × (after.word ≡ before.word) × (after.tracer ≡ before.tracer)

-- An attempt that gets nothing either makes no exchange of the row's word, and shows what stood at its last look; or it
-- makes one, and loses it: then it shows what stood directly after the other's claim.
abbrev pub GetsNothing : View → View → ℕ → Shown → Type 0
GetsNothing v w row a = LooksLast v w row a ⊎ LosesClaim v w row a

-- the stop was claimed, or the death where deaths are asked for; or there was nothing to claim, as the answer shows
abbrev pub IsTaken : {A : Type 0} → (deaths : Bool) → View → View → ℕ → Taken A → Type 0
IsTaken deaths v w row (taken.Stop claim) =
    Claims v w row claim.stop × IsHolding w row claim.word claim.stop
    × (claim.row ≡ row) × (claim.tracer ≡ v.number)
IsTaken deaths v w row (taken.Ended death number) = Reaps v w row death number × (deaths ≡ true)
IsTaken deaths v w row (taken.Nothing a) = GetsNothing v w row a × (is_claimable deaths a ≡ false)

-- the same of an attempt to claim what a look has just shown: it gets nothing only where another's claim came first
abbrev pub IsTakenOrLost : {A : Type 0} → (deaths : Bool) → View → View → ℕ → Taken A → Type 0
IsTakenOrLost deaths v w row (taken.Nothing a) = LosesAt v w row a × (is_claimable deaths a ≡ false)
IsTakenOrLost deaths v w row other = IsTaken deaths v w row other
