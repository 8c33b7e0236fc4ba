-- What halving asks for: nothing of neighbours; of other counts, what is midway, and what it asks for of the half with
-- which it goes on.
use Rattle.std.proofs.Common.{refl, ◌≡◌, ◌∙◌, ◌≤◌, ◌-◌, ◌⊎◌, ℕ, false, List, Option, Result, Ok, Err, IfOk}
use Rattle.std.proofs.Common.{ap, arith, inl, inr, slice_get, subst, sym}
use Rattle.outcome_text.specs.Halving.{IsAskedFrom, IsFirstUnmet, IsForbiddenText, IsHalved, lower, midway, upper}
use Rattle.outcome_text.specs.Halving.{whole}
use Rattle.outcome_text.specs.Searched.{CanMeet, HasMorePlacesWith, all_required, have_numbers_to}
use Rattle.outcome_text.specs.OutcomeText.{forbidden_line}
use Rattle.litmus_files.specs.LitmusFile.{LitmusContent}

-- this search has no more places than the budget
abbrev pub Few : LitmusContent → (budget count : ℕ) → Type 0
Few content budget count = HasMorePlacesWith content count budget → ⊥

-- all that halving from these counts asks for have no more places than the budget
abbrev pub AllFew : LitmusContent → (budget first last : ℕ) → Type 0
AllFew content budget first last = (count : ℕ) → IsAskedFrom content first last count → Few content budget count

-- ---- neighbours

stays_near : (content : LitmusContent) (first last low high : ℕ) → last - first ≤ 1
    → IsHalved content first last low high → high - low ≤ 1
stays_near content first last _ _ near whole = near
stays_near content first last _ _ near (lower low high is wide cannot) =
    let small = stays_near content first last low high near is in
    omega (arith, small, wide)
stays_near content first last _ _ near (upper low high is wide can) =
    let small = stays_near content first last low high near is in
    omega (arith, small, wide)

pub neighbours_are_few : (content : LitmusContent) (budget first last : ℕ) → last - first ≤ 1
    → AllFew content budget first last
neighbours_are_few content budget first last near count asked more =
    let small = stays_near content first last asked.low asked.high near asked.halved in
    let wide = asked.wide in
    omega (arith, small, wide)

-- ---- a half

-- halving comes to two counts from these: they are these, or it comes to them from the half with which it goes on
abbrev IsFromHalf : LitmusContent → (first last low high : ℕ) → Type 0
IsFromHalf content first last low high =
    ((low ≡ first) × (high ≡ last))
    ⊎ (((CanMeet content (midway first last) → ⊥) × IsHalved content first (midway first last) low high)
    ⊎ (CanMeet content (midway first last) × IsHalved content (midway first last) last low high))

midway_is : (first last low high : ℕ) → low ≡ first → high ≡ last → midway low high ≡ midway first last
midway_is first last low high low_is high_is = ap (λ l. midway l high) low_is ∙ ap (midway first) high_is

from_lower : (content : LitmusContent) (first last low high : ℕ) → low ≡ first → high ≡ last
    → (CanMeet content (midway low high) → ⊥) → IsFromHalf content first last low (midway low high)
from_lower content first last low high low_is high_is cannot =
    let mid : midway low high ≡ midway first last = midway_is first last low high low_is high_is in
    let half : IsHalved content first (midway first last) low (midway low high) =
    subst (λ l. IsHalved content first (midway first last) l (midway low high)) (sym low_is)
    (subst (IsHalved content first (midway first last) first) (sym mid) whole) in
    inr (inl (λ can. cannot (subst (CanMeet content) (sym mid) can), half))

from_upper : (content : LitmusContent) (first last low high : ℕ) → low ≡ first → high ≡ last
    → CanMeet content (midway low high) → IsFromHalf content first last (midway low high) high
from_upper content first last low high low_is high_is can =
    let mid : midway low high ≡ midway first last = midway_is first last low high low_is high_is in
    let half : IsHalved content (midway first last) last (midway low high) high =
    subst (λ l. IsHalved content (midway first last) last l high) (sym mid)
    (subst (IsHalved content (midway first last) last (midway first last)) (sym high_is) whole) in
    inr (inr (subst (CanMeet content) mid can, half))

from_half : (content : LitmusContent) (first last low high : ℕ) → IsHalved content first last low high
    → IsFromHalf content first last low high
from_half content first last _ _ whole = inl (refl, refl)
from_half content first last _ _ (lower low high is wide cannot) =
    elim (from_half content first last low high is) as (λ _. IsFromHalf content first last low (midway low high)) [
      | inl same ↦ from_lower content first last low high same.0 same.1 cannot
      | inr further ↦ elim further as (λ _. IsFromHalf content first last low (midway low high)) [
        | inl below ↦ inr (inl (below.0, lower low high below.1 wide cannot))
        | inr above ↦ inr (inr (above.0, lower low high above.1 wide cannot))
      ]
    ]
from_half content first last _ _ (upper low high is wide can) =
    elim (from_half content first last low high is) as (λ _. IsFromHalf content first last (midway low high) high) [
      | inl same ↦ from_upper content first last low high same.0 same.1 can
      | inr further ↦ elim further as (λ _. IsFromHalf content first last (midway low high) high) [
        | inl below ↦ inr (inl (below.0, upper low high below.1 wide can))
        | inr above ↦ inr (inr (above.0, upper low high above.1 wide can))
      ]
    ]

-- ---- all of a half are few, and what is midway is

first_is_few : (content : LitmusContent) (budget first last : ℕ)
    → (have_numbers_to (midway first last) content.lines ≡ false → Few content budget (midway first last))
    → (count : ℕ) (asked : IsAskedFrom content first last count) → asked.low ≡ first → asked.high ≡ last
    → Few content budget count
first_is_few content budget first last own count asked low_is high_is more =
    let is : count ≡ midway first last =
    asked.is_midway ∙ midway_is first last asked.low asked.high low_is high_is in
    own (subst (λ n. have_numbers_to n content.lines ≡ false) is asked.replies)
    (subst (λ n. HasMorePlacesWith content n budget) is more)

asked_from : (content : LitmusContent) (first last from to count : ℕ) (asked : IsAskedFrom content first last count)
    → IsHalved content from to asked.low asked.high → IsAskedFrom content from to count
asked_from content first last from to count asked halved = record {
  low = asked.low;
  high = asked.high;
  halved = halved;
  wide = asked.wide;
  is_midway = asked.is_midway;
  replies = asked.replies;
}

pub lower_are_few : (content : LitmusContent) (budget first last : ℕ) → (CanMeet content (midway first last) → ⊥)
    → (have_numbers_to (midway first last) content.lines ≡ false → Few content budget (midway first last))
    → AllFew content budget first (midway first last) → AllFew content budget first last
lower_are_few content budget first last cannot own half count asked more =
    elim (from_half content first last asked.low asked.high asked.halved) as (λ _. ⊥) [
      | inl same ↦ first_is_few content budget first last own count asked same.0 same.1 more
      | inr further ↦ elim further as (λ _. ⊥) [
        | inl below ↦
            half count (asked_from content first last first (midway first last) count asked below.1) more
        | inr above ↦ cannot above.0
      ]
    ]

pub upper_are_few : (content : LitmusContent) (budget first last : ℕ) → CanMeet content (midway first last)
    → (have_numbers_to (midway first last) content.lines ≡ false → Few content budget (midway first last))
    → AllFew content budget (midway first last) last → AllFew content budget first last
upper_are_few content budget first last can own half count asked more =
    elim (from_half content first last asked.low asked.high asked.halved) as (λ _. ⊥) [
      | inl same ↦ first_is_few content budget first last own count asked same.0 same.1 more
      | inr further ↦ elim further as (λ _. ⊥) [
        | inl below ↦ below.0 can
        | inr above ↦ half count (asked_from content first last (midway first last) last count asked above.1) more
      ]
    ]

-- ---- what halving asks for of a half, it asks for of the whole

below_whole : (content : LitmusContent) (first last : ℕ) → 2 ≤ last - first
    → (CanMeet content (midway first last) → ⊥) → (low high : ℕ)
    → IsHalved content first (midway first last) low high → IsHalved content first last low high
below_whole content first last wide cannot _ _ whole = lower first last whole wide cannot
below_whole content first last wide cannot _ _ (lower low high is more none) =
    lower low high (below_whole content first last wide cannot low high is) more none
below_whole content first last wide cannot _ _ (upper low high is more some) =
    upper low high (below_whole content first last wide cannot low high is) more some

above_whole : (content : LitmusContent) (first last : ℕ) → 2 ≤ last - first → CanMeet content (midway first last)
    → (low high : ℕ) → IsHalved content (midway first last) last low high → IsHalved content first last low high
above_whole content first last wide can _ _ whole = upper first last whole wide can
above_whole content first last wide can _ _ (lower low high is more none) =
    lower low high (above_whole content first last wide can low high is) more none
above_whole content first last wide can _ _ (upper low high is more some) =
    upper low high (above_whole content first last wide can low high is) more some

pub asked_below : (content : LitmusContent) (first last : ℕ) → 2 ≤ last - first
    → (CanMeet content (midway first last) → ⊥) → (count : ℕ)
    → IsAskedFrom content first (midway first last) count → IsAskedFrom content first last count
asked_below content first last wide cannot count asked =
    asked_from content first (midway first last) first last count asked
    (below_whole content first last wide cannot asked.low asked.high asked.halved)

pub asked_above : (content : LitmusContent) (first last : ℕ) → 2 ≤ last - first → CanMeet content (midway first last)
    → (count : ℕ) → IsAskedFrom content (midway first last) last count → IsAskedFrom content first last count
asked_above content first last wide can count asked =
    asked_from content (midway first last) last first last count asked
    (above_whole content first last wide can asked.low asked.high asked.halved)

-- ---- what holds of a call that succeeded

pub still_ok : {T E : Type 0} (result : Result T E) (P Q : Type 0) → (P → Q) → IfOk result (λ _. P)
    → IfOk result (λ _. Q)
still_ok {T} {E} (Ok value) P Q step holds = step holds
still_ok {T} {E} (Err error) P Q step holds = holds

-- ---- what is told

pub line_told : {T E : Type 0} (bytes : T → List ℕ) (content : LitmusContent) (budget count : ℕ) (line : Option ℕ)
    (result : Result T E) → IsFirstUnmet content count → AllFew content budget 0 (all_required content)
    → line ≡ slice_get content.requirements (count - 1) → IfOk result (λ text. bytes text ≡ forbidden_line line)
    → IfOk result (λ text. IsForbiddenText budget content (bytes text))
line_told {T} {E} bytes content budget count line (Ok text) first few is written =
    inl (count, first, few, written ∙ ap forbidden_line is)
line_told {T} {E} bytes content budget count line (Err error) first few is written = written
