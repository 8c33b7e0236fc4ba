-- The members of a set of calls.
use Rattle.std.proofs.Common.{◌≡◌, ◌==◌, ◌||◌, ℕ, ◌-◌, ◌*◌, ◌%◌, ◌<◌, ◌≤◌, ◌^◌, true, false, inl, inr, refl}
use Rattle.std.proofs.Common.{arith}
use Rattle.std.specs.Int.{w128}
use Rattle.std.specs.Int.RustNames.{bit_or}
use Rattle.std.proofs.lemmas.Bool.{cases_lt, lt-ltb, le-ltb}
use Rattle.std.proofs.lemmas.Bool.Decides.{eqb_tells, nat_tests}
use Rattle.std.proofs.lemmas.Nat.Bits.{bit_at_ones, bit_at_set_same, bit_at_set_other}
use Rattle.trace_options.specs.Calls.{Calls, has_call}
use Rattle.trace_options.specs.declared.call_set.TheConstants.{NAMED_CALLS}

-- the set of all calls
every_call : Calls
every_call = record { named = 2 ^ 128 - 1; others = true }

pub has_call-all : (nr : ℕ) → has_call (record { named = 2 ^ 128 - 1; others = true }) nr ≡ true
unfolding every_call
has_call-all nr = elim (cases_lt nr NAMED_CALLS) as (λ _. has_call every_call nr ≡ true) [
  | inl below ↦ rw (lt-ltb nr NAMED_CALLS below, bit_at_ones 128 nr below) refl
  | inr above ↦ rw (le-ltb nr NAMED_CALLS above) refl
]

-- one more call with a bit of its own is in the set
with_call : Calls → ℕ → Calls
with_call calls nr = record { named = bit_or calls.named (1 * 2 ^ nr % 2 ^ 128); others = calls.others }

abbrev IsAdded : Calls → ℕ → ℕ → Type 0
IsAdded calls nr other = has_call (with_call calls nr) other ≡ (other == nr || has_call calls other)

has_named : (calls : Calls) (nr other : ℕ) → nr < NAMED_CALLS → other < NAMED_CALLS → IsAdded calls nr other
unfolding with_call
has_named calls nr other below low = elim (eqb_tells other nr) as (λ _. IsAdded calls nr other) [
  | inl same ↦ rw (same.0, same.1, lt-ltb nr NAMED_CALLS below, bit_at_set_same w128 calls.named nr below) refl
  | inr differ ↦
      let apart = differ.1 in
      rw (differ.0, lt-ltb other NAMED_CALLS low, bit_at_set_other w128 calls.named nr below other apart) refl
]

has_other : (calls : Calls) (nr other : ℕ) → nr < NAMED_CALLS → NAMED_CALLS ≤ other → IsAdded calls nr other
unfolding with_call
has_other calls nr other below high =
    let apart : (other == nr) ≡ false = grind (arith, nat_tests) in
    rw (apart, le-ltb other NAMED_CALLS high) refl

pub has_call-add : (calls : Calls) (nr other : ℕ) → nr < NAMED_CALLS
    → has_call (record { named = bit_or calls.named (1 * 2 ^ nr % 2 ^ 128); others = calls.others }) other
    ≡ (other == nr || has_call calls other)
unfolding with_call
has_call-add calls nr other below = elim (cases_lt other NAMED_CALLS) as (λ _. IsAdded calls nr other) [
  | inl low ↦ has_named calls nr other below low
  | inr high ↦ has_other calls nr other below high
]
