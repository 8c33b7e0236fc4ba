-- Deaths and the raw values that report them.
use Rattle.std.proofs.Common.{◌≡◌, ℕ, true, false, ap, arith}
use Rattle.trace_record.specs.Death.{IsDeath, death_status}
use Rattle.trace_record.specs.declared.death.Death.{Death}
use Rattle.trace_record.specs.declared.death.Death.TheVariants.{Exited, Signaled}

-- no two deaths have one raw value
pub same_death : (a b : Death) → IsDeath a → IsDeath b → death_status a ≡ death_status b → a ≡ b
same_death (Exited code) (Exited other) is of same = let one : code ≡ other = omega arith in
    ap (λ (n : ℕ). Exited n) one
same_death (Exited code) (Signaled signal true) is of same = absurd (omega arith)
same_death (Exited code) (Signaled signal false) is of same = absurd (omega arith)
same_death (Signaled signal true) (Exited code) is of same = absurd (omega arith)
same_death (Signaled signal false) (Exited code) is of same = absurd (omega arith)
same_death (Signaled signal true) (Signaled other true) is of same = let one : signal ≡ other = omega arith in
    ap (λ (n : ℕ). Signaled n true) one
same_death (Signaled signal false) (Signaled other false) is of same = let one : signal ≡ other = omega arith in
    ap (λ (n : ℕ). Signaled n false) one
same_death (Signaled signal true) (Signaled other false) is of same = absurd (omega arith)
same_death (Signaled signal false) (Signaled other true) is of same = absurd (omega arith)
