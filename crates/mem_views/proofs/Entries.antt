-- The entries of an array of struct iovec.
use Rattle.std.proofs.Common.{[], ◌∷◌, ◌++◌, ◌≡◌, ℕ, suc, ◌+◌, ◌-◌, ◌<◌, ◌≤◌, ◌^◌}
use Rattle.std.proofs.Common.{List, length, take, drop, map, refl, sym, ap, ◌∙◌, arith}
use Rattle.std.specs.Int.{w64, from_le_bytes}
use Rattle.std.specs.List.{range_with_len}
use Rattle.std.proofs.Math.Seq.{drop-append_seam}
use Rattle.trace_pages.specs.FlatMemory.{FlatMemory, Full, Absent, Top, run, run_end}
use Rattle.trace_pages.proofs.Runs.{length-run-Full, run_end-Full, run_end-top}
use Rattle.mem_views.specs.declared.end.End.{End}
use Rattle.mem_views.specs.declared.end.End.TheVariants as ended
use Rattle.mem_views.specs.declared.iovecs.Item.{Item}
use Rattle.mem_views.specs.declared.iovecs.Item.TheVariants.{Iov, Broken}
use Rattle.mem_views.specs.ByteView.{bytes_end}
use Rattle.mem_views.specs.IovecView.{entry_by, until_broken}
use Rattle.mem_views.proofs.Parts.{run-append, run-take, run_end-append, run_end-front}

-- ---- the items from an index on
next_item : (f : ℕ → Item) (i n : ℕ) → i < n
    → map f (range_with_len i (n - i)) ≡ f i ∷ map f (range_with_len (i + 1) (n - (i + 1)))
next_item f i n more = let step : n - i ≡ suc (n - (i + 1)) = omega arith in rw step refl

pub items_done : (f : ℕ → Item) (i n : ℕ) → n ≤ i → until_broken (map f (range_with_len i (n - i))) ≡ []
items_done f i n done = let none : n - i ≡ 0 = omega arith in rw none refl

pub items_Iov : (f : ℕ → Item) (i n base len : ℕ) → i < n → f i ≡ Iov base len
    → until_broken (map f (range_with_len i (n - i)))
    ≡ Iov base len ∷ until_broken (map f (range_with_len (i + 1) (n - (i + 1))))
items_Iov f i n base len more is = ap until_broken (next_item f i n more) ∙ rw is refl

pub items_Broken : (f : ℕ → Item) (i n : ℕ) (end : End) → i < n → f i ≡ Broken end
    → until_broken (map f (range_with_len i (n - i)))
    ≡ Broken end ∷ until_broken (map f (range_with_len n (n - n)))
items_Broken f i n end more is =
    ap until_broken (next_item f i n more) ∙ rw is (ap (λ (items : List Item). Broken end ∷ items)
    (sym (items_done f n n (omega arith))))

-- ---- an entry by the end of its run
pub entry_whole : (m : FlatMemory) (at : ℕ) → bytes_end (run_end m at 16) ≡ ended.Full → run_end m at 16 ≡ Full
entry_whole m at is = elim (run_end m at 16) as (λ e. bytes_end e ≡ ended.Full → e ≡ Full) [
  | Full ↦ λ h. refl
  | Absent address ↦ λ h. cc
  | Top ↦ λ h. cc
] is

pub entry_top : (m : FlatMemory) (at : ℕ) → 2 ^ 64 ≤ at → Broken ended.Top ≡ entry_by (run_end m at 16) (run m at 16)
entry_top m at above = rw (run_end-top m at 16 (omega arith) above) refl

module _ (m : FlatMemory) (at : ℕ) (whole : run_end m at 16 ≡ Full) where
  pub base_whole : run_end m at 8 ≡ Full
  base_whole = run_end-front m at 8 16 (omega arith) whole

  pub len_whole : run_end m (at + 8) 8 ≡ Full
  len_whole = sym (run_end-append m at 8 8 base_whole) ∙ whole

  pub len_below : at + 8 < 2 ^ 64
  len_below = (run_end-Full m at 16 whole 8 (omega arith)).0

  pub base_bytes : run m at 8 ≡ take 8 (run m at 16)
  base_bytes = run-take m at 16 8 (omega (arith, length-run-Full m at 16 whole))

  pub len_bytes : run m (at + 8) 8 ≡ drop 8 (run m at 16)
  len_bytes =
      let long : length (run m at 8) ≡ 8 = length-run-Full m at 8 base_whole in
      sym (ap (drop 8) (run-append m at 8 8 base_whole)
      ∙ sym (ap (λ (n : ℕ). drop n (run m at 8 ++ run m (at + 8) 8)) long)
      ∙ drop-append_seam (run m at 8) (run m (at + 8) 8))

-- an entry that is whole has its two numbers
pub entry_is : (m : FlatMemory) (at start base len : ℕ) → at ≡ start → run_end m at 16 ≡ Full
    → base ≡ from_le_bytes w64 (run m at 8) → len ≡ from_le_bytes w64 (run m (at + 8) 8)
    → Iov base len ≡ entry_by (run_end m start 16) (run m start 16)
entry_is m at start base len here whole base_is len_is =
    rw (← here, whole) (ap (λ (b : ℕ). Iov b len) (base_is ∙ ap (from_le_bytes w64) (base_bytes m at whole))
    ∙ ap (λ (l : ℕ). Iov (from_le_bytes w64 (take 8 (run m at 16))) l)
    (len_is ∙ ap (from_le_bytes w64) (len_bytes m at whole)))
