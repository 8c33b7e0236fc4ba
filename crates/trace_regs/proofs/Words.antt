-- Words of 64 bits and their bytes.
use Rattle.std.proofs.Common.{◌≡◌, ℕ, zero, suc, ◌+◌, ◌*◌, ◌<◌, ◌^◌, List, [], ◌∷◌, ◌++◌, length, get_or, set, take}
use Rattle.std.proofs.Common.{drop, refl, sym, ap, ◌∙◌, lit<, arith}
use Rattle.std.specs.Prelude.{map, replicate, All}
use Rattle.std.specs.Int.{w64, to_le_bytes, from_le_bytes}
use Rattle.std.specs.List.{flat_map, range_with_len}
use Rattle.std.proofs.Math.Seq.{take-add}
use Rattle.std.proofs.lemmas.Grind.{flat_map-append}
use Rattle.std.proofs.lemmas.List.{take_more_set}
use Rattle.std.proofs.lemmas.List.Concat.{flat_map-cons}
use Rattle.std.proofs.lemmas.List.FromFn.{fill_by_all}
use Rattle.std.proofs.lemmas.Nat.{from_le_bytes-to_le_bytes_8}
use Rattle.trace_regs.specs.declared.regs.Regs.{Regs}
use Rattle.trace_regs.specs.Regs.{words_of}

-- a list, place by place
pub map-get_or : (xs : List ℕ) (n : ℕ) → length xs ≡ n → map (λ k. get_or xs k 0) (range_with_len 0 n) ≡ xs
map-get_or xs n long = sym (fill_by_all (λ k. get_or xs k 0) xs n 0 long (λ k h. refl))

-- zeros are words
pub zeros_fit : (n k d : ℕ) → k < n → get_or (replicate n 0) k d < 2 ^ 64
zeros_fit zero k d inside = absurd (omega arith)
zeros_fit (suc n) zero d inside = lit< tt
zeros_fit (suc n) (suc k) d inside = zeros_fit n k d (omega arith)

-- the bytes of words, each little-endian, one after the other
abbrev pub bytes_of_all : List ℕ → List ℕ
bytes_of_all = flat_map (to_le_bytes w64)

-- one more word is read
pub read_more : (words bytes : List ℕ) (i word : ℕ) → i < length words
    → to_le_bytes w64 word ≡ take 8 (drop (8 * i) bytes)
    → bytes_of_all (take i words) ≡ take (8 * i) bytes
    → bytes_of_all (take (i + 1) (set words i word)) ≡ take (8 * (i + 1)) bytes
read_more words bytes i word inside same read =
    let next : 8 * (i + 1) ≡ 8 * i + 8 = omega arith in
    rw (
      next,
      take-add (8 * i) 8 bytes,
      take_more_set words i word inside,
      flat_map-append (to_le_bytes w64) (take i words) (word ∷ []),
      read,
    )
    (ap (λ (xs : List ℕ). take (8 * i) bytes ++ xs) same)

-- two words with the same bytes are one
word_told : (a b : ℕ) → a < 2 ^ 64 → b < 2 ^ 64 → to_le_bytes w64 a ≡ to_le_bytes w64 b → a ≡ b
word_told a b la lb same =
    sym (from_le_bytes-to_le_bytes_8 a la) ∙ ap (from_le_bytes w64) same ∙ from_le_bytes-to_le_bytes_8 b lb

-- so are two lists of them
pub words_told : (xs ys : List ℕ) → length xs ≡ length ys → All (λ word. word < 2 ^ 64) xs
    → All (λ word. word < 2 ^ 64) ys
    → bytes_of_all xs ≡ bytes_of_all ys → xs ≡ ys
words_told [] [] long lx ly same = refl
words_told [] (y ∷ ys) long lx ly same = absurd (omega arith)
words_told (x ∷ xs) [] long lx ly same = absurd (omega arith)
words_told (x ∷ xs) (y ∷ ys) long lx ly same =
    let joined : to_le_bytes w64 x ++ bytes_of_all xs ≡ to_le_bytes w64 y
    ++ bytes_of_all ys = sym (flat_map-cons (to_le_bytes w64) x xs) ∙ same ∙ flat_map-cons (to_le_bytes w64) y ys in
    let first : x ≡ y = word_told x y (lx 0 0 (omega arith)) (ly 0 0 (omega arith)) (ap (take 8) joined) in
    let rest : xs ≡ ys = words_told xs ys (omega arith) (λ k d inside. lx (suc k) d (omega arith))
    (λ k d inside. ly (suc k) d (omega arith)) (ap (drop 8) joined) in
    cc

-- registers with the same words are the same
regs_of : List ℕ → Regs
regs_of ws = record {
  r15 = get_or ws 0 0;
  r14 = get_or ws 1 0;
  r13 = get_or ws 2 0;
  r12 = get_or ws 3 0;
  rbp = get_or ws 4 0;
  rbx = get_or ws 5 0;
  r11 = get_or ws 6 0;
  r10 = get_or ws 7 0;
  r9 = get_or ws 8 0;
  r8 = get_or ws 9 0;
  rax = get_or ws 10 0;
  rcx = get_or ws 11 0;
  rdx = get_or ws 12 0;
  rsi = get_or ws 13 0;
  rdi = get_or ws 14 0;
  orig_rax = get_or ws 15 0;
  rip = get_or ws 16 0;
  cs = get_or ws 17 0;
  eflags = get_or ws 18 0;
  rsp = get_or ws 19 0;
  ss = get_or ws 20 0;
  fs_base = get_or ws 21 0;
  gs_base = get_or ws 22 0;
  ds = get_or ws 23 0;
  es = get_or ws 24 0;
  fs = get_or ws 25 0;
  gs = get_or ws 26 0;
}

pub regs_told : (a b : Regs) → words_of a ≡ words_of b → a ≡ b
unfolding regs_of
regs_told a b same = ap regs_of same
