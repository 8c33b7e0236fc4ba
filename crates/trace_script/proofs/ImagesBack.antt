-- The parts of an image load that image.
use Rattle.std.proofs.Common.{refl, ◌≡◌, ◌⊎◌, ◌+◌, ◌-◌, ◌*◌, ◌%◌, ◌^◌, ◌<◌, ◌≤◌, ◌++◌, ◌∷◌, [], ℕ, Bool, true, false}
use Rattle.std.proofs.Common.{◌&&◌, ◌||◌, ◌==◌, List, length, get_or, filter, map, cond, Option, Some, None, Result}
use Rattle.std.proofs.Common.{Ok, Err, arith, ap, sym, ◌∙◌, inl, inr, is_some, nat_lt, nat_le, ltb-true, eqb-true}
use Rattle.std.proofs.Common.{eq-eqb, lit<}
use Rattle.std.specs.Prelude.{if◌then◌else◌, T}
use Rattle.std.proofs.lemmas.Bool.{lt-leb, cases_lt}
use Rattle.std.specs.List.{AllByRecursion, list_any}
use Rattle.std.specs.Ordering.{eq_by_cmp, is_lt, nat_cmp}
use Rattle.std.specs.declared.cmp.Ordering.TheVariants.{Less, Equal, Greater}
use Rattle.std.specs.Cmp.{nat_cmp_total, unsigned_tied}
use Rattle.std.specs.FinMap.Entries.{below_all, is_sorted}
use Rattle.std.specs.FinMap.{contains_key-keys, empty, entries, entries_sorted, get-empty, keys, len, len-empty}
use Rattle.std.specs.FinMap.{len-insert}
use Rattle.text_lines.specs.Ranges.{◌>>=◌}
use Rattle.trace_pages.specs.FlatMemory.{FlatMemory, Full, byte_after_store, byte_at, is_in_span, mapped, run, run_end}
use Rattle.trace_pages.specs.FlatMemory.{stored}
use Rattle.trace_pages.specs.Pages.{base_of}
use Rattle.trace_pages.specs.Memory.{map_refusal}
use Rattle.trace_pages.proofs.Among.{among_above, among_cases, among_yes}
use Rattle.trace_pages.proofs.Memories.{byte_at-map, byte_at-store, same_memory}
use Rattle.trace_pages.proofs.Runs.{get_or-run, length-run-Full, run_end-none, run_end-passed}
use Rattle.trace_script.specs.declared.cause.Cause.{Cause}
use Rattle.trace_script.specs.declared.cause.Cause.TheVariants.{Unmapped}
use Rattle.trace_script.specs.CaseFile.{is_mapped, page_loaded, part_loaded}
use Rattle.trace_script.specs.CaseLine.{Part, no_image}
use Rattle.trace_script.specs.CaseLine as line
use Rattle.trace_script.specs.CaseSpelling.{IsImage, image_parts, pages_of, pages_parts}
use Rattle.trace_script.specs.Script.{Image}
use Rattle.trace_script.proofs.LinesSpelled.{IsPart}
use Rattle.hex.specs.Hex.{IsBytes}
use Rattle.std.proofs.lemmas.List.{get_or_past}

-- what parts make of an image, one after the other
abbrev pub parts_loaded : Image → List Part → Result Image Cause
parts_loaded image [] = Ok image
parts_loaded image (part ∷ parts) = part_loaded image part >>= λ more. parts_loaded more parts

abbrev with_memory : Image → FlatMemory → Image
with_memory image memory = record { memory = memory; rip = image.rip; rsp = image.rsp }

-- a memory with the bytes of these pages of another
abbrev with_pages : FlatMemory → FlatMemory → List ℕ → FlatMemory
with_pages memory m [] = m
with_pages memory m (page ∷ pages) = with_pages memory (stored m page (run memory page 4096)) pages

-- ---- sizes
one_more : (b : Bool) (n k : ℕ) → n ≤ k → cond b n (n + 1) ≤ k + 1
one_more true n k h = omega arith
one_more false n k h = omega arith

at_most : (m : FlatMemory) (at : ℕ) (bytes : List ℕ) → len (stored m at bytes) ≤ len m + length bytes
unfolding stored
at_most m at [] = omega arith
at_most m at (byte ∷ bytes) =
    let rest = at_most m (at + 1) bytes in
    let added = one_more (is_some (byte_at (stored m (at + 1) bytes) at)) (len (stored m (at + 1) bytes))
    (len m + length bytes) rest in
    let grown = len-insert nat_cmp_total (stored m (at + 1) bytes) at byte in
    omega (arith, added, grown)

-- ---- one page
-- the addresses of a page, where it is there
there : (memory : FlatMemory) (page j : ℕ) →
    ((a : ℕ) → is_some (byte_at memory a) ≡ is_some (byte_at memory (base_of a)))
    → page % 4096 ≡ 0 → is_some (byte_at memory page) ≡ true → j < 4096 → is_some (byte_at memory (page + j)) ≡ true
there memory page j whole begins is below =
    let same : base_of (page + j) ≡ page = omega arith in
    whole (page + j) ∙ ap (λ a. is_some (byte_at memory a)) same ∙ is

some_byte : (o : Option ℕ) → is_some o ≡ true → (byte : ℕ) × (o ≡ Some byte)
some_byte None is = cc
some_byte (Some byte) is = (byte, refl)

full_page : (memory : FlatMemory) (page : ℕ) →
    ((a : ℕ) → is_some (byte_at memory a) ≡ is_some (byte_at memory (base_of a)))
    → page % 4096 ≡ 0 → page < 2 ^ 64 → is_some (byte_at memory page) ≡ true → run_end memory page 4096 ≡ Full
full_page memory page whole begins below is =
    let all : 4096 ≡ 4096 + 0 = omega arith in
    ap (run_end memory page) all
    ∙ run_end-passed memory page 4096 0 (omega arith) (λ j h. some_byte _ (there memory page j whole begins is h))
    ∙ run_end-none memory (page + 4096)

-- ---- the bytes of pages
stored_byte : (m memory : FlatMemory) (page a : ℕ) → run_end memory page 4096 ≡ Full
    → byte_at (stored m page (run memory page 4096)) a ≡
    (if is_in_span page 4096 a then byte_at memory a else byte_at m a)
stored_byte m memory page a full =
    byte_at-store m page (run memory page 4096) a
    ∙ ap (λ n. if is_in_span page n a then Some (get_or (run memory page 4096) (a - page) 0) else byte_at m a)
    (length-run-Full memory page 4096 full)
    ∙ elim (among_cases page 4096 a) as
    (λ _. (if is_in_span page 4096 a then Some (get_or (run memory page 4096) (a - page) 0) else byte_at m a)
    ≡ (if is_in_span page 4096 a then byte_at memory a else byte_at m a)) [
      | inl inside ↦
          let on : page + (a - page) ≡ a = omega (arith, inside.0) in
          let here : byte_at memory a ≡ Some (get_or (run memory page 4096) (a - page) 0) =
          ap (byte_at memory) (sym on)
          ∙ get_or-run memory page 4096 (a - page) full (omega (arith, inside.0, inside.1)) in
          ap (λ (o : Option ℕ). if is_in_span page 4096 a then o else byte_at m a) (sym here)
      | inr off ↦ rw off refl
    ]

neither : (b c : Bool) → (b || c) ≡ false → (b ≡ false) × (c ≡ false)
neither true c h = cc
neither false c h = (refl, h)

either : (b c : Bool) → (b || c) ≡ true → (c ≡ true) ⊎ ((b ≡ true) × (c ≡ false))
either b true h = inl refl
either true false h = inr (refl, refl)
either false false h = cc

abbrev on_pages : ℕ → List ℕ → Bool
on_pages a pages = list_any (λ page. is_in_span page 4096 a) pages

other_bytes : (memory m : FlatMemory) (pages : List ℕ) (a : ℕ) → AllByRecursion
    (λ page. run_end memory page 4096 ≡ Full) pages
    → on_pages a pages ≡ false → byte_at (with_pages memory m pages) a ≡ byte_at m a
other_bytes memory m [] a full off = refl
other_bytes memory m (page ∷ pages) a full off =
    let parts = neither (is_in_span page 4096 a) (on_pages a pages) off in
    other_bytes memory (stored m page (run memory page 4096)) pages a full.1 parts.1
    ∙ stored_byte m memory page a full.0 ∙ rw parts.0 refl

page_bytes : (memory m : FlatMemory) (pages : List ℕ) (a : ℕ) → AllByRecursion
    (λ page. run_end memory page 4096 ≡ Full) pages
    → on_pages a pages ≡ true → byte_at (with_pages memory m pages) a ≡ byte_at memory a
page_bytes memory m [] a full on = cc
page_bytes memory m (page ∷ pages) a full on = elim (either (is_in_span page 4096 a) (on_pages a pages) on) [
  | inl later ↦ page_bytes memory (stored m page (run memory page 4096)) pages a full.1 later
  | inr here ↦
      other_bytes memory (stored m page (run memory page 4096)) pages a full.1 here.1
      ∙ stored_byte m memory page a full.0 ∙ rw here.0 refl
]

-- ---- pages one after the other
abbrev AreApart : ℕ → List ℕ → Type 0
AreApart low [] = Unit {0}
AreApart low (page ∷ pages) = (low ≤ page) × (page % 4096 ≡ 0) × (page < 2 ^ 64) × AreApart (page + 4096) pages

-- a page of zeros that is filled at once
zeros_gone : (m : FlatMemory) (page : ℕ) (bytes : List ℕ) → length bytes ≡ 4096
    → stored (mapped m page) page bytes ≡ stored m page bytes
zeros_gone m page bytes size = same_memory _ _ (λ a.
    byte_at-store (mapped m page) page bytes a
    ∙ elim (among_cases page 4096 a) as
    (λ _. byte_after_store (mapped m page) page bytes a ≡ byte_after_store m page bytes a) [
      | inl inside ↦ rw (size, among_yes page 4096 a inside.0 inside.1) refl
      | inr off ↦ rw (size, off) (byte_at-map m page a ∙ rw off refl)
    ]
    ∙ sym (byte_at-store m page bytes a))

zeros_full : (m : FlatMemory) (page : ℕ) → page % 4096 ≡ 0 → page < 2 ^ 64 → run_end (mapped m page) page 4096 ≡ Full
zeros_full m page begins below =
    let all : 4096 ≡ 4096 + 0 = omega arith in
    ap (run_end (mapped m page) page) all
    ∙ run_end-passed (mapped m page) page 4096 0 (omega arith)
    (λ j h. (0, byte_at-map m page (page + j) ∙ rw (among_yes page 4096 (page + j) (omega arith) (omega arith)) refl))
    ∙ run_end-none (mapped m page) (page + 4096)

pages_load : (memory m : FlatMemory) (rip rsp low : ℕ) (pages : List ℕ) (rest : List Part) → AreApart low pages
    → AllByRecursion (λ page. run_end memory page 4096 ≡ Full) pages → ((a : ℕ) → low ≤ a → byte_at m a ≡ None)
    → len m + 4096 * length pages ≤ 1048576
    → parts_loaded (record { memory = m; rip = rip; rsp = rsp }) (pages_parts memory pages ++ rest)
    ≡ parts_loaded (record { memory = with_pages memory m pages; rip = rip; rsp = rsp }) rest
pages_load memory m rip rsp low [] rest apart full none few = refl
pages_load memory m rip rsp low (page ∷ pages) rest apart full none few =
    let bytes = run memory page 4096 in
    let size : length bytes ≡ 4096 = length-run-Full memory page 4096 full.0 in
    let room : nat_le 1048576 (len m) ≡ false = lt-leb 1048576 (len m) (omega arith) in
    let free : map_refusal m page ≡ None = rw (none page apart.0, room) refl in
    let there : is_mapped (mapped m page) page bytes ≡ true = rw (size, zeros_full m page apart.1 apart.2) refl in
    let grown = at_most m page bytes in
    let more : len (stored m page bytes) + 4096 * length pages ≤ 1048576 = omega (arith, grown, size, few) in
    let after : (a : ℕ) → page + 4096 ≤ a → byte_at (stored m page bytes) a ≡ None = λ a high.
    stored_byte m memory page a full.0 ∙ rw (among_above page 4096 a high) (none a (omega (arith, apart.0))) in
    ap (λ r. page_loaded (record { memory = m; rip = rip; rsp = rsp }) page r >>= λ more. parts_loaded more
    (line.Data page bytes ∷ (pages_parts memory pages ++ rest))) free
    ∙ ap (λ b. (if b then Ok
    (record { memory = stored (mapped m page) page bytes; rip = rip; rsp = rsp }) else Err Unmapped)
    >>= λ more. parts_loaded more (pages_parts memory pages ++ rest)) there
    ∙ ap (λ (n : FlatMemory). parts_loaded (record { memory = n; rip = rip; rsp = rsp })
    (pages_parts memory pages ++ rest))
    (zeros_gone m page bytes size)
    ∙ pages_load memory (stored m page bytes) rip rsp (page + 4096) pages rest apart.3 full.1 after more

-- ---- the pages of a memory
each_weaker : {X : Type 0} (P Q : X → Type 0) → ((x : X) → P x → Q x) → (xs : List X) → AllByRecursion P xs
    → AllByRecursion Q xs
each_weaker P Q weaker [] all = tt
each_weaker P Q weaker (x ∷ xs) all = (weaker x all.0, each_weaker P Q weaker xs all.1)

both_true : (a b : Bool) → T (a && b) → T a × T b
both_true true b h = (tt, h)
both_true false b h = absurd h

is_less : (b c : Bool) → T (is_lt (cond b Less (cond c Equal Greater))) → b ≡ true
is_less true c h = refl
is_less false true h = absurd h
is_less false false h = absurd h

rising : (x : ℕ) (es : List (ℕ × ℕ)) → T (below_all nat_cmp x es) → AllByRecursion (λ e. x < e.0) es
rising x [] h = tt
rising x (e ∷ es) h =
    let parts = both_true (is_lt (nat_cmp x e.0)) (below_all nat_cmp x es) h in
    (ltb-true x e.0 (is_less (nat_lt x e.0) (x == e.0) parts.0), rising x es parts.1)

abbrev begins_page : ℕ → Bool
begins_page address = address % 4096 == 0

abbrev pages_in : List (ℕ × ℕ) → List ℕ
pages_in es = filter begins_page (map (λ e. e.0) es)

next_page : (x y : ℕ) → x % 4096 ≡ 0 → x < y → y % 4096 ≡ 0 → x + 4096 ≤ y
next_page x y begins above also = omega arith

-- the multiples of a page's size among rising numbers
pages_apart : (low : ℕ) (es : List (ℕ × ℕ)) → T (is_sorted nat_cmp es) → AllByRecursion
    (λ e. e.0 % 4096 ≡ 0 → low ≤ e.0) es
    → AllByRecursion (λ e. e.0 < 2 ^ 64) es → AreApart low (pages_in es)
pages_apart low [] sorted above below = tt
pages_apart low (e ∷ es) sorted above below =
    let parts = both_true (below_all nat_cmp e.0 es) (is_sorted nat_cmp es) sorted in
    elim (e.0 % 4096 == 0) as (λ b. (e.0 % 4096 == 0) ≡ b → AreApart low (cond b (e.0 ∷ pages_in es) (pages_in es))) [
      | true ↦ λ is.
          let begins : e.0 % 4096 ≡ 0 = eqb-true (e.0 % 4096) 0 is in (
            above.0 begins,
            begins,
            below.0,
            pages_apart (e.0 + 4096) es parts.1
                (each_weaker (λ d. e.0 < d.0) (λ d. d.0 % 4096 ≡ 0 → e.0 + 4096 ≤ d.0)
                (λ d h also. next_page e.0 d.0 begins h also) es
                (rising e.0 es parts.0))
                below.1,
          )
      | false ↦ λ is. pages_apart low es parts.1 above.1 below.1
    ] refl

-- what holds of each key that begins a page
each_page : (P : ℕ → Type 0) (es : List (ℕ × ℕ)) → AllByRecursion (λ e. e.0 % 4096 ≡ 0 → P e.0) es → AllByRecursion P
    (pages_in es)
each_page P [] all = tt
each_page P (e ∷ es) all =
    elim (e.0 % 4096 == 0) as
    (λ b. (e.0 % 4096 == 0) ≡ b → AllByRecursion P (cond b (e.0 ∷ pages_in es) (pages_in es))) [
      | true ↦ λ is. (all.0 (eqb-true (e.0 % 4096) 0 is), each_page P es all.1)
      | false ↦ λ is. each_page P es all.1
    ] refl

itself : (x : ℕ) → eq_by_cmp nat_cmp x x ≡ true
itself x = unsigned_tied x x ∙ eq-eqb x x refl

or_later : (b c : Bool) → c ≡ true → (b || c) ≡ true
or_later true c h = refl
or_later false c h = h

-- each key is among the keys
each_there : (es : List (ℕ × ℕ)) → AllByRecursion (λ e. list_any (eq_by_cmp nat_cmp e.0) (map (λ d. d.0) es) ≡ true) es
each_there [] = tt
each_there (e ∷ es) = (
  ap (λ b. b || list_any (eq_by_cmp nat_cmp e.0) (map (λ d. d.0) es)) (itself e.0),
  each_weaker (λ d. list_any (eq_by_cmp nat_cmp d.0) (map (λ c. c.0) es) ≡ true)
      (λ d. list_any (eq_by_cmp nat_cmp d.0) (map (λ c. c.0) (e ∷ es)) ≡ true)
      (λ d h. or_later (eq_by_cmp nat_cmp d.0 e.0) (list_any (eq_by_cmp nat_cmp d.0) (map (λ c. c.0) es)) h) es
      (each_there es),
)

-- a page that has a key is found for each of its addresses
page_found : (page a : ℕ) (es : List (ℕ × ℕ)) → page % 4096 ≡ 0 → is_in_span page 4096 a ≡ true
    → list_any (eq_by_cmp nat_cmp page) (map (λ e. e.0) es) ≡ true → on_pages a (pages_in es) ≡ true
page_found page a [] begins inside is = cc
page_found page a (e ∷ es) begins inside is =
    elim (either (eq_by_cmp nat_cmp page e.0) (list_any (eq_by_cmp nat_cmp page) (map (λ d. d.0) es)) is) [
      | inl later ↦
          let rest = page_found page a es begins inside later in
          elim (e.0 % 4096 == 0) as (λ b. on_pages a (cond b (e.0 ∷ pages_in es) (pages_in es)) ≡ true) [
            | true ↦ or_later (is_in_span e.0 4096 a) (on_pages a (pages_in es)) rest
            | false ↦ rest
          ]
      | inr here ↦
          let same : page ≡ e.0 = eqb-true page e.0 (sym (unsigned_tied page e.0) ∙ here.0) in
          let mark : (e.0 % 4096 == 0) ≡ true = ap (λ n. n % 4096 == 0) (sym same) ∙ eq-eqb (page % 4096) 0 begins in
          ap (λ b. on_pages a (cond b (e.0 ∷ pages_in es) (pages_in es))) mark
          ∙ ap (λ b. b || on_pages a (pages_in es)) (ap (λ n. is_in_span n 4096 a) (sym same) ∙ inside)
    ]

-- ---- an image
key_there : (memory : FlatMemory) (key : ℕ) → list_any (eq_by_cmp nat_cmp key) (keys memory) ≡ true → is_some
    (byte_at memory key) ≡ true
key_there memory key is = contains_key-keys memory key ∙ is

pages_full : (image : Image) → IsImage image
    → AllByRecursion (λ page. run_end image.memory page 4096 ≡ Full) (pages_of image.memory)
pages_full image is =
    each_page (λ page. run_end image.memory page 4096 ≡ Full) (entries image.memory)
    (each_weaker (λ e. list_any (eq_by_cmp nat_cmp e.0) (keys image.memory) ≡ true)
    (λ e. e.0 % 4096 ≡ 0 → run_end image.memory e.0 4096 ≡ Full)
    (λ e there begins.
    let known = key_there image.memory e.0 there in
    full_page image.memory e.0 is.whole begins (is.addresses e.0 known) known)
    (entries image.memory) (each_there (entries image.memory)))

apart : (image : Image) → IsImage image → AreApart 0 (pages_of image.memory)
apart image is =
    pages_apart 0 (entries image.memory) (entries_sorted image.memory)
    (each_weaker (λ e. list_any (eq_by_cmp nat_cmp e.0) (keys image.memory) ≡ true) (λ e. e.0 % 4096 ≡ 0 → 0 ≤ e.0)
    (λ e there begins. omega arith) (entries image.memory) (each_there (entries image.memory)))
    (each_weaker (λ e. list_any (eq_by_cmp nat_cmp e.0) (keys image.memory) ≡ true) (λ e. e.0 < 2 ^ 64)
    (λ e there. is.addresses e.0 (key_there image.memory e.0 there)) (entries image.memory)
    (each_there (entries image.memory)))

on_its_page : (image : Image) → IsImage image → (a : ℕ) → is_some (byte_at image.memory a) ≡ true
    → on_pages a (pages_of image.memory) ≡ true
on_its_page image is a there =
    let base : is_some (byte_at image.memory (base_of a)) ≡ true = sym (is.whole a) ∙ there in
    page_found (base_of a) a (entries image.memory) (omega arith)
    (among_yes (base_of a) 4096 a (omega arith) (omega arith)) (sym (contains_key-keys image.memory (base_of a)) ∙ base)

absent : (o : Option ℕ) → (is_some o ≡ true → false ≡ true) → o ≡ None
absent None h = refl
absent (Some byte) h = cc (h refl)

memory_back : (image : Image) → IsImage image → with_pages image.memory empty (pages_of image.memory) ≡ image.memory
memory_back image is = same_memory _ _ (λ a.
    elim (on_pages a (pages_of image.memory)) as (λ b. on_pages a (pages_of image.memory) ≡ b
    → byte_at (with_pages image.memory empty (pages_of image.memory)) a ≡ byte_at image.memory a) [
      | true ↦ λ on. page_bytes image.memory empty (pages_of image.memory) a (pages_full image is) on
      | false ↦ λ off.
          other_bytes image.memory empty (pages_of image.memory) a (pages_full image is) off ∙ get-empty nat_cmp a
          ∙ sym (absent (byte_at image.memory a) (λ there. sym off ∙ on_its_page image is a there))
    ] refl)

pub image_loads : (image : Image) → IsImage image → parts_loaded no_image (image_parts image) ≡ Ok image
image_loads image is =
    pages_load image.memory empty 0 0 0 (pages_of image.memory) (line.Start image.rip image.rsp ∷ []) (apart image is)
    (pages_full image is) (λ a low. get-empty nat_cmp a)
    (let none : len {R = nat_cmp} empty ≡ 0 = len-empty nat_cmp ℕ in let few = is.few in omega (arith, none, few))
    ∙ ap (λ (m : FlatMemory). Ok (record { memory = m; rip = image.rip; rsp = image.rsp })) (memory_back image is)

-- ---- the parts of an image can be spelled
spelled_bytes : (image : Image) → IsImage image → (page : ℕ) → run_end image.memory page 4096 ≡ Full
    → IsBytes (run image.memory page 4096)
spelled_bytes image is page full i =
    elim (cases_lt i 4096) [
      | inl inside ↦ is.bytes (page + i) (get_or (run image.memory page 4096) i 0)
          (get_or-run image.memory page 4096 i full inside)
      | inr past ↦
          let size = length-run-Full image.memory page 4096 full in
          rw (get_or_past (run image.memory page 4096) i 0 (omega (arith, size, past))) (lit< tt)
    ]

spelled_pages : (image : Image) → IsImage image → (low : ℕ) (pages : List ℕ) → AreApart low pages
    → AllByRecursion (λ page. run_end image.memory page 4096 ≡ Full) pages
    → AllByRecursion IsPart (pages_parts image.memory pages ++ line.Start image.rip image.rsp ∷ [])
spelled_pages image is low [] apart full = ((is.rip, is.rsp), tt)
spelled_pages image is low (page ∷ pages) apart full =
    let size = length-run-Full image.memory page 4096 full.0 in (
      (apart.2, apart.1),
      (
        (apart.2, omega (arith, size), spelled_bytes image is page full.0),
        spelled_pages image is (page + 4096) pages apart.3 full.1,
      ),
    )

pub parts_are_spelled : (image : Image) → IsImage image → AllByRecursion IsPart (image_parts image)
parts_are_spelled image is = spelled_pages image is 0 (pages_of image.memory) (apart image is) (pages_full image is)
