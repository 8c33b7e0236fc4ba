-- The words of each line of a case say that line.
use Rattle.std.proofs.Common.{refl, ◌≡◌, ◌+◌, ◌%◌, ◌^◌, ◌<◌, ◌≤◌, ◌&&◌, ◌++◌, ◌∷◌, [], ℕ, Bool, true, false, ◌==◌}
use Rattle.std.proofs.Common.{List, length, map, cond, Option, Some, None, Result, Ok, Err, arith, ap, sym, ◌∙◌}
use Rattle.std.proofs.Common.{nat_le, nat_lt, lt-ltb, le-leb, ne_eqb, eq-eqb, eqb-true, codes, decimal, drop, take}
use Rattle.std.proofs.Common.{find, IfSome, inl, inr}
use Rattle.std.specs.Prelude.{IsSome, ok_or, if◌then◌else◌}
use Rattle.std.specs.Int.{cast_signed, w64}
use Rattle.std.specs.Int.Signed.{mag}
use Rattle.std.specs.List.{AllByRecursion, list_all}
use Rattle.std.specs.Result.{result_unwrap_or}
use Rattle.std.proofs.lemmas.Bool.{and_from, and_parts, cases_lt, lt-leb}
use Rattle.std.proofs.lemmas.List.Sums.{list_all-from_AllPass}
use Rattle.std.proofs.Math.Facts.{sfits_to_z}
use Rattle.std.proofs.lemmas.Int.{of_z-to_z}
use Rattle.hex.specs.declared.error.FromHexError.{FromHexError}
use Rattle.hex.specs.Hex.{IsBytes, decode_of, encode_lower, is_hex_digit}
use Rattle.hex.proofs.HexLemmas.{decode_of-encode_lower, decode_of-ok}
use Rattle.text_lines.specs.declared.fault.LineFault.TheVariants.{BadHex, BadNumber, UnknownWord}
use Rattle.text_lines.specs.Lines.{has_letters}
use Rattle.text_lines.specs.Ranges.{◌>>=◌}
use Rattle.text_lines.proofs.Decimals.{decimal_is_word, decimal_read, integer_is_word, integer_read, is_no_word}
use Rattle.text_lines.proofs.Spelled.{AreWords, all_above, is_word}
use Rattle.trace_script.specs.declared.case.keyword.Place.{Place}
use Rattle.trace_script.specs.declared.case.keyword.Place.TheVariants.{Loading, Outside, Stepping}
use Rattle.trace_script.specs.CaseLine.{Part, Line, any_number, argument, argument_count, argument_numbers, call_of}
use Rattle.trace_script.specs.CaseLine.{data_part, does, filled_call, has_own_line, is_equals, loads, named_call}
use Rattle.trace_script.specs.CaseLine.{no_image, nr_in, nr_named, page_part, plain_call, start_part, answer_of}
use Rattle.trace_script.specs.CaseLine.{answered_call, bytes_of_word, bytes_written, is_byte_word, line_of, whole_page}
use Rattle.trace_script.specs.CaseLine.{rax_of}
use Rattle.trace_script.specs.CaseLine as line
use Rattle.trace_script.specs.Script.{Fill, Image, Step}
use Rattle.trace_script.specs.Script as step
use Rattle.trace_script.specs.CaseSpelling.{AreFills, IsCall, IsFill, answer_word, fill_words, part_words, step_words}
use Rattle.trace_script.specs.CaseSpelling.{syscall_name}
use Rattle.trace_script.specs.RowWords.{spelled_row}
use Rattle.trace_script.proofs.RowsBack.{HasRanges, id_ends, id_read, row_read}
use Rattle.stop_history.specs.Roster.{is_id}
use Rattle.stop_history.specs.declared.roster.Row.{Row}
use Rattle.trace_options.specs.Syscalls.{SyscallRow, syscall_named, syscall_numbered, syscall_table}
use Rattle.trace_options.proofs.Rows.{found_by_name}
use Rattle.trace_options.proofs.Tables.{found}

some_same : {X : Type 0} (x y : X) → Some x ≡ Some y → x ≡ y
some_same x y is = cc

-- ---- numbers and bytes
pub any_read : (n : ℕ) → n < 2 ^ 64 → any_number (decimal n) ≡ Ok n
any_read n small = ap (λ o. ok_or o BadNumber) (decimal_read n small)

above : (c : ℕ) → is_hex_digit c ≡ true → nat_lt 32 c ≡ true
above c is = elim (cases_lt 32 c) [
  | inl high ↦ lt-ltb 32 c high
  | inr low ↦
      let none : is_hex_digit c ≡ false =
      rw (lt-leb 65 c (omega arith), lt-leb 97 c (omega arith), lt-leb 48 c (omega arith)) refl in cc
]

digits_above : (word : List ℕ) → list_all is_hex_digit word ≡ true → all_above word ≡ true
digits_above [] h = refl
digits_above (c ∷ word) h =
    let parts = and_parts (is_hex_digit c) (list_all is_hex_digit word) h in
    and_from (nat_lt 32 c) (all_above word) (above c parts.0) (digits_above word parts.1)

hex_is_byte_word : (bytes : List ℕ) → IsBytes bytes → 1 ≤ length bytes → is_byte_word (encode_lower bytes) ≡ true
hex_is_byte_word bytes are some =
    let known = decode_of-ok (encode_lower bytes) bytes (decode_of-encode_lower bytes are) in
    and_from (nat_le 2 (length (encode_lower bytes)))
    (length (encode_lower bytes) % 2 == 0 && list_all is_hex_digit (encode_lower bytes))
    (le-leb 2 (length (encode_lower bytes)) (omega (arith, known.2, some)))
    (and_from (length (encode_lower bytes) % 2 == 0) (list_all is_hex_digit (encode_lower bytes))
    (eq-eqb (length (encode_lower bytes) % 2) 0 known.0)
    (list_all-from_AllPass is_hex_digit (encode_lower bytes) known.1))

pub bytes_read : (bytes : List ℕ) → IsBytes bytes → 1 ≤ length bytes → bytes_of_word (encode_lower bytes) ≡ Ok bytes
unfolding bytes_written
bytes_read bytes are some =
    ap (λ b. if b then Ok (result_unwrap_or (decode_of (encode_lower bytes)) []) else Err BadHex)
    (hex_is_byte_word bytes are some)
    ∙ ap (λ (r : Result (List ℕ) FromHexError). Ok (result_unwrap_or r [])) (decode_of-encode_lower bytes are)

pub bytes_are_word : (bytes : List ℕ) → IsBytes bytes → 1 ≤ length bytes → is_word (encode_lower bytes) ≡ true
bytes_are_word bytes are some =
    let known = decode_of-ok (encode_lower bytes) bytes (decode_of-encode_lower bytes are) in
    and_from (has_letters (encode_lower bytes)) (all_above (encode_lower bytes))
    (lt-ltb 0 (length (encode_lower bytes)) (omega (arith, known.2, some)))
    (digits_above (encode_lower bytes) (list_all-from_AllPass is_hex_digit (encode_lower bytes) known.1))

small_integer : (answer : ℕ) → answer < 2 ^ 64 → mag (cast_signed w64 answer) < 2 ^ 63
small_integer answer small = (sfits_to_z {w = w64} {n = answer} (record { fits = small })).sfits

pub answer_read : (answer : ℕ) → answer < 2 ^ 64 → answer_of (answer_word answer) ≡ Ok answer
answer_read answer small =
    ap rax_of (integer_read (cast_signed w64 answer) (small_integer answer small))
    ∙ ap Ok (of_z-to_z w64 answer small)

answer_is_word : (answer : ℕ) → answer < 2 ^ 64 → is_word (answer_word answer) ≡ true
answer_is_word answer small = integer_is_word (cast_signed w64 answer) (small_integer answer small)

-- ---- lines
-- a line that may come in a block
abbrev pub IsInside : Place → Type 0
IsInside Outside = ⊥
IsInside place = Unit {0}

-- what a part of an image needs to be spelled
abbrev pub IsPart : Part → Type 0
IsPart (line.Page page) = (page < 2 ^ 64) × (page % 4096 ≡ 0)
IsPart (line.Data address bytes) = (address < 2 ^ 64) × (1 ≤ length bytes) × IsBytes bytes
IsPart (line.Start rip rsp) = (rip < 2 ^ 64) × (rsp < 2 ^ 64)

page_said : (page : ℕ) → page < 2 ^ 64 → page % 4096 ≡ 0 → page_part (decimal page) ≡ Ok (line.Page page)
page_said page small begins =
    ap (λ r. (r >>= whole_page) >>= λ p. Ok (line.Page p)) (any_read page small)
    ∙ ap (λ b. (if b then Ok page else Err BadNumber) >>= λ p. Ok (line.Page p)) (eq-eqb (page % 4096) 0 begins)

data_said : (address : ℕ) (bytes : List ℕ) → address < 2 ^ 64 → 1 ≤ length bytes → IsBytes bytes
    → data_part (decimal address) (encode_lower bytes) ≡ Ok (line.Data address bytes)
data_said address bytes small some are =
    ap (λ r. r >>= λ at. bytes_of_word (encode_lower bytes) >>= λ b. Ok (line.Data at b)) (any_read address small)
    ∙ ap (λ r. r >>= λ b. Ok (line.Data address b)) (bytes_read bytes are some)

start_said : (rip rsp : ℕ) → rip < 2 ^ 64 → rsp < 2 ^ 64
    → start_part (decimal rip) (decimal rsp) ≡ Ok (line.Start rip rsp)
start_said rip rsp small_rip small_rsp =
    ap (λ r. r >>= λ i. any_number (decimal rsp) >>= λ s. Ok (line.Start i s)) (any_read rip small_rip)
    ∙ ap (λ r. r >>= λ s. Ok (line.Start rip s)) (any_read rsp small_rsp)

pub part_says : (part : Part) → IsPart part → line_of Loading (part_words part) ≡ Ok (line.Loads part)
part_says (line.Page page) is = ap loads (page_said page is.0 is.1)
part_says (line.Data address bytes) is = ap loads (data_said address bytes is.0 is.1 is.2)
part_says (line.Start rip rsp) is = ap loads (start_said rip rsp is.0 is.1)

pub part_are_words : (part : Part) → IsPart part → AreWords (part_words part)
part_are_words (line.Page page) is = (refl, (decimal_is_word page is.0, tt))
part_are_words (line.Data address bytes) is =
    (refl, (decimal_is_word address is.0, (bytes_are_word bytes is.2 is.1, tt)))
part_are_words (line.Start rip rsp) is = (refl, (decimal_is_word rip is.0, (decimal_is_word rsp is.1, tt)))

-- ---- calls
is_named : AllByRecursion (λ call. is_word call.name ≡ true) syscall_table
unfolding syscall_table
is_named = (
  refl,
  (
    refl,
    (
      refl,
      (
        refl,
        (
          refl,
          (
            refl,
            (
              refl,
              (
                refl,
                (refl, (refl, (refl, (refl, (refl, (refl, (refl, tt))))))),
              ),
            ),
          ),
        ),
      ),
    ),
  ),
)

passes : {X : Type 0} (test : X → Bool) (xs : List X) (x : X) → find test xs ≡ Some x → test x ≡ true
passes test [] x is = cc
passes test (y ∷ xs) x is =
    elim (test y) as (λ b. test y ≡ b → cond b (Some y) (find test xs) ≡ Some x → test x ≡ true) [
      | true ↦ λ here same. ap test (sym (some_same y x same)) ∙ here
      | false ↦ λ other same. passes test xs x same
    ] refl is

named : (nr : ℕ) (o : Option SyscallRow) → syscall_numbered nr ≡ o → IsSome o → has_own_line nr ≡ false
    → IfSome o (λ call. syscall_named call.name ≡ Some call) → nr_named (syscall_name o) ≡ Ok nr
named nr None is there other back = cc
named nr (Some call) is there other back =
    let same : call.number ≡ nr = eqb-true call.number nr (passes (λ c. c.number == nr) syscall_table call is) in
    ap nr_in back ∙ rw same (ap (λ b. if b then Err UnknownWord else Ok nr) other)

pub nr_read : (nr : ℕ) → IsSome (syscall_numbered nr) → has_own_line nr ≡ false → nr_named
    (syscall_name (syscall_numbered nr)) ≡ Ok nr
nr_read nr known other =
    named nr (syscall_numbered nr) refl known other
    (found {X = SyscallRow} (λ call. call.number == nr)
    (λ call. syscall_named call.name ≡ Some call) syscall_table found_by_name)

name_word : (o : Option SyscallRow) → IsSome o → IfSome o (λ call. is_word call.name ≡ true) → is_word
    (syscall_name o) ≡ true
name_word None there is = cc
name_word (Some call) there is = is

name_is_word : (nr : ℕ) → IsSome (syscall_numbered nr) → is_word (syscall_name (syscall_numbered nr)) ≡ true
name_is_word nr known =
    name_word (syscall_numbered nr) known
    (found {X = SyscallRow} (λ call. call.number == nr) (λ call. is_word call.name ≡ true) syscall_table is_named)

no_equals_in : (n : ℕ) → n < 2 ^ 64 → is_equals (decimal n) ≡ false
no_equals_in n small = is_no_word n (codes "=") small refl

six_before : (a b c d e f : List ℕ) (rest : List (List ℕ)) → is_equals a ≡ false → is_equals b ≡ false
    → is_equals c ≡ false → is_equals d ≡ false → is_equals e ≡ false → is_equals f ≡ false
    → argument_count (a ∷ b ∷ c ∷ d ∷ e ∷ f ∷ codes "=" ∷ rest) ≡ Ok 6
six_before a b c d e f rest ha hb hc hd he hf =
    let inside : nat_lt 6 (length (a ∷ b ∷ c ∷ d ∷ e ∷ f ∷ codes "=" ∷ rest)) ≡ true =
    lt-ltb 6 (length (a ∷ b ∷ c ∷ d ∷ e ∷ f ∷ codes "=" ∷ rest)) (omega arith) in
    rw (ha, hb, hc, hd, he, hf, inside) refl

six_read : (a b c d e f : ℕ) → a < 2 ^ 64 → b < 2 ^ 64 → c < 2 ^ 64 → d < 2 ^ 64 → e < 2 ^ 64 → f < 2 ^ 64
    → argument_numbers (decimal a ∷ decimal b ∷ decimal c ∷ decimal d ∷ decimal e ∷ decimal f ∷ []) ≡ Ok
    (a ∷ b ∷ c ∷ d ∷ e ∷ f ∷ [])
six_read a b c d e f ha hb hc hd he hf =
    rw (any_read a ha, any_read b hb, any_read c hc, any_read d hd, any_read e he, any_read f hf) refl

plain_said : (nr : ℕ) (words : List (List ℕ)) (arguments : List ℕ) (answer : ℕ) → argument_numbers words ≡ Ok arguments
    → answer < 2 ^ 64 → plain_call nr words (answer_word answer) ≡ Ok (step.Call nr arguments answer None)
plain_said nr words arguments answer reads small =
    ap (λ r. r >>= λ numbers. answer_of (answer_word answer) >>= λ word. Ok (step.Call nr numbers word None)) reads
    ∙ ap (λ r. r >>= λ word. Ok (step.Call nr arguments word None)) (answer_read answer small)

filled_said : (nr : ℕ) (words : List (List ℕ)) (arguments : List ℕ) (answer : ℕ) (fill : Fill)
    → argument_numbers words ≡ Ok arguments → answer < 2 ^ 64 → IsFill fill
    → filled_call nr words (answer_word answer) (decimal fill.address) (encode_lower fill.bytes)
    ≡ Ok (step.Call nr arguments answer (Some fill))
filled_said nr words arguments answer fill reads small is =
    ap (λ r. r >>= λ numbers. answer_of (answer_word answer) >>= λ word. any_number (decimal fill.address) >>= λ at.
    bytes_of_word (encode_lower fill.bytes) >>= λ written. Ok
    (step.Call nr numbers word (Some (record { address = at; bytes = written })))) reads
    ∙ ap (λ r. r >>= λ word. any_number (decimal fill.address) >>= λ at.
    bytes_of_word (encode_lower fill.bytes) >>= λ written. Ok
    (step.Call nr arguments word (Some (record { address = at; bytes = written })))) (answer_read answer small)
    ∙ ap (λ r. r >>= λ at.
    bytes_of_word (encode_lower fill.bytes) >>= λ written. Ok
    (step.Call nr arguments answer (Some (record { address = at; bytes = written }))))
    (any_read fill.address is.address)
    ∙ ap (λ r. r >>= λ written. Ok
    (step.Call nr arguments answer (Some (record { address = fill.address; bytes = written }))))
    (bytes_read fill.bytes is.bytes is.some)

answered : (nr : ℕ) (words : List (List ℕ)) (arguments : List ℕ) (answer : ℕ) (fill : Option Fill)
    → argument_numbers words ≡ Ok arguments → answer < 2 ^ 64 → AreFills fill
    → answered_call nr words (answer_word answer ∷ fill_words fill) ≡ Ok (step.Call nr arguments answer fill)
answered nr words arguments answer None reads small is = plain_said nr words arguments answer reads small
answered nr words arguments answer
    (Some fill) reads small is = filled_said nr words arguments answer fill reads small is

with_name : (name : List ℕ) (rest : List (List ℕ)) → call_of (name ∷ rest) ≡
    (nr_named name >>= λ nr. named_call nr rest)
with_name name rest =
    ap (λ b. if b then Err UnknownWord else (nr_named name >>= λ nr. named_call nr rest))
    (ne_eqb (length (name ∷ rest)) 0 (λ none. omega (arith, none)))

call_said : (nr : ℕ) (arguments : List ℕ) (answer : ℕ) (fill : Option Fill) → IsCall nr arguments answer fill
    → call_of (syscall_name (syscall_numbered nr) ∷
    (map decimal arguments ++ codes "=" ∷ answer_word answer ∷ fill_words fill))
    ≡ Ok (step.Call nr arguments answer fill)
call_said nr (a ∷ b ∷ c ∷ d ∷ e ∷ f ∷ []) answer fill is =
    let n = is.numbers in
    let words = decimal a ∷ decimal b ∷ decimal c ∷ decimal d ∷ decimal e ∷ decimal f ∷ [] in
    let rest = answer_word answer ∷ fill_words fill in
    with_name (syscall_name (syscall_numbered nr)) (words ++ codes "=" ∷ rest)
    ∙ ap (λ r. r >>= λ nr. named_call nr (words ++ codes "=" ∷ rest)) (nr_read nr is.known is.other)
    ∙ ap (λ r. r >>= λ count. answered_call nr (take count (words ++ codes "=" ∷ rest))
    (drop (count + 1) (words ++ codes "=" ∷ rest)))
    (six_before (decimal a) (decimal b) (decimal c) (decimal d) (decimal e) (decimal f) rest (no_equals_in a n.0)
    (no_equals_in b n.1.0) (no_equals_in c n.1.1.0) (no_equals_in d n.1.1.1.0) (no_equals_in e n.1.1.1.1.0)
    (no_equals_in f n.1.1.1.1.1.0))
    ∙ answered nr words (a ∷ b ∷ c ∷ d ∷ e ∷ f ∷ []) answer fill
    (six_read a b c d e f n.0 n.1.0 n.1.1.0 n.1.1.1.0 n.1.1.1.1.0 n.1.1.1.1.1.0) is.word is.filled
call_said nr [] answer fill is = absurd (let six = is.six in omega (arith, six))
call_said nr (a ∷ []) answer fill is = absurd (let six = is.six in omega (arith, six))
call_said nr (a ∷ b ∷ []) answer fill is = absurd (let six = is.six in omega (arith, six))
call_said nr (a ∷ b ∷ c ∷ []) answer fill is = absurd (let six = is.six in omega (arith, six))
call_said nr (a ∷ b ∷ c ∷ d ∷ []) answer fill is = absurd (let six = is.six in omega (arith, six))
call_said nr (a ∷ b ∷ c ∷ d ∷ e ∷ []) answer fill is = absurd (let six = is.six in omega (arith, six))
call_said nr (a ∷ b ∷ c ∷ d ∷ e ∷ f ∷ g ∷ more) answer fill is = absurd (let six = is.six in omega (arith, six))

each_is_word : (arguments : List ℕ) (rest : List (List ℕ)) → AllByRecursion (λ argument. argument < 2 ^ 64) arguments
    → AreWords rest → AreWords (map decimal arguments ++ rest)
each_is_word [] rest small are = are
each_is_word (argument ∷ arguments) rest small are =
    (decimal_is_word argument small.0, each_is_word arguments rest small.1 are)

fill_are_words : (fill : Option Fill) → AreFills fill → AreWords (fill_words fill)
fill_are_words None is = tt
fill_are_words (Some fill) is =
    (refl, (decimal_is_word fill.address is.address, (bytes_are_word fill.bytes is.bytes is.some, tt)))

-- ---- steps
-- a step as its own line says it: the image of an exec comes later
abbrev pub without_image : Step → Step
without_image (step.Exec path image) = step.Exec path no_image
without_image other = other

id_small : (n : ℕ) → is_id n ≡ true → n < 2 ^ 64
id_small n is = let ends = id_ends n is in omega (arith, ends.1)

-- what a step needs to be spelled, whatever the rows are
abbrev pub HasNumbers : Step → Type 0
HasNumbers (step.Call nr arguments answer fill) = IsCall nr arguments answer fill
HasNumbers (step.Fork child) = is_id child ≡ true
HasNumbers (step.Thread child) = is_id child ≡ true
HasNumbers (step.Exec path image) = path < 2 ^ 64
HasNumbers (step.Signal signal deadly) = signal < 2 ^ 64
HasNumbers (step.Exit status) = status < 2 ^ 64

pub step_are_words : (s : Step) → HasNumbers s → AreWords (step_words s)
step_are_words (step.Call nr arguments answer fill) is = (
  refl,
  (
    name_is_word nr is.known,
    each_is_word arguments (codes "=" ∷ answer_word answer ∷ fill_words fill) is.numbers
        (refl, (answer_is_word answer is.word, fill_are_words fill is.filled)),
  ),
)
step_are_words (step.Fork child) is = (refl, (decimal_is_word child (id_small child is), tt))
step_are_words (step.Thread child) is = (refl, (decimal_is_word child (id_small child is), tt))
step_are_words (step.Exec path image) is = (refl, (decimal_is_word path is, tt))
step_are_words (step.Signal signal false) is = (refl, (decimal_is_word signal is, tt))
step_are_words (step.Signal signal true) is = (refl, (decimal_is_word signal is, (refl, tt)))
step_are_words (step.Exit status) is = (refl, (decimal_is_word status is, tt))

step_said : (s : Step) → HasNumbers s → line_of Stepping (step_words s) ≡ Ok (line.Does (without_image s))
step_said (step.Call nr arguments answer fill) is = ap does (call_said nr arguments answer fill is)
step_said (step.Fork child) is = ap (λ r. does (r >>= λ child. Ok (step.Fork child))) (id_read child is)
step_said (step.Thread child) is = ap (λ r. does (r >>= λ child. Ok (step.Thread child))) (id_read child is)
step_said (step.Exec path image) is = ap (λ r. does (r >>= λ path. Ok (step.Exec path no_image))) (any_read path is)
step_said (step.Signal signal false) is = ap (λ r. does (r >>= λ n. Ok (step.Signal n false))) (any_read signal is)
step_said (step.Signal signal true) is = ap (λ r. does (r >>= λ n. Ok (step.Signal n true))) (any_read signal is)
step_said (step.Exit status) is = ap (λ r. does (r >>= λ n. Ok (step.Exit n))) (any_read status is)

-- it reads the same right after an image
said_again : (s : Step) → line_of Loading (step_words s) ≡ line_of Stepping (step_words s)
said_again (step.Call nr arguments answer fill) = refl
said_again (step.Fork child) = refl
said_again (step.Thread child) = refl
said_again (step.Exec path image) = refl
said_again (step.Signal signal false) = refl
said_again (step.Signal signal true) = refl
said_again (step.Exit status) = refl

pub step_says : (place : Place) → IsInside place → (s : Step) → HasNumbers s
    → line_of place (step_words s) ≡ Ok (line.Does (without_image s))
step_says Outside inside s is = absurd inside
step_says Loading inside s is = said_again s ∙ step_said s is
step_says Stepping inside s is = step_said s is

-- ---- blocks
pub end_says : (place : Place) → IsInside place → line_of place (codes "end" ∷ []) ≡ Ok line.Closes
end_says Outside inside = absurd inside
end_says Loading inside = refl
end_says Stepping inside = refl

pub row_says : (row : Row) → HasRanges row → line_of Outside (codes "tracee" ∷ spelled_row row) ≡ Ok (line.Opens row)
row_says row has = ap (λ r. r >>= λ row. Ok (line.Opens row)) (row_read row has)
