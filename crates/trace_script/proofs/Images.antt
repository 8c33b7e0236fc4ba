-- An image that is loaded part by part.
use Rattle.std.proofs.Common.{refl, ◌≡◌, ◌+◌, ◌/◌, ◌∷◌, [], ℕ, zero, suc, true, false, List, length, ap, sym, ◌∙◌}
use Rattle.std.proofs.Common.{arith, cond, eqb, get_or, set, Bool, Some, None, Result, Ok, Err, is_ok, IsOk}
use Rattle.std.proofs.lemmas.Bool.Decides.{nat_tests}
use Rattle.text_lines.specs.Ranges.{◌>>=◌}
use Rattle.trace_pages.specs.declared.fault.Fault.{Fault}
use Rattle.trace_pages.specs.declared.map_error.MapError.{MapError}
use Rattle.trace_pages.specs.FlatMemory.{FlatMemory, Full, Absent, Top, RunEnd, run_end, stored}
use Rattle.trace_pages.specs.Memory.{map_refusal, store_answer}
use Rattle.trace_script.specs.declared.cause.Cause.{Cause}
use Rattle.trace_script.specs.declared.cause.Cause.TheVariants.{NoMemory, Unmapped}
use Rattle.trace_script.specs.CaseFile.{is_full, is_mapped, part_loaded, part_of_last, part_of_script}
use Rattle.trace_script.specs.CaseFile.{part_of_step}
use Rattle.trace_script.specs.CaseLine.{Part, bytes_written, is_byte_word}
use Rattle.trace_script.specs.CaseLine as line
use Rattle.trace_script.specs.Reading.{TakesLine}
use Rattle.trace_script.specs.Script.{Image, Script, Step}
use Rattle.trace_script.proofs.ByteWords.{bytes_are_halves}
use Rattle.trace_script.proofs.Refusals.{none_refused}

-- ---- what a line makes of a part is what it makes of the whole

still_ok : {S T : Type 0} (f : S → T) (read : Result S Cause) → IsOk read → IsOk (read >>= λ x. Ok (f x))
still_ok f (Ok x) ok = refl
still_ok f (Err cause) ok = absurd (let clash : false ≡ true = ok in cc)

pub takes_part : {S T : Type 0} (f : S → T) (result : Result (Unit {0}) Cause) (new : S) (read : Result S Cause)
    → TakesLine result new read → TakesLine result (f new) (read >>= λ x. Ok (f x))
takes_part f (Ok done) new read is = ap (λ r. r >>= λ x. Ok (f x)) is
takes_part f (Err NoMemory) new read is = still_ok f read is
takes_part f (Err cause) new read is = ap (λ r. r >>= λ x. Ok (f x)) is

-- ---- a page

-- a page that was mapped had nothing against it
pub can_map : (memory : FlatMemory) (image : Image) (page : ℕ) (done : Unit {0}) → memory ≡ image.memory
    → ((error : MapError) → map_refusal memory page ≡ Some error → Ok done ≡ Err error)
    → map_refusal image.memory page ≡ None
can_map memory image page done same free =
    ap (λ (m : FlatMemory). map_refusal m page) (sym same) ∙ none_refused done (map_refusal memory page) free

-- ---- bytes

full_is : (end : RunEnd) → is_full end ≡ is_ok (store_answer end)
full_is Full = refl
full_is (Absent address) = refl
full_is Top = refl

-- bytes are mapped where a store of as many as the word has pairs of digits is done
pub mapped_as_tested : (memory : FlatMemory) (address : ℕ) (word : List ℕ) → is_byte_word word ≡ true
    → is_mapped memory address (bytes_written word) ≡ is_ok (store_answer (run_end memory address (length word / 2)))
mapped_as_tested memory address word is =
    ap (λ n. is_full (run_end memory address n)) (bytes_are_halves word is)
    ∙ full_is (run_end memory address (length word / 2))

abbrev with_memory : Image → FlatMemory → Image
with_memory image memory = record { memory = memory; rip = image.rip; rsp = image.rsp }

pub data_refused : (image : Image) (address : ℕ) (word : List ℕ) → is_byte_word word ≡ true
    → is_ok (store_answer (run_end image.memory address (length word / 2))) ≡ false
    → part_loaded image (line.Data address (bytes_written word)) ≡ Err Unmapped
data_refused image address word is refused =
    ap (λ b. cond b (Ok (with_memory image (stored image.memory address (bytes_written word)))) (Err Unmapped))
    (mapped_as_tested image.memory address word is ∙ refused)

data_loaded : (image : Image) (address : ℕ) (word : List ℕ) → is_byte_word word ≡ true
    → is_ok (store_answer (run_end image.memory address (length word / 2))) ≡ true
    → part_loaded image (line.Data address (bytes_written word))
    ≡ Ok (record { memory = stored image.memory address (bytes_written word); rip = image.rip; rsp = image.rsp })
data_loaded image address word is taken =
    ap (λ b. cond b (Ok (with_memory image (stored image.memory address (bytes_written word)))) (Err Unmapped))
    (mapped_as_tested image.memory address word is ∙ taken)

pub data_is_ok : (image : Image) (address : ℕ) (word : List ℕ) → is_byte_word word ≡ true
    → is_ok (store_answer (run_end image.memory address (length word / 2))) ≡ true
    → IsOk (part_loaded image (line.Data address (bytes_written word)))
data_is_ok image address word is taken = rw (data_loaded image address word is taken) refl

-- what is tested on a memory is known of an image that has the same
pub as_tested : (memory : FlatMemory) (image : Image) (address count : ℕ) (taken : Bool) → memory ≡ image.memory
    → is_ok (store_answer (run_end memory address count)) ≡ taken
    → is_ok (store_answer (run_end image.memory address count)) ≡ taken
as_tested memory image address count taken same is =
    ap (λ (m : FlatMemory). is_ok (store_answer (run_end m address count))) (sym same) ∙ is

full_by : (end : RunEnd) → is_ok (store_answer end) ≡ true → end ≡ Full
full_by Full taken = refl
full_by (Absent address) taken = absurd (let clash : false ≡ true = taken in cc)
full_by Top taken = absurd (let clash : false ≡ true = taken in cc)

pub can_store : (memory : FlatMemory) (address : ℕ) (word bytes : List ℕ) → is_byte_word word ≡ true
    → is_ok (store_answer (run_end memory address (length word / 2))) ≡ true → bytes ≡ bytes_written word
    → run_end memory address (length bytes) ≡ Full
can_store memory address word bytes is taken same =
    let size : length bytes ≡ length word / 2 = ap (λ (b : List ℕ). length b) same ∙ bytes_are_halves word is in
    ap (run_end memory address) size ∙ full_by (run_end memory address (length word / 2)) taken

-- a store that was tested is done
pub tested_store : (memory : FlatMemory) (address : ℕ) (word bytes : List ℕ) (fault : Fault) → is_byte_word word ≡ true
    → is_ok (store_answer (run_end memory address (length word / 2))) ≡ true → bytes ≡ bytes_written word
    → Err fault ≡ store_answer (run_end memory address (length bytes)) → ⊥
tested_store memory address word bytes fault is taken same refused =
    let size : length bytes ≡ length word / 2 = ap (λ (b : List ℕ). length b) same ∙ bytes_are_halves word is in
    let answer = refused ∙ ap (λ n. store_answer (run_end memory address n)) size in
    let clash : false ≡ true = ap (λ r. is_ok r) answer ∙ taken in
    cc

-- ---- the last step's image

rebound : (read : Result Step Cause) (first : Step) (steps : List Step) (i : ℕ)
    → ((read >>= λ new. Ok (set steps i new)) >>= λ more. Ok (first ∷ more))
    ≡ (read >>= λ new. Ok (set (first ∷ steps) (suc i) new))
rebound (Ok new) first steps i = refl
rebound (Err cause) first steps i = refl

last_at : (steps : List Step) (i : ℕ) (last : Step) (part : Part) → i + 1 ≡ length steps → last ≡ get_or steps i last
    → part_of_last steps part ≡ (part_of_step last part >>= λ new. Ok (set steps i new))
last_at [] i last part end is = absurd (omega arith)
last_at (step ∷ []) zero last part end is = ap (λ s. part_of_step s part >>= λ new. Ok (new ∷ [])) (sym is)
last_at (step ∷ []) (suc i) last part end is = absurd (omega arith)
last_at (step ∷ next ∷ steps) zero last part end is = absurd (omega arith)
last_at (step ∷ next ∷ steps) (suc i) last part end is =
    ap (λ r. r >>= λ more. Ok (step ∷ more)) (last_at (next ∷ steps) i last part (omega arith) is)
    ∙ rebound (part_of_step last part) step (next ∷ steps) i

abbrev pub script_with : Image → List Step → Script
script_with image steps = record { image = image; steps = steps }

with_steps : (read : Result Step Cause) (image : Image) (steps : List Step) (i : ℕ)
    → ((read >>= λ new. Ok (set steps i new)) >>= λ more. Ok (script_with image more))
    ≡ (read >>= λ new. Ok (script_with image (set steps i new)))
with_steps (Ok new) image steps i = refl
with_steps (Err cause) image steps i = refl

pub some_steps : (n i : ℕ) → i + 1 ≡ n → eqb n 0 ≡ false
some_steps n i end = grind (arith, nat_tests)

-- the part goes to the image of the last step
pub part_at_last : (image : Image) (steps : List Step) (i : ℕ) (last : Step) (part : Part) → i + 1 ≡ length steps
    → last ≡ get_or steps i last
    → part_of_script (script_with image steps) part
    ≡ (part_of_step last part >>= λ new. Ok (script_with image (set steps i new)))
part_at_last image steps i last part end is =
    ap (λ b. cond b (part_loaded image part >>= λ new. Ok (script_with new steps))
    (part_of_last steps part >>= λ more. Ok (script_with image more))) (some_steps (length steps) i end)
    ∙ ap (λ (r : Result (List Step) Cause). r >>= λ more. Ok (script_with image more))
    (last_at steps i last part end is)
    ∙ with_steps (part_of_step last part) image steps i
