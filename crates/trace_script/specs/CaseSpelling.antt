-- A case as a file: a block for each row, with a line for each part of an image and for each step. Numbers are decimal,
-- bytes are in lower case, one space is between words, and a line feed ends each line.
use Rattle.std.specs.Prelude.{◌≡◌, ◌%◌, ◌^◌, ◌==◌, ◌<◌, ◌≤◌, ◌++◌, ◌∷◌, [], ℕ, true, false, is_some, IsSome, IsTrue}
use Rattle.std.specs.Prelude.{List, length, map, filter, Option, Some, None, IfSome, codes, decimal}
use Rattle.std.specs.FinMap as finite
use Rattle.std.specs.Fmt.{signed_decimal}
use Rattle.std.specs.Int.{cast_signed, w64}
use Rattle.std.specs.List.{AllByRecursion}
use Rattle.hex.specs.Hex.{IsBytes, encode_lower}
use Rattle.stop_history.specs.Roster.{is_id, is_leader, row_at, row_of}
use Rattle.stop_history.specs.declared.roster.Row.{Row}
use Rattle.text_lines.specs.Lines.{line_text}
use Rattle.trace_options.specs.Syscalls.{SyscallRow, syscall_numbered}
use Rattle.trace_pages.specs.FlatMemory.{FlatMemory, byte_at, run}
use Rattle.trace_pages.specs.Pages.{base_of}
use Rattle.trace_pages.specs.declared.pages.TheConstants.{MOST_PAGES, PAGE_SIZE}
use Rattle.trace_script.specs.CaseFile.{CaseContent}
use Rattle.trace_script.specs.CaseLine.{Part, has_own_line}
use Rattle.trace_script.specs.CaseLine as line
use Rattle.trace_script.specs.Reading.{most_bytes}
use Rattle.trace_script.specs.RowWords.{spelled_row}
use Rattle.trace_script.specs.Script.{Fill, Image, Script, Step}
use Rattle.trace_script.specs.Script as step

-- ---- images

-- the pages of a memory, in the order of their addresses
abbrev pub pages_of : FlatMemory → List ℕ
pages_of memory = filter (λ address. address % PAGE_SIZE == 0) (finite.keys memory)

-- each page is mapped, and its bytes are stored
abbrev pub pages_parts : FlatMemory → List ℕ → List Part
pages_parts memory [] = []
pages_parts memory (page ∷ pages) =
    line.Page page ∷ line.Data page (run memory page PAGE_SIZE) ∷ pages_parts memory pages

abbrev pub image_parts : Image → List Part
image_parts image = pages_parts image.memory (pages_of image.memory) ++ line.Start image.rip image.rsp ∷ []

abbrev pub part_words : Part → List (List ℕ)
part_words (line.Page page) = codes "page" ∷ decimal page ∷ []
part_words (line.Data address bytes) = codes "data" ∷ decimal address ∷ encode_lower bytes ∷ []
part_words (line.Start rip rsp) = codes "at" ∷ decimal rip ∷ decimal rsp ∷ []

abbrev pub image_lines : Image → List (List (List ℕ))
image_lines image = map part_words (image_parts image)

-- ---- steps

abbrev pub syscall_name : Option SyscallRow → List ℕ
syscall_name None = []
syscall_name (Some call) = call.name

-- the answer of a call with its sign
abbrev pub answer_word : ℕ → List ℕ
answer_word answer = signed_decimal (cast_signed w64 answer)

abbrev pub fill_words : Option Fill → List (List ℕ)
fill_words None = []
fill_words (Some fill) = codes "fill" ∷ decimal fill.address ∷ encode_lower fill.bytes ∷ []

abbrev pub step_words : Step → List (List ℕ)
step_words (step.Call nr arguments answer fill) =
    codes "call" ∷ syscall_name (syscall_numbered nr) ∷
    (map decimal arguments ++ codes "=" ∷ answer_word answer ∷ fill_words fill)
step_words (step.Fork child) = codes "fork" ∷ decimal child ∷ []
step_words (step.Thread child) = codes "thread" ∷ decimal child ∷ []
step_words (step.Exec path image) = codes "exec" ∷ decimal path ∷ []
step_words (step.Signal signal false) = codes "signal" ∷ decimal signal ∷ []
step_words (step.Signal signal true) = codes "signal" ∷ decimal signal ∷ codes "deadly" ∷ []
step_words (step.Exit status) = codes "exit" ∷ decimal status ∷ []

-- an exec is followed by its image
abbrev pub step_lines : Step → List (List (List ℕ))
step_lines (step.Exec path image) = step_words (step.Exec path image) ∷ image_lines image
step_lines other = step_words other ∷ []

abbrev pub steps_lines : List Step → List (List (List ℕ))
steps_lines [] = []
steps_lines (step ∷ steps) = step_lines step ++ steps_lines steps

-- ---- files

-- the lines of a row's block, each as its words
abbrev pub block_lines : Row → Script → List (List (List ℕ))
block_lines row script =
    (codes "tracee" ∷ spelled_row row) ∷
    (image_lines script.image ++ (steps_lines script.steps ++ (codes "end" ∷ []) ∷ []))

abbrev pub blocks_lines : List Row → List Script → List (List (List ℕ))
blocks_lines (row ∷ rows) (script ∷ scripts) = block_lines row script ++ blocks_lines rows scripts
blocks_lines rows scripts = []

abbrev pub lines_text : List (List (List ℕ)) → List ℕ
lines_text [] = []
lines_text (words ∷ lines) = line_text words ++ lines_text lines

abbrev pub case_spelling : CaseContent → List ℕ
case_spelling content = lines_text (blocks_lines content.rows content.scripts)

-- ---- what can be spelled

-- a program of whole pages, as many as an image may have
pub record IsImage (image : Image) : Type 0 where
  pub whole : (address : ℕ) → is_some (byte_at image.memory address) ≡ is_some (byte_at image.memory (base_of address))
  pub few : length (pages_of image.memory) ≤ MOST_PAGES
  pub bytes : (address byte : ℕ) → byte_at image.memory address ≡ Some byte → byte < 256
  pub addresses : (address : ℕ) → IsSome (byte_at image.memory address) → address < 2 ^ 64
  pub rip : image.rip < 2 ^ 64
  pub rsp : image.rsp < 2 ^ 64

-- one byte at least, at an address
pub record IsFill (fill : Fill) : Type 0 where
  pub address : fill.address < 2 ^ 64
  pub some : 1 ≤ length fill.bytes
  pub bytes : IsBytes fill.bytes

abbrev pub AreFills : Option Fill → Type 0
AreFills None = Unit {0}
AreFills (Some fill) = IsFill fill

-- a call of a known name that has no line of its own, with six arguments
pub record IsCall (nr : ℕ) (arguments : List ℕ) (answer : ℕ) (fill : Option Fill) : Type 0 where
  pub known : IsSome (syscall_numbered nr)
  pub other : has_own_line nr ≡ false
  pub six : length arguments ≡ 6
  pub numbers : AllByRecursion (λ argument. argument < 2 ^ 64) arguments
  pub word : answer < 2 ^ 64
  pub filled : AreFills fill

-- the numbers of a step that a file can write; the child of a fork leads a thread group, and that of a clone does not
abbrev pub IsSpelledStep : List Row → Step → Type 0
IsSpelledStep rows (step.Call nr arguments answer fill) = IsCall nr arguments answer fill
IsSpelledStep rows (step.Fork child) =
    IsTrue (is_id child) × IfSome (row_of rows child) (λ row. is_leader (row_at rows row) ≡ true)
IsSpelledStep rows (step.Thread child) =
    IsTrue (is_id child) × IfSome (row_of rows child) (λ row. is_leader (row_at rows row) ≡ false)
IsSpelledStep rows (step.Exec path image) = (path < 2 ^ 64) × IsImage image
IsSpelledStep rows (step.Signal signal deadly) = Unit {0}
IsSpelledStep rows (step.Exit status) = status < 2 ^ 64

pub record IsSpelledScript (rows : List Row) (script : Script) : Type 0 where
  pub image : IsImage script.image
  pub steps : AllByRecursion (IsSpelledStep rows) script.steps

-- what a file can say of a case
pub record IsSpelled (content : CaseContent) : Type 0 where
  pub scripts : AllByRecursion (IsSpelledScript content.rows) content.scripts
  pub size : length (case_spelling content) ≤ most_bytes
