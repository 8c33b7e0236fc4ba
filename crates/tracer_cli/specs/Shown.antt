-- The system calls that are printed: all, or those of a list of names (strace(1), `-e trace`).
use Rattle.std.specs.Prelude.{◌≡◌, ◌==◌, ℕ, Bool, true, false, not, List, length, drop, Option, Some, None, Result}
use Rattle.std.specs.Prelude.{Ok, Err, codes, string_bytes, find, is_some, if◌then◌else◌, nat_eq}
use Rattle.std.specs.Borrow.{Bor}
use Rattle.std.specs.List.{list_any, slice_split, starts_with}
use Rattle.std.specs.Option.{option_map_or}
use Rattle.trace_options.specs.Calls.{Calls, has_call}
use Rattle.trace_options.specs.Syscalls.{syscall_named}
use Rattle.tracer_cli.specs.declared.failure.Failure.{Failure}
use Rattle.tracer_cli.specs.declared.failure.Failure.TheVariants.{UnknownCall, NoMemory}

-- a list may have this word before it, once
abbrev pub before_list : List ℕ
before_list = codes "trace="

abbrev pub without_word : List ℕ → List ℕ
without_word list = if starts_with nat_eq list before_list then drop (length before_list) list else list

-- the names stand between commas
abbrev pub names_in : List ℕ → List (List ℕ)
names_in list = slice_split (λ byte. byte == 44) (without_word list)

abbrev pub is_known : List ℕ → Bool
is_known name = is_some (syscall_named name)

-- the first name that no system call has
abbrev pub unknown_in : List (List ℕ) → Option (List ℕ)
unknown_in names = find (λ name. not (is_known name)) names

abbrev pub is_call_of : (nr : ℕ) → List ℕ → Bool
is_call_of nr name = option_map_or (λ call. nr == call.number) (syscall_named name) false

-- a set has the calls of these names and no others
abbrev pub AreNamed : List (List ℕ) → Calls → Type 0
AreNamed names calls = (nr : ℕ) → has_call calls nr ≡ list_any (is_call_of nr) names

-- the calls of known names, or the first unknown name
abbrev pub NamesCalls : List (List ℕ) → Result Calls (Bor (List ℕ)) → Type 0
NamesCalls names (Ok calls) = (unknown_in names ≡ None) × AreNamed names calls
NamesCalls names (Err name) = unknown_in names ≡ Some name.now

-- of an option that may be left out: without it all calls are shown

abbrev pub unknown_name : Option (Bor (List ℕ)) → Option (List ℕ)
unknown_name None = None
unknown_name (Some list) = unknown_in (names_in list.now)

abbrev pub AreShown : Option (Bor (List ℕ)) → Calls → Type 0
AreShown None calls = (nr : ℕ) → has_call calls nr ≡ true
AreShown (Some list) calls = AreNamed (names_in list.now) calls

-- the failures of reading a list of names: its first unknown name, or memory ran out
abbrev pub IsNamesFailure : (unknown : Option (List ℕ)) → Failure → Type 0
IsNamesFailure unknown (UnknownCall name) = unknown ≡ Some (string_bytes name)
IsNamesFailure unknown NoMemory = Unit {0}
IsNamesFailure unknown failure = ⊥
