-- The end of a machine, and the calls that change how its tracee is traced (ptrace(2), PTRACE_SETOPTIONS; seccomp(2)).
use Rattle.std.specs.Prelude.{◌≡◌, ◌≢◌, ◌==◌, ◌⊎◌, ◌<◌, ◌≤◌, ◌/◌, ◌%◌, ℕ, Bool, true, false, List, Result, Ok, Err, length}
use Rattle.std.specs.Prelude.{slice_index_or}
use Rattle.std.specs.Int.{bit_at}
use Rattle.std.specs.Int.RustNames.{bit_and}
use Rattle.trace_options.specs.Calls.{Calls, has_call}
use Rattle.trace_options.specs.Options.{AreValidOptions, all_options, option_bits}
use Rattle.trace_options.specs.declared.filter.Filter.{Filter}
use Rattle.trace_options.specs.declared.options.Options.{Options}
use Rattle.trace_options.specs.declared.options.TheConstants.Options.{TRACEFORK}
use Rattle.trace_script.specs.Births.{children_left}
use Rattle.trace_script.specs.CaseFile.{CaseContent}
use Rattle.trace_script.specs.StopTrace.{Position, under_filter, under_options}
use Rattle.c_interface.specs.Scripts.{IsNewMachine}
use Rattle.c_interface.specs.declared.births.Births.{Births}
use Rattle.c_interface.specs.declared.births.Births.TheVariants as births
use Rattle.c_interface.specs.declared.births.MachineEnd.{MachineEnd}
use Rattle.c_interface.specs.declared.error.Error.{Error}
use Rattle.c_interface.specs.declared.error.Error.TheVariants as error

-- how many children the script has still to create
abbrev pub left_of : Position → ℕ
left_of p = length (children_left p.left)

-- the machine of a row before its first stop, whose births are not traced
abbrev pub IsNewMachineEnd : CaseContent → (row : ℕ) → Result MachineEnd Error → Type 0
IsNewMachineEnd case row (Ok end) =
    IsNewMachine case row (Ok end.machine) × (end.births ≡ births.Untraced (left_of end.machine))
IsNewMachineEnd case row (Err refusal) = IsNewMachine case row (Err refusal)

-- whether options have births traced
abbrev pub traces_births : Options → Bool
traces_births options = bit_and (option_bits options) (option_bits TRACEFORK) == option_bits TRACEFORK

-- a birth was past while none was traced
abbrev pub HasMissed : MachineEnd → Births → Type 0
HasMissed a births.Traced = ⊥
HasMissed a (births.Untraced before) = left_of a.machine < before

-- whether births are traced under these options, and if not, since when
abbrev pub births_under : Bool → (left : ℕ) → Births → Births
births_under true left before = births.Traced
births_under false left births.Traced = births.Untraced left
births_under false left (births.Untraced before) = births.Untraced before

-- bits of no option, or options that a tracer does not take
abbrev pub AreRefused : ℕ → Type 0
AreRefused bits = (bit_and bits all_options ≢ bits) ⊎ (AreValidOptions bits → ⊥)

abbrev pub IsOptionsSet : (bits : ℕ) → (a b : MachineEnd) → Result (Unit {0}) Error → Type 0
IsOptionsSet bits a b (Err refusal) =
    (refusal ≡ error.EINVAL) × (b ≡ a)
    × (AreRefused bits ⊎ ((options : Options) × (option_bits options ≡ bits) × (traces_births options ≡ true)
    × HasMissed a a.births))
IsOptionsSet bits a b (Ok done) =
    (options : Options) × (option_bits options ≡ bits) × AreValidOptions bits
    × (traces_births options ≡ true → HasMissed a a.births → ⊥)
    × (b.machine ≡ under_options options a.machine)
    × (b.births ≡ births_under (traces_births options) (left_of a.machine) a.births)

-- whether a call's bit is 1, in words of 64
abbrev pub has_bit : (words : List ℕ) (nr : ℕ) → Bool
has_bit words nr = bit_at (slice_index_or words (nr / 64) 0) (nr % 64) == 1

-- the calls below 128 whose bit is 1, in two words
pub record AreCalls (words : List ℕ) (calls : Calls) : Type 0 where
  pub named : (nr : ℕ) → nr < 128 → has_call calls nr ≡ has_bit words nr
  pub others : (nr : ℕ) → 128 ≤ nr → has_call calls nr ≡ false

abbrev pub IsFilterSet : List ℕ → (ret_data : ℕ) → (a b : MachineEnd) → Type 0
IsFilterSet words ret_data a b =
    (filter : Filter) × AreCalls words filter.calls × (filter.ret_data ≡ ret_data)
    × (b.machine ≡ under_filter filter a.machine) × (b.births ≡ a.births)
