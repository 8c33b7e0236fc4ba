-- The options of ptrace(2), PTRACE_SETOPTIONS: each is a bit (<sys/ptrace.h>, PTRACE_O_*), and a set of them is the
-- number with these bits.
use Rattle.std.specs.Prelude.{◌≡◌, ◌↔◌, ℕ, List, [], ◌∷◌, codes}
use Rattle.std.specs.Int.RustNames.{bit_and}
use Rattle.bitflags.specs.Sets.{known_bits}
use Rattle.trace_options.specs.declared.options.Options.{Options}
use Rattle.trace_options.specs.declared.options.TheConstants.Options.{TRACESYSGOOD, TRACEFORK, TRACEVFORK}
use Rattle.trace_options.specs.declared.options.TheConstants.Options.{TRACECLONE, TRACEVFORKDONE}

-- the bits of a set of options
abbrev pub option_bits : Options → ℕ
option_bits options = options.0

-- the options by name
abbrev pub option_table : List (List ℕ × ℕ)
option_table =
    (codes "TRACESYSGOOD", 0x1)
    ∷ (codes "TRACEFORK", 0x2)
    ∷ (codes "TRACEVFORK", 0x4)
    ∷ (codes "TRACECLONE", 0x8)
    ∷ (codes "TRACEEXEC", 0x10)
    ∷ (codes "TRACEVFORKDONE", 0x20)
    ∷ (codes "TRACEEXIT", 0x40)
    ∷ (codes "TRACESECCOMP", 0x80)
    ∷ []

-- all of them
abbrev pub all_options : ℕ
all_options = known_bits option_table

-- an option is in the set
abbrev pub Has : ℕ → Options → Type 0
Has options option = bit_and options (option_bits option) ≡ option_bits option

-- the sets that a tracer takes: syscall-stops are reported apart, forks and clones are followed alike, and neither a
-- vfork nor its end stops its caller
pub record AreValidOptions (options : ℕ) : Type 0 where
  pub good : Has options TRACESYSGOOD
  pub alike : Has options TRACEFORK ↔ Has options TRACECLONE
  pub no_vfork : ¬ Has options TRACEVFORK
  pub no_vfork_done : ¬ Has options TRACEVFORKDONE
