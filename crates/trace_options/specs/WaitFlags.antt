-- The flags of waitid(2) and waitpid(2): each is a bit (<sys/wait.h>), and a set of them is the number with these
-- bits.
use Rattle.std.specs.Prelude.{ℕ, List, [], ◌∷◌, codes}
use Rattle.bitflags.specs.Sets.{known_bits}
use Rattle.trace_options.specs.declared.wait_flags.WaitFlags.{WaitFlags}

-- the bits of a set of flags
abbrev pub wait_flag_bits : WaitFlags → ℕ
wait_flag_bits flags = flags.0

-- the flags by name
abbrev pub wait_flag_table : List (List ℕ × ℕ)
wait_flag_table =
    (codes "WNOHANG", 1)
    ∷ (codes "WUNTRACED", 2)
    ∷ (codes "WSTOPPED", 2)
    ∷ (codes "WEXITED", 4)
    ∷ (codes "WCONTINUED", 8)
    ∷ (codes "WNOWAIT", 0x01000000)
    ∷ (codes "WALL", 0x40000000)
    ∷ []

-- all of them
abbrev pub all_wait_flags : ℕ
all_wait_flags = known_bits wait_flag_table
