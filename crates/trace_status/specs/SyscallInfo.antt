-- What PTRACE_GET_SYSCALL_INFO gives of a stop (ptrace(2), struct ptrace_syscall_info), and its layout.
use Rattle.std.specs.Int.{bytes_low_first}
use Rattle.std.specs.Prelude.{◌≡◌, ◌+◌, ◌<◌, ◌^◌, ℕ, FitsSigned, if◌then◌else◌, List, [], ◌∷◌, ◌++◌, All}
use Rattle.std.specs.Prelude.{length, slice_index}
use Rattle.std.specs.Int.{w64, cast_unsigned}
use Rattle.std.specs.List.{flat_map}
use Rattle.trace_status.specs.declared.syscall_info.SyscallInfo.{SyscallInfo}
use Rattle.trace_status.specs.declared.syscall_info.Part.{Part}
use Rattle.trace_status.specs.declared.syscall_info.Part.TheVariants.{Quiet, Entry, Exit, Seccomp}

-- a field of the layout: its place and its width in bytes, and its value
abbrev pub Field : Type 0
Field = ℕ × ℕ × ℕ

-- the op that says which part the layout has (<sys/ptrace.h>, PTRACE_SYSCALL_INFO_NONE, ENTRY, EXIT, SECCOMP)
abbrev pub op_of : Part → ℕ
op_of Quiet = 0
op_of (Entry nr args) = 1
op_of (Exit rval is_error) = 2
op_of (Seccomp nr args ret_data) = 3

-- a system call: its number and its six arguments
abbrev pub call_layout : ℕ → List ℕ → List Field
call_layout nr args =
    (24, 8, nr) ∷ (32, 8, slice_index args 0) ∷ (40, 8, slice_index args 1) ∷ (48, 8, slice_index args 2)
    ∷ (56, 8, slice_index args 3) ∷ (64, 8, slice_index args 4) ∷ (72, 8, slice_index args 5) ∷ []

-- the fields of a part
abbrev pub part_layout : Part → List Field
part_layout Quiet = []
part_layout (Entry nr args) = call_layout nr args
part_layout (Exit rval is_error) = (24, 8, cast_unsigned w64 rval) ∷ (32, 1, if is_error then 1 else 0) ∷ []
part_layout (Seccomp nr args ret_data) = call_layout nr args ++ (80, 4, ret_data) ∷ []

-- the fields of the whole, from the first byte on: op, padding, arch, instruction pointer, stack pointer, the part
abbrev pub layout : SyscallInfo → List Field
layout info =
    (0, 1, op_of info.part) ∷ (1, 3, 0) ∷ (4, 4, info.arch) ∷ (8, 8, info.ip) ∷ (16, 8, info.sp)
    ∷ part_layout info.part

-- the bytes of a field, the lowest of its value first
abbrev pub field_bytes : Field → List ℕ
field_bytes field = bytes_low_first 0 field.1 field.2

-- the bytes of the layout
unfoldable pub info_bytes : SyscallInfo → List ℕ
info_bytes info = flat_map field_bytes (layout info)

-- each field begins where the one before it ends, the first at a place and the last to end at another
abbrev pub AreInPlace : ℕ → List Field → ℕ → Type 0
AreInPlace from [] end = from ≡ end
AreInPlace from (field ∷ fields) end = (field.0 ≡ from) × AreInPlace (from + field.1) fields end

-- the ranges of the fields, which any information of the program is in
abbrev pub FitsU64 : ℕ → Type 0
FitsU64 word = word < 2 ^ 64

abbrev pub AreArguments : List ℕ → Type 0
AreArguments args = (length args ≡ 6) × All FitsU64 args

abbrev pub IsPart : Part → Type 0
IsPart Quiet = Unit {0}
IsPart (Entry nr args) = FitsU64 nr × AreArguments args
IsPart (Exit rval is_error) = FitsSigned w64 rval
IsPart (Seccomp nr args ret_data) = FitsU64 nr × AreArguments args × (ret_data < 2 ^ 32)

abbrev pub IsInfo : SyscallInfo → Type 0
IsInfo info = (info.arch < 2 ^ 32) × FitsU64 info.ip × FitsU64 info.sp × IsPart info.part
