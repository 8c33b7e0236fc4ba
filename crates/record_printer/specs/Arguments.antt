-- The texts of buffers, strings, arrays of iovecs and other arguments of system calls (strace(1)). A limit is how many
-- bytes of a string or a buffer, and how many entries of an array, are printed at most.
use Rattle.std.specs.Prelude.{◌++◌, ◌==◌, ◌+◌, ◌-◌, ◌&&◌, ℕ, Bool, true, false, not, min, Option, Some, None}
use Rattle.std.specs.Prelude.{List, [], ◌∷◌, codes, decimal, nat_lt, nat_le, slice_index, slice_index_or}
use Rattle.std.specs.Prelude.{if◌then◌else◌}
use Rattle.std.specs.List.{flat_map, list_any, range_with_len}
use Rattle.trace_pages.specs.FlatMemory.{FlatMemory, run}
use Rattle.mem_views.specs.ByteView.{Cut, cut_bytes, cut_c_string}
use Rattle.mem_views.specs.IovecView.{iovec_items}
use Rattle.mem_views.specs.declared.end.End.{End}
use Rattle.mem_views.specs.declared.end.End.TheVariants as ended
use Rattle.mem_views.specs.declared.iovecs.Item.{Item}
use Rattle.mem_views.specs.declared.iovecs.Item.TheVariants.{Iov, Broken}
use Rattle.mem_views.specs.declared.iovecs.TheConstants.{IOV_MAX}
use Rattle.trace_options.specs.declared.argument_kind.ArgumentKind.{ArgumentKind}
use Rattle.trace_options.specs.declared.argument_kind.ArgumentKind.TheVariants as kind
use Rattle.trace_record.specs.Content.{Content}
use Rattle.trace_regs.specs.Regs.{arguments_of}
use Rattle.record_printer.specs.Numbers.{address_text, hexadecimal, int_text, mode_text}
use Rattle.record_printer.specs.Quote.{quoted, shortened}

-- what is printed of memory, or else its address
abbrev pub or_address : ℕ → Option (List ℕ) → List ℕ
or_address address None = address_text address
or_address address (Some text) = text

-- ---- buffers

-- a view that has all the bytes that were asked for
abbrev pub has_all : End → Bool
has_all ended.Full = true
has_all _ = false

abbrev pub buffer_by : Cut → Bool → Option (List ℕ)
buffer_by cut more = if has_all cut.end then Some (shortened more cut.rest) else None

-- the first bytes of a buffer in quotes, with dots after them where it has more; nothing where one of them is absent
abbrev pub buffer : ℕ → FlatMemory → ℕ → ℕ → Option (List ℕ)
buffer limit memory address len = buffer_by (cut_bytes memory address (min limit len)) (nat_lt limit len)

-- ---- strings

-- by the bytes before the first zero among limit + 1 bytes, and by the first bytes: the string in quotes where that
-- zero is there, and the first bytes with dots after them where none of the limit + 1 bytes is zero and all are there
abbrev pub string_by : End → List ℕ → List ℕ → Option (List ℕ)
string_by ended.Nul bytes front = Some (quoted bytes)
string_by ended.Limit bytes front = Some (shortened true front)
string_by _ bytes front = None

abbrev pub string : ℕ → FlatMemory → ℕ → Option (List ℕ)
string limit memory address =
    let cut = cut_c_string memory address (limit + 1) in
    string_by cut.end cut.rest (run memory address limit)

-- ---- arrays of iovecs (readv(2))

-- what comes before an item of a list: nothing before the first one, a comma and a space before each other
abbrev pub separator : Bool → List ℕ
separator is_first = if is_first then [] else codes ", "

-- how many bytes of an entry are printed: all of them, or at most what remains of a result
abbrev pub share : Option ℕ → ℕ → ℕ
share None len = len
share (Some left) len = min left len

-- what remains of the result for the entries after it
abbrev pub left_after : Option ℕ → ℕ → Option ℕ
left_after None len = None
left_after (Some left) len = Some (left - len)

abbrev pub entry_text : ℕ → FlatMemory → ℕ → ℕ → ℕ → List ℕ
entry_text limit memory base len printed =
    codes "{iov_base=" ++ (or_address base (buffer limit memory base printed)
    ++ (codes ", iov_len=" ++ (decimal len ++ codes "}")))

-- entries, which share the result in order
abbrev pub entries_text : ℕ → FlatMemory → Bool → Option ℕ → List Item → List ℕ
entries_text limit memory is_first left [] = []
entries_text limit memory is_first left (Iov base len ∷ items) =
    separator is_first ++ (entry_text limit memory base len (share left len)
    ++ entries_text limit memory false (left_after left len) items)
entries_text limit memory is_first left (Broken e ∷ items) = []

-- dots in place of the entries after the first ones, as many as the limit
abbrev pub more_entries : ℕ → ℕ → List ℕ
more_entries limit count = if nat_lt limit count then separator (limit == 0) ++ codes "..." else []

abbrev pub array_text : ℕ → FlatMemory → Option ℕ → ℕ → ℕ → List ℕ
array_text limit memory left address count =
    codes "[" ++ (entries_text limit memory true left (iovec_items memory address (min limit count))
    ++ (more_entries limit count ++ codes "]"))

abbrev pub is_broken : Item → Bool
is_broken (Iov base len) = false
is_broken (Broken e) = true

-- no more entries than a call takes, and those that are printed are wholly there
abbrev pub is_array : ℕ → FlatMemory → ℕ → ℕ → Bool
is_array limit memory address count =
    nat_le count IOV_MAX && not (list_any is_broken (iovec_items memory address (min limit count)))

-- the first entries of an array, with dots after them where it has more; None where the array cannot be shown
abbrev pub array : ℕ → FlatMemory → Option ℕ → ℕ → ℕ → Option (List ℕ)
array limit memory left address count =
    if is_array limit memory address count then Some (array_text limit memory left address count) else None

-- ---- arguments by their kinds

-- the argument in a register, as it is printed at the start of a call: that whose bytes come out of the call is its
-- address. The third argument is a buffer's length and an array's count
abbrev pub argument_text : ℕ → Content → ArgumentKind → ℕ → List ℕ
argument_text limit content kind.Int word = int_text word
argument_text limit content kind.Unsigned word = decimal word
argument_text limit content kind.Hexadecimal word = hexadecimal word
argument_text limit content kind.Address word = address_text word
argument_text limit content kind.Mode word = mode_text word
argument_text limit content kind.CString word = or_address word (string limit content.memory word)
argument_text limit content kind.InBuffer word =
    or_address word (buffer limit content.memory word content.regs.rdx)
argument_text limit content kind.InIovecs word =
    or_address word (array limit content.memory None word content.regs.rdx)
argument_text limit content kind.OutBuffer word = address_text word
argument_text limit content kind.OutIovecs word = address_text word

-- whether the bytes of an argument come out of the call
abbrev pub is_out : ArgumentKind → Bool
is_out kind.OutBuffer = true
is_out kind.OutIovecs = true
is_out _ = false

-- the bytes that came out of a call that answered this many; nothing where they are not all there
abbrev pub bytes_out : ℕ → Content → ArgumentKind → ℕ → ℕ → Option (List ℕ)
bytes_out limit content kind.OutBuffer word count = buffer limit content.memory word count
bytes_out limit content kind.OutIovecs word count = array limit content.memory (Some count) word content.regs.rdx
bytes_out limit content _ word count = None

-- ---- the arguments of a call

-- the argument at an index, from 0
abbrev pub argument_at : ℕ → Content → List ArgumentKind → ℕ → List ℕ
argument_at limit content kinds index =
    separator (index == 0) ++ argument_text limit content (slice_index_or kinds index kind.Hexadecimal)
    (slice_index (arguments_of content.regs) index)

-- this many arguments from an index on
abbrev pub arguments_text : ℕ → Content → List ArgumentKind → ℕ → ℕ → List ℕ
arguments_text limit content kinds start count =
    flat_map (argument_at limit content kinds) (range_with_len start count)
