-- What is noted of a stop: the start of a call, its end, the line of a signal, the creation of a child, or nothing
-- (strace(1); ptrace(2), "Syscall-stops", "PTRACE_EVENT stops").
use Rattle.std.specs.Prelude.{◌++◌, ◌+◌, ◌-◌, ◌∷◌, ℕ, false, true, Option, Some, None, List, [], pos, int_lt}
use Rattle.std.specs.Prelude.{codes, decimal, length, position, slice_index, slice_index_or, if◌then◌else◌}
use Rattle.std.specs.Prelude.{◌==◌}
use Rattle.std.specs.Int.{w64, cast_signed}
use Rattle.trace_options.specs.Calls.{has_call}
use Rattle.trace_options.specs.Syscalls.{SyscallRow, syscall_numbered}
use Rattle.trace_options.specs.declared.argument_kind.ArgumentKind.{ArgumentKind}
use Rattle.trace_options.specs.declared.argument_kind.ArgumentKind.TheVariants.{Hexadecimal}
use Rattle.trace_record.specs.Content.{Content}
use Rattle.trace_record.specs.declared.stop.Stop.{Stop}
use Rattle.trace_record.specs.declared.stop.Stop.TheVariants as stop
use Rattle.trace_regs.specs.Regs.{arguments_of}
use Rattle.record_printer.specs.Arguments.{arguments_text, bytes_out, is_out, separator}
use Rattle.record_printer.specs.Note.{CallStart, CallEnd, Note, Enter, Seccomp, Exit, Signal, Birth, Quiet}
use Rattle.record_printer.specs.Numbers.{address_text, hexadecimal, result_text}
use Rattle.record_printer.specs.SignalText.{signal_text}
use Rattle.record_printer.specs.declared.call.show.Show.{Show}

-- ---- calls by their numbers

-- a call that is not known by name has its number for a name
abbrev pub name_by : ℕ → Option SyscallRow → List ℕ
name_by number None = codes "syscall_" ++ hexadecimal number
name_by number (Some call) = call.name

abbrev pub call_name : ℕ → List ℕ
call_name number = name_by number (syscall_numbered number)

-- and six arguments
abbrev pub kinds_by : Option SyscallRow → List ArgumentKind
kinds_by None = Hexadecimal ∷ Hexadecimal ∷ Hexadecimal ∷ Hexadecimal ∷ Hexadecimal ∷ Hexadecimal ∷ []
kinds_by (Some call) = call.arguments

abbrev pub kinds_of : ℕ → List ArgumentKind
kinds_of number = kinds_by (syscall_numbered number)

-- the place of the argument whose bytes come out of a call, from 0
abbrev pub out_place : List ArgumentKind → Option ℕ
out_place kinds = position is_out kinds

-- the register of an argument
abbrev pub argument_word : Content → ℕ → ℕ
argument_word content index = slice_index (arguments_of content.regs) index

-- ---- the start of a call

-- the thread and the name of its call
abbrev pub line_head : Content → List ℕ
line_head content = decimal content.tid ++ (codes " " ++ (call_name content.regs.orig_rax ++ codes "("))

-- the arguments before the one whose bytes come out, or all of them
abbrev pub arguments_before : ℕ → Content → List ArgumentKind → Option ℕ → List ℕ
arguments_before limit content kinds None = arguments_text limit content kinds 0 (length kinds)
arguments_before limit content kinds (Some place) =
    arguments_text limit content kinds 0 place ++ separator (place == 0)

-- the address of the argument whose bytes come out
abbrev pub out_address : Content → Option ℕ → Option (List ℕ)
out_address content None = None
out_address content (Some place) = Some (address_text (argument_word content place))

-- the arguments after it
abbrev pub arguments_after : ℕ → Content → List ArgumentKind → Option ℕ → List ℕ
arguments_after limit content kinds None = []
arguments_after limit content kinds (Some place) =
    arguments_text limit content kinds (place + 1) (length kinds - (place + 1))

-- the start of a call that is printed
abbrev pub printed_start : ℕ → Content → List ArgumentKind → CallStart
printed_start limit content kinds = record {
  shown = true;
  number = content.regs.orig_rax;
  before = line_head content ++ arguments_before limit content kinds (out_place kinds);
  out = out_address content (out_place kinds);
  after = arguments_after limit content kinds (out_place kinds) ++ codes ") = ";
}

-- the start of a call that is not printed has no text
abbrev pub hidden_start : ℕ → CallStart
hidden_start number = record { shown = false; number = number; before = []; out = None; after = [] }

abbrev pub call_start : Show → Content → CallStart
call_start show content =
    if has_call show.calls content.regs.orig_rax
    then printed_start show.limit content (kinds_of content.regs.orig_rax)
    else hidden_start content.regs.orig_rax

-- ---- the end of a call

-- the bytes that came out through the argument at this place
abbrev pub out_at : ℕ → Content → List ArgumentKind → Option ℕ → Option (List ℕ)
out_at limit content kinds None = None
out_at limit content kinds (Some place) =
    bytes_out limit content (slice_index_or kinds place Hexadecimal) (argument_word content place) content.regs.rax

-- the bytes that came out: none where the call failed or its result is negative
abbrev pub out_bytes : ℕ → Content → Option (List ℕ)
out_bytes limit content =
    if int_lt (cast_signed w64 content.regs.rax) (pos 0) then None
    else out_at limit content (kinds_of content.regs.orig_rax) (out_place (kinds_of content.regs.orig_rax))

abbrev pub call_end : Show → Content → CallEnd
call_end show content = record {
  number = content.regs.orig_rax;
  out = out_bytes show.limit content;
  result = result_text (cast_signed w64 content.regs.rax);
}

-- ---- signals

abbrev pub signal_line : ℕ → ℕ → List ℕ
signal_line tid signal = decimal tid ++ (codes " --- " ++ (signal_text signal ++ (codes " ---" ++ 10 ∷ [])))

-- ---- the note

abbrev pub note_by : Show → Content → Stop → Note
note_by show content stop.Start = Quiet
note_by show content stop.Enter = Enter (call_start show content)
note_by show content stop.Exit = Exit (call_end show content)
note_by show content (stop.Seccomp ret_data) = Seccomp (call_start show content)
note_by show content (stop.Fork child) = Birth child
note_by show content (stop.Clone child) = Birth child
note_by show content (stop.Exec former) = Quiet
note_by show content (stop.Signal signal) = Signal (signal_line content.tid signal)
note_by show content (stop.Ending death) = Quiet

abbrev pub stop_note : Show → Content → Note
stop_note show content = note_by show content content.stop
