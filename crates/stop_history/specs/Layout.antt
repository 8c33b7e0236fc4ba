-- The 64 bits of a word: this project's own, except the statuses (wait(2)).
use Rattle.std.specs.Prelude.{◌+◌, ◌*◌, ◌^◌, ◌/◌, ◌∷◌, [], ℕ, List}
use Rattle.trace_record.specs.declared.resume.Kind.{Kind}
use Rattle.trace_record.specs.declared.resume.Kind.TheVariants.{Syscall, Cont}
use Rattle.stop_history.specs.declared.phase.Phase.{Phase}
use Rattle.stop_history.specs.declared.phase.Phase.TheVariants.{Fresh, Resumed, Active, Stopped, Claimed, Dead, Reaped}
use Rattle.stop_history.specs.Word.{Word}
use Rattle.stop_history.specs.declared.word.layout.TheConstants.{BIRTHS_BITS, KIND_BITS, NUMBER_BITS, SIGNAL_BITS}
use Rattle.stop_history.specs.declared.word.layout.TheConstants.{STATE_BITS, STATUS_BITS}

-- what is kept of a phase: its number, and the fields that it uses; the others are 0
pub record PhaseFields : Type 0 where
  pub state : ℕ
  pub status : ℕ
  pub kind : ℕ
  pub signal : ℕ
  pub tracer : ℕ

abbrev pub kept : (state status kind signal tracer : ℕ) → PhaseFields
kept state status kind signal tracer =
    record { state = state; status = status; kind = kind; signal = signal; tracer = tracer }

abbrev pub kind_number : Kind → ℕ
kind_number Syscall = 0
kind_number Cont = 1

-- the low byte is the same in each stop's status (wait(2), WIFSTOPPED), and not kept
abbrev pub phase_fields : Phase → PhaseFields
phase_fields Fresh = kept 0 0 0 0 0
phase_fields (Resumed how) = kept 1 0 (kind_number how.kind) how.signal 0
phase_fields Active = kept 2 0 0 0 0
phase_fields (Stopped status) = kept 3 (status / 0x100) 0 0 0
phase_fields (Claimed tracer) = kept 4 0 0 0 tracer
phase_fields (Dead status) = kept 5 status 0 0 0
phase_fields Reaped = kept 6 0 0 0 0

-- the tracer has what is left up to bit 62
abbrev pub tracer_bits : ℕ
tracer_bits = 4

-- a field: its width in bits, and its value
abbrev pub BitField : Type 0
BitField = ℕ × ℕ

-- the fields, from the lowest bit on
abbrev pub fields_of : (births number : ℕ) → PhaseFields → List BitField
fields_of births number k =
    (STATE_BITS, k.state) ∷ (BIRTHS_BITS, births) ∷ (NUMBER_BITS, number) ∷ (STATUS_BITS, k.status)
    ∷ (KIND_BITS, k.kind) ∷ (SIGNAL_BITS, k.signal) ∷ (tracer_bits, k.tracer) ∷ []

-- each field is right above the ones before it
abbrev pub raw_by : List BitField → ℕ
raw_by [] = 0
raw_by (field ∷ fields) = raw_by fields * 2 ^ field.0 + field.1

-- the packed word
abbrev pub raw_of : Word → ℕ
raw_of word = raw_by (fields_of word.births word.number (phase_fields word.phase))
