-- The words that events leave are in range, and words are one to one with their bits.
use Rattle.std.proofs.Common.{refl, ◌≡◌, ◌+◌, ◌*◌, ◌/◌, ◌^◌, ◌<◌, ◌≤◌, ◌==◌, ℕ, true, false, Option, Some, arith}
use Rattle.std.proofs.Common.{if◌then◌else◌, ◌∙◌, sym, ap}
use Rattle.std.proofs.lemmas.Nat.{same_from_place}
use Rattle.trace_options.specs.Event.{code_of}
use Rattle.trace_options.specs.declared.event.Event.{Event as PtraceEvent}
use Rattle.trace_options.specs.declared.event.Event.TheVariants as ptrace_event
use Rattle.trace_status.specs.declared.wait_status.TheConstants.{STOPPED}
use Rattle.trace_status.specs.declared.wait_status.WaitStatus.TheVariants as status
use Rattle.trace_record.specs.declared.stop.Stop.{Stop}
use Rattle.trace_record.specs.declared.stop.Stop.TheVariants as stop
use Rattle.trace_record.specs.declared.death.Death.{Death}
use Rattle.trace_record.specs.declared.death.Death.TheVariants as death
use Rattle.trace_record.specs.declared.resume.Kind.{Kind}
use Rattle.trace_record.specs.declared.resume.Kind.TheVariants as kind
use Rattle.trace_record.specs.Stop.{IsStop, stop_status, stop_wait_status}
use Rattle.trace_record.specs.Death.{IsDeath, death_status, death_wait_status}
use Rattle.stop_history.specs.declared.phase.Phase.{Phase}
use Rattle.stop_history.specs.declared.phase.Phase.TheVariants as phase
use Rattle.stop_history.specs.Layout.{PhaseFields, kind_number, phase_fields, raw_of}
use Rattle.stop_history.specs.declared.word.layout.TheConstants.{BIRTHS_BITS, KIND_BITS, NUMBER_BITS, SIGNAL_BITS}
use Rattle.stop_history.specs.declared.word.layout.TheConstants.{STATE_BITS, STATUS_BITS}
use Rattle.stop_history.specs.Word.{IsPhase, IsWord, Reports, Word, reports_death, reports_stop}

-- each stop's status reports a stop
pub stop_reported : (stop : Stop) → IsStop stop → Reports reports_stop (stop_status stop)
stop_reported stop.Start is = (stop_wait_status 0 stop.Start, refl, (refl, (ptrace_event.Stop, refl), refl), refl)
stop_reported stop.Enter is = (stop_wait_status 0 stop.Enter, refl, refl, refl)
stop_reported stop.Exit is = (stop_wait_status 0 stop.Exit, refl, refl, refl)
stop_reported (stop.Seccomp ret_data) is =
    (stop_wait_status 0 (stop.Seccomp ret_data), refl, (refl, (ptrace_event.Seccomp, refl), refl), refl)
stop_reported (stop.Fork child) is =
    (stop_wait_status 0 (stop.Fork child), refl, (refl, (ptrace_event.Fork, refl), refl), refl)
stop_reported (stop.Clone child) is =
    (stop_wait_status 0 (stop.Clone child), refl, (refl, (ptrace_event.Clone, refl), refl), refl)
stop_reported (stop.Exec former) is =
    (stop_wait_status 0 (stop.Exec former), refl, (refl, (ptrace_event.Exec, refl), refl), refl)
stop_reported (stop.Signal signal) is = (stop_wait_status 0 (stop.Signal signal), refl, (is, refl), refl)
stop_reported (stop.Ending death) is =
    (stop_wait_status 0 (stop.Ending death), refl, (refl, (ptrace_event.Exit, refl), refl), refl)

-- each death's status reports a death
pub death_reported : (death : Death) → IsDeath death → Reports reports_death (death_status death)
death_reported (death.Exited code) is = (death_wait_status 0 (death.Exited code), refl, (is, refl), refl)
death_reported (death.Signaled signal core) is =
    (death_wait_status 0 (death.Signaled signal core), refl, (is, refl), refl)

-- ---- words are one to one

few_codes : (e : PtraceEvent) → code_of e ≤ 128
few_codes ptrace_event.Fork = omega arith
few_codes ptrace_event.Vfork = omega arith
few_codes ptrace_event.Clone = omega arith
few_codes ptrace_event.Exec = omega arith
few_codes ptrace_event.VforkDone = omega arith
few_codes ptrace_event.Exit = omega arith
few_codes ptrace_event.Seccomp = omega arith
few_codes ptrace_event.Stop = omega arith

-- a stop's status is kept without its low byte
stop_kept : (raw : ℕ) → Reports reports_stop raw → (raw / 0x100 * 0x100 + STOPPED ≡ raw)
    × (raw / 0x100 < 2 ^ STATUS_BITS)
stop_kept raw (status.Stopped pid signal, of, is, tells) =
    let value = is.1 in let range = is.0 in (omega arith, omega arith)
stop_kept raw (status.PtraceEvent pid signal number, of, is, tells) =
    let value = is.2 in
    let small : number ≤ 128 = (let most = few_codes is.1.0 in let same = is.1.1 in omega arith) in
    (omega arith, omega arith)
stop_kept raw (status.PtraceSyscall pid, of, is, tells) = let value : raw ≡ 0x857f = is in (omega arith, omega arith)
stop_kept raw (status.Exited pid code, of, is, tells) = cc
stop_kept raw (status.Signaled pid signal core, of, is, tells) = cc
stop_kept raw (status.StillAlive, of, is, tells) = cc

death_small : (raw : ℕ) → Reports reports_death raw → raw < 2 ^ STATUS_BITS
death_small raw (status.Exited pid code, of, is, tells) = let value = is.1 in let range = is.0 in omega arith
death_small raw (status.Signaled pid signal true, of, is, tells) =
    let value : raw ≡ signal + 0x80 = is.1 in let range = is.0.1 in omega arith
death_small raw (status.Signaled pid signal false, of, is, tells) =
    let value : raw ≡ signal + 0 = is.1 in let range = is.0.1 in omega arith
death_small raw (status.Stopped pid signal, of, is, tells) = cc
death_small raw (status.PtraceEvent pid signal number, of, is, tells) = cc
death_small raw (status.PtraceSyscall pid, of, is, tells) = cc
death_small raw (status.StillAlive, of, is, tells) = cc

-- each value fits its field
record FitFields (p : PhaseFields) : Type 0 where
  state : p.state < 2 ^ STATE_BITS
  status : p.status < 2 ^ STATUS_BITS
  kind : p.kind < 2 ^ KIND_BITS
  signal : p.signal < 2 ^ SIGNAL_BITS

kind_small : (k : Kind) → kind_number k < 2
kind_small kind.Syscall = omega arith
kind_small kind.Cont = omega arith

kept_fits : (p : Phase) → IsPhase p → FitFields (phase_fields p)
kept_fits phase.Fresh is =
    record { state = omega arith; status = omega arith; kind = omega arith; signal = omega arith }
kept_fits (phase.Resumed how) is =
    record { state = omega arith; status = omega arith; kind = kind_small how.kind; signal = omega arith }
kept_fits phase.Active is =
    record { state = omega arith; status = omega arith; kind = omega arith; signal = omega arith }
kept_fits (phase.Stopped raw) is =
    record { state = omega arith; status = (stop_kept raw is).1; kind = omega arith; signal = omega arith }
kept_fits (phase.Claimed tracer) is =
    record { state = omega arith; status = omega arith; kind = omega arith; signal = omega arith }
kept_fits (phase.Dead raw) is =
    record { state = omega arith; status = death_small raw is; kind = omega arith; signal = omega arith }
kept_fits phase.Reaped is =
    record { state = omega arith; status = omega arith; kind = omega arith; signal = omega arith }

-- the phase of which this is kept
abbrev phase_at : PhaseFields → Option Phase
phase_at p =
    if p.state == 0 then Some phase.Fresh
    else if p.state == 1 then Some
    (phase.Resumed (record { kind = if p.kind == 0 then kind.Syscall else kind.Cont; signal = p.signal }))
    else if p.state == 2 then Some phase.Active
    else if p.state == 3 then Some (phase.Stopped (p.status * 0x100 + STOPPED))
    else if p.state == 4 then Some (phase.Claimed p.tracer)
    else if p.state == 5 then Some (phase.Dead p.status)
    else Some phase.Reaped

kind_back : (k : Kind) → (if kind_number k == 0 then kind.Syscall else kind.Cont) ≡ k
kind_back kind.Syscall = refl
kind_back kind.Cont = refl

phase_back : (p : Phase) → IsPhase p → phase_at (phase_fields p) ≡ Some p
phase_back phase.Fresh is = refl
phase_back (phase.Resumed how) is =
    ap (λ k. Some (phase.Resumed (record { kind = k; signal = how.signal }))) (kind_back how.kind)
phase_back phase.Active is = refl
phase_back (phase.Stopped raw) is = ap (λ n. Some (phase.Stopped n)) (stop_kept raw is).0
phase_back (phase.Claimed tracer) is = refl
phase_back (phase.Dead raw) is = refl
phase_back phase.Reaped is = refl

-- phases of which the same is kept are one
same_phase : (v w : Phase) → IsPhase v → IsPhase w → phase_fields v ≡ phase_fields w → v ≡ w
same_phase v w is_v is_w same =
    let e : Some v ≡ Some w = sym (phase_back v is_v) ∙ ap phase_at same ∙ phase_back w is_w in cc

-- words of one raw value are one
pub same_word : (v w : Word) → IsWord v → IsWord w → raw_of v ≡ raw_of w → v ≡ w
same_word v w is_v is_w same =
    let fit_v = kept_fits v.phase is_v.of_phase in
    let fit_w = kept_fits w.phase is_w.of_phase in
    let few_v : v.births < 2 ^ BIRTHS_BITS = is_v.few in
    let few_w : w.births < 2 ^ BIRTHS_BITS = is_w.few in
    let last_v : v.number < 2 ^ NUMBER_BITS = (let most = is_v.last in omega arith) in
    let last_w : w.number < 2 ^ NUMBER_BITS = (let most = is_w.last in omega arith) in
    let state = same_from_place _ _ _ _ (2 ^ STATE_BITS) fit_v.state fit_w.state same in
    let births = same_from_place _ _ _ _ (2 ^ BIRTHS_BITS) few_v few_w state.0 in
    let number = same_from_place _ _ _ _ (2 ^ NUMBER_BITS) last_v last_w births.0 in
    let status = same_from_place _ _ _ _ (2 ^ STATUS_BITS) fit_v.status fit_w.status number.0 in
    let kind = same_from_place _ _ _ _ (2 ^ KIND_BITS) fit_v.kind fit_w.kind status.0 in
    let signal = same_from_place _ _ _ _ (2 ^ SIGNAL_BITS) fit_v.signal fit_w.signal kind.0 in
    let tracer : (phase_fields v.phase).tracer ≡ (phase_fields w.phase).tracer = (let last = signal.0 in omega arith) in
    let phases = same_phase v.phase w.phase is_v.of_phase is_w.of_phase
    (λ i. record { state = state.1 i; status = status.1 i; kind = kind.1 i; signal = signal.1 i; tracer = tracer i })
    in
    λ i. record { phase = phases i; births = births.1 i; number = number.1 i }
