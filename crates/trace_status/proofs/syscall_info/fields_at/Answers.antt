-- The fields are read from their places where the bytes are a whole layout.
use Rattle.std.proofs.Common.{◌≡◌, ℕ, List, Some, slice_range, ap}
use Rattle.trace_status.specs.SyscallInfo.{info_bytes}
use Rattle.trace_status.proofs.syscall_info.fields_at.Goals as goal

pub returns : goal.returns
unfolding info_bytes
returns c = λ info fits same.
    let is_some : Some c.in_ok-part.part ≡ Some info.part = c.in_ok-part.ensures.each info fits same in
    let is_part : c.in_ok-part.part ≡ info.part = cc in
    let is_arch : c.half_at.result
    ≡ info.arch = c.half_at.ensures info.arch fits.0 (ap (λ (s : List ℕ). slice_range s 4 8) same) in
    let is_ip : c.word_at.result
    ≡ info.ip = c.word_at.ensures info.ip fits.1 (ap (λ (s : List ℕ). slice_range s 8 16) same) in
    let is_sp : c.word_at-2.result
    ≡ info.sp = c.word_at-2.ensures info.sp fits.2 (ap (λ (s : List ℕ). slice_range s 16 24) same) in
    λ i. Some (record { arch = is_arch i; ip = is_ip i; sp = is_sp i; part = is_part i })
