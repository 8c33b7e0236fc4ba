-- The row that a tracee's handle acts for, and the rows that a tracer's handle has claimed.
use Rattle.std.proofs.Common.{refl, ◌≡◌, ◌∷◌, ◌==◌, [], ℕ, true, false, List, Result, Ok, Err, inl, inr, ◌∙◌, sym, ap}
use Rattle.std.proofs.Common.{eq-eqb}
use Rattle.std.proofs.lemmas.Bool.{cases_eq, or_left}
use Rattle.trace_options.specs.declared.errno.Errno.{Errno}
use Rattle.trace_options.specs.declared.errno.Errno.TheVariants as errno
use Rattle.trace_record.specs.declared.resume.Resume.{Resume as Restart}
use Rattle.stop_table.specs.Entry.{resume_of}
use Rattle.stop_table.specs.Tracer.{IsTracerHandle, is_held}
use Rattle.stop_table.specs.View.{is_among}
use Rattle.trace_calls.specs.ByRow.{IsRowRestart}
use Rattle.trace_calls.specs.Handle.{CallsHandle, claimed_record, tracer_of}
use Rattle.trace_calls.proofs.Keeping.{keeps_beside}

pub own_row : (row : ℕ) (rows : List ℕ) → rows ≡ row ∷ [] → is_among row rows ≡ true
own_row row rows is = ap (is_among row) is ∙ or_left (row == row) false (eq-eqb row row refl)

-- a restart claims nothing
pub free_beside : (a b : CallsHandle) (row : ℕ) (how : Restart) (result : Result (Unit {0}) Errno)
    → IsTracerHandle (tracer_of a) → IsRowRestart a b row how result → (other : ℕ) → is_held a.view other ≡ false
    → is_held b.view other ≡ false
free_beside a b row how (Ok done) is made other free =
    elim (cases_eq other row) [
      | inl here ↦ let clash : true ≡ false = sym made.0.1 ∙ ap (is_held a.view) (sym here) ∙ free in cc
      | inr beside ↦
          (keeps_beside a.view b.view made.1.0
          (resume_of row (claimed_record a row).number how a.view.number (claimed_record a row)) is.mine made.1.1 other
          beside).held
          ∙ free
    ]
free_beside a b row how (Err errno.ESRCH) is made other free =
    ap (λ (h : CallsHandle). is_held h.view other) made.1 ∙ free
free_beside a b row how (Err errno.EIO) is made other free =
    ap (λ (h : CallsHandle). is_held h.view other) made.2 ∙ free
free_beside a b row how (Err errno.EINVAL) is made other free = absurd made
free_beside a b row how (Err errno.ECHILD) is made other free = absurd made
