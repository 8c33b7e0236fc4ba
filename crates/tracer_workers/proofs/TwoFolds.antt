-- Two folds of a row's lines, one of a plain trace and one of a trace with a filter, side by side: between two calls, and
-- inside one that the filter stops or does not.
use Rattle.std.proofs.Common.{refl, ◌≡◌, ◌++◌, [], ℕ, Bool, true, false, List, Option, Some, None, ◌∙◌, sym, ap, subst}
use Rattle.std.proofs.Common.{append_assoc, append-nil, codes, cond}
use Rattle.record_printer.specs.Note.{CallEnd, CallStart, Exit, Enter, Seccomp, Signal, ended_line, line_with}
use Rattle.record_printer.specs.PrintedRow.{death_line, line_left}
use Rattle.record_printer.specs.RowFold.{Fold, empty_fold, ended_fold, fold_after, fold_text, left_line, started}

-- no call is pending, and these lines are printed so far
pub record Idle (fold : Fold) (lines : List ℕ) : Type 0 where
  pub pending : fold.pending ≡ None
  pub entered : fold.entered ≡ false
  pub text : fold.text ++ fold.behind ≡ lines

pub record Between (f g : Fold) : Type 0 where
  pub lines : List ℕ
  pub plain : Idle f lines
  pub filtered : Idle g lines

-- the fold with a filter sees the end of a call that is shown
abbrev pub after_end : Bool → Fold → CallEnd → Fold
after_end true g end = fold_after g (Exit end)
after_end false g end = g

-- inside a call: whatever its end is, both are between two calls again, and if the row dies in it they end alike
pub record Inside (shown : Bool) (f g : Fold) : Type 0 where
  pub ends : (end : CallEnd) → Between (fold_after f (Exit end)) (after_end shown g end)
  pub dies : (death : Option (List ℕ)) → fold_text f death ≡ fold_text g death

-- ---- between two calls

idle_text : (f : Fold) (lines : List ℕ) (death : Option (List ℕ)) → Idle f lines
    → fold_text f death ≡ lines ++ death_line death
idle_text f lines death idle =
    ap (λ p. f.text ++ (left_line death p ++ (f.behind ++ death_line death))) idle.pending
    ∙ sym (append_assoc f.text f.behind (death_line death))
    ∙ ap (λ (t : List ℕ). t ++ death_line death) idle.text

pub same_between : (f g : Fold) (death : Option (List ℕ)) → Between f g → fold_text f death ≡ fold_text g death
same_between f g death b = idle_text f b.lines death b.plain ∙ sym (idle_text g b.lines death b.filtered)

pub between_empty : Between empty_fold empty_fold
between_empty = record {
  lines = [];
  plain = record { pending = refl; entered = refl; text = refl };
  filtered = record { pending = refl; entered = refl; text = refl };
}

with_line : (f : Fold) (lines line : List ℕ) → Idle f lines → Idle (fold_after f (Signal line)) (lines ++ line)
with_line f lines line idle = record {
  pending = idle.pending;
  entered = idle.entered;
  text = sym (append_assoc f.text f.behind line) ∙ ap (λ (t : List ℕ). t ++ line) idle.text;
}

pub between_signal : (f g : Fold) (line : List ℕ) → Between f g
    → Between (fold_after f (Signal line)) (fold_after g (Signal line))
between_signal f g line b = record {
  lines = b.lines ++ line;
  plain = with_line f b.lines line b.plain;
  filtered = with_line g b.lines line b.filtered;
}

-- ---- a call that is shown

-- a call has started and ended
call_ended : (f : Fold) (lines : List ℕ) (entered : Bool) (start : CallStart) (end : CallEnd) → Idle f lines
    → Idle (ended_fold (started f entered start) end) (lines ++ ended_line start end)
call_ended f lines entered start end idle = record {
  pending = refl;
  entered = refl;
  text = append-nil ((f.text ++ f.behind) ++ (ended_line start end ++ []))
      ∙ ap (λ (t : List ℕ). t ++ (ended_line start end ++ [])) idle.text
      ∙ ap (λ (t : List ℕ). lines ++ t) (append-nil (ended_line start end));
}

both_started : (f g : Fold) (start : CallStart) → Between f g → Inside true (started f true start) (started g false start)
both_started f g start b = record {
  ends = λ end. record {
    lines = b.lines ++ ended_line start end;
    plain = call_ended f b.lines true start end b.plain;
    filtered = call_ended g b.lines false start end b.filtered;
  };
  dies = λ death. ap (λ (t : List ℕ). t ++ (line_left death start ++ death_line death))
      (b.plain.text ∙ sym b.filtered.text);
}

pub inside_shown : (f g : Fold) (start : CallStart) → Between f g
    → Inside true (fold_after f (Enter start)) (fold_after g (Seccomp start))
inside_shown f g start b =
    subst (Inside true (started f true start)) (ap (λ e. cond e g (started g false start)) (sym b.filtered.entered))
    (both_started f g start b)

-- ---- a call that is not shown has no line

no_line : (start : CallStart) (came : Option (List ℕ)) (result : List ℕ) → start.shown ≡ false
    → line_with start came result ≡ []
no_line start came result hidden = rw hidden refl

no_line_left : (start : CallStart) (death : Option (List ℕ)) → start.shown ≡ false → line_left death start ≡ []
no_line_left start None hidden = refl
no_line_left start (Some death) hidden = no_line start None (codes "?") hidden

pub inside_hidden : (f g : Fold) (start : CallStart) → start.shown ≡ false → Between f g
    → Inside false (fold_after f (Enter start)) g
inside_hidden f g start hidden b = record {
  ends = λ end. record {
    lines = b.lines;
    plain = record {
      pending = refl;
      entered = refl;
      text = append-nil ((f.text ++ f.behind) ++ (ended_line start end ++ []))
          ∙ ap (λ (t : List ℕ). (f.text ++ f.behind) ++ (t ++ [])) (no_line start _ _ hidden)
          ∙ append-nil (f.text ++ f.behind)
          ∙ b.plain.text;
    };
    filtered = b.filtered;
  };
  dies = λ death. ap (λ (t : List ℕ). (f.text ++ f.behind) ++ (t ++ death_line death)) (no_line_left start death hidden)
      ∙ ap (λ (t : List ℕ). t ++ death_line death) b.plain.text
      ∙ sym (idle_text g b.lines death b.filtered);
}
