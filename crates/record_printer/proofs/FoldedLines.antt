-- The fold, against the lines of the stops that are left: what stops say of the calls before them is one truth value.
use Rattle.std.proofs.Common.{◌++◌, ◌≡◌, ℕ, Bool, true, false, Option, Some, None, List, [], ◌∷◌, refl, sym, ap, ◌∙◌}
use Rattle.std.proofs.Common.{append_assoc}
use Rattle.std.specs.Prelude.{if◌then◌else◌}
use Rattle.record_printer.specs.Note.{CallStart, CallEnd, Note, Enter, Seccomp, Exit, Signal, Birth, Quiet}
use Rattle.record_printer.specs.PrintedRow.{death_line, line_left, line_to}
use Rattle.record_printer.specs.RowFold.{Fold, fold_after_all, fold_text, left_line, pending_line}

-- the first stop that bounds an earlier call, by whether a syscall-enter-stop has no end before these stops
abbrev pub bound_in : Bool → List Note → Option Note
bound_in entered [] = None
bound_in entered (Enter start ∷ notes) = Some (Enter start)
bound_in entered (Seccomp start ∷ notes) = if entered then bound_in entered notes else Some (Seccomp start)
bound_in entered (Exit end ∷ notes) = Some (Exit end)
bound_in entered (Signal line ∷ notes) = bound_in entered notes
bound_in entered (Birth child ∷ notes) = bound_in entered notes
bound_in entered (Quiet ∷ notes) = bound_in entered notes

abbrev pub line_until : Option (List ℕ) → CallStart → Option Note → List ℕ
line_until death start None = line_left death start
line_until death start (Some note) = line_to start note

-- the lines of the stops that are left
abbrev pub lines_from : Option (List ℕ) → Bool → List Note → List ℕ
lines_from death entered [] = []
lines_from death entered (Enter start ∷ notes) =
    line_until death start (bound_in true notes) ++ lines_from death true notes
lines_from death entered (Seccomp start ∷ notes) =
    if entered then lines_from death entered notes
    else line_until death start (bound_in false notes) ++ lines_from death false notes
lines_from death entered (Exit end ∷ notes) = lines_from death false notes
lines_from death entered (Signal line ∷ notes) = line ++ lines_from death entered notes
lines_from death entered (Birth child ∷ notes) = lines_from death entered notes
lines_from death entered (Quiet ∷ notes) = lines_from death entered notes

-- the line of the call that is pending before them
abbrev line_pending : Option (List ℕ) → Option CallStart → Option Note → List ℕ
line_pending death None bound = []
line_pending death (Some start) bound = line_until death start bound

pending_left : (death : Option (List ℕ)) (pending : Option CallStart)
    → left_line death pending ≡ line_pending death pending None
pending_left death None = refl
pending_left death (Some start) = refl

pending_Enter : (death : Option (List ℕ)) (pending : Option CallStart) (start : CallStart)
    → line_pending death pending (Some (Enter start)) ≡ []
pending_Enter death None start = refl
pending_Enter death (Some call) start = refl

pending_Seccomp : (death : Option (List ℕ)) (pending : Option CallStart) (start : CallStart)
    → line_pending death pending (Some (Seccomp start)) ≡ []
pending_Seccomp death None start = refl
pending_Seccomp death (Some call) start = refl

pending_Exit : (death : Option (List ℕ)) (pending : Option CallStart) (end : CallEnd)
    → line_pending death pending (Some (Exit end)) ≡ pending_line pending end
pending_Exit death None end = refl
pending_Exit death (Some call) end = refl

-- what a fold's parts and the stops that are left give
Whole : Option (List ℕ) → List Note → List ℕ → Option CallStart → List ℕ → Bool → List ℕ
Whole death notes text pending behind entered =
    text ++ (line_pending death pending (bound_in entered notes)
    ++ (behind ++ (lines_from death entered notes ++ death_line death)))

-- the parts as a fold
abbrev parts : List ℕ → Option CallStart → List ℕ → Bool → Fold
parts text pending behind entered =
    record { text = text; pending = pending; behind = behind; entered = entered }

-- the steps on plain lists
start_step : (text behind line lines death : List ℕ)
    → (text ++ behind) ++ (line ++ ([] ++ (lines ++ death))) ≡ text ++ ([] ++ (behind ++ ((line ++ lines) ++ death)))
start_step text behind line lines death = simp append_assoc

end_step : (text behind line lines death : List ℕ)
    → (text ++ (line ++ behind)) ++ ([] ++ ([] ++ (lines ++ death))) ≡ text ++ (line ++ (behind ++ (lines ++ death)))
end_step text behind line lines death = simp append_assoc

signal_step : (text behind line pending lines death : List ℕ)
    → text ++ (pending ++ ((behind ++ line) ++ (lines ++ death)))
    ≡ text ++ (pending ++ (behind ++ ((line ++ lines) ++ death)))
signal_step text behind line pending lines death = simp append_assoc

folded : (death : Option (List ℕ)) (notes : List Note) (text : List ℕ) (pending : Option CallStart) (behind : List ℕ)
    (entered : Bool) → fold_text (fold_after_all (parts text pending behind entered) notes) death
    ≡ Whole death notes text pending behind entered
unfolding Whole
folded death [] text pending behind entered =
    ap (λ (line : List ℕ). text ++ (line ++ (behind ++ death_line death))) (pending_left death pending)
folded death (Enter start ∷ notes) text pending behind entered =
    folded death notes (text ++ behind) (Some start) [] true
    ∙ start_step text behind (line_until death start (bound_in true notes)) (lines_from death true notes)
    (death_line death)
    ∙ ap (λ (line : List ℕ). text ++ (line ++ (behind ++ ((line_until death start (bound_in true notes)
    ++ lines_from death true notes) ++ death_line death)))) (sym (pending_Enter death pending start))
folded death (Seccomp start ∷ notes) text pending behind true =
    folded death notes text pending behind true
folded death (Seccomp start ∷ notes) text pending behind false =
    folded death notes (text ++ behind) (Some start) [] false
    ∙ start_step text behind (line_until death start (bound_in false notes)) (lines_from death false notes)
    (death_line death)
    ∙ ap (λ (line : List ℕ). text ++ (line ++ (behind ++ ((line_until death start (bound_in false notes)
    ++ lines_from death false notes) ++ death_line death)))) (sym (pending_Seccomp death pending start))
folded death (Exit end ∷ notes) text pending behind entered =
    folded death notes (text ++ (pending_line pending end ++ behind)) None [] false
    ∙ end_step text behind (pending_line pending end) (lines_from death false notes) (death_line death)
    ∙ ap (λ (line : List ℕ). text ++ (line ++ (behind ++ (lines_from death false notes ++ death_line death))))
    (sym (pending_Exit death pending end))
folded death (Signal line ∷ notes) text pending behind entered =
    folded death notes text pending (behind ++ line) entered
    ∙ signal_step text behind line (line_pending death pending (bound_in entered notes))
    (lines_from death entered notes) (death_line death)
folded death (Birth child ∷ notes) text pending behind entered = folded death notes text pending behind entered
folded death (Quiet ∷ notes) text pending behind entered = folded death notes text pending behind entered

-- from the empty fold on
pub all_folded : (death : Option (List ℕ)) (notes : List Note)
    → fold_text (fold_after_all (parts [] None [] false) notes) death ≡ lines_from death false notes ++ death_line death
unfolding Whole
all_folded death notes = folded death notes [] None [] false
