-- The lines by the places of the stops, against the lines of the stops that are left after some: a place is a cut of
-- the list.
use Rattle.std.proofs.Common.{◌++◌, ◌≡◌, ℕ, ◌+◌, ◌-◌, Bool, true, false, not, ◌&&◌, ◌||◌, Option, Some, None, List, []}
use Rattle.std.proofs.Common.{◌∷◌, length, take, append_assoc, refl, ap, ◌∙◌, arith}
use Rattle.std.specs.List.{find, flat_map, list_any, range_with_len}
use Rattle.std.proofs.Math.Seq.{get_or-append_seam, take-append_seam}
use Rattle.std.proofs.lemmas.List.{length-append, length_push}
use Rattle.std.proofs.lemmas.List.Folds.{list_any-append}
use Rattle.record_printer.specs.Note.{CallStart, Note, Enter, Seccomp, Exit, Signal, Birth, Quiet}
use Rattle.record_printer.specs.CallStarts.{is_bound, is_call_start, is_enter, is_entered, is_exit}
use Rattle.record_printer.specs.CallStarts.{next_bound, note_at, starts_after}
use Rattle.record_printer.specs.PrintedRow.{call_line, line_at, stop_line}
use Rattle.record_printer.proofs.FoldedLines.{bound_in, line_until, lines_from}

-- ---- one stop more
abbrev entered_by : Bool → Note → Bool
entered_by entered (Enter start) = true
entered_by entered (Exit end) = false
entered_by entered (Seccomp start) = entered
entered_by entered (Signal line) = entered
entered_by entered (Birth child) = entered
entered_by entered Quiet = entered

or_true : (b : Bool) → (b || true) ≡ true
or_true true = refl
or_true false = refl

or_false : (b : Bool) → (b || false) ≡ b
or_false true = refl
or_false false = refl

and_false : (b : Bool) → (b && false) ≡ false
and_false true = refl
and_false false = refl

-- a stop other than a syscall-exit-stop changes nothing before it
same_entered : (x : Note) (notes : List Note) (note : Note) (rest : Bool) → is_exit note ≡ false
    → is_entered (notes ++ note ∷ []) ≡ rest
    → is_entered (x ∷ (notes ++ note ∷ [])) ≡ ((is_enter x && not (list_any is_exit notes)) || rest)
same_entered x notes note rest other same =
    let any : list_any is_exit (notes ++ note ∷ []) ≡ list_any is_exit notes =
    list_any-append is_exit notes (note ∷ []) ∙ rw other (or_false (list_any is_exit notes)) in
    rw (any, same) refl

entered-push : (notes : List Note) (note : Note) → is_entered (notes ++ note ∷ []) ≡ entered_by (is_entered notes) note
entered-push [] (Enter start) = refl
entered-push [] (Seccomp start) = refl
entered-push [] (Exit end) = refl
entered-push [] (Signal line) = refl
entered-push [] (Birth child) = refl
entered-push [] Quiet = refl
entered-push (x ∷ notes) (Enter start) =
    same_entered x notes (Enter start) true refl (entered-push notes (Enter start)) ∙ or_true _
entered-push (x ∷ notes) (Seccomp start) =
    same_entered x notes (Seccomp start) (is_entered notes) refl (entered-push notes (Seccomp start))
entered-push (x ∷ notes) (Exit end) =
    let any : list_any is_exit (notes ++ Exit end ∷ []) ≡ true =
    list_any-append is_exit notes (Exit end ∷ []) ∙ or_true (list_any is_exit notes) in
    rw (any, entered-push notes (Exit end)) (or_false (is_enter x && false) ∙ and_false (is_enter x))
entered-push (x ∷ notes) (Signal line) =
    same_entered x notes (Signal line) (is_entered notes) refl (entered-push notes (Signal line))
entered-push (x ∷ notes) (Birth child) =
    same_entered x notes (Birth child) (is_entered notes) refl (entered-push notes (Birth child))
entered-push (x ∷ notes) Quiet =
    same_entered x notes Quiet (is_entered notes) refl (entered-push notes Quiet)

-- ---- a place of the list, and the stops before it and after it
record Placed (all before : List Note) (note : Note) (rest : List Note) (i : ℕ) : Type 0 where
  whole : before ++ note ∷ rest ≡ all
  place : length before ≡ i

placed_note : {all before : List Note} {note : Note} {rest : List Note} {i : ℕ} → Placed all before note rest i
    → note_at all i ≡ note
placed_note {all} {before} {note} {rest} {i} at =
    rw (← at.whole, ← at.place) (get_or-append_seam before note rest Quiet)

placed_before : {all before : List Note} {note : Note} {rest : List Note} {i : ℕ} → Placed all before note rest i
    → take i all ≡ before
placed_before {all} {before} {note} {rest} {i} at = rw (← at.whole, ← at.place) (take-append_seam before (note ∷ rest))

placed_start : {all before : List Note} {note : Note} {rest : List Note} {i : ℕ} → Placed all before note rest i
    → is_call_start all i ≡ starts_after before note
placed_start at = rw (placed_before at, placed_note at) refl

placed_bound : {all before : List Note} {note : Note} {rest : List Note} {i : ℕ} → Placed all before note rest i
    → is_bound all i ≡ (is_exit note || starts_after before note)
placed_bound at = rw (placed_start at, placed_note at) refl

-- the next place
placed_next : {all before : List Note} {note : Note} {rest : List Note} {i : ℕ} → Placed all before note rest i
    → (before ++ note ∷ []) ++ rest ≡ all
placed_next {all} {before} {note} {rest} at = append_assoc before (note ∷ []) rest ∙ at.whole

placed_length : {all before : List Note} {note : Note} {rest : List Note} {i : ℕ} → Placed all before note rest i
    → length (before ++ note ∷ []) ≡ i + 1
placed_length {all} {before} {note} {rest} {i} at = length_push before note ∙ ap (λ (n : ℕ). n + 1) at.place

placed_after : {all before : List Note} {note : Note} {rest : List Note} {i : ℕ} → Placed all before note rest i
    → length all - (i + 1) ≡ length rest
placed_after {all} {before} {note} {rest} {i} at =
    let long = ap length at.whole in
    let parts = length-append before (note ∷ rest) in
    let front = at.place in
    omega arith

-- ---- the first stop that bounds a call
abbrev noted : List Note → Option ℕ → Option Note
noted all None = None
noted all (Some j) = Some (note_at all j)

-- one step of the search
here : (all : List Note) (i : ℕ) (js : List ℕ) (note : Note) → is_bound all i ≡ true → note_at all i ≡ note
    → noted all (find (is_bound all) (i ∷ js)) ≡ Some note
here all i js note is same = rw is (ap (λ (n : Note). Some n) same)

later : (all : List Note) (i : ℕ) (js : List ℕ) → is_bound all i ≡ false
    → noted all (find (is_bound all) (i ∷ js)) ≡ noted all (find (is_bound all) js)
later all i js is = rw is refl

Bounds : List Note → List Note → List Note → ℕ → Type 0
Bounds all before rest i =
    noted all (find (is_bound all) (range_with_len i (length rest))) ≡ bound_in (is_entered before) rest

bound_found : (all rest before : List Note) (i : ℕ) → before ++ rest ≡ all → length before ≡ i → Bounds all before rest i
unfolding Bounds
bound_found all [] before i whole place = refl
bound_found all (Enter start ∷ rest) before i whole place =
    let at : Placed all before (Enter start) rest i = record { whole = whole; place = place } in
    here all i (range_with_len (i + 1) (length rest)) (Enter start) (placed_bound at) (placed_note at)
bound_found all (Seccomp start ∷ rest) before i whole place =
    let at : Placed all before (Seccomp start) rest i = record { whole = whole; place = place } in
    elim (is_entered before) as (λ e. is_entered before ≡ e
    → noted all (find (is_bound all) (i ∷ range_with_len (i + 1) (length rest))) ≡ bound_in e (Seccomp start ∷ rest)) [
      | true ↦ λ is.
          let pushed : is_entered (before ++ Seccomp start ∷ []) ≡ true = entered-push before (Seccomp start) ∙ is in
          later all i (range_with_len (i + 1) (length rest)) (placed_bound at ∙ ap not is)
          ∙ bound_found all rest (before ++ Seccomp start ∷ []) (i + 1) (placed_next at) (placed_length at)
          ∙ ap (λ (e : Bool). bound_in e rest) pushed
      | false ↦ λ is.
          here all i (range_with_len (i + 1) (length rest)) (Seccomp start) (placed_bound at ∙ ap not is)
          (placed_note at)
    ] refl
bound_found all (Exit end ∷ rest) before i whole place =
    let at : Placed all before (Exit end) rest i = record { whole = whole; place = place } in
    here all i (range_with_len (i + 1) (length rest)) (Exit end) (placed_bound at) (placed_note at)
bound_found all (Signal line ∷ rest) before i whole place =
    let at : Placed all before (Signal line) rest i = record { whole = whole; place = place } in
    later all i (range_with_len (i + 1) (length rest)) (placed_bound at)
    ∙ bound_found all rest (before ++ Signal line ∷ []) (i + 1) (placed_next at) (placed_length at)
    ∙ ap (λ (e : Bool). bound_in e rest) (entered-push before (Signal line))
bound_found all (Birth child ∷ rest) before i whole place =
    let at : Placed all before (Birth child) rest i = record { whole = whole; place = place } in
    later all i (range_with_len (i + 1) (length rest)) (placed_bound at)
    ∙ bound_found all rest (before ++ Birth child ∷ []) (i + 1) (placed_next at) (placed_length at)
    ∙ ap (λ (e : Bool). bound_in e rest) (entered-push before (Birth child))
bound_found all (Quiet ∷ rest) before i whole place =
    let at : Placed all before Quiet rest i = record { whole = whole; place = place } in
    later all i (range_with_len (i + 1) (length rest)) (placed_bound at)
    ∙ bound_found all rest (before ++ Quiet ∷ []) (i + 1) (placed_next at) (placed_length at)
    ∙ ap (λ (e : Bool). bound_in e rest) (entered-push before Quiet)

-- ---- the lines
until_noted : (all : List Note) (death : Option (List ℕ)) (start : CallStart) (found : Option ℕ)
    → call_line all death start found ≡ line_until death start (noted all found)
until_noted all death start None = refl
until_noted all death start (Some j) = refl

-- the line of a call at its place
call_at : (all before : List Note) (note : Note) (rest : List Note) (i : ℕ) (death : Option (List ℕ))
    (start : CallStart) (entered : Bool) → Placed all before note rest i → entered_by (is_entered before) note ≡ entered
    → call_line all death start (next_bound all i) ≡ line_until death start (bound_in entered rest)
unfolding Bounds
call_at all before note rest i death start entered at is =
    until_noted all death start (next_bound all i)
    ∙ ap (λ (n : ℕ). line_until death start (noted all (find (is_bound all) (range_with_len (i + 1) n))))
    (placed_after at)
    ∙ ap (line_until death start) (bound_found all rest (before ++ note ∷ []) (i + 1) (placed_next at)
    (placed_length at) ∙ ap (λ (e : Bool). bound_in e rest) (entered-push before note ∙ is))

hidden : (all : List Note) (i : ℕ) (death : Option (List ℕ)) (start : CallStart) → is_call_start all i ≡ false
    → stop_line all death i (Seccomp start) ≡ []
hidden all i death start none = rw none refl

pub lines_found : (all rest before : List Note) (i : ℕ) (death : Option (List ℕ)) → before ++ rest ≡ all
    → length before ≡ i
    → flat_map (line_at all death) (range_with_len i (length rest)) ≡ lines_from death (is_entered before) rest
lines_found all [] before i death whole place = refl
lines_found all (Enter start ∷ rest) before i death whole place =
    let at : Placed all before (Enter start) rest i = record { whole = whole; place = place } in
    ap (λ (line : List ℕ). line ++ flat_map (line_at all death) (range_with_len (i + 1) (length rest)))
    (ap (stop_line all death i) (placed_note at) ∙ call_at all before (Enter start) rest i death start true at refl)
    ∙ ap (λ (lines : List ℕ). line_until death start (bound_in true rest) ++ lines)
    (lines_found all rest (before ++ Enter start ∷ []) (i + 1) death (placed_next at) (placed_length at)
    ∙ ap (λ (e : Bool). lines_from death e rest) (entered-push before (Enter start)))
lines_found all (Seccomp start ∷ rest) before i death whole place =
    let at : Placed all before (Seccomp start) rest i = record { whole = whole; place = place } in
    elim (is_entered before) as (λ e. is_entered before ≡ e
    → flat_map (line_at all death) (i ∷ range_with_len (i + 1) (length rest))
    ≡ lines_from death e (Seccomp start ∷ rest)) [
      | true ↦ λ is.
          let none : is_call_start all i ≡ false = placed_start at ∙ ap not is in
          ap (λ (line : List ℕ). line ++ flat_map (line_at all death) (range_with_len (i + 1) (length rest)))
          (ap (stop_line all death i) (placed_note at) ∙ hidden all i death start none)
          ∙ lines_found all rest (before ++ Seccomp start ∷ []) (i + 1) death (placed_next at) (placed_length at)
          ∙ ap (λ (e : Bool). lines_from death e rest) (entered-push before (Seccomp start) ∙ is)
      | false ↦ λ is.
          let some : is_call_start all i ≡ true = placed_start at ∙ ap not is in
          ap (λ (line : List ℕ). line ++ flat_map (line_at all death) (range_with_len (i + 1) (length rest)))
          (ap (stop_line all death i) (placed_note at) ∙ rw some
          (call_at all before (Seccomp start) rest i death start false at is))
          ∙ ap (λ (lines : List ℕ). line_until death start (bound_in false rest) ++ lines)
          (lines_found all rest (before ++ Seccomp start ∷ []) (i + 1) death (placed_next at) (placed_length at)
          ∙ ap (λ (e : Bool). lines_from death e rest) (entered-push before (Seccomp start) ∙ is))
    ] refl
lines_found all (Exit end ∷ rest) before i death whole place =
    let at : Placed all before (Exit end) rest i = record { whole = whole; place = place } in
    ap (λ (line : List ℕ). line ++ flat_map (line_at all death) (range_with_len (i + 1) (length rest)))
    (ap (stop_line all death i) (placed_note at))
    ∙ lines_found all rest (before ++ Exit end ∷ []) (i + 1) death (placed_next at) (placed_length at)
    ∙ ap (λ (e : Bool). lines_from death e rest) (entered-push before (Exit end))
lines_found all (Signal line ∷ rest) before i death whole place =
    let at : Placed all before (Signal line) rest i = record { whole = whole; place = place } in
    ap (λ (l : List ℕ). l ++ flat_map (line_at all death) (range_with_len (i + 1) (length rest)))
    (ap (stop_line all death i) (placed_note at))
    ∙ ap (λ (lines : List ℕ). line ++ lines)
    (lines_found all rest (before ++ Signal line ∷ []) (i + 1) death (placed_next at) (placed_length at)
    ∙ ap (λ (e : Bool). lines_from death e rest) (entered-push before (Signal line)))
lines_found all (Birth child ∷ rest) before i death whole place =
    let at : Placed all before (Birth child) rest i = record { whole = whole; place = place } in
    ap (λ (line : List ℕ). line ++ flat_map (line_at all death) (range_with_len (i + 1) (length rest)))
    (ap (stop_line all death i) (placed_note at))
    ∙ lines_found all rest (before ++ Birth child ∷ []) (i + 1) death (placed_next at) (placed_length at)
    ∙ ap (λ (e : Bool). lines_from death e rest) (entered-push before (Birth child))
lines_found all (Quiet ∷ rest) before i death whole place =
    let at : Placed all before Quiet rest i = record { whole = whole; place = place } in
    ap (λ (line : List ℕ). line ++ flat_map (line_at all death) (range_with_len (i + 1) (length rest)))
    (ap (stop_line all death i) (placed_note at))
    ∙ lines_found all rest (before ++ Quiet ∷ []) (i + 1) death (placed_next at) (placed_length at)
    ∙ ap (λ (e : Bool). lines_from death e rest) (entered-push before Quiet)
