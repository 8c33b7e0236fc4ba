-- A case that is spelled as a file is read back, block by block and line by line.
use Rattle.std.proofs.Common.{refl, ◌≡◌, ◌+◌, ◌-◌, ◌<◌, ◌≤◌, ◌++◌, ◌∷◌, [], ℕ, true, false, List, length, map, Option}
use Rattle.std.proofs.Common.{Some, None, Ok, Err, arith, ap, sym, subst, ◌∙◌, nat_le, lt-ltb, le-leb, ne_eqb, codes}
use Rattle.std.proofs.Common.{append_assoc, append-nil, length-append, leb-true}
use Rattle.std.specs.Prelude.{IfSome, ◌&&◌, ◌^◌, not, if◌then◌else◌}
use Rattle.std.specs.List.{AllByRecursion}
use Rattle.stop_history.specs.History.{is_next_child}
use Rattle.stop_history.specs.Roster.{fault_after, first_fault, is_leader, push_fault, row_at, row_of}
use Rattle.trace_pages.specs.FlatMemory.{FlatMemory}
use Rattle.trace_script.specs.Signals.{can_arrive, kills_or_stops}
use Rattle.trace_script.specs.declared.case.signals.TheConstants.{LAST_STANDARD}
use Rattle.std.proofs.lemmas.Bool.{and_parts}
use Rattle.stop_history.specs.declared.limits.TheConstants.{MOST_ROWS}
use Rattle.stop_history.specs.declared.roster.Row.{Row}
use Rattle.stop_history.proofs.Rosters.{both_none, few_rows}
use Rattle.text_lines.specs.Lines.{last_line, line_text, lines_of}
use Rattle.text_lines.specs.Ranges.{◌>>=◌}
use Rattle.text_lines.proofs.Spelled.{AreWords}
use Rattle.trace_script.specs.declared.case.keyword.Place.{Place}
use Rattle.trace_script.specs.declared.case.keyword.Place.TheVariants.{Loading, Outside}
use Rattle.trace_script.specs.declared.case.late.Late.{Late}
use Rattle.trace_script.specs.declared.cause.Cause.TheVariants as cause
use Rattle.trace_script.specs.declared.limits.TheConstants.{MOST_STEPS}
use Rattle.trace_script.specs.CaseFacts as facts
use Rattle.trace_script.specs.CaseFacts.{IsCase}
use Rattle.trace_script.specs.CaseFile.{CaseContent, fill_fault, fork_fault, is_full, kind_fault, thread_fault, unless}
use Rattle.trace_script.specs.CaseFile.{Reading, born_by, case_of, case_unless, children_of, closing_fault}
use Rattle.trace_script.specs.CaseFile.{image_after, in_force, late_cause, late_fault, late_of, line_read}
use Rattle.trace_script.specs.CaseFile.{next_step_fault, no_script, nothing_read, or_after, part_loaded, part_of_last}
use Rattle.trace_script.specs.CaseFile.{part_of_script, place_after, roster_cause, step_fault, unless_fault}
use Rattle.trace_script.specs.CaseFile.{with_block, with_line, with_script, with_step}
use Rattle.trace_script.specs.CaseLine.{Line, Part, line_of, no_image}
use Rattle.trace_script.specs.CaseLine as line
use Rattle.trace_script.specs.CaseSpelling.{IsImage, IsSpelled, IsSpelledScript, IsSpelledStep, block_lines}
use Rattle.trace_script.specs.CaseSpelling.{blocks_lines, case_spelling, image_lines, image_parts, lines_text}
use Rattle.trace_script.specs.CaseSpelling.{part_words, step_lines, step_words, steps_lines}
use Rattle.trace_script.specs.Reading.{most_bytes, read_after}
use Rattle.trace_script.specs.RowWords.{spelled_row}
use Rattle.trace_script.specs.Script.{Fill, Image, Script, Step}
use Rattle.trace_script.specs.Script as step
use Rattle.trace_script.proofs.ImagesBack.{image_loads, parts_are_spelled, parts_loaded}
use Rattle.trace_script.proofs.LinesRead.{all_read}
use Rattle.trace_script.proofs.LinesSpelled.{HasNumbers, IsInside, IsPart, end_says, part_are_words, part_says}
use Rattle.trace_script.proofs.LinesSpelled.{row_says, step_are_words, step_says, without_image}
use Rattle.trace_script.proofs.OpenBlocks.{in_force_after}
use Rattle.trace_script.proofs.RowsBack.{HasRanges, row_are_words, row_fits, row_ranges, rows_fine}
use Rattle.trace_script.proofs.SpelledLines.{first_line}

-- ---- steps that are taken
abbrev IfExec : Step → Type 0
IfExec (step.Exec path image) = IsImage image
IfExec other = Unit {0}

-- steps of a row that each fit the image in force; of a birth, the row has created this many children before
abbrev AreTaken : List Row → (row births : ℕ) → (in_force : Image) → List Step → Type 0
AreTaken rows row births image [] = Unit {0}
AreTaken rows row births image (s ∷ steps) =
    HasNumbers s × IfExec s × (step_fault image.memory s ≡ None)
    × AllByRecursion (λ late. late_cause rows late ≡ None) (late_of 1 row births s)
    × AreTaken rows row (births + length (children_of s)) (image_after image s) steps

no_more : (n : ℕ) → n + 0 ≡ n
no_more n = omega arith

fill_taken : (memory : FlatMemory) (fill : Option Fill) → facts.IsFillMapped memory fill → fill_fault memory fill ≡ None
fill_taken memory None mapped = refl
fill_taken memory (Some fill) mapped = ap (λ e. unless (is_full e) cause.Unmapped) mapped

small_signal : (signal : ℕ) → can_arrive signal ≡ true → signal < 2 ^ 64
small_signal signal arrives =
    let parts = and_parts (nat_le 1 signal) (nat_le signal LAST_STANDARD && not (kills_or_stops signal)) arrives in
    let most = and_parts (nat_le signal LAST_STANDARD) (not (kills_or_stops signal)) parts.1 in
    let last : signal ≤ LAST_STANDARD = leb-true signal LAST_STANDARD most.0 in
    omega (arith, last)

fork_taken : (rows : List Row) (row births : ℕ) (child : Option ℕ) → is_next_child rows row births child ≡ true
    → IfSome child (λ i. is_leader (row_at rows i) ≡ true) → fork_fault rows row births child ≡ None
fork_taken rows row births None next leads = cc
fork_taken rows row births (Some i) next leads =
    ap (λ b. kind_fault b (is_next_child rows row births (Some i))) leads ∙ ap (λ b. unless b cause.ChildOrder) next

thread_taken : (rows : List Row) (row births : ℕ) (child : Option ℕ) → is_next_child rows row births child ≡ true
    → IfSome child (λ i. is_leader (row_at rows i) ≡ false) → thread_fault rows row births child ≡ None
thread_taken rows row births None next follows = cc
thread_taken rows row births (Some i) next follows =
    ap (λ b. kind_fault (not b) (is_next_child rows row births (Some i))) follows
    ∙ ap (λ b. unless b cause.ChildOrder) next

-- what is known of every case, and what a file can write, are what the reader asks for
steps_taken : (rows : List Row) (row births : ℕ) (image : Image) (steps : List Step) → facts.AreSteps steps
    → facts.AreFillsMapped image.memory steps → facts.AreNext rows row births (born_by steps)
    → facts.AreAlone rows row steps → AllByRecursion (IsSpelledStep rows) steps → AreTaken rows row births image steps
steps_taken rows row births image [] signals fills next alone spelled = tt
steps_taken rows row births image (step.Call nr arguments answer fill ∷ steps) signals fills next alone spelled = (
  spelled.0,
  tt,
  fill_taken image.memory fill fills.0,
  tt,
  subst (λ n. AreTaken rows row n image steps) (sym (no_more births))
      (steps_taken rows row births image steps signals.1 fills.1 next alone.1 spelled.1),
)
steps_taken rows row births image (step.Fork child ∷ steps) signals fills next alone spelled = (
  spelled.0.0,
  tt,
  refl,
  (fork_taken rows row births (row_of rows child) next.0 spelled.0.1, tt),
  steps_taken rows row (births + 1) image steps signals.1 fills.1 next.1 alone.1 spelled.1,
)
steps_taken rows row births image (step.Thread child ∷ steps) signals fills next alone spelled = (
  spelled.0.0,
  tt,
  refl,
  (thread_taken rows row births (row_of rows child) next.0 spelled.0.1, tt),
  steps_taken rows row (births + 1) image steps signals.1 fills.1 next.1 alone.1 spelled.1,
)
steps_taken rows row births image (step.Exec path new ∷ steps) signals fills next alone spelled = (
  spelled.0.0,
  spelled.0.1,
  refl,
  (ap (λ b. unless b cause.SharedExec) (alone.0 refl), tt),
  subst (λ n. AreTaken rows row n new steps) (sym (no_more births))
      (steps_taken rows row births new steps signals.1 fills.1 next alone.1 spelled.1),
)
steps_taken rows row births image (step.Signal signal deadly ∷ steps) signals fills next alone spelled = (
  small_signal signal signals.0,
  tt,
  ap (λ b. unless b cause.Signal) signals.0,
  tt,
  subst (λ n. AreTaken rows row n image steps) (sym (no_more births))
      (steps_taken rows row births image steps signals.1 fills.1 next alone.1 spelled.1),
)
steps_taken rows row births image (step.Exit status ∷ steps) signals fills next alone spelled = (
  spelled.0,
  tt,
  refl,
  tt,
  subst (λ n. AreTaken rows row n image steps) (sym (no_more births))
      (steps_taken rows row births image steps signals.1 fills.1 next alone.1 spelled.1),
)

record IsTaken (rows : List Row) (row : ℕ) (script : Script) : Type 0 where
  image : IsImage script.image
  few : length script.steps ≤ MOST_STEPS
  steps : AreTaken rows row 0 script.image script.steps

-- the scripts of the rows from this one on
abbrev AreAllTaken : List Row → (row : ℕ) → List Script → Type 0
AreAllTaken rows row [] = row ≡ length rows
AreAllTaken rows row (script ∷ scripts) = IsTaken rows row script × AreAllTaken rows (row + 1) scripts

scripts_taken : (rows : List Row) (row : ℕ) (scripts : List Script) → row + length scripts ≡ length rows
    → facts.AreScripts rows row scripts → AllByRecursion (IsSpelledScript rows) scripts → AreAllTaken rows row scripts
scripts_taken rows row [] size are spelled = omega (arith, size)
scripts_taken rows row (script ∷ scripts) size are spelled = (
  record {
    image = spelled.0.image;
    few = are.0.few;
    steps = steps_taken rows row 0 script.image script.steps are.0.signals are.0.fills are.0.births are.0.alone
        spelled.0.steps;
  },
  scripts_taken rows (row + 1) scripts (omega (arith, size)) are.1 spelled.1,
)

-- ---- lines that lead from one reading to another, whatever births and execs are still to be tested
abbrev AreFine : List Row → List Late → Type 0
AreFine all lates = AllByRecursion (λ late. late_cause all late ≡ None) lates

abbrev with_late : Reading → List Late → Reading
with_late s late = record { place = s.place; rows = s.rows; scripts = s.scripts; script = s.script; late = late }

abbrev Leads : List Row → List (List (List ℕ)) → (before after : Reading) → Type 0
Leads all lines s t = (n : ℕ) (late : List Late) (rest : List ℕ) → AreFine all late
    → (m : ℕ) × (more : List Late) × AreFine all more
    × (read_after line_read n (with_late s late) (lines_of (lines_text lines ++ rest))
    ≡ read_after line_read m (with_late t more) (lines_of rest))

stays : (all : List Row) (s : Reading) → Leads all [] s s
stays all s = λ n late rest fine. (n, late, fine, refl)

joined : (a b : List (List (List ℕ))) (rest : List ℕ) → lines_text (a ++ b) ++ rest ≡ lines_text a ++
    (lines_text b ++ rest)
joined [] b rest = refl
joined (words ∷ a) b rest =
    append_assoc (line_text words) (lines_text (a ++ b)) rest
    ∙ ap (λ l. line_text words ++ l) (joined a b rest)
    ∙ sym (append_assoc (line_text words) (lines_text a) (lines_text b ++ rest))

follow : (all : List Row) (a b : List (List (List ℕ))) (s t u : Reading) → Leads all a s t → Leads all b t u
    → Leads all (a ++ b) s u
follow all a b s t u first second = λ n late rest fine.
    let x = first n late (lines_text b ++ rest) fine in
    let y = second x.0 x.1 rest x.2 in
    (y.0, y.1, y.2, ap (λ l. read_after line_read n (with_late s late) (lines_of l)) (joined a b rest) ∙ x.3 ∙ y.3)

-- what one line makes of a reading
abbrev Makes : List Row → Line → (before after : Reading) → Type 0
Makes all said s t = (n : ℕ) (late : List Late) → AreFine all late
    → (more : List Late) × AreFine all more × (with_line n (with_late s late) said ≡ Ok (with_late t more))

one : (all : List Row) (words : List (List ℕ)) (said : Line) (s t : Reading) → AreWords words
    → line_of s.place words ≡ Ok said
    → Makes all said s t → Leads all (words ∷ []) s t
one all words said s t are says makes = λ n late rest fine.
    let x = makes n late fine in (
      n + 1,
      x.0,
      x.1,
      ap (λ l. read_after line_read n (with_late s late) (lines_of l))
          (ap (λ l. l ++ rest) (append-nil (line_text words)))
          ∙ first_line (λ (r : Reading). line_of r.place) with_line n (with_late s late) (with_late t x.0) words said
          rest are says x.2,
    )

-- ---- the places of a reading
abbrev outside : List Row → List Script → Reading
outside rows scripts = record { place = Outside; rows = rows; scripts = scripts; script = no_script; late = [] }

abbrev inside : Place → List Row → List Script → Script → Reading
inside place rows scripts script = record { place = place; rows = rows; scripts = scripts; script = script; late = [] }

-- ---- images
-- a script by the image that is loaded now
abbrev Sets : (Image → Script) → Type 0
Sets set = (i j : Image) (part : Part) → part_loaded i part ≡ Ok j → part_of_script (set i) part ≡ Ok (set j)

part_leads : (all rows : List Row) (scripts : List Script) (set : Image → Script) → Sets set
    → (i j : Image) (part : Part) → IsPart part → part_loaded i part ≡ Ok j
    → Leads all (part_words part ∷ []) (inside Loading rows scripts (set i)) (inside Loading rows scripts (set j))
part_leads all rows scripts set sets i j part is loads =
    one all (part_words part) (line.Loads part) (inside Loading rows scripts (set i))
    (inside Loading rows scripts (set j))
    (part_are_words part is) (part_says part is)
    (λ n late fine. (
      late,
      fine,
      ap (λ r. r >>= λ script. Ok (with_script (with_late (inside Loading rows scripts (set i)) late) script))
          (sets i j part loads),
    ))

same_ok : (x y : Image) → parts_loaded x [] ≡ Ok y → x ≡ y
same_ok x y is = cc

parts_lead : (all rows : List Row) (scripts : List Script) (set : Image → Script) → Sets set
    → (i j : Image) (parts : List Part) → AllByRecursion IsPart parts → parts_loaded i parts ≡ Ok j
    → Leads all (map part_words parts) (inside Loading rows scripts (set i)) (inside Loading rows scripts (set j))
parts_lead all rows scripts set sets i j [] are loads =
    subst (λ k. Leads all [] (inside Loading rows scripts (set i)) (inside Loading rows scripts (set k)))
    (same_ok i j loads)
    (stays all (inside Loading rows scripts (set i)))
parts_lead all rows scripts set sets i j (part ∷ parts) are loads =
    elim (part_loaded i part) as (λ r. part_loaded i part ≡ r → (r >>= λ more. parts_loaded more parts) ≡ Ok j
    → Leads all (map part_words (part ∷ parts)) (inside Loading rows scripts (set i))
    (inside Loading rows scripts (set j))) [
      | Ok k ↦ λ here later.
          follow all (part_words part ∷ []) (map part_words parts) (inside Loading rows scripts (set i))
          (inside Loading rows scripts (set k)) (inside Loading rows scripts (set j))
          (part_leads all rows scripts set sets i k part are.0 here)
          (parts_lead all rows scripts set sets k j parts are.1 later)
      | Err fault ↦ λ here later. cc
    ] refl loads

image_leads : (all rows : List Row) (scripts : List Script) (set : Image → Script) → Sets set → (image : Image)
    → IsImage image
    → Leads all (image_lines image) (inside Loading rows scripts (set no_image))
    (inside Loading rows scripts (set image))
image_leads all rows scripts set sets image is =
    parts_lead all rows scripts set sets no_image image (image_parts image) (parts_are_spelled image is)
    (image_loads image is)

-- the image of a script without steps, and that of its last step
abbrev of_script : Image → Script
of_script image = record { image = image; steps = [] }

sets_of_script : Sets of_script
sets_of_script i j part loads = ap (λ r. r >>= λ image. Ok (record { image = image; steps = [] })) loads

abbrev of_exec : Image → List Step → (path : ℕ) → Image → Script
of_exec first done path image = record { image = first; steps = done ++ step.Exec path image ∷ [] }

last_loaded : (done : List Step) (path : ℕ) (i j : Image) (part : Part) → part_loaded i part ≡ Ok j
    → part_of_last (done ++ step.Exec path i ∷ []) part ≡ Ok (done ++ step.Exec path j ∷ [])
last_loaded [] path i j part loads =
    ap (λ r. (r >>= λ new. Ok (step.Exec path new)) >>= λ new. Ok (new ∷ [])) loads
last_loaded (s ∷ []) path i j part loads =
    ap (λ r. r >>= λ more. Ok (s ∷ more)) (last_loaded [] path i j part loads)
last_loaded (s ∷ next ∷ done) path i j part loads =
    ap (λ r. r >>= λ more. Ok (s ∷ more)) (last_loaded (next ∷ done) path i j part loads)

sets_of_exec : (first : Image) (done : List Step) (path : ℕ) → Sets (of_exec first done path)
sets_of_exec first done path i j part loads =
    let size = length-append done (step.Exec path i ∷ []) in
    ap (λ b. if b then
    (part_loaded first part >>= λ image. Ok (record { image = image; steps = done ++ step.Exec path i ∷ [] }))
    else (part_of_last (done ++ step.Exec path i ∷ []) part >>= λ steps. Ok (record { image = first; steps = steps })))
    (ne_eqb (length (done ++ step.Exec path i ∷ [])) 0 (λ none. omega (arith, size, none)))
    ∙ ap (λ r. r >>= λ steps. Ok (record { image = first; steps = steps })) (last_loaded done path i j part loads)

-- ---- steps
fine_of : (all : List Row) (n row births : ℕ) (s : Step) → AreFine all (late_of 1 row births s)
    → AreFine all (late_of n row births (without_image s))
fine_of all n row births (step.Call nr arguments answer fill) fine = tt
fine_of all n row births (step.Fork child) fine = fine
fine_of all n row births (step.Thread child) fine = fine
fine_of all n row births (step.Exec path image) fine = fine
fine_of all n row births (step.Signal signal deadly) fine = tt
fine_of all n row births (step.Exit status) fine = tt

fine_both : (all : List Row) (late more : List Late) → AreFine all late → AreFine all more → AreFine all (late ++ more)
fine_both all [] more fine fine_more = fine_more
fine_both all (l ∷ late) more fine fine_more = (fine.0, fine_both all late more fine.1 fine_more)

same_fault : (image : Image) (s : Step) → step_fault image.memory (without_image s) ≡ step_fault image.memory s
same_fault image (step.Call nr arguments answer fill) = refl
same_fault image (step.Fork child) = refl
same_fault image (step.Thread child) = refl
same_fault image (step.Exec path new) = refl
same_fault image (step.Signal signal deadly) = refl
same_fault image (step.Exit status) = refl

born_after : (done : List Step) (s : Step) → length (born_by (done ++ s ∷ [])) ≡ length (born_by done) + length
    (children_of s)
born_after [] s = let same = ap (λ (l : List ℕ). length l) (append-nil (children_of s)) in omega (arith, same)
born_after (d ∷ done) s =
    let more = born_after done s in
    let front = length-append (children_of d) (born_by (done ++ s ∷ [])) in
    let back = length-append (children_of d) (born_by done) in
    omega (arith, more, front, back)

-- what is known of the steps of a block so far
record IsAt (rows : List Row) (row births : ℕ) (first image : Image) (done : List Step) : Type 0 where
  row_is : length rows - 1 ≡ row
  image_is : in_force first done ≡ image
  births_are : length (born_by done) ≡ births

same_place : (s : Step) → place_after (without_image s) ≡ place_after s
same_place (step.Call nr arguments answer fill) = refl
same_place (step.Fork child) = refl
same_place (step.Thread child) = refl
same_place (step.Exec path new) = refl
same_place (step.Signal signal deadly) = refl
same_place (step.Exit status) = refl

line_leads : (all rows : List Row) (scripts : List Script) (row births : ℕ) (first image : Image) (done : List Step)
    (place : Place)
    (s : Step) → IsInside place → IsAt rows row births first image done → length done < MOST_STEPS → HasNumbers s
    → IfExec s
    → step_fault image.memory s ≡ None → AreFine all (late_of 1 row births s)
    → Leads all (step_words s ∷ []) (inside place rows scripts (record { image = first; steps = done }))
    (inside (place_after s) rows scripts (record { image = first; steps = done ++ without_image s ∷ [] }))
line_leads all rows scripts row births first image done place s in_block at room is loads fits fine =
    let before = inside place rows scripts (record { image = first; steps = done }) in
    let after = inside (place_after s) rows scripts (record { image = first; steps = done ++ without_image s ∷ [] }) in
    let none : next_step_fault (record { image = first; steps = done }) (without_image s) ≡ None =
    ap (λ b. if b then step_fault (in_force first done).memory (without_image s) else Some cause.TooMany)
    (lt-ltb (length done) MOST_STEPS room)
    ∙ ap (λ (i : Image). step_fault i.memory (without_image s)) at.image_is ∙ same_fault image s ∙ fits in
    one all (step_words s) (line.Does (without_image s)) before after (step_are_words s is)
    (step_says place in_block s is)
    (λ n late fine_late. (
      late ++ late_of n (length rows - 1) (length (born_by done)) (without_image s),
      fine_both all late (late_of n (length rows - 1) (length (born_by done)) (without_image s)) fine_late
          (subst (λ r. AreFine all (late_of n r (length (born_by done)) (without_image s))) (sym at.row_is)
          (subst (λ b. AreFine all (late_of n row b (without_image s))) (sym at.births_are)
          (fine_of all n row births s fine))),
      ap (λ o. unless_fault o (with_step n (with_late before late) (without_image s))) none
          ∙ ap (λ p. Ok (record {
            place = p;
            rows = rows;
            scripts = scripts;
            script = record { image = first; steps = done ++ without_image s ∷ [] };
            late = late ++ late_of n (length rows - 1) (length (born_by done)) (without_image s);
          })) (same_place s),
    ))

step_leads : (all rows : List Row) (scripts : List Script) (row births : ℕ) (first image : Image) (done : List Step)
    (place : Place)
    (s : Step) → IsInside place → IsAt rows row births first image done → length done < MOST_STEPS → HasNumbers s
    → IfExec s
    → step_fault image.memory s ≡ None → AreFine all (late_of 1 row births s)
    → Leads all (step_lines s) (inside place rows scripts (record { image = first; steps = done }))
    (inside (place_after s) rows scripts (record { image = first; steps = done ++ s ∷ [] }))
step_leads all rows scripts row births first image done place (step.Exec path new) in_block at room is loads fits fine =
    follow all (step_words (step.Exec path new) ∷ []) (image_lines new)
    (inside place rows scripts (record { image = first; steps = done }))
    (inside Loading rows scripts (of_exec first done path no_image))
    (inside Loading rows scripts (of_exec first done path new))
    (line_leads all rows scripts row births first image done place
    (step.Exec path new) in_block at room is loads fits fine)
    (image_leads all rows scripts (of_exec first done path) (sets_of_exec first done path) new loads)
step_leads all rows scripts row births first image done place
    (step.Call nr arguments answer fill) in_block at room is loads fits fine =
    line_leads all rows scripts row births first image done place
    (step.Call nr arguments answer fill) in_block at room is loads fits fine
step_leads all rows scripts row births first image done place (step.Fork child) in_block at room is loads fits fine =
    line_leads all rows scripts row births first image done place (step.Fork child) in_block at room is loads fits fine
step_leads all rows scripts row births first image done place (step.Thread child) in_block at room is loads fits fine =
    line_leads all rows scripts row births first image done place
    (step.Thread child) in_block at room is loads fits fine
step_leads all rows scripts row births first image done place
    (step.Signal signal deadly) in_block at room is loads fits fine =
    line_leads all rows scripts row births first image done place
    (step.Signal signal deadly) in_block at room is loads fits fine
step_leads all rows scripts row births first image done place (step.Exit status) in_block at room is loads fits fine =
    line_leads all rows scripts row births first image done place (step.Exit status) in_block at room is loads fits fine

inside_after : (s : Step) → IsInside (place_after s)
inside_after (step.Call nr arguments answer fill) = tt
inside_after (step.Fork child) = tt
inside_after (step.Thread child) = tt
inside_after (step.Exec path image) = tt
inside_after (step.Signal signal deadly) = tt
inside_after (step.Exit status) = tt

-- the place after steps
abbrev place_of : Place → List Step → Place
place_of place [] = place
place_of place (s ∷ steps) = place_of (place_after s) steps

steps_lead : (all rows : List Row) (scripts : List Script) (row births : ℕ) (first image : Image)
    (done steps : List Step) (place : Place)
    → IsInside place → IsAt rows row births first image done → length done + length steps ≤ MOST_STEPS
    → AreTaken all row births image steps
    → Leads all (steps_lines steps) (inside place rows scripts (record { image = first; steps = done }))
    (inside (place_of place steps) rows scripts (record { image = first; steps = done ++ steps }))
steps_lead all rows scripts row births first image done [] place in_block at few are =
    subst (λ l. Leads all [] (inside place rows scripts (record { image = first; steps = done }))
    (inside place rows scripts (record { image = first; steps = l }))) (sym (append-nil done))
    (stays all (inside place rows scripts (record { image = first; steps = done })))
steps_lead all rows scripts row births first image done (s ∷ steps) place in_block at few are =
    let longer = length-append done (s ∷ []) in
    let next : IsAt rows row (births + length (children_of s)) first (image_after image s) (done ++ s ∷ []) = record {
      row_is = at.row_is;
      image_is = in_force_after first done s ∙ ap (λ i. image_after i s) at.image_is;
      births_are = born_after done s ∙ ap (λ n. n + length (children_of s)) at.births_are;
    } in
    subst (λ l. Leads all (steps_lines (s ∷ steps)) (inside place rows scripts (record { image = first; steps = done }))
    (inside (place_of (place_after s) steps) rows scripts (record { image = first; steps = l })))
    (append_assoc done (s ∷ []) steps)
    (follow all (step_lines s) (steps_lines steps) (inside place rows scripts (record { image = first; steps = done }))
    (inside (place_after s) rows scripts (record { image = first; steps = done ++ s ∷ [] }))
    (inside (place_of (place_after s) steps) rows scripts (record { image = first; steps = (done ++ s ∷ []) ++ steps }))
    (step_leads all rows scripts row births first image done place s in_block at (omega arith) are.0 are.1 are.2 are.3)
    (steps_lead all rows scripts row (births + length (children_of s)) first (image_after image s)
    (done ++ s ∷ []) steps (place_after s)
    (inside_after s) next (omega (arith, longer)) are.4))

inside_of : (place : Place) (steps : List Step) → IsInside place → IsInside (place_of place steps)
inside_of place [] in_block = in_block
inside_of place (s ∷ steps) in_block = inside_of (place_after s) steps (inside_after s)

-- ---- blocks
row_opens : (all rows : List Row) (scripts : List Script) (row : Row) → push_fault rows row ≡ None → HasRanges row
    → Leads all ((codes "tracee" ∷ spelled_row row) ∷ []) (outside rows scripts)
    (inside Loading (rows ++ row ∷ []) scripts (of_script no_image))
row_opens all rows scripts row fits has =
    one all (codes "tracee" ∷ spelled_row row) (line.Opens row) (outside rows scripts)
    (inside Loading (rows ++ row ∷ []) scripts (of_script no_image)) (refl, row_are_words row has) (row_says row has)
    (λ n late fine. (
      late,
      fine,
      ap (λ o. unless_fault (roster_cause o) (with_block (with_late (outside rows scripts) late) row)) fits,
    ))

block_ends : (all rows : List Row) (scripts : List Script) (script : Script) (place : Place) → IsInside place
    → Leads all ((codes "end" ∷ []) ∷ []) (inside place rows scripts script) (outside rows (scripts ++ script ∷ []))
block_ends all rows scripts script place in_block =
    one all (codes "end" ∷ []) line.Closes (inside place rows scripts script) (outside rows (scripts ++ script ∷ []))
    (refl, tt)
    (end_says place in_block) (λ n late fine. (late, fine, refl))

block_leads : (all rows : List Row) (scripts : List Script) (row : Row) (script : Script) → push_fault rows row ≡ None
    → HasRanges row
    → IsTaken all (length rows) script
    → Leads all (block_lines row script) (outside rows scripts) (outside (rows ++ row ∷ []) (scripts ++ script ∷ []))
block_leads all rows scripts row script fits has is =
    let longer = length-append rows (row ∷ []) in
    let begin : IsAt (rows ++ row ∷ []) (length rows) 0 script.image script.image [] = record {
      row_is = omega (arith, longer);
      image_is = refl;
      births_are = refl;
    } in
    let opened = inside Loading (rows ++ row ∷ []) scripts (of_script no_image) in
    let loaded = inside Loading (rows ++ row ∷ []) scripts (of_script script.image) in
    let done = inside (place_of Loading script.steps) (rows ++ row ∷ []) scripts script in
    follow all ((codes "tracee" ∷ spelled_row row) ∷ [])
    (image_lines script.image ++ (steps_lines script.steps ++ (codes "end" ∷ []) ∷ []))
    (outside rows scripts) opened (outside (rows ++ row ∷ []) (scripts ++ script ∷ []))
    (row_opens all rows scripts row fits has)
    (follow all (image_lines script.image) (steps_lines script.steps ++ (codes "end" ∷ []) ∷ []) opened loaded
    (outside (rows ++ row ∷ []) (scripts ++ script ∷ []))
    (image_leads all (rows ++ row ∷ []) scripts of_script sets_of_script script.image is.image)
    (follow all (steps_lines script.steps) ((codes "end" ∷ []) ∷ []) loaded done
    (outside (rows ++ row ∷ []) (scripts ++ script ∷ []))
    (steps_lead all (rows ++ row ∷ []) scripts
    (length rows) 0 script.image script.image [] script.steps Loading tt begin
    (let few = is.few in omega (arith, few)) is.steps)
    (block_ends all (rows ++ row ∷ []) scripts script (place_of Loading script.steps)
    (inside_of Loading script.steps tt))))

count : (all : List Row) (i : ℕ) (scripts : List Script) → AreAllTaken all i scripts → i + length scripts ≡ length all
count all i [] are = let last : i ≡ length all = are in omega (arith, last)
count all i (script ∷ scripts) are = let more = count all (i + 1) scripts are.1 in omega (arith, more)

blocks_lead : (all before rows : List Row) (done scripts : List Script) → first_fault before rows ≡ None
    → length before + length rows ≤ MOST_ROWS → length before + length rows ≡ length all → AreAllTaken all
    (length before) scripts
    → Leads all (blocks_lines rows scripts) (outside before done) (outside (before ++ rows) (done ++ scripts))
blocks_lead all before [] done [] fine few size are =
    subst (λ l. Leads all [] (outside before done) (outside l (done ++ []))) (sym (append-nil before))
    (subst (λ l. Leads all [] (outside before done) (outside before l)) (sym (append-nil done))
    (stays all (outside before done)))
blocks_lead all before [] done (script ∷ scripts) fine few size are =
    absurd (let long = count all (length before) (script ∷ scripts) are in omega (arith, long, size))
blocks_lead all before (row ∷ rows) done [] fine few size are =
    absurd (let short : length before ≡ length all = are in omega (arith, short, size))
blocks_lead all before (row ∷ rows) done (script ∷ scripts) fine few size are =
    let parts = both_none (fault_after before row) (first_fault (before ++ row ∷ []) rows) fine in
    let longer = length-append before (row ∷ []) in
    let next : length before + 1 ≡ length (before ++ row ∷ []) = omega (arith, longer) in
    let there = outside ((before ++ row ∷ []) ++ rows) ((done ++ script ∷ []) ++ scripts) in
    subst (λ l. Leads all (blocks_lines (row ∷ rows) (script ∷ scripts)) (outside before done)
    (outside l (done ++ script ∷ scripts)))
    (append_assoc before (row ∷ []) rows)
    (subst (λ l. Leads all (blocks_lines (row ∷ rows) (script ∷ scripts)) (outside before done)
    (outside ((before ++ row ∷ []) ++ rows) l))
    (append_assoc done (script ∷ []) scripts)
    (follow all (block_lines row script) (blocks_lines rows scripts) (outside before done)
    (outside (before ++ row ∷ []) (done ++ script ∷ [])) there
    (block_leads all before done row script (row_fits before row (omega (arith, few)) parts.0)
    (row_ranges before row parts.0) are.0)
    (blocks_lead all (before ++ row ∷ []) rows (done ++ script ∷ []) scripts parts.1 (omega (arith, longer, few))
    (omega (arith, longer, size)) (subst (λ i. AreAllTaken all i scripts) next are.1))))

-- ---- the file
no_late_fault : (all : List Row) (late : List Late) → AreFine all late → late_fault all late ≡ None
no_late_fault all [] fine = refl
no_late_fault all (l ∷ late) fine =
    ap (λ c. or_after l.line c (late_fault all late)) fine.0 ∙ no_late_fault all late fine.1

pub case_back : (content : CaseContent) → IsCase content → IsSpelled content → case_of
    (case_spelling content) ≡ Ok content
case_back content is spelled =
    let text = case_spelling content in
    let few = few_rows content.rows is.roster in
    let taken = scripts_taken content.rows 0 content.scripts
    (let each = is.each in omega (arith, each)) is.scripts spelled.scripts in
    let x = blocks_lead content.rows [] content.rows [] content.scripts (rows_fine content.rows is.roster)
    (omega (arith, few))
    (omega arith) taken 1 [] [] tt in
    let end = with_late (outside content.rows content.scripts) x.1 in
    let read : read_after line_read 1 nothing_read (lines_of text) ≡ Ok end =
    ap (λ l. read_after line_read 1 nothing_read (lines_of l)) (sym (append-nil text)) ∙ x.3
    ∙ all_read line_read x.0 end in
    rw (le-leb (length text) most_bytes spelled.size)
    (ap (λ r. r >>= λ all. case_unless (closing_fault (last_line text) all) all) read
    ∙ ap (λ o. case_unless o end) (no_late_fault content.rows x.1 x.2))
