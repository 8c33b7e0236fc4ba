-- A row is born in a driven run, once all born rows have been reaped, exactly where the case has it born.
use Rattle.std.proofs.Common.{refl, ◌≡◌, ◌<◌, ◌+◌, ◌≤◌, ◌∷◌, ◌++◌, ◌||◌, ◌&&◌, ◌==◌, [], ℕ, zero, suc, Bool, true, false}
use Rattle.std.proofs.Common.{List, Option, Some, None, length, ◌∙◌, sym, ap, inl, inr, eq-eqb, ne_eqb, arith}
use Rattle.std.specs.List.{flat_map, list_any, range_with_len}
use Rattle.std.proofs.lemmas.Bool.{cases_eq}
use Rattle.std.proofs.lemmas.List.Folds.{list_any-append}
use Rattle.trace_record.specs.Content.{Content}
use Rattle.trace_record.specs.Stop.{child_of}
use Rattle.stop_history.specs.declared.roster.Row.{Row}
use Rattle.stop_history.specs.Event as event
use Rattle.stop_history.specs.Event.{Event, events_of, subject}
use Rattle.stop_history.specs.Roster.{IsRoster, parent_of, row_at}
use Rattle.stop_history.specs.State.{creates, is_birth, is_born, was_created}
use Rattle.stop_history.proofs.Events.{other_events, own_events}
use Rattle.stop_history.proofs.Longer.{unborn_is_silent}
use Rattle.stop_history.proofs.Rosters.{placed}
use Rattle.stop_table.specs.Entry.{AreLegal, Entry, IsCarried, content_after, history_of}
use Rattle.stop_table.proofs.Entries.{legal_history}
use Rattle.trace_script.specs.StopTrace.{Trace}
use Rattle.tracer_workers.specs.CaseText.{Printer, bears, case_lines, case_text, contents_with, death_after, death_of}
use Rattle.tracer_workers.specs.CaseText.{history_lines, history_text, is_born_within, is_borne_of}
use Rattle.tracer_workers.specs.CaseText.{published_contents, text_if}
use Rattle.tracer_workers.specs.Driven.{AreDriven, AreReaped}
use Rattle.tracer_workers.specs.Plan.{Plan, row_trace}
use Rattle.tracer_workers.proofs.Wholes.{whole_trace}

-- ---- the children that a row's stops name

or_swap : (a b : Bool) → (a || b) ≡ (b || (a || false))
or_swap true true = refl
or_swap true false = refl
or_swap false true = refl
or_swap false false = refl

-- an entry of the parent
named_by : (rows : List Row) (e : Event) (content before : Content) (parent tid : ℕ) (stops : List Content)
    → subject e ≡ parent → IsCarried rows before e content
    → (is_birth parent tid e || bears tid stops) ≡ bears tid (contents_with e content stops)
named_by rows (event.Publish row number stop) content before parent tid stops same carried =
    ap (λ b. (b && creates tid (child_of stop)) || bears tid stops) (eq-eqb row parent same)
    ∙ or_swap (creates tid (child_of stop)) (bears tid stops)
    ∙ ap (λ s. bears tid stops || (creates tid (child_of s) || false)) (sym carried.2)
    ∙ sym (list_any-append (λ (c : Content). creates tid (child_of c.stop)) stops (content ∷ []))
named_by rows (event.Claim row number tracer) content before parent tid stops same carried = refl
named_by rows (event.Resume row number how tracer) content before parent tid stops same carried = refl
named_by rows (event.Exit row death) content before parent tid stops same carried = refl

-- one of another row
not_named_by : (e : Event) (parent tid : ℕ) → (subject e == parent) ≡ false → is_birth parent tid e ≡ false
not_named_by (event.Publish row number stop) parent tid other = ap (λ b. b && creates tid (child_of stop)) other
not_named_by (event.Claim row number tracer) parent tid other = refl
not_named_by (event.Resume row number how tracer) parent tid other = refl
not_named_by (event.Exit row death) parent tid other = refl

pub births_named : (rows : List Row) (h : List Entry) → AreLegal rows h → (parent tid : ℕ)
    → list_any (is_birth parent tid) (history_of h) ≡ bears tid (published_contents h parent)
births_named rows [] legal parent tid = refl
births_named rows (x ∷ h) legal parent tid =
    let before = births_named rows h legal.1 parent tid in
    elim (cases_eq (subject x.event) parent) [
      | inl same ↦
          rw (eq-eqb (subject x.event) parent same)
          (ap (λ b. is_birth parent tid x.event || b) before
          ∙ named_by rows x.event x.content (content_after rows h (subject x.event)) parent tid (published_contents h parent) same
          legal.0.2)
      | inr other ↦
          rw (ne_eqb (subject x.event) parent other)
          (ap (λ b. b || list_any (is_birth parent tid) (history_of h))
          (not_named_by x.event parent tid (ne_eqb (subject x.event) parent other))
          ∙ before)
    ]

-- ---- a row that makes no event

pub silent_published : (h : List Entry) (row : ℕ) → events_of row (history_of h) ≡ [] → published_contents h row ≡ []
silent_published [] row silent = refl
silent_published (x ∷ h) row silent =
    elim (cases_eq (subject x.event) row) [
      | inl same ↦
          (let clash : x.event ∷ events_of row (history_of h) ≡ [] =
          sym (own_events row x.event (history_of h) same) ∙ silent in cc)
      | inr other ↦
          rw (ne_eqb (subject x.event) row other)
          (silent_published h row (sym (other_events row x.event (history_of h) other) ∙ silent))
    ]

-- ---- births

-- what a born or an unborn parent says of its children is the same in the run and in the case
named_alike : (plan : Plan) (h : List Entry) → AreLegal plan.rows h → AreDriven plan h → AreReaped plan.rows h
    → (parent tid : ℕ) → parent < length plan.rows
    → (born : Bool) → is_born plan.rows (history_of h) parent ≡ born
    → bears tid (published_contents h parent) ≡ (born && bears tid (row_trace plan parent).stops)
named_alike plan h legal driven reaped parent tid within true born =
    ap (λ (t : Trace). bears tid t.stops)
    (sym (whole_trace plan h legal driven parent within (reaped parent within born)).trace)
named_alike plan h legal driven reaped parent tid within false unborn =
    ap (bears tid)
    (silent_published h parent
    (unborn_is_silent plan.rows (history_of h) (legal_history plan.rows h legal) parent unborn))

-- a row is born alike where its parent is
born_of : (plan : Plan) (h : List Entry) → IsRoster plan.rows → AreLegal plan.rows h → AreDriven plan h
    → AreReaped plan.rows h → (n row : ℕ) → row < suc n → row < length plan.rows
    → ((parent : ℕ) → parent < n → parent < length plan.rows
    → is_born plan.rows (history_of h) parent ≡ is_born_within plan n parent)
    → (parent : Option ℕ) → parent_of plan.rows row ≡ parent
    → was_created parent (row_at plan.rows row).tid (history_of h)
    ≡ is_borne_of plan (is_born_within plan n) parent (row_at plan.rows row).tid
born_of plan h roster legal driven reaped n row less within sooner None is = refl
born_of plan h roster legal driven reaped n row less within sooner (Some parent) is =
    let tid = (row_at plan.rows row).tid in
    let earlier = ((placed plan.rows roster row within).child parent is).0 in
    let there : parent < length plan.rows = omega (arith, earlier, within) in
    births_named plan.rows h legal parent tid
    ∙ named_alike plan h legal driven reaped parent tid there (is_born plan.rows (history_of h) parent) refl
    ∙ ap (λ b. b && bears tid (row_trace plan parent).stops)
    (sooner parent (omega (arith, earlier, less)) there)

pub born_same : (plan : Plan) (h : List Entry) → IsRoster plan.rows → AreLegal plan.rows h → AreDriven plan h
    → AreReaped plan.rows h → (n row : ℕ) → row < n → row < length plan.rows
    → is_born plan.rows (history_of h) row ≡ is_born_within plan n row
unfolding is_born_within
born_same plan h roster legal driven reaped zero row less within = absurd (omega arith)
born_same plan h roster legal driven reaped (suc n) row less within =
    born_of plan h roster legal driven reaped n row less within (born_same plan h roster legal driven reaped n)
    (parent_of plan.rows row) refl

-- ---- the text

pub same_on_range : (f g : ℕ → List ℕ) (most at n : ℕ) → at + n ≤ most → ((i : ℕ) → i < most → f i ≡ g i)
    → flat_map f (range_with_len at n) ≡ flat_map g (range_with_len at n)
same_on_range f g most at zero within same = refl
same_on_range f g most at (suc n) within same =
    ap (λ (xs : List ℕ). xs ++ flat_map f (range_with_len (at + 1) n)) (same at (omega arith))
    ∙ ap (λ (xs : List ℕ). g at ++ xs) (same_on_range f g most (at + 1) n (omega arith) same)

lines_by : (print : Printer) (plan : Plan) (h : List Entry) → AreLegal plan.rows h → AreDriven plan h
    → AreReaped plan.rows h → (row : ℕ) → row < length plan.rows
    → (born : Bool) → is_born plan.rows (history_of h) row ≡ born
    → text_if born (print (row_at plan.rows row).tid (published_contents h row) (death_after h row))
    ≡ text_if born
    (print (row_at plan.rows row).tid (row_trace plan row).stops (Some (death_of (row_trace plan row).ending)))
lines_by print plan h legal driven reaped row within false unborn = refl
lines_by print plan h legal driven reaped row within true born =
    let whole = whole_trace plan h legal driven row within (reaped row within born) in
    let tid = (row_at plan.rows row).tid in
    ap (print tid (published_contents h row)) whole.died
    ∙ ap (λ (t : Trace). print tid t.stops (Some (death_of t.ending))) (sym whole.trace)

pub same_lines : (print : Printer) (plan : Plan) (h : List Entry) → IsRoster plan.rows → AreLegal plan.rows h
    → AreDriven plan h → AreReaped plan.rows h → (row : ℕ) → row < length plan.rows
    → history_lines print plan.rows h row ≡ case_lines print plan row
same_lines print plan h roster legal driven reaped row within =
    lines_by print plan h legal driven reaped row within (is_born plan.rows (history_of h) row) refl
    ∙ ap (λ b. text_if b
    (print (row_at plan.rows row).tid (row_trace plan row).stops (Some (death_of (row_trace plan row).ending))))
    (born_same plan h roster legal driven reaped (length plan.rows) row within within)

pub same_texts : (print : Printer) (plan : Plan) (h : List Entry) → IsRoster plan.rows → AreLegal plan.rows h
    → AreDriven plan h → AreReaped plan.rows h → history_text print plan.rows h ≡ case_text print plan
same_texts print plan h roster legal driven reaped =
    same_on_range (history_lines print plan.rows h) (case_lines print plan) (length plan.rows) 0 (length plan.rows)
    (omega arith) (same_lines print plan h roster legal driven reaped)
