-- The handles of new cells: what is kept of a handle holds of each, and what each split leaves to the first seat and
-- gives to the new one.
use Rattle.std.proofs.Common.{refl, ◌≡◌, ◌<◌, ◌+◌, ◌-◌, ◌∷◌, ◌++◌, ◌==◌, [], ℕ, zero, suc, false, List, Some}
use Rattle.std.proofs.Common.{length, arith, ◌∙◌, sym, ap, subst, eq-eqb}
use Rattle.std.proofs.lemmas.Bool.{false≢true, or_left}
use Rattle.std.specs.List.{range_with_len, slice_get}
use Rattle.atomic_table.specs.Seated.{TableId}
use Rattle.stop_history.specs.declared.limits.TheConstants.{TRACERS}
use Rattle.stop_history.specs.declared.roster.Row.{Row}
use Rattle.stop_history.specs.Roster.{IsRoster}
use Rattle.stop_history.specs.Word.{Word}
use Rattle.stop_table.specs.Opening.{AreTracees, AreTracers, first_row, first_tracer, later_rows, later_tracers}
use Rattle.stop_table.specs.Opening.{new_tracee, new_tracer, new_view}
use Rattle.stop_table.specs.Steps.{Seated}
use Rattle.stop_table.specs.Tracee.{IsTracee, TraceeHandle}
use Rattle.stop_table.specs.Tracer.{IsTracer, TracerHandle}

pub is_new_tracee : (rows : List Row) (me : Seated) (row : ℕ) (word : Word) → IsRoster rows → row < length rows
    → me ≡ (new_view rows (row ∷ []) 0 [], []) → IsTracee rows me row word false
is_new_tracee rows me row word roster low is =
    subst (λ (m : Seated). IsTracee rows m row word false) (sym is) record {
      low = low;
      roster_is = refl;
      placed = roster;
      tracees = refl;
      tracers = refl;
      taken = refl;
      legal = tt;
      holding = λ holds. absurd (false≢true holds);
      idle = λ idle. refl;
    }

pub is_new_tracer : (rows : List Row) (me : Seated) (number : ℕ) (held : List ℕ) → IsRoster rows → number < TRACERS
    → me ≡ (new_view rows [] number (number ∷ []), []) → held ≡ [] → IsTracer rows me number held
is_new_tracer rows me number held roster few is none =
    subst (λ (h : List ℕ). IsTracer rows me number h) (sym none)
    (subst (λ (m : Seated). IsTracer rows m number []) (sym is) record {
      roster_is = refl;
      placed = roster;
      number_is = refl;
      few = few;
      mine = or_left (number == number) false (eq-eqb number number refl);
      idle = refl;
      legal = tt;
      slots = refl;
      apart = tt;
      claimed = λ row among. absurd (false≢true among);
      all = λ row claimed. cc;
    })

-- ---- the seats

range_begins : (from bound : ℕ) → from < bound
    → range_with_len from (bound - from) ≡ from ∷ range_with_len (from + 1) (bound - (from + 1))
range_begins from bound low =
    let more : bound - from ≡ suc (bound - (from + 1)) = omega arith in ap (range_with_len from) more

rows_begin : (rows : List Row) (row : ℕ) (tracers : List ℕ) (m : Seated) → row < length rows
    → m ≡ (new_view rows (range_with_len row (length rows - row)) 0 tracers, [])
    → m ≡ (new_view rows (row ∷ range_with_len (row + 1) (length rows - (row + 1))) 0 tracers, [])
rows_begin rows row tracers m low is =
    is ∙ ap (λ (numbers : List ℕ). (new_view rows numbers 0 tracers, [])) (range_begins row (length rows) low)

-- the first seat acts for the later rows
pub later_rows_left : (rows : List Row) (row : ℕ) (tracers : List ℕ) (m n : Seated) → row < length rows
    → m ≡ (new_view rows (range_with_len row (length rows - row)) 0 tracers, []) → n ≡ (later_rows m.0, m.1)
    → n ≡ (new_view rows (range_with_len (row + 1) (length rows - (row + 1))) 0 tracers, [])
later_rows_left rows row tracers m n low is left =
    left ∙ ap (λ (s : Seated). (later_rows s.0, s.1)) (rows_begin rows row tracers m low is)

-- the new seat acts for the first one
pub first_row_given : (rows : List Row) (row : ℕ) (tracers : List ℕ) (m n : Seated) → row < length rows
    → m ≡ (new_view rows (range_with_len row (length rows - row)) 0 tracers, []) → n ≡ (first_row m.0, [])
    → n ≡ (new_view rows (row ∷ []) 0 [], [])
first_row_given rows row tracers m n low is given =
    given ∙ ap (λ (s : Seated). (first_row s.0, [])) (rows_begin rows row tracers m low is)

tracers_begin : (rows : List Row) (tracer bound : ℕ) (m : Seated) → tracer < bound
    → m ≡ (new_view rows [] 0 (range_with_len tracer (bound - tracer)), [])
    → m ≡ (new_view rows [] 0 (tracer ∷ range_with_len (tracer + 1) (bound - (tracer + 1))), [])
tracers_begin rows tracer bound m low is =
    is ∙ ap (λ (numbers : List ℕ). (new_view rows [] 0 numbers, [])) (range_begins tracer bound low)

-- the first seat acts for the later tracers
pub later_tracers_left : (rows : List Row) (tracer bound : ℕ) (m n : Seated) → tracer < bound
    → m ≡ (new_view rows [] 0 (range_with_len tracer (bound - tracer)), []) → n ≡ (later_tracers m.0, m.1)
    → n ≡ (new_view rows [] 0 (range_with_len (tracer + 1) (bound - (tracer + 1))), [])
later_tracers_left rows tracer bound m n low is left =
    left ∙ ap (λ (s : Seated). (later_tracers s.0, s.1)) (tracers_begin rows tracer bound m low is)

-- the new seat acts for the first one
pub first_tracer_given : (rows : List Row) (tracer bound : ℕ) (m n : Seated) → tracer < bound
    → m ≡ (new_view rows [] 0 (range_with_len tracer (bound - tracer)), []) → n ≡ (first_tracer m.0, [])
    → n ≡ (new_view rows [] tracer (tracer ∷ []), [])
first_tracer_given rows tracer bound m n low is given =
    given ∙ ap (λ (s : Seated). (first_tracer s.0, [])) (tracers_begin rows tracer bound m low is)

-- ---- the handles so far, and one more

each_and_last : {X : Type 0} (P : ℕ → X → Type 0) (xs : List X) (last : X)
    → ((k : ℕ) (x : X) → slice_get xs k ≡ Some x → P k x) → P (length xs) last
    → (k : ℕ) (x : X) → slice_get (xs ++ last ∷ []) k ≡ Some x → P k x
each_and_last P [] last each at_last zero x got = (let same : last ≡ x = cc in subst (P 0) same at_last)
each_and_last P [] last each at_last (suc k) x got = cc
each_and_last P (first ∷ xs) last each at_last zero x got = each zero x got
each_and_last P (first ∷ xs) last each at_last (suc k) x got =
    each_and_last (λ n y. P (suc n) y) xs last (λ n y found. each (suc n) y found) at_last k x got

pub tracees_more : (id : TableId) (rows : List Row) (handles : List TraceeHandle) (row : ℕ) (e : TraceeHandle)
    → length handles ≡ row → AreTracees id rows handles → e.table_id ≡ id → e.row ≡ row
    → e.view ≡ new_view rows (row ∷ []) 0 [] → AreTracees id rows (handles ++ e ∷ [])
tracees_more id rows handles row e long each of_table of_row sees =
    let is : e ≡ new_tracee id rows row = λ i. record { table_id = of_table i; row = of_row i; view = sees i } in
    each_and_last (λ k x. x ≡ new_tracee id rows k) handles e each (is ∙ ap (new_tracee id rows) (sym long))

pub tracers_more : (id : TableId) (rows : List Row) (handles : List TracerHandle) (tracer : ℕ) (e : TracerHandle)
    → length handles ≡ tracer → AreTracers id rows handles → e.table_id ≡ id
    → e.view ≡ new_view rows [] tracer (tracer ∷ []) → AreTracers id rows (handles ++ e ∷ [])
tracers_more id rows handles tracer e long each of_table sees =
    let is : e ≡ new_tracer id rows tracer = λ i. record { table_id = of_table i; view = sees i } in
    each_and_last (λ k x. x ≡ new_tracer id rows k) handles e each (is ∙ ap (new_tracer id rows) (sym long))
