-- Texts of outcomes that are written piece by piece: the next piece, and the end.
use Rattle.std.proofs.Common.{refl, ◌≡◌, ◌<◌, ◌≤◌, ◌+◌, ◌-◌, ◌++◌, ◌∷◌, [], ℕ, suc, zero, true, false, List, None, Option}
use Rattle.std.proofs.Common.{Bor, length, get_or, drop, option_map, arith, ◌∙◌, ap, sym, append_assoc}
use Rattle.std.proofs.Common.{append-nil, flat_map, min, zip}
use Rattle.std.proofs.lemmas.List.{at_drop_all, drop_more, get_or-map}
use Rattle.std.proofs.lemmas.Option.{get_or_from_slice_get, slice_get_within}
use Rattle.std.proofs.lemmas.Slice.Zip.{get_or-zip, length-zip}
use Rattle.std.specs.Prelude.{Some, slice_get}
use Rattle.stop_history.specs.declared.roster.Row.{Row}
use Rattle.stop_history.specs.declared.state.State.{State}
use Rattle.stop_program.specs.declared.command.ThreadCommand.{ThreadCommand}
use Rattle.stop_program.specs.declared.voice.Voice.{Voice}
use Rattle.stop_program.specs.Run.{EndedRun}
use Rattle.litmus_files.specs.declared.required.Condition.{Condition}
use Rattle.outcome_text.specs.Chosen.{chosen_of, ending_numbered, is_chosen}
use Rattle.litmus_files.specs.LitmusDraft.{names_kept}
use Rattle.outcome_text.specs.OutcomeText.{name_at, outcome_text, outcome_texts, thread_text, threads_text}
use Rattle.outcome_text.specs.OutcomeText.{tracee_line}

-- ---- pieces

pub one_piece : (old part new rest all : List ℕ) → new ≡ old ++ part → all ≡ part ++ rest → new ++ rest ≡ old ++ all
one_piece old part new rest all wrote cut =
    ap (λ n. n ++ rest) wrote ∙ append_assoc old part rest ∙ ap (λ t. old ++ t) (sym cut)

pub no_piece : (old all : List ℕ) → all ≡ [] → old ++ all ≡ old
no_piece old all none = ap (λ t. old ++ t) none ∙ append-nil old

-- of a list, each of which has a text
pub pieces_more : {T : Type 0} (piece : T → List ℕ) (all : List T) (i : ℕ) (d : T) (old new : List ℕ) → i < length all
    → new ≡ old ++ piece (get_or all i d)
    → new ++ flat_map piece (drop (i + 1) all) ≡ old ++ flat_map piece (drop i all)
pieces_more {T} piece all i d old new within wrote =
    one_piece old (piece (get_or all i d)) new (flat_map piece (drop (i + 1) all)) (flat_map piece (drop i all)) wrote
    (ap (λ (left : List T). flat_map piece left) (drop_more all i d within))

pub pieces_over : {T : Type 0} (piece : T → List ℕ) (all : List T) (i : ℕ) → length all ≤ i
    → flat_map piece (drop i all) ≡ []
pieces_over {T} piece all i past = at_drop_all (λ (left : List T). flat_map piece left) all i past

-- ---- threads

-- the next one is written
pub threads_more : (rows : List Row) (voices : List Voice) (commands : ℕ → List ThreadCommand) (ending : EndedRun)
    (names : List (Option (Bor (List ℕ)))) (i : ℕ) (old new : List ℕ) → i < length names
    → new ≡ old ++ thread_text rows voices commands ending i (name_at (names_kept names) i)
    → new ++ threads_text rows voices commands ending (i + 1) (names_kept (drop (i + 1) names))
    ≡ old ++ threads_text rows voices commands ending i (names_kept (drop i names))
unfolding threads_text
threads_more rows voices commands ending names i old new within written =
    let name : Option (List ℕ) = option_map (λ (n : Bor (List ℕ)). n.now) (get_or names i None) in
    let named : name_at (names_kept names) i ≡ name =
    get_or-map (λ (n : Option (Bor (List ℕ))). option_map (λ (b : Bor (List ℕ)). b.now) n) names i None None within in
    one_piece old (thread_text rows voices commands ending i name) new
    (threads_text rows voices commands ending (i + 1) (names_kept (drop (i + 1) names)))
    (threads_text rows voices commands ending i (names_kept (drop i names)))
    (written ∙ ap (λ n. old ++ thread_text rows voices commands ending i n) named)
    (ap (λ ns. threads_text rows voices commands ending i (names_kept ns)) (drop_more names i None within))

pub threads_over : (rows : List Row) (voices : List Voice) (commands : ℕ → List ThreadCommand) (ending : EndedRun)
    (names : List (Option (Bor (List ℕ)))) (thread i : ℕ) → length names ≤ i
    → threads_text rows voices commands ending thread (names_kept (drop i names)) ≡ []
unfolding threads_text
threads_over rows voices commands ending names thread i past =
    at_drop_all (λ ns. threads_text rows voices commands ending thread (names_kept ns)) names i past

-- ---- tracees

pub tracees_more : (rows : List Row) (states : List State) (n : ℕ) (row : Row) (state : State) (old new : List ℕ)
    → n < length rows → n < length states → ((d : Row) → row ≡ get_or rows n d)
    → ((d : State) → state ≡ get_or states n d) → new ≡ old ++ tracee_line (row, state)
    → new ++ flat_map tracee_line (drop (n + 1) (zip rows states))
    ≡ old ++ flat_map tracee_line (drop n (zip rows states))
tracees_more rows states n row state old new first second row_is state_is written =
    let tracees : List (Row × State) = zip rows states in
    let within : n < length tracees = omega (arith, length-zip rows states, first, second) in
    let pair : get_or tracees n (row, state) ≡ (row, state) =
    get_or-zip rows states n (row, state) first second ∙ (λ i. (sym (row_is row) i, sym (state_is state) i)) in
    pieces_more tracee_line tracees n (row, state) old new within
    (written ∙ ap (λ (t : Row × State). old ++ tracee_line t) (sym pair))

pub tracees_over : (rows : List Row) (states : List State) (n : ℕ) → n ≡ min (length rows) (length states)
    → flat_map tracee_line (drop n (zip rows states)) ≡ []
tracees_over rows states n is =
    pieces_over tracee_line (zip rows states) n (omega (arith, length-zip rows states, is))

-- ---- outcomes

-- what is left begins with the one that is read
pub drop_at : {X : Type 0} (xs : List X) (i : ℕ) (x : X) → slice_get xs i ≡ Some x → drop i xs ≡ x ∷ drop (i + 1) xs
drop_at xs i x is =
    drop_more xs i x (slice_get_within xs i x is) ∙ ap (λ e. e ∷ drop (i + 1) xs) (get_or_from_slice_get xs i x x is)

pub chosen_here : (threads : ℕ) (commands : ℕ → List ThreadCommand) (conditions : List Condition)
    (endings : List EndedRun) (i : ℕ) (ending : EndedRun) → slice_get endings i ≡ Some ending
    → is_chosen threads commands conditions ending ≡ true
    → chosen_of threads commands conditions (drop i endings)
    ≡ ending ∷ chosen_of threads commands conditions (drop (i + 1) endings)
chosen_here threads commands conditions endings i ending is true_here =
    let cut : drop i endings ≡ ending ∷ drop (i + 1) endings = drop_at endings i ending is in
    ap (chosen_of threads commands conditions) cut ∙ rw true_here

pub chosen_not_here : (threads : ℕ) (commands : ℕ → List ThreadCommand) (conditions : List Condition)
    (endings : List EndedRun) (i : ℕ) (ending : EndedRun) → slice_get endings i ≡ Some ending
    → is_chosen threads commands conditions ending ≡ false
    → chosen_of threads commands conditions (drop i endings)
    ≡ chosen_of threads commands conditions (drop (i + 1) endings)
chosen_not_here threads commands conditions endings i ending is false_here =
    let cut : drop i endings ≡ ending ∷ drop (i + 1) endings = drop_at endings i ending is in
    ap (chosen_of threads commands conditions) cut ∙ rw false_here

pub chosen_over : (threads : ℕ) (commands : ℕ → List ThreadCommand) (conditions : List Condition)
    (endings : List EndedRun) (i : ℕ) → length endings ≤ i → chosen_of threads commands conditions (drop i endings) ≡ []
chosen_over threads commands conditions endings i past = at_drop_all (chosen_of threads commands conditions) endings i past

pub outcomes_more : (rows : List Row) (names : List (Option (List ℕ))) (voices : List Voice)
    (commands : ℕ → List ThreadCommand) (number count : ℕ) (chosen : List EndedRun) (ending : EndedRun) (more : List EndedRun) → chosen ≡ ending ∷ more
    → outcome_texts rows names voices commands number count chosen
    ≡ outcome_text rows names voices commands number count ending
    ++ outcome_texts rows names voices commands (number + 1) count more
unfolding outcome_texts
outcomes_more rows names voices commands number count chosen ending more is =
    ap (outcome_texts rows names voices commands number count) is

pub outcomes_over : (rows : List Row) (names : List (Option (List ℕ))) (voices : List Voice)
    (commands : ℕ → List ThreadCommand) (number count : ℕ) (chosen : List EndedRun) → chosen ≡ [] → outcome_texts rows names voices commands number count chosen ≡ []
unfolding outcome_texts
outcomes_over rows names voices commands number count chosen is = ap (outcome_texts rows names voices commands number count) is

pub outcomes_some : (rows : List Row) (names : List (Option (List ℕ))) (voices : List Voice)
    (commands : ℕ → List ThreadCommand) (number count : ℕ) (chosen : List EndedRun) → 0 < length chosen
    → 0 < length (outcome_texts rows names voices commands number count chosen)
unfolding outcome_texts
outcomes_some rows names voices commands number count [] some = absurd (omega (arith, some))
outcomes_some rows names voices commands number count (ending ∷ more) some = omega arith

-- ---- the outcome of a number

pub numbered_first : (number : ℕ) (ending : EndedRun) (more : List EndedRun) → number ≡ 1
    → ending_numbered number (ending ∷ more) ≡ Some ending
numbered_first number ending more one = ap (λ n. ending_numbered n (ending ∷ more)) one

pub numbered_next : (number : ℕ) (ending : EndedRun) (more : List EndedRun) → (number ≡ 1 → ⊥)
    → ending_numbered number (ending ∷ more) ≡ ending_numbered (number - 1) more
numbered_next zero ending more other = refl
numbered_next (suc zero) ending more other = absurd (other refl)
numbered_next (suc (suc before)) ending more other =
    let back : suc before ≡ suc (suc before) - 1 = omega arith in
    ap (λ n. ending_numbered n more) back
