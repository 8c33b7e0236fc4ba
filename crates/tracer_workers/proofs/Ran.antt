-- What a run on threads leaves of the handles that it began with: each has the events of its own actors alone, and those
-- are the script's and the policy's; together they act for all; and the pieces that were kept are those of the run, all
-- of them where no worker was refused memory.
use Rattle.std.proofs.Common.{refl, ◌≡◌, ◌<◌, ◌==◌, ◌||◌, ◌∷◌, ◌++◌, ◌+◌, [], ℕ, zero, suc, Bool, true, false, List}
use Rattle.std.proofs.Common.{length, map, inl, inr}
use Rattle.std.proofs.Common.{◌∙◌, sym, ap, subst, arith, eq-eqb, get_or, reverse, length-append}
use Rattle.std.proofs.lemmas.List.{append-nil, length-reverse}
use Rattle.std.proofs.lemmas.List.Concat.{flat_map-append}
use Rattle.std.specs.List.{All, AllZip, Contains, flat_map, list_any, range_with_len}
use Rattle.std.proofs.lemmas.List.Elements.{All-append, All-contains, All-contains_itself, All-map, All-weaker}
use Rattle.std.proofs.lemmas.List.Elements.{Contains-append_cases, Contains-append_left, Contains-append_right}
use Rattle.std.proofs.lemmas.List.Folds.{list_any-append, list_any_at}
use Rattle.std.proofs.lemmas.List.Sorted.{All-permutation, Contains-permutation, IsPermutation-reverse}
use Rattle.std.proofs.lemmas.List.Sorted.{IsPermutation-sym, list_any-IsPermutation}
use Rattle.std.proofs.lemmas.Option.{slice_get-get_or}
use Rattle.atomic_table.specs.Seated.{TableId}
use Rattle.record_printer.specs.Piece.{Piece}
use Rattle.record_printer.specs.declared.call.show.Show.{Show}
use Rattle.stop_history.specs.declared.actor.Actor.{Actor}
use Rattle.stop_history.specs.declared.actor.Actor.TheVariants.{Tracee, Tracer}
use Rattle.stop_history.specs.declared.limits.TheConstants.{TRACERS}
use Rattle.stop_history.specs.declared.roster.Row.{Row}
use Rattle.stop_history.specs.Over.{is_gone}
use Rattle.stop_history.specs.Roster.{IsRoster}
use Rattle.stop_history.specs.State.{state_after}
use Rattle.stop_table.specs.Entry.{AreLegal, Entry, GoesOn, cell_after, history_of}
use Rattle.stop_table.specs.Opening.{AreTracees, AreTracers, new_tracee, new_tracer}
use Rattle.stop_table.specs.Tracee.{TraceeHandle}
use Rattle.stop_table.specs.Tracer.{TracerHandle, held_rows, is_claimed_by}
use Rattle.stop_table.specs.View.{View, actors_of, is_among}
use Rattle.stop_table.proofs.Entries.{legal_back}
use Rattle.stop_table.proofs.Own.{same_actors}
use Rattle.trace_script.specs.CaseFile.{CaseContent}
use Rattle.trace_script.specs.StopTrace.{Position}
use Rattle.tracer_workers.specs.Config.{plan_of, show_of}
use Rattle.tracer_workers.specs.Driven.{AreDriven, AreReaped}
use Rattle.tracer_workers.specs.DrivenBy.{AreDrivenBy}
use Rattle.tracer_workers.specs.Gathering.{AreSeen, AreWhole, GoesOnFrom, HasLostStop, IsFreeTracee, IsFreeTracer}
use Rattle.tracer_workers.specs.Gathering.{views_of}
use Rattle.tracer_workers.specs.Threaded.{ActForAll, IsActor, CanRun, HasRun, HasWorked}
use Rattle.tracer_workers.specs.TraceeThread.{IsToStart}
use Rattle.tracer_workers.specs.WorkerThread.{AreOverForGood, own_pieces, pieces_claimed}
use Rattle.tracer_workers.specs.declared.config.Config.{Config}
use Rattle.tracer_workers.proofs.Claimed.{all_claimed, claims_are_whole}
use Rattle.tracer_workers.proofs.Joined.{all_driven}
use Rattle.tracer_workers.proofs.LastLooks.{all_gone_reaped}
use Rattle.tracer_workers.proofs.ThreadLaws.{claimed_are_made}
use Rattle.tracer_workers.proofs.WorkerThreads.{all_free, pieces_on, stays_driven}
use Rattle.tracer_workers.proofs.Zips.{zip_all, zip_any, zip_length}

-- ---- lists

any_map : {X Y : Type 0} (p : Y → Bool) (f : X → Y) (xs : List X) → list_any p (map f xs) ≡ list_any (λ x. p (f x)) xs
any_map p f [] = refl
any_map p f (x ∷ xs) = ap (λ b. p (f x) || b) (any_map p f xs)

long_map : {X Y : Type 0} (f : X → Y) (xs : List X) → length (map f xs) ≡ length xs
long_map f [] = refl
long_map f (x ∷ xs) = let rest = long_map f xs in omega (arith, rest)

at_map : {X Y : Type 0} (f : X → Y) (xs : List X) (k : ℕ) (d : X) → get_or (map f xs) k (f d) ≡ f (get_or xs k d)
at_map f [] zero d = refl
at_map f [] (suc k) d = refl
at_map f (x ∷ xs) zero d = refl
at_map f (x ∷ xs) (suc k) d = at_map f xs k d

contains_map : {X Y : Type 0} (f : X → Y) (xs : List X) (x : X) → Contains xs x → Contains (map f xs) (f x)
contains_map f xs x there =
    (there.0, (let long = long_map f xs in omega (arith, there.1)), at_map f xs there.0 x ∙ ap f there.2)

from_flat : {X A : Type 0} (f : X → List A) (xs : List X) (y : A) → Contains (flat_map f xs) y
    → (x : X) × Contains xs x × Contains (f x) y
from_flat f [] y there = absurd (omega (arith, there.1))
from_flat f (x ∷ xs) y there =
    elim (Contains-append_cases (f x) (flat_map f xs) y there) [
      | inl here ↦ (x, Contains-append_left (x ∷ []) xs x (0, omega arith, refl), here)
      | inr later ↦
          (let m = from_flat f xs y later in (m.0, Contains-append_right (x ∷ []) xs m.0 m.1, m.2))
    ]

flat_same : {X A : Type 0} (f g : X → List A) (xs : List X) → ((x : X) → Contains xs x → f x ≡ g x)
    → flat_map f xs ≡ flat_map g xs
flat_same f g [] same = refl
flat_same f g (x ∷ xs) same =
    ap (λ (ys : List _). ys ++ flat_map f xs) (same x (0, omega arith, refl))
    ∙ ap (λ (ys : List _). g x ++ ys) (flat_same f g xs (λ y there. same y (Contains-append_right (x ∷ []) xs y there)))

flat_none : {X A : Type 0} (f : X → List A) (xs : List X) → ((x : X) → Contains xs x → f x ≡ [])
    → flat_map f xs ≡ []
flat_none f [] none = refl
flat_none f (x ∷ xs) none =
    ap (λ (ys : List _). ys ++ flat_map f xs) (none x (0, omega arith, refl))
    ∙ flat_none f xs (λ y there. none y (Contains-append_right (x ∷ []) xs y there))

zip_flat : {X Y A : Type 0} (R : X → Y → Type 0) (f : X → List A) (g : Y → List A)
    → ((x : X) (y : Y) → R x y → f x ≡ g y) → (xs : List X) (ys : List Y) → AllZip R xs ys
    → flat_map f xs ≡ flat_map g ys
zip_flat R f g same [] [] zip = refl
zip_flat R f g same [] (b ∷ ys) zip = absurd zip
zip_flat R f g same (a ∷ xs) [] zip = absurd zip
zip_flat R f g same (a ∷ xs) (b ∷ ys) zip =
    λ i. same a b zip.0 i ++ zip_flat R f g same xs ys zip.1 i

first_of_zip : {X Y : Type 0} (R : X → Y → Type 0) (xs : List X) (ys : List Y) → AllZip R xs ys → 0 < length xs
    → (x : X) × (y : Y) × Contains xs x × Contains ys y × R x y
first_of_zip R [] ys zip some = absurd (omega (arith, some))
first_of_zip R (a ∷ xs) [] zip some = absurd zip
first_of_zip R (a ∷ xs) (b ∷ ys) zip some = (a, b, (0, omega arith, refl), (0, omega arith, refl), zip.0)

-- handles that have the numbers in order, from the first on
flat_by_number : (f : ℕ → List Piece) (es : List TracerHandle) (first : ℕ)
    → ((k : ℕ) (d : TracerHandle) → k < length es → (get_or es k d).view.number ≡ first + k)
    → flat_map (λ (e : TracerHandle). f e.view.number) es ≡ flat_map f (range_with_len first (length es))
flat_by_number f [] first are = refl
flat_by_number f (e ∷ es) first are =
    let here : e.view.number ≡ first = let at = are 0 e (omega arith) in omega (arith, at) in
    ap (λ n. f n ++ flat_map (λ (e : TracerHandle). f e.view.number) es) here
    ∙ ap (λ (xs : List Piece). f first ++ xs)
    (flat_by_number f es (first + 1) (λ k d within.
    let at = are (suc k) d (omega (arith, within)) in omega (arith, at)))

own_none : (show : Show) (v : View) → v.seen ≡ [] → own_pieces show v ≡ []
own_none show v nothing = ap (pieces_claimed show v.roster v.number) nothing

all_of_append : {X : Type 0} (P : X → Type 0) (xs ys : List X) → All P (xs ++ ys) → All P xs × All P ys
all_of_append P xs ys all = (
  All-weaker (Contains xs) P (λ x there. All-contains P (xs ++ ys) x all (Contains-append_left xs ys x there)) xs
      (All-contains_itself xs),
  All-weaker (Contains ys) P (λ x there. All-contains P (xs ++ ys) x all (Contains-append_right xs ys x there)) ys
      (All-contains_itself ys),
)

or_left : (a b : Bool) → a ≡ true → (a || b) ≡ true
or_left a b is = ap (λ c. c || b) is

or_right : (a b : Bool) → b ≡ true → (a || b) ≡ true
or_right true b is = refl
or_right false b is = is

or_turned : (a b : Bool) → (a || b) ≡ true → (b || a) ≡ true
or_turned true true is = refl
or_turned true false is = refl
or_turned false true is = refl
or_turned false false is = is

-- ---- handles that have seen nothing

abbrev pub IsNewTracee : TableId → List Row → TraceeHandle → Type 0
IsNewTracee id rows e = (e.table_id ≡ id) × (e.view.roster ≡ rows) × (e.view.taken ≡ false)

abbrev pub IsNewTracer : TableId → List Row → TracerHandle → Type 0
IsNewTracer id rows e =
    (e.table_id ≡ id) × (e.view.roster ≡ rows) × (e.view.seen ≡ []) × (is_among e.view.number e.view.tracers ≡ true)

pub new_tracees : (id : TableId) (rows : List Row) (es : List TraceeHandle) → AreTracees id rows es
    → All (IsNewTracee id rows) es
new_tracees id rows es are k d within =
    let is = are k (get_or es k d) (slice_get-get_or es k d within) in (
      ap (λ (e : TraceeHandle). e.table_id) is,
      ap (λ (e : TraceeHandle). e.view.roster) is,
      ap (λ (e : TraceeHandle). e.view.taken) is,
    )

pub new_tracers : (id : TableId) (rows : List Row) (es : List TracerHandle) → AreTracers id rows es
    → All (IsNewTracer id rows) es
new_tracers id rows es are k d within =
    let is = are k (get_or es k d) (slice_get-get_or es k d within) in (
      ap (λ (e : TracerHandle). e.table_id) is,
      ap (λ (e : TracerHandle). e.view.roster) is,
      ap (λ (e : TracerHandle). e.view.seen) is,
      ap (λ (e : TracerHandle). is_among e.view.number e.view.tracers) is ∙ or_left (k == k) false (eq-eqb k k refl),
    )

pub nothing_held : (v : View) → v.seen ≡ [] → held_rows v ≡ []
nothing_held v nothing =
    all_free v (λ row within.
    ap (λ (h : List Entry). is_claimed_by v.number (cell_after v.roster h row).phase) nothing)

tracee_acts : (id : TableId) (rows : List Row) (es : List TraceeHandle) → AreTracees id rows es → (row : ℕ)
    → row < length es → list_any (λ (e : TraceeHandle). actors_of e.view (Tracee row)) es ≡ true
tracee_acts id rows es are row within =
    let d = new_tracee id rows row in
    let is = are row (get_or es row d) (slice_get-get_or es row d within) in
    list_any_at (λ (e : TraceeHandle). actors_of e.view (Tracee row)) es row d within
    (ap (λ (e : TraceeHandle). actors_of e.view (Tracee row)) is ∙ or_left (row == row) false (eq-eqb row row refl))

tracer_acts : (id : TableId) (rows : List Row) (es : List TracerHandle) → AreTracers id rows es → (tracer : ℕ)
    → tracer < length es → list_any (λ (e : TracerHandle). actors_of e.view (Tracer tracer)) es ≡ true
tracer_acts id rows es are tracer within =
    let d = new_tracer id rows tracer in
    let is = are tracer (get_or es tracer d) (slice_get-get_or es tracer d within) in
    list_any_at (λ (e : TracerHandle). actors_of e.view (Tracer tracer)) es tracer d within
    (ap (λ (e : TracerHandle). actors_of e.view (Tracer tracer)) is
    ∙ or_left (tracer == tracer) false (eq-eqb tracer tracer refl))

-- ---- tracees

module _ (id : TableId) (config : Config) (content : CaseContent) {S : Type 0} (tracee : S → TraceeHandle)
    (machine : S → Position) (es : List TraceeHandle) (ss : List S) (new : All (IsNewTracee id content.rows) es)
    (given : AllZip (λ e s. (tracee s ≡ e) × IsToStart (plan_of config content) (tracee s) (machine s)) es ss) where
  pub all_can_run : All (λ s. CanRun (tracee s) (machine s)) ss
  all_can_run =
      zip_all (IsNewTracee id content.rows) (λ e s. (tracee s ≡ e) × IsToStart (plan_of config content) (tracee s) (machine s))
      (λ s. CanRun (tracee s) (machine s))
      (λ e s fresh st. (ap (λ (t : TraceeHandle). t.view.taken) st.0 ∙ fresh.2, (plan_of config content, st.1))) es ss given new

  abbrev pub IsGiven : S → Type 0
  IsGiven s = ((tracee s).table_id ≡ id) × IsToStart (plan_of config content) (tracee s) (machine s)

  all_given : All IsGiven ss
  all_given =
      zip_all (IsNewTracee id content.rows) (λ e s. (tracee s ≡ e) × IsToStart (plan_of config content) (tracee s) (machine s))
      IsGiven (λ e s fresh st. (ap (λ (t : TraceeHandle). t.table_id) st.0 ∙ fresh.0, st.1)) es ss given new

  module _ (ts : List TraceeHandle) (run : AllZip (λ s t. HasRun (tracee s) (machine s) t) ss ts) where
    pub tracees_free : All (IsFreeTracee id content.rows) ts
    tracees_free =
        zip_all IsGiven (λ s t. HasRun (tracee s) (machine s) t) (IsFreeTracee id content.rows)
        (λ s t was ran. record {
          table = ran.same.0 ∙ was.0;
          roster = ran.same.2.roster ∙ was.1.rows;
          idle = ran.idle;
        }) ss ts run all_given

    pub tracees_driven : All (λ (t : TraceeHandle). AreDrivenBy (actors_of t.view) (plan_of config content) t.view.seen) ts
    tracees_driven =
        zip_all IsGiven (λ s t. HasRun (tracee s) (machine s) t)
        (λ (t : TraceeHandle). AreDrivenBy (actors_of t.view) (plan_of config content) t.view.seen)
        (λ s t was ran. ran.driven (plan_of config content) was.1) ss ts run all_given

    pub tracees_act : (actor : Actor)
        → list_any (λ (t : TraceeHandle). actors_of t.view actor) ts ≡ list_any (λ (e : TraceeHandle). actors_of e.view actor) es
    tracees_act actor =
        sym (zip_any (λ s t. HasRun (tracee s) (machine s) t) (λ s. actors_of (tracee s).view actor)
        (λ (t : TraceeHandle). actors_of t.view actor)
        (λ s t ran. ap (λ (actors : Actor → Bool). actors actor) (sym (same_actors (tracee s).view t.view ran.same.2))) ss ts run)
        ∙ sym (zip_any (λ e s. (tracee s ≡ e) × IsToStart (plan_of config content) (tracee s) (machine s))
        (λ (e : TraceeHandle). actors_of e.view actor) (λ s. actors_of (tracee s).view actor)
        (λ e s st. ap (λ (t : TraceeHandle). actors_of t.view actor) (sym st.0)) es ss given)

-- ---- tracers

module _ (id : TableId) (config : Config) (content : CaseContent) {S : Type 0} (tracer : S → TracerHandle)
    (pieces : S → List Piece) (short : S → Bool) (ws spare : List TracerHandle) (ss : List S)
    (new : All (IsNewTracer id content.rows) (ws ++ reverse spare))
    (work : AllZip (λ e s. HasWorked config e (tracer s) (pieces s) (short s)) ws ss) where
  abbrev pub IsServed : TracerHandle → Type 0
  IsServed e =
      IsFreeTracer id content.rows e × AreDrivenBy (actors_of e.view) (plan_of config content) e.view.seen

  served : (e : TracerHandle) (s : S) → IsNewTracer id content.rows e
      → HasWorked config e (tracer s) (pieces s) (short s) → IsServed (tracer s)
  served e s fresh done = (
    record { table = done.0 ∙ fresh.0; roster = done.1.same.roster ∙ fresh.1; idle = done.1.free },
    stays_driven config content e.view (tracer s).view (sym fresh.1) done.1.same done.1.restarts
        (subst (λ (h : List Entry). AreDrivenBy (actors_of e.view) (plan_of config content) h) (sym fresh.2) tt),
  )

  spare_served : (e : TracerHandle) → IsNewTracer id content.rows e → IsServed e
  spare_served e fresh = (
    record { table = fresh.0; roster = fresh.1; idle = nothing_held e.view fresh.2 },
    subst (λ (h : List Entry). AreDrivenBy (actors_of e.view) (plan_of config content) h) (sym fresh.2) tt,
  )

  pub all_served : All IsServed (spare ++ map tracer ss)
  all_served =
      let both = all_of_append (IsNewTracer id content.rows) ws (reverse spare) new in
      All-append IsServed spare (map tracer ss)
      (All-weaker (IsNewTracer id content.rows) IsServed spare_served spare
      (All-permutation (IsNewTracer id content.rows) (reverse spare) spare
      (IsPermutation-sym spare (reverse spare) (IsPermutation-reverse spare)) both.1))
      (All-map IsServed tracer ss
      (zip_all (IsNewTracer id content.rows) (λ e s. HasWorked config e (tracer s) (pieces s) (short s))
      (λ s. IsServed (tracer s)) served ws ss work both.0))

  pub tracers_act : (actor : Actor)
      → list_any (λ (e : TracerHandle). actors_of e.view actor) (ws ++ reverse spare) ≡ true
      → list_any (λ (e : TracerHandle). actors_of e.view actor) (spare ++ map tracer ss) ≡ true
  tracers_act actor is =
      let p : TracerHandle → Bool = λ e. actors_of e.view actor in
      list_any-append p spare (map tracer ss)
      ∙ ap (λ b. list_any p spare || b)
      (any_map p tracer ss
      ∙ sym (zip_any (λ e s. HasWorked config e (tracer s) (pieces s) (short s)) p (λ s. p (tracer s))
      (λ e s done. ap (λ (actors : Actor → Bool). actors actor) (sym (same_actors e.view (tracer s).view done.1.same))) ws ss work))
      ∙ ap (λ b. b || list_any p ws) (list_any-IsPermutation p spare (reverse spare) (IsPermutation-reverse spare))
      ∙ or_turned (list_any p ws) (list_any p (reverse spare)) (sym (list_any-append p ws (reverse spare)) ∙ is)

  abbrev pub IsKept : S → Type 0
  IsKept s = (piece : Piece) → Contains (pieces s) piece → Contains (own_pieces (show_of config) (tracer s).view) piece

  all_kept : All IsKept ss
  all_kept =
      let both = all_of_append (IsNewTracer id content.rows) ws (reverse spare) new in
      zip_all (IsNewTracer id content.rows) (λ e s. HasWorked config e (tracer s) (pieces s) (short s)) IsKept
      (λ e s fresh done piece there.
      subst (λ all. Contains all piece) (sym done.1.pieces.all)
      (Contains-append_left (own_pieces (show_of config) e.view ++ pieces s) done.1.pieces.missing piece
      (Contains-append_right (own_pieces (show_of config) e.view) (pieces s) piece there))) ws ss work both.0

  -- what a tracer knows is known, and a history goes on from it
  is_known : (ts : List TraceeHandle) (e : TracerHandle) → Contains (spare ++ map tracer ss) e
      → Contains (views_of (spare ++ map tracer ss) ts) e.view
  is_known ts e there =
      let es = spare ++ map tracer ss in
      Contains-append_left (map (λ (t : TracerHandle). t.view) es) (map (λ (t : TraceeHandle). t.view) ts) e.view
      (contains_map (λ (t : TracerHandle). t.view) es e there)

  goes_on : (ts : List TraceeHandle) (h : List Entry) → GoesOnFrom (views_of (spare ++ map tracer ss) ts) h
      → (e : TracerHandle) → Contains (spare ++ map tracer ss) e → GoesOn (actors_of e.view) e.view.seen h
  goes_on ts h on e there =
      All-contains (λ (v : View). GoesOn (actors_of v) v.seen h) (views_of (spare ++ map tracer ss) ts) e.view on
      (is_known ts e there)

  is_server : (s : S) → Contains ss s → Contains (spare ++ map tracer ss) (tracer s)
  is_server s there = Contains-append_right spare (map tracer ss) (tracer s) (contains_map tracer ss s there)

  pub all_seen : (ts : List TraceeHandle) (h : List Entry) → AreLegal content.rows h
      → GoesOnFrom (views_of (spare ++ map tracer ss) ts) h
      → AreSeen (show_of config) content.rows (views_of (spare ++ map tracer ss) ts) (flat_map pieces ss)
  all_seen ts h legal on piece there =
      let from = from_flat pieces ss piece there in
      let e = tracer from.0 in
      let es = spare ++ map tracer ss in
      let mine = is_server from.0 from.1 in
      let goes = goes_on ts h on e mine in
      let before = legal_back content.rows goes.0 e.view.seen (subst (AreLegal content.rows) goes.1 legal) in
      let free = All-contains IsServed es e all_served mine in
      let own = All-contains IsKept ss from.0 all_kept from.1 piece from.2 in (
        e.view,
        is_known ts e mine,
        claimed_are_made (show_of config) content.rows e.view.number e.view.seen before piece
            (subst (λ (rows : List Row). Contains (pieces_claimed (show_of config) rows e.view.number e.view.seen) piece)
            free.0.roster own),
      )

  -- ---- a history that goes on from all of them

  module _ (ts : List TraceeHandle) (h : List Entry) (on : GoesOnFrom (views_of (spare ++ map tracer ss) ts) h) where
    -- what a tracer has claimed by the end of it
    abbrev claimed_by : TracerHandle → List Piece
    claimed_by e = pieces_claimed (show_of config) content.rows e.view.number h

    -- a worker that was not refused memory has kept the pieces of all that it has claimed
    record KeepsAll (s : S) : Type 0 where
      roster : (tracer s).view.roster ≡ content.rows
      mine : is_among (tracer s).view.number (tracer s).view.tracers ≡ true
      all : short s ≡ false → own_pieces (show_of config) (tracer s).view ≡ pieces s

    keeps_all : (e : TracerHandle) (s : S) → IsNewTracer id content.rows e
        → HasWorked config e (tracer s) (pieces s) (short s) → KeepsAll s
    keeps_all e s fresh done = record {
      roster = done.1.same.roster ∙ fresh.1;
      mine = (λ i. is_among (done.1.same.number i) (done.1.same.tracers i)) ∙ fresh.3;
      all = λ whole.
          let before = own_pieces (show_of config) e.view in
          let none : before ≡ [] = own_none (show_of config) e.view fresh.2 in
          let kept = done.1.pieces in
          kept.all ∙ ap (λ (missing : List Piece). (before ++ pieces s) ++ missing) (kept.whole whole)
          ∙ append-nil (before ++ pieces s) ∙ ap (λ (own : List Piece). own ++ pieces s) none;
    }

    kept_there : All (λ s. short s ≡ false) ss → (s : S) → Contains ss s → claimed_by (tracer s) ≡ pieces s
    kept_there whole s there =
        let both = all_of_append (IsNewTracer id content.rows) ws (reverse spare) new in
        let keeps = All-contains KeepsAll ss s
        (zip_all (IsNewTracer id content.rows) (λ e s. HasWorked config e (tracer s) (pieces s) (short s)) KeepsAll
        keeps_all ws ss work both.0) there in
        ap (λ (rows : List Row). pieces_claimed (show_of config) rows (tracer s).view.number h) (sym keeps.roster)
        ∙ pieces_on (show_of config) (tracer s).view h keeps.mine (goes_on ts h on (tracer s) (is_server s there))
        ∙ keeps.all (All-contains (λ s. short s ≡ false) ss s whole there)

    -- a tracer without a worker has claimed nothing
    spared_none : (e : TracerHandle) → Contains (reverse spare) e → claimed_by e ≡ []
    spared_none e there =
        let fresh = All-contains (IsNewTracer id content.rows) (reverse spare) e
        (all_of_append (IsNewTracer id content.rows) ws (reverse spare) new).1 there in
        let mine = Contains-permutation (reverse spare) spare e
        (IsPermutation-sym spare (reverse spare) (IsPermutation-reverse spare)) there in
        ap (λ (rows : List Row). pieces_claimed (show_of config) rows e.view.number h) (sym fresh.1)
        ∙ pieces_on (show_of config) e.view h fresh.3
        (goes_on ts h on e (Contains-append_left spare (map tracer ss) e mine))
        ∙ own_none (show_of config) e.view fresh.2

    pub all_claims_kept : All (λ s. short s ≡ false) ss
        → flat_map claimed_by (ws ++ reverse spare) ≡ flat_map pieces ss
    all_claims_kept whole =
        flat_map-append claimed_by ws (reverse spare)
        ∙ ap (λ (xs : List Piece). flat_map claimed_by ws ++ xs)
        (flat_none claimed_by (reverse spare) spared_none)
        ∙ append-nil (flat_map claimed_by ws)
        ∙ zip_flat (λ e s. HasWorked config e (tracer s) (pieces s) (short s)) claimed_by (λ s. claimed_by (tracer s))
        (λ e s done. ap (λ n. pieces_claimed (show_of config) content.rows n h) (sym done.1.same.number)) ws ss work
        ∙ flat_same (λ s. claimed_by (tracer s)) pieces ss (kept_there whole)

    -- each born row has been reaped, since a worker has served until no row could act any more
    pub all_reaped : All (λ s. short s ≡ false) ss → 0 < length ws → AreLegal content.rows h → AreReaped content.rows h
    all_reaped whole some legal =
        let one = first_of_zip (λ e s. HasWorked config e (tracer s) (pieces s) (short s)) ws ss work some in
        let s = one.1 in
        let done = one.4 in
        let fresh = All-contains (IsNewTracer id content.rows) ws one.0
        (all_of_append (IsNewTracer id content.rows) ws (reverse spare) new).0 one.2 in
        let roster : (tracer s).view.roster ≡ content.rows = done.1.same.roster ∙ fresh.1 in
        let goes = goes_on ts h on (tracer s) (is_server s one.3) in
        let over : AreOverForGood content.rows (tracer s).view.seen =
        subst (λ (rows : List Row). AreOverForGood rows (tracer s).view.seen) roster
        (done.2 (All-contains (λ s. short s ≡ false) ss s whole one.3)) in
        all_gone_reaped content.rows h (λ row within.
        subst (λ (g : List Entry). is_gone true (state_after content.rows (history_of g) row) ≡ true) (sym goes.1)
        (over goes.0 (subst (AreLegal content.rows) goes.1 legal) row within))

-- ---- all of them

module _ (id : TableId) (rows : List Row) (tracees : List TraceeHandle) (tracers : List TracerHandle)
    (first : AreTracees id rows tracees) (rows_long : length tracees ≡ length rows) (second : AreTracers id rows tracers)
    (tracers_long : length tracers ≡ TRACERS) (es : List TracerHandle) (ts : List TraceeHandle)
    (from_tracers : (actor : Actor) → list_any (λ (e : TracerHandle). actors_of e.view actor) tracers ≡ true
    → list_any (λ (e : TracerHandle). actors_of e.view actor) es ≡ true)
    (from_tracees : (actor : Actor) → list_any (λ (t : TraceeHandle). actors_of t.view actor) ts
    ≡ list_any (λ (e : TraceeHandle). actors_of e.view actor) tracees) where
  acts_by : (actor : Actor) → IsActor rows actor
      → (list_any (λ (e : TracerHandle). actors_of e.view actor) es
      || list_any (λ (t : TraceeHandle). actors_of t.view actor) ts) ≡ true
  acts_by (Tracee row) within =
      or_right (list_any (λ (e : TracerHandle). actors_of e.view (Tracee row)) es)
      (list_any (λ (t : TraceeHandle). actors_of t.view (Tracee row)) ts)
      (from_tracees (Tracee row) ∙ tracee_acts id rows tracees first row (omega (arith, within, rows_long)))
  acts_by (Tracer tracer) within =
      or_left (list_any (λ (e : TracerHandle). actors_of e.view (Tracer tracer)) es)
      (list_any (λ (t : TraceeHandle). actors_of t.view (Tracer tracer)) ts)
      (from_tracers (Tracer tracer) (tracer_acts id rows tracers second tracer (omega (arith, within, tracers_long))))

  pub act_for_all : ActForAll rows (views_of es ts)
  act_for_all actor is =
      let p : View → Bool = λ v. actors_of v actor in
      list_any-append p (map (λ (e : TracerHandle). e.view) es) (map (λ (t : TraceeHandle). t.view) ts)
      ∙ ap (λ b. b || list_any p (map (λ (t : TraceeHandle). t.view) ts)) (any_map p (λ (e : TracerHandle). e.view) es)
      ∙ ap (λ b. list_any (λ (e : TracerHandle). p e.view) es || b) (any_map p (λ (t : TraceeHandle). t.view) ts)
      ∙ acts_by actor is

pub views_driven : (config : Config) (content : CaseContent) (es : List TracerHandle) (ts : List TraceeHandle)
    → All (λ (e : TracerHandle). AreDrivenBy (actors_of e.view) (plan_of config content) e.view.seen) es
    → All (λ (t : TraceeHandle). AreDrivenBy (actors_of t.view) (plan_of config content) t.view.seen) ts
    → All (λ (v : View). AreDrivenBy (actors_of v) (plan_of config content) v.seen) (views_of es ts)
views_driven config content es ts first second =
    let P : View → Type 0 = λ v. AreDrivenBy (actors_of v) (plan_of config content) v.seen in
    All-append P (map (λ (e : TracerHandle). e.view) es) (map (λ (t : TraceeHandle). t.view) ts)
    (All-map P (λ (e : TracerHandle). e.view) es first) (All-map P (λ (t : TraceeHandle). t.view) ts second)

-- ---- a run of a case

module _ (id : TableId) (config : Config) (content : CaseContent) {S T : Type 0} (ss : List S) (vs : List T)
    (tracee : S → TraceeHandle) (machine : S → Position) (tracer : T → TracerHandle) (pieces : T → List Piece)
    (short : T → Bool) (tracees : List TraceeHandle) (tracers : List TracerHandle) (ws spare : List TracerHandle)
    (ts : List TraceeHandle) (es : List TracerHandle) (first : AreTracees id content.rows tracees)
    (rows_long : length tracees ≡ length content.rows) (second : AreTracers id content.rows tracers)
    (tracers_long : length tracers ≡ TRACERS) (split : tracers ≡ ws ++ reverse spare)
    (given : AllZip (λ e s. (tracee s ≡ e) × IsToStart (plan_of config content) (tracee s) (machine s)) tracees ss)
    (run : AllZip (λ s t. HasRun (tracee s) (machine s) t) ss ts)
    (work : AllZip (λ e s. HasWorked config e (tracer s) (pieces s) (short s)) ws vs)
    (es_is : es ≡ spare ++ map tracer vs) where
  fresh : All (IsNewTracee id content.rows) tracees
  fresh = new_tracees id content.rows tracees first

  new_all : All (IsNewTracer id content.rows) (ws ++ reverse spare)
  new_all = subst (All (IsNewTracer id content.rows)) split (new_tracers id content.rows tracers second)

  served_all : All (λ e. IsFreeTracer id content.rows e × AreDrivenBy (actors_of e.view) (plan_of config content) e.view.seen) es
  served_all =
      subst (All (λ e. IsFreeTracer id content.rows e × AreDrivenBy (actors_of e.view) (plan_of config content) e.view.seen))
      (sym es_is) (all_served id config content tracer pieces short ws spare vs new_all work)

  pub case_tracers : All (IsFreeTracer id content.rows) es
  case_tracers =
      All-weaker (λ e. IsFreeTracer id content.rows e × AreDrivenBy (actors_of e.view) (plan_of config content) e.view.seen)
      (IsFreeTracer id content.rows) (λ e both. both.0) es served_all

  pub case_tracees : All (IsFreeTracee id content.rows) ts
  case_tracees = tracees_free id config content tracee machine tracees ss fresh given ts run

  all_act : ActForAll content.rows (views_of es ts)
  all_act =
      act_for_all id content.rows tracees tracers first rows_long second tracers_long es ts
      (λ actor is.
      subst (λ xs. list_any (λ (e : TracerHandle). actors_of e.view actor) xs ≡ true) (sym es_is)
      (tracers_act id config content tracer pieces short ws spare vs new_all work actor
      (subst (λ xs. list_any (λ (e : TracerHandle). actors_of e.view actor) xs ≡ true) split is)))
      (tracees_act id config content tracee machine tracees ss fresh given ts run)

  pub case_driven : (h : List Entry) → AreLegal content.rows h → GoesOnFrom (views_of es ts) h
      → AreDriven (plan_of config content) h
  case_driven h legal on =
      all_driven (plan_of config content) (views_of es ts) all_act h legal on
      (views_driven config content es ts
      (All-weaker (λ e. IsFreeTracer id content.rows e × AreDrivenBy (actors_of e.view) (plan_of config content) e.view.seen)
      (λ (e : TracerHandle). AreDrivenBy (actors_of e.view) (plan_of config content) e.view.seen) (λ e both. both.1) es
      served_all)
      (tracees_driven id config content tracee machine tracees ss fresh given ts run))

  pub case_seen : (h : List Entry) → AreLegal content.rows h → GoesOnFrom (views_of es ts) h
      → AreSeen (show_of config) content.rows (views_of es ts) (flat_map pieces vs)
  case_seen h legal on =
      subst (λ xs. AreSeen (show_of config) content.rows (views_of xs ts) (flat_map pieces vs)) (sym es_is)
      (all_seen id config content tracer pieces short ws spare vs new_all work ts h legal
      (subst (λ xs. GoesOnFrom (views_of xs ts) h) es_is on))

  pub case_some : 0 < length es
  case_some =
      let all = ap length split ∙ length-append ws (reverse spare) in
      let turned = length-reverse spare in
      let zipped = zip_length (λ e s. HasWorked config e (tracer s) (pieces s) (short s)) ws vs work in
      let back = ap length es_is ∙ length-append spare (map tracer vs) in
      let mapped = long_map tracer vs in
      let few : 0 < TRACERS = omega arith in
      omega (arith, all, turned, zipped, back, mapped, tracers_long, few)

  -- where no worker was refused memory, the pieces are those of all claims
  module _ (placed : IsRoster content.rows) (whole : All (λ s. short s ≡ false) vs) (some : 0 < length ws)
      (h : List Entry) (legal : AreLegal content.rows h) (on : GoesOnFrom (views_of es ts) h) where
    on_there : GoesOnFrom (views_of (spare ++ map tracer vs) ts) h
    on_there = subst (λ xs. GoesOnFrom (views_of xs ts) h) es_is on

    case_claimed : flat_map pieces vs ≡ all_claimed (show_of config) content.rows h
    case_claimed =
        let f : ℕ → List Piece = λ n. pieces_claimed (show_of config) content.rows n h in
        sym (all_claims_kept id config content tracer pieces short ws spare vs new_all work ts h on_there whole)
        ∙ ap (flat_map (λ (e : TracerHandle). f e.view.number)) (sym split)
        ∙ flat_by_number f tracers 0 (λ k d within.
        let is : (get_or tracers k d).view.number ≡ k =
        ap (λ (e : TracerHandle). e.view.number) (second k (get_or tracers k d) (slice_get-get_or tracers k d within)) in
        omega (arith, is))
        ∙ ap (λ n. flat_map f (range_with_len 0 n)) tracers_long

    case_reaped : AreReaped content.rows h
    case_reaped =
        all_reaped id config content tracer pieces short ws spare vs new_all work ts h on_there whole some legal

    case_whole : AreWhole content.rows (flat_map pieces vs)
    case_whole =
        subst (AreWhole content.rows) (sym case_claimed)
        (claims_are_whole (show_of config) content.rows placed h legal case_reaped)

  -- so nothing is lost
  pub case_keeps : IsRoster content.rows → All (λ s. short s ≡ false) vs → 0 < length ws
      → HasLostStop content.rows (views_of es ts) (flat_map pieces vs) → ⊥
  case_keeps placed whole some l =
      elim l.lost_there [
        | inl left ↦ left.3 (case_reaped placed whole some l.history l.legal l.goes_on left.0 left.1 left.2)
        | inr not_whole ↦ not_whole (case_whole placed whole some l.history l.legal l.goes_on)
      ]

-- the workers' tracers before they begin
pub all_ready : (id : TableId) (rows again : List Row) → again ≡ rows → (tracers ws spare : List TracerHandle)
    → tracers ≡ ws ++ reverse spare → AreTracers id rows tracers
    → All (λ e. (again ≡ e.view.roster) × (held_rows e.view ≡ [])) ws
all_ready id rows again same tracers ws spare split are =
    All-weaker (IsNewTracer id rows) (λ e. (again ≡ e.view.roster) × (held_rows e.view ≡ []))
    (λ e new. (same ∙ sym new.1, nothing_held e.view new.2)) ws
    (all_of_append (IsNewTracer id rows) ws (reverse spare)
    (subst (All (IsNewTracer id rows)) split (new_tracers id rows tracers are))).0
