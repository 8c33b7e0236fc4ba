-- Each kind of step by an exchange is one that the rule allows, and tells its handle what `Steps` says. A tracee's steps
-- on its own row, and a tracer's on a row that it has claimed, find the word that was seen; a claim may find another.
use Rattle.std.proofs.Common.{refl, ◌≡◌, ◌≢◌, ◌<◌, ◌≤◌, ◌∷◌, ◌+◌, [], ℕ, Bool, true, false, Some, Ok, List}
use Rattle.std.proofs.Common.{Option, length, arith, ◌∙◌, sym, ap, inl, inr, subst, slice_set, slice_index, eqb, length-set}
use Rattle.std.proofs.Common.{eq-eqb, ne_eqb}
use Rattle.std.proofs.lemmas.Bool.{cases_eq}
use mathlib.Core.Option.{none, some}
use prog.Atomic.{either}
use lib.ListN.{get_elem?}
use Rattle.atomic_table.specs.Table.{Act, Allows, Valid, carried_after, gives, keeps, put_back, rest, step, stepped}
use Rattle.atomic_table.specs.Table.{takes}
use Rattle.atomic_table.proofs.Lists.{exchanged, set_else, set_here}
use Rattle.trace_record.specs.Content.{Content}
use Rattle.trace_record.specs.Death.{IsDeath}
use Rattle.trace_record.specs.Resume.{IsResume}
use Rattle.trace_record.specs.Stop.{IsStop}
use Rattle.trace_record.specs.declared.death.Death.{Death}
use Rattle.trace_record.specs.declared.resume.Resume.{Resume as Restart}
use Rattle.stop_history.specs.declared.actor.Actor.TheVariants.{Tracee}
use Rattle.stop_history.specs.declared.limits.TheConstants.{LAST_NUMBER, TRACERS}
use Rattle.stop_history.specs.declared.phase.Phase.{Phase}
use Rattle.stop_history.specs.declared.phase.Phase.TheVariants as phase
use Rattle.stop_history.specs.declared.roster.Row.{Row}
use Rattle.stop_history.specs.declared.state.State.TheVariants as state
use Rattle.stop_history.specs.Actor.{is_moved_by, mover_of}
use Rattle.stop_history.specs.Change.{TakenUp, restart_in, taken_with, word_after_event}
use Rattle.stop_history.specs.Event as event
use Rattle.stop_history.specs.Event.{Event, events_of, subject}
use Rattle.stop_history.specs.History.{Fits, creates_next}
use Rattle.stop_history.specs.Layout.{raw_of}
use Rattle.stop_history.specs.Roster.{row_at}
use Rattle.stop_history.specs.State.{is_born, is_waitable, state_after}
use Rattle.stop_history.specs.Step.{claimed, claimed_by, died, published, restarted}
use Rattle.stop_history.specs.Word.{IsWord, Word, shown}
use Rattle.stop_history.proofs.AtomicSteps.{claimed_left}
use Rattle.stop_history.proofs.Words.{same_word}
use Rattle.stop_table.specs.Entry.{Cell, Entry, bare, cell_after, history_of, publish_of, resume_of, word_of}
use Rattle.stop_table.specs.Group.{IsGroupSettled}
use Rattle.stop_table.specs.Rule.{IsHome, KeepsRule, Lies}
use Rattle.stop_table.specs.Place.{place}
use Rattle.stop_table.specs.Steps.{Seated, Sees, at_seen, claimed_on, claims_on, claims_stop, exited, exited_on}
use Rattle.stop_table.specs.Steps.{publishes, publishes_on, reaped, reaped_on, resumed, resumed_on, takes_up, took_on}
use Rattle.stop_table.specs.View.{View, actors_of, an_exchange, is_among}
use Rattle.stop_table.specs.Written.{IsWrittenOver}
use Rattle.stop_table.proofs.Allowed.{Makes, acts_for, followed, hand_is, look_kept, look_told, look_view, made_kept, made_told}
use Rattle.stop_table.proofs.Allowed.{made_view, not_taken, on, only_one, restart_lies, restart_mover, restart_runs, still}
use Rattle.stop_table.proofs.Entries.{born_on, own_cell, shown_state, word_ranged}
use Rattle.stop_table.proofs.Groups.{nobody_holds, settled_on}
use Rattle.stop_table.proofs.Moves.{Homes, St, at_place, moves, not_both, places_differ}

-- what an exchange on the word t has to show, of the number that it leaves there
abbrev Leaves : (me : Seated) (s : St) (id t : ℕ) (then : ℕ → Seated → Type 0) → ℕ → Type 0
Leaves me s id t then n =
    (w : View) × (a : Act (Option Content)) × Valid s.homes me.1 a × KeepsRule me.0.roster (stepped s t n id me.1 w a)
    × then (slice_index s.words t) (w, carried_after me.1 a)

-- an exchange of a word that is known to be there
hits : (me : Seated) (s : St) (id t old new : ℕ) (then : ℕ → Seated → Type 0) → slice_index s.words t ≡ old
    → Leaves me s id t then new → Leaves me s id t then (either (eqb (slice_index s.words t) old) new (slice_index s.words t))
hits me s id t old new then found left =
    exchanged (slice_index s.words t) old new (Leaves me s id t then) (λ hit. left) (λ miss. absurd (miss found))

-- ---- records that go back into their slot

module _ (me : Seated) (s : St) (t : ℕ) (r : Content) (hand : me.1 ≡ (t, Some r) ∷ rest me.1) (within : t < length s.homes)
  where
    abbrev back : Homes
    back = put_back s.homes me.1

    back_is : back ≡ slice_set s.homes t (some (Some r))
    back_is = ap (put_back s.homes) hand

    back_here : get_elem? back t ≡ some (some (Some r))
    back_here = ap (λ (hs : Homes). get_elem? hs t) back_is ∙ set_here s.homes t (some (Some r)) within

    back_long : length back ≡ length s.homes
    back_long = ap length back_is ∙ length-set s.homes t (some (Some r))

    back_others : (u : ℕ) → u ≢ t → get_elem? back u ≡ get_elem? s.homes u
    back_others u other = ap (λ (hs : Homes). get_elem? hs u) back_is ∙ set_else s.homes t u (some (Some r)) other

-- ---- a tracee publishes

pub publish_allowed : (me : Seated) (slots id t old new : ℕ) (r : Content) → t < length me.0.roster
    → me.0.tracees ≡ t ∷ [] → me.0.taken ≡ true
    → mover_of t (cell_after me.0.roster me.0.seen t).phase ≡ Some (Tracee t) → me.1 ≡ (place t, Some r) ∷ rest me.1
    → r.tid ≡ (row_at me.0.roster t).tid → r.number ≡ (cell_after me.0.roster me.0.seen t).number + 1
    → r.number ≤ LAST_NUMBER → IsStop r.stop
    → creates_next me.0.roster t (cell_after me.0.roster me.0.seen t).births r.stop ≡ true
    → old ≡ raw_of (word_of true (cell_after me.0.roster me.0.seen t))
    → new ≡ raw_of (published (word_of true (cell_after me.0.roster me.0.seen t)) r.stop)
    → Allows (KeepsRule me.0.roster) slots id me (place t) (λ n. either (eqb n old) new n)
    (publishes (step slots (place t) old new none) me)
publish_allowed me slots id t old new r there own taken moved hand tid number few stop birth old_is new_is s k sized at
    bounded =
    let mine = acts_for t me.0.tracees own in
    let same = still me s k id t at there (ap (is_moved_by (actors_of me.0)) moved ∙ mine) in
    let up : k.taken t ≡ true = (followed me s k id t at there).knows t mine ∙ taken in
    let found : slice_index s.words (place t) ≡ old =
    (k.rows t there).word ∙ (λ j. raw_of (word_of (up j) (same j))) ∙ sym old_is in
    let x = publish_of t r in
    let within : place t < length s.homes = (let long = k.homes_are in omega arith) in
    let fits : Fits me.0.roster (history_of k.history) x.event = (
      k.up t up,
      number ∙ ap (λ (c : Cell). c.number + 1) (sym same),
      few,
      ap (λ (c : Cell). creates_next me.0.roster t c.births r.stop) same ∙ birth,
    ) in
    let word : new ≡ raw_of (word_after_event (word_of (k.taken t) (cell_after me.0.roster k.history t)) x.event) =
    new_is ∙ sym (λ j. raw_of (published (word_of (up j) (same j)) r.stop)) in
    let home : IsHome false (cell_after me.0.roster (x ∷ k.history) t) (get_elem? (back me s (place t) r hand within) (place t)) =
    subst (λ c. IsHome false c (get_elem? (back me s (place t) r hand within) (place t))) (sym (own_cell me.0.roster x k.history t refl))
    (some (Some r), back_here me s (place t) r hand within, refl) in
    let x = publish_of t r in
    let homes = back me s (place t) r hand within in
    let m : Makes me s k id t at there new x false homes = record {
      own = refl;
      fits = fits;
      ranged = stop;
      carried = (tid, refl, refl);
      word = word;
      home = home;
      as_long = back_long me s (place t) r hand within;
      other_homes = λ u other. back_others me s (place t) r hand within (place u) (places_differ u t other);
      acts = mine;
      knows = λ u among. rw (eq-eqb u t (only_one t u me.0.tracees own among)) refl;
      flag = inr mine;
    } in
    hits me s id (place t) old new (publishes (step slots (place t) old new none) me) found (
      made_view me s k id t at there x false,
      gives,
      tt,
      made_kept me s k id t at there new x false homes m,
      at_place (λ row. publishes_on row me (made_view me s k id t at there x false, rest me.1)) t
          (λ q hand'.
          subst (λ (p : Content). (h : List Entry) × (rest me.1 ≡ rest me.1)
          × Sees me.0 (an_exchange t) h (publish_of t p ∷ []) false (made_view me s k id t at there x false))
          (hand_is me.1 (place t) r q (rest me.1) (rest me.1) hand hand')
          (k.history, refl, made_told me s k id t at there new x false homes m)),
    )

-- ---- a tracee takes its row up

pub take_up_allowed : (me : Seated) (slots id t old new : ℕ) (how : Restart) → t < length me.0.roster
    → me.0.tracees ≡ t ∷ [] → me.0.taken ≡ false → is_born me.0.roster (history_of me.0.seen) t ≡ true
    → restart_in (cell_after me.0.roster me.0.seen t).phase ≡ Ok how
    → old ≡ raw_of (word_of false (cell_after me.0.roster me.0.seen t))
    → new ≡ raw_of (word_of true (cell_after me.0.roster me.0.seen t))
    → Allows (KeepsRule me.0.roster) slots id me (place t) (λ n. either (eqb n old) new n)
    (takes_up (step slots (place t) old new none) me)
take_up_allowed me slots id t old new how there own idle born restart old_is new_is s k sized at bounded =
    let mine = acts_for t me.0.tracees own in
    let same = still me s k id t at there
    (ap (is_moved_by (actors_of me.0)) (restart_mover t (cell_after me.0.roster me.0.seen t).phase how restart) ∙ mine) in
    let low : k.taken t ≡ false = (followed me s k id t at there).knows t mine ∙ idle in
    let found : slice_index s.words (place t) ≡ old =
    (k.rows t there).word ∙ (λ j. raw_of (word_of (low j) (same j))) ∙ sym old_is in
    let within : place t < length s.homes = (let long = k.homes_are in omega arith) in
    let restarts : restart_in (cell_after me.0.roster k.history t).phase ≡ Ok how =
    ap (λ (c : Cell). restart_in c.phase) same ∙ restart in
    let home : IsHome false (cell_after me.0.roster k.history t) (get_elem? s.homes (place t)) =
    subst (λ b. IsHome b (cell_after me.0.roster k.history t) (get_elem? s.homes (place t))) low (k.rows t there).home in
    let lies : get_elem? s.homes (place t) ≡ some (some (Some (cell_after me.0.roster k.history t).content)) =
    home.1 ∙ ap some (restart_lies (cell_after me.0.roster k.history t).phase how
    (cell_after me.0.roster k.history t).content home.0 restarts home.2) in
    let on_born : is_born me.0.roster (history_of k.history) t ≡ true =
    born_on me.0.roster (actors_of me.0) t me.0.seen k.history (on me s k id t at there) born in
    let runs : state_after me.0.roster (history_of k.history) t ≡ state.Running =
    shown_state me.0.roster k.history t there
    ∙ ap (λ b. shown b (cell_after me.0.roster k.history t).number (cell_after me.0.roster k.history t).phase) on_born
    ∙ restart_runs (cell_after me.0.roster k.history t).number (cell_after me.0.roster k.history t).phase how restarts in
    let next = taken_with (TakenUp t) k.taken in
    let up : next t ≡ true = rw (eq-eqb t t refl) refl in
    let still_taken : (u : ℕ) → u ≢ t → next u ≡ k.taken u = (λ u other. rw (ne_eqb u t other) refl) in
    let w : View = at_seen me.0 (an_exchange t) k.history true in
    let homes : Homes = slice_set s.homes (place t) none in
    hits me s id (place t) old new (takes_up (step slots (place t) old new none) me) found (
      w,
      takes (place t) (Some (cell_after me.0.roster k.history t).content),
      lies,
      moves me.0.roster s k id t new me.0 w [] next homes there at
          (record {
            legal = k.legal;
            cells = λ u other. refl;
            others = still_taken;
            word = new_is ∙ sym (λ j. raw_of (word_of (up j) (same j)));
            home = subst (λ b. IsHome b (cell_after me.0.roster k.history t) (get_elem? homes (place t))) (sym up)
                (set_here s.homes (place t) none within);
            up = λ u is_up. elim (cases_eq u t) [
              | inl here ↦ ap (state_after me.0.roster (history_of k.history)) here ∙ runs
              | inr other ↦ k.up u (sym (still_taken u other) ∙ is_up)
            ];
            as_long = length-set s.homes (place t) none;
            other_homes = λ u other. set_else s.homes (place t) (place u) none (places_differ u t other);
          })
          (record {
            tracees = refl;
            tracers = refl;
            seen = refl;
            told = refl;
            knows = λ u among. ap next (only_one t u me.0.tracees own among) ∙ up;
            mine = λ u apart. tt;
            flag = inr mine;
          }),
      at_place (λ row. took_on row me (w, (place t, Some (cell_after me.0.roster k.history t).content) ∷ me.1)) t (
        k.history,
        refl,
        record { goes_on = on me s k id t at there; placed = k.placed; legal = k.legal; view = refl },
        same,
      ),
    )

-- ---- a tracer claims what stands there

-- the row whose word is the one that was seen
waits_now : (me : Seated) (s : St) (k : KeepsRule me.0.roster s) (t : ℕ) (seen : Word) → t < length me.0.roster
    → IsWord seen → slice_index s.words (place t) ≡ raw_of seen → word_of (k.taken t) (cell_after me.0.roster k.history t) ≡ seen
waits_now me s k t seen there ranged found =
    same_word (word_of (k.taken t) (cell_after me.0.roster k.history t)) seen
    (word_ranged me.0.roster k.history k.placed k.legal (k.taken t) t there) ranged (sym (k.rows t there).word ∙ found)

-- what the claim leaves of the row's phase
pub claimed_phase_of : (rows : List Row) (h : List Entry) (row number tracer : ℕ) (p : Phase) → (cell_after rows h row).phase ≡ p
    → (cell_after rows (bare (event.Claim row number tracer) ∷ h) row).phase ≡ claimed_by tracer p
claimed_phase_of rows h row number tracer p is =
    ap (λ (c : Cell). c.phase) (own_cell rows (bare (event.Claim row number tracer)) h row refl)
    ∙ sym (claimed_left tracer (events_of row (history_of h))) ∙ ap (claimed_by tracer) is

module _ (me : Seated) (s : St) (k : KeepsRule me.0.roster s) (id t : ℕ) (at : get_elem? s.views id ≡ some me.0)
    (there : t < length me.0.roster) (mine : is_among me.0.number me.0.tracers ≡ true) (few : me.0.number < TRACERS)
    (seen : Word) (ranged : IsWord seen) (p : Phase) (phase_is : seen.phase ≡ p) (waits : (b : Bool) (n : ℕ) → is_waitable (shown b n p) ≡ true)
    (other_phase : p ≢ phase.Active) (found : slice_index s.words (place t) ≡ raw_of seen) where
  abbrev the_claim : Entry
  the_claim = bare (event.Claim t (cell_after me.0.roster k.history t).number me.0.number)

  idle : (k.taken t ≡ false) × ((cell_after me.0.roster k.history t).phase ≡ p)
  idle =
      not_taken (k.taken t) (cell_after me.0.roster k.history t) p
      (ap (λ (w : Word). w.phase) (waits_now me s k t seen there ranged found) ∙ phase_is) other_phase

  claim_fits : Fits me.0.roster (history_of k.history) the_claim.event
  claim_fits = (
    ap is_waitable (shown_state me.0.roster k.history t there)
        ∙ ap (λ q. is_waitable (shown (is_born me.0.roster (history_of k.history) t)
        (cell_after me.0.roster k.history t).number q)) idle.1
        ∙ waits (is_born me.0.roster (history_of k.history) t) (cell_after me.0.roster k.history t).number,
    refl,
  )

  claim_word : (new : ℕ) → new ≡ raw_of (claimed seen me.0.number)
      → new ≡ raw_of (word_after_event (word_of (k.taken t) (cell_after me.0.roster k.history t)) the_claim.event)
  claim_word new new_is =
      new_is ∙ ap (λ w. raw_of (claimed w me.0.number)) (sym (waits_now me s k t seen there ranged found))

  claim_makes : (new : ℕ) → new ≡ raw_of (claimed seen me.0.number) → (homes : Homes)
      → IsHome false (cell_after me.0.roster (the_claim ∷ k.history) t) (get_elem? homes (place t))
      → length homes ≡ length s.homes → ((u : ℕ) → u ≢ t → get_elem? homes (place u) ≡ get_elem? s.homes (place u))
      → Makes me s k id t at there new the_claim me.0.taken homes
  claim_makes new new_is homes home long others = record {
    own = refl;
    fits = claim_fits;
    ranged = few;
    carried = tt;
    word = claim_word new new_is;
    home = home;
    as_long = long;
    other_homes = others;
    acts = mine;
    knows = λ u among. (followed me s k id t at there).knows u among;
    flag = inl refl;
  }

  claim_told : (new : ℕ) (homes : Homes) (c : List (ℕ × Option Content))
      → Makes me s k id t at there new the_claim me.0.taken homes
      → claims_on t me (slice_index s.words (place t)) (made_view me s k id t at there the_claim me.0.taken, c) k.history
  claim_told new homes c m = (
    made_told me s k id t at there new the_claim me.0.taken homes m,
    (k.rows t there).word ∙ ap (λ taken. raw_of (word_of taken (cell_after me.0.roster k.history t))) idle.0,
  )

  home_before : IsHome false (cell_after me.0.roster k.history t) (get_elem? s.homes (place t))
  home_before =
      subst (λ b. IsHome b (cell_after me.0.roster k.history t) (get_elem? s.homes (place t))) idle.0 (k.rows t there).home

waits_stopped : (status : ℕ) (b : Bool) (n : ℕ) → is_waitable (shown b n (phase.Stopped status)) ≡ true
waits_stopped status b n = refl

waits_dead : (status : ℕ) (b : Bool) (n : ℕ) → is_waitable (shown b n (phase.Dead status)) ≡ true
waits_dead status b n = refl

stopped_is_not_active : (status : ℕ) → phase.Stopped status ≢ phase.Active
stopped_is_not_active status same = cc

dead_is_not_active : (status : ℕ) → phase.Dead status ≢ phase.Active
dead_is_not_active status same = cc

pub claim_allowed : (me : Seated) (slots id t old new status : ℕ) (seen : Word) → t < length me.0.roster
    → is_among me.0.number me.0.tracers ≡ true → me.0.number < TRACERS
    → IsWord seen → seen.phase ≡ phase.Stopped status → old ≡ raw_of seen → new ≡ raw_of (claimed seen me.0.number)
    → Allows (KeepsRule me.0.roster) slots id me (place t) (λ n. either (eqb n old) new n)
    (claims_stop (step slots (place t) old new none) me)
claim_allowed me slots id t old new status seen there mine few ranged phase_is old_is new_is s k sized at bounded =
    let p = phase.Stopped status in
    let waits = waits_stopped status in
    let other_phase = stopped_is_not_active status in
    let within : place t < length s.homes = (let long = k.homes_are in omega arith) in
    let homes : Homes = slice_set s.homes (place t) none in
    exchanged (slice_index s.words (place t)) old new
    (Leaves me s id (place t) (claims_stop (step slots (place t) old new none) me))
    (λ hit.
    let found : slice_index s.words (place t) ≡ raw_of seen = hit ∙ old_is in
    let before = home_before me s k id t at there mine few seen ranged p phase_is waits other_phase found in
    let low = idle me s k id t at there mine few seen ranged p phase_is waits other_phase found in
    let x = the_claim me s k id t at there mine few seen ranged p phase_is waits other_phase found in
    let lies : before.0 ≡ some (Some (cell_after me.0.roster k.history t).content) =
    subst (λ q. Lies q (cell_after me.0.roster k.history t).content before.0) low.1 before.2 in
    let after : (cell_after me.0.roster (x ∷ k.history) t).phase ≡ phase.Claimed me.0.number =
    claimed_phase_of me.0.roster k.history t (cell_after me.0.roster k.history t).number me.0.number p low.1 in
    let home : IsHome false (cell_after me.0.roster (x ∷ k.history) t) (get_elem? homes (place t)) = (
      none,
      set_here s.homes (place t) none within,
      subst (λ q. Lies q (cell_after me.0.roster (x ∷ k.history) t).content none) (sym after) refl,
    ) in
    let m = claim_makes me s k id t at there mine few seen ranged p phase_is waits other_phase found new new_is homes
    home (length-set s.homes (place t) none) (λ u other. set_else s.homes (place t) (place u) none (places_differ u t other)) in (
      made_view me s k id t at there x me.0.taken,
      takes (place t) (Some (cell_after me.0.roster k.history t).content),
      before.1 ∙ ap some lies,
      made_kept me s k id t at there new x me.0.taken homes m,
      at_place
          (λ row. claimed_on (step slots (place t) old new none) row me (slice_index s.words (place t)) (
            made_view me s k id t at there x me.0.taken,
            (place t, Some (cell_after me.0.roster k.history t).content) ∷ me.1,
          )) t (
            (λ same. (
              k.history,
              refl,
              claim_told me s k id t at there mine few seen ranged p phase_is waits other_phase found new homes
                  ((place t, Some (cell_after me.0.roster k.history t).content) ∷ me.1) m,
            )),
            (λ other. absurd (other hit)),
          ),
    ))
    (λ miss. (
      look_view me s k id t at there (an_exchange t),
      keeps,
      tt,
      look_kept me s k id t at there (an_exchange t),
      at_place
          (λ row. claimed_on (step slots (place t) old new none) row me (slice_index s.words (place t))
          (look_view me s k id t at there (an_exchange t), me.1)) t
          ((λ same. absurd (miss same)), (λ other. look_told me s k id t at there (an_exchange t))),
    ))

pub reap_allowed : (me : Seated) (slots id t old new status : ℕ) (seen : Word) → t < length me.0.roster
    → is_among me.0.number me.0.tracers ≡ true → me.0.number < TRACERS
    → IsWord seen → seen.phase ≡ phase.Dead status → old ≡ raw_of seen → new ≡ raw_of (claimed seen me.0.number)
    → Allows (KeepsRule me.0.roster) slots id me (place t) (λ n. either (eqb n old) new n)
    (reaped (step slots (place t) old new none) me)
reap_allowed me slots id t old new status seen there mine few ranged phase_is old_is new_is s k sized at bounded =
    let p = phase.Dead status in
    let waits = waits_dead status in
    let other_phase = dead_is_not_active status in
    exchanged (slice_index s.words (place t)) old new (Leaves me s id (place t) (reaped (step slots (place t) old new none) me))
    (λ hit.
    let found : slice_index s.words (place t) ≡ raw_of seen = hit ∙ old_is in
    let before = home_before me s k id t at there mine few seen ranged p phase_is waits other_phase found in
    let low = idle me s k id t at there mine few seen ranged p phase_is waits other_phase found in
    let x = the_claim me s k id t at there mine few seen ranged p phase_is waits other_phase found in
    let after : (cell_after me.0.roster (x ∷ k.history) t).phase ≡ phase.Reaped =
    claimed_phase_of me.0.roster k.history t (cell_after me.0.roster k.history t).number me.0.number p low.1 in
    let home : IsHome false (cell_after me.0.roster (x ∷ k.history) t) (get_elem? s.homes (place t)) = (
      before.0,
      before.1,
      subst (λ q. Lies q (cell_after me.0.roster (x ∷ k.history) t).content before.0) (sym after) tt,
    ) in
    let m = claim_makes me s k id t at there mine few seen ranged p phase_is waits other_phase found new new_is s.homes
    home refl (λ u other. refl) in (
      made_view me s k id t at there x me.0.taken,
      keeps,
      tt,
      made_kept me s k id t at there new x me.0.taken s.homes m,
      at_place
          (λ row. reaped_on (step slots (place t) old new none) row me (slice_index s.words (place t))
          (made_view me s k id t at there x me.0.taken, me.1)) t (
            (λ same. (
              k.history,
              refl,
              claim_told me s k id t at there mine few seen ranged p phase_is waits other_phase found new s.homes me.1 m,
            )),
            (λ other. absurd (other hit)),
          ),
    ))
    (λ miss. (
      look_view me s k id t at there (an_exchange t),
      keeps,
      tt,
      look_kept me s k id t at there (an_exchange t),
      at_place
          (λ row. reaped_on (step slots (place t) old new none) row me (slice_index s.words (place t))
          (look_view me s k id t at there (an_exchange t), me.1)) t
          ((λ same. absurd (miss same)), (λ other. look_told me s k id t at there (an_exchange t))),
    ))

-- ---- a tracer resumes what it has claimed

-- a row that is taken up runs, so a claimed one is not taken up
not_up : (me : Seated) (s : St) (k : KeepsRule me.0.roster s) (t tracer : ℕ) → t < length me.0.roster
    → (cell_after me.0.roster k.history t).phase ≡ phase.Claimed tracer → k.taken t ≡ false
not_up me s k t tracer there is =
    not_both (k.taken t)
    (λ up. let clash : state.Running ≡ state.Claimed (cell_after me.0.roster k.history t).number tracer =
    sym (k.up t up) ∙ shown_state me.0.roster k.history t there
    ∙ ap (shown (is_born me.0.roster (history_of k.history) t) (cell_after me.0.roster k.history t).number) is in cc)

pub resume_allowed : (me : Seated) (slots id t old new : ℕ) (how : Restart) (r : Content) → t < length me.0.roster
    → is_among me.0.number me.0.tracers ≡ true → me.0.number < TRACERS
    → (cell_after me.0.roster me.0.seen t).phase ≡ phase.Claimed me.0.number → me.1 ≡ (place t, Some r) ∷ rest me.1
    → IsWrittenOver (cell_after me.0.roster me.0.seen t).content r → IsResume how
    → old ≡ raw_of (word_of false (cell_after me.0.roster me.0.seen t))
    → new ≡ raw_of (restarted (word_of false (cell_after me.0.roster me.0.seen t)) how)
    → Allows (KeepsRule me.0.roster) slots id me (place t) (λ n. either (eqb n old) new n)
    (resumed (step slots (place t) old new none) me)
resume_allowed me slots id t old new how r there mine few is hand content ranged old_is new_is s k sized at bounded =
    let same = still me s k id t at there (ap (λ p. is_moved_by (actors_of me.0) (mover_of t p)) is ∙ mine) in
    let is_now : (cell_after me.0.roster k.history t).phase ≡ phase.Claimed me.0.number =
    ap (λ (c : Cell). c.phase) same ∙ is in
    let low = not_up me s k t me.0.number there is_now in
    let found : slice_index s.words (place t) ≡ old =
    (k.rows t there).word ∙ (λ j. raw_of (word_of (low j) (same j))) ∙ sym old_is in
    let within : place t < length s.homes = (let long = k.homes_are in omega arith) in
    let number = (cell_after me.0.roster me.0.seen t).number in
    let x = resume_of t number how me.0.number r in
    let homes = back me s (place t) r hand within in
    let m : Makes me s k id t at there new x me.0.taken homes = record {
      own = refl;
      fits = shown_state me.0.roster k.history t there
          ∙ ap (shown (is_born me.0.roster (history_of k.history) t) (cell_after me.0.roster k.history t).number) is_now
          ∙ ap (λ (c : Cell). state.Claimed c.number me.0.number) same;
      ranged = (ranged, few);
      carried = subst (λ (c : Cell). IsWrittenOver c.content r) (sym same) content;
      word = new_is ∙ sym (λ j. raw_of (restarted (word_of (low j) (same j)) how));
      home = subst (λ c. IsHome false c (get_elem? homes (place t))) (sym (own_cell me.0.roster x k.history t refl)) (
        some (Some r),
        back_here me s (place t) r hand within,
        refl,
      );
      as_long = back_long me s (place t) r hand within;
      other_homes = λ u other. back_others me s (place t) r hand within (place u) (places_differ u t other);
      acts = mine;
      knows = λ u among. (followed me s k id t at there).knows u among;
      flag = inl refl;
    } in
    hits me s id (place t) old new (resumed (step slots (place t) old new none) me) found (
      made_view me s k id t at there x me.0.taken,
      gives,
      tt,
      made_kept me s k id t at there new x me.0.taken homes m,
      at_place
          (λ row. resumed_on (step slots (place t) old new none) row me
          (made_view me s k id t at there x me.0.taken, rest me.1)) t
          (λ q hand'.
          subst (λ (p : Content). (h : Restart) × IsResume h
          × (new ≡ raw_of (restarted (word_of false (cell_after me.0.roster me.0.seen t)) h))
          × (before : List Entry) × (rest me.1 ≡ rest me.1)
          × Sees me.0 (an_exchange t) before (resume_of t number h me.0.number p ∷ []) me.0.taken
          (made_view me s k id t at there x me.0.taken))
          (hand_is me.1 (place t) r q (rest me.1) (rest me.1) hand hand')
          (how, ranged, new_is, k.history, refl, made_told me s k id t at there new x me.0.taken homes m)),
    )

-- ---- a tracee's row ends

pub exit_allowed : (me : Seated) (slots id t old new : ℕ) (death : Death) (r : Content) → t < length me.0.roster
    → me.0.tracees ≡ t ∷ [] → me.0.taken ≡ true
    → mover_of t (cell_after me.0.roster me.0.seen t).phase ≡ Some (Tracee t) → me.1 ≡ (place t, Some r) ∷ rest me.1
    → IsDeath death → IsGroupSettled me.0.roster t me.0.seen
    → old ≡ raw_of (word_of true (cell_after me.0.roster me.0.seen t))
    → new ≡ raw_of (died (word_of true (cell_after me.0.roster me.0.seen t)) death)
    → Allows (KeepsRule me.0.roster) slots id me (place t) (λ n. either (eqb n old) new n)
    (exited (step slots (place t) old new none) me)
exit_allowed me slots id t old new death r there own taken moved hand ranged settled old_is new_is s k sized at bounded =
    let mine = acts_for t me.0.tracees own in
    let same = still me s k id t at there (ap (is_moved_by (actors_of me.0)) moved ∙ mine) in
    let up : k.taken t ≡ true = (followed me s k id t at there).knows t mine ∙ taken in
    let found : slice_index s.words (place t) ≡ old =
    (k.rows t there).word ∙ (λ j. raw_of (word_of (up j) (same j))) ∙ sym old_is in
    let within : place t < length s.homes = (let long = k.homes_are in omega arith) in
    let x = bare (event.Exit t death) in
    let homes = back me s (place t) r hand within in
    let settled_now : IsGroupSettled me.0.roster t k.history =
    (λ leads. settled_on me.0.roster (actors_of me.0) t (length me.0.roster) me.0.seen k.history k.legal
    (on me s k id t at there) mine moved (settled leads)) in
    let m : Makes me s k id t at there new x false homes = record {
      own = refl;
      fits = (k.up t up, nobody_holds me.0.roster k.history t settled_now);
      ranged = ranged;
      carried = tt;
      word = new_is ∙ sym (λ j. raw_of (died (word_of (up j) (same j)) death));
      home = subst (λ c. IsHome false c (get_elem? homes (place t))) (sym (own_cell me.0.roster x k.history t refl))
          (some (Some r), back_here me s (place t) r hand within, tt);
      as_long = back_long me s (place t) r hand within;
      other_homes = λ u other. back_others me s (place t) r hand within (place u) (places_differ u t other);
      acts = mine;
      knows = λ u among. rw (eq-eqb u t (only_one t u me.0.tracees own among)) refl;
      flag = inr mine;
    } in
    hits me s id (place t) old new (exited (step slots (place t) old new none) me) found (
      made_view me s k id t at there x false,
      gives,
      tt,
      made_kept me s k id t at there new x false homes m,
      at_place
          (λ row. exited_on (step slots (place t) old new none) row me
          (made_view me s k id t at there x false, rest me.1)) t
          (death, ranged, new_is, k.history, refl, made_told me s k id t at there new x false homes m),
    )
