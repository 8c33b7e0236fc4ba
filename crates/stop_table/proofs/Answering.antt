-- What looks and claims answer, in terms of the history.
use Rattle.std.proofs.Common.{refl, ◌≡◌, ◌≢◌, ◌<◌, ◌∷◌, ◌++◌, [], ℕ, Bool, true, false, List}
use Rattle.std.proofs.Common.{length, ◌∙◌, sym, ap, inl, inr, subst, eq-eqb, ne_eqb}
use Rattle.std.proofs.lemmas.Bool.{cases_eq}
use Rattle.std.proofs.lemmas.List.{append_assoc}
use Rattle.trace_record.specs.Content.{Content}
use Rattle.trace_record.specs.Death.{IsDeath, death_status}
use Rattle.trace_record.specs.Stop.{stop_status}
use Rattle.trace_record.specs.declared.death.Death.{Death}
use Rattle.trace_record.proofs.Deaths.{same_death}
use Rattle.stop_history.specs.declared.phase.Phase.{Phase}
use Rattle.stop_history.specs.declared.phase.Phase.TheVariants as phase
use Rattle.stop_history.specs.declared.roster.Row.{Row}
use Rattle.stop_history.specs.declared.state.State.TheVariants as state
use Rattle.stop_history.specs.Actor.{IsQuiet}
use Rattle.stop_history.specs.Event as event
use Rattle.stop_history.specs.Event.{Event, History, events_of, subject}
use Rattle.stop_history.specs.History.{WasClaimed}
use Rattle.stop_history.specs.Ranges.{IsInRange}
use Rattle.stop_history.specs.State.{is_born, is_waitable, number_in, state_after}
use Rattle.stop_history.specs.Step.{claimed, claimed_by}
use Rattle.stop_history.specs.Word.{Word, claimed_phase, phase_in, shown}
use Rattle.stop_history.proofs.AtomicSteps.{claimed_left}
use Rattle.stop_history.proofs.Events.{other_events, own_events}
use Rattle.stop_history.proofs.Longer.{taken_or_same}
use Rattle.stop_table.specs.declared.claim.Taken.{Taken}
use Rattle.stop_table.specs.declared.claim.Taken.TheVariants as taken
use Rattle.stop_table.specs.declared.shown.Shown.{Shown}
use Rattle.stop_table.specs.declared.shown.Shown.TheVariants as shows
use Rattle.stop_table.specs.Claiming.{GetsNothing, IsTaken, IsTakenOrLost}
use Rattle.stop_table.specs.Entry.{AreLegal, Begins, Cell, Entry, IsCarried, bare, cell_after, content_after}
use Rattle.stop_table.specs.Entry.{content_with, history_of, word_of}
use Rattle.stop_table.specs.Handle.{Claims, EndsWith, IsExitOf, IsHolding, IsLostSince, IsStepOf, Looked}
use Rattle.stop_table.specs.Handle.{LooksAt, LooksOnce, LosesAt, LosesClaim, Reaps, SawUnborn, SeenAt}
use Rattle.stop_table.specs.Handle.{is_claimable, shown_of}
use Rattle.stop_table.specs.Seat.{MissedAt, ReapedAt, Saw, TookStop}
use Rattle.stop_table.specs.Steps.{Seated, Sees}
use Rattle.stop_table.specs.View.{View, actors_of, an_exchange, a_look}
use Rattle.stop_table.proofs.Counting.{no_exchange, saw_once}
use Rattle.stop_table.proofs.Entries.{born_on, content_number, history_append, legal_append, own_cell, own_content}
use Rattle.stop_table.proofs.Entries.{quiet_sooner, same_cell, shown_state}
use Rattle.stop_table.proofs.Moves.{not_both}
use Rattle.stop_table.proofs.Walking.{ended_with, ends_from, goes_from, look_step, looked_on, looks_from, lost_since_from}
use Rattle.stop_table.proofs.Walking.{one_look, sees_same, state_seen, step_from, step_on}
use Rattle.stop_table.proofs.Written.{unwritten}

-- ---- looks

-- after looks from u, the last of them at the row, which is born
pub looks_at_word : (u : View) (m n : Seated) (row : ℕ) (w : Word) → row < length u.roster → Looked u m.0
    → is_born u.roster (history_of m.0.seen) row ≡ true → Saw m n row w
    → LooksAt u n.0 row (shown_of (shown true w.number w.phase))
looks_at_word u m n row w there first born s =
    let same = first.grows.same.roster in
    let look = one_look m n row w s in
    let now : is_born m.0.roster (history_of n.0.seen) row ≡ true =
    ap (λ rows. is_born rows (history_of n.0.seen) row) same
    ∙ born_on u.roster (actors_of m.0) row m.0.seen n.0.seen look.grows.goes_on born in
    looks_from u m.0 n.0 row (shown_of (shown true w.number w.phase)) first (
      look,
      record {
        point = n.0.seen;
        sooner = look.grows.goes_on;
        later = ([], refl);
        step = inl (look_step m n row w s);
        shown = ap shown_of (state_seen m n row w (subst (λ rows. row < length rows) (sym same) there) s now);
      },
    )

-- ---- what a row's content and its last event are

claimed_not_stopped : (tracer status : ℕ) (es : List Event) → claimed_phase tracer es ≢ phase.Stopped status
claimed_not_stopped tracer status [] is = cc
claimed_not_stopped tracer status (event.Publish row number stop ∷ es) is = cc
claimed_not_stopped tracer status (event.Claim row number other ∷ es) is = cc
claimed_not_stopped tracer status (event.Resume row number how other ∷ es) is = cc
claimed_not_stopped tracer status (event.Exit row death ∷ es) is = cc

claimed_not_dead : (tracer status : ℕ) (es : List Event) → claimed_phase tracer es ≢ phase.Dead status
claimed_not_dead tracer status [] is = cc
claimed_not_dead tracer status (event.Publish row number stop ∷ es) is = cc
claimed_not_dead tracer status (event.Claim row number other ∷ es) is = cc
claimed_not_dead tracer status (event.Resume row number how other ∷ es) is = cc
claimed_not_dead tracer status (event.Exit row death ∷ es) is = cc

own_status : (rows : List Row) (es : List Event) (e : Event) (carried before old : Content) (status : ℕ)
    → IsCarried rows old e carried → phase_in (e ∷ es) ≡ phase.Stopped status
    → status ≡ stop_status (content_with e carried before).stop
own_status rows es (event.Publish row number stop) carried before old status is at =
    (let same : stop_status stop ≡ status = cc in sym same) ∙ ap stop_status (sym is.2)
own_status rows es (event.Claim row number tracer) carried before old status is at =
    absurd (claimed_not_stopped tracer status es at)
own_status rows es (event.Resume row number how tracer) carried before old status is at = cc
own_status rows es (event.Exit row death) carried before old status is at = cc

-- a row that stands at a stop has the status of its last publish
content_status : (rows : List Row) (h : List Entry) → AreLegal rows h → (row status : ℕ)
    → phase_in (events_of row (history_of h)) ≡ phase.Stopped status
    → status ≡ stop_status (content_after rows h row).stop
content_status rows [] legal row status is = cc
content_status rows (x ∷ h) legal row status is =
    elim (cases_eq (subject x.event) row) [
      | inl own ↦
          rw (eq-eqb _ _ own)
          (own_status rows (events_of row (history_of h)) x.event x.content (content_after rows h row)
          (content_after rows h (subject x.event)) status legal.0.2
          (ap phase_in (sym (own_events row x.event (history_of h) own)) ∙ is))
      | inr other ↦
          rw (ne_eqb _ _ other)
          (content_status rows h legal.1 row status
          (ap phase_in (sym (other_events row x.event (history_of h) other)) ∙ is))
    ]

own_exit : (row status : ℕ) (es : List Event) (e : Event) → subject e ≡ row → IsInRange e
    → phase_in (e ∷ es) ≡ phase.Dead status
    → (death : Death) × IsDeath death × (death_status death ≡ status) × (e ≡ event.Exit row death)
own_exit row status es (event.Publish at number stop) own ranged is = cc
own_exit row status es (event.Claim at number tracer) own ranged is = absurd (claimed_not_dead tracer status es is)
own_exit row status es (event.Resume at number how tracer) own ranged is = cc
own_exit row status es (event.Exit at death) own ranged is =
    (death, ranged, (let same : death_status death ≡ status = cc in same), ap (λ r. event.Exit r death) own)

-- a row that is dead has its exit for its last event
pub exit_of : (rows : List Row) (h : List Entry) → AreLegal rows h → (row status : ℕ)
    → phase_in (events_of row (history_of h)) ≡ phase.Dead status
    → (death : Death) × IsDeath death × (death_status death ≡ status) × IsExitOf h row death
exit_of rows [] legal row status is = cc
exit_of rows (x ∷ h) legal row status is =
    elim (cases_eq (subject x.event) row) [
      | inl own ↦
          (let told = own_events row x.event (history_of h) own in
          let last = own_exit row status (events_of row (history_of h)) x.event own legal.0.1
          (ap phase_in (sym told) ∙ is) in (
            last.0,
            last.1,
            last.2,
            (events_of row (history_of h), told ∙ ap (λ e. e ∷ events_of row (history_of h)) last.3),
          ))
      | inr other ↦
          (let told = other_events row x.event (history_of h) other in
          let before = exit_of rows h legal.1 row status (ap phase_in (sym told) ∙ is) in
          (before.0, before.1, before.2, (before.3.0, told ∙ before.3.1)))
    ]

-- ---- claims

module _ (m n : Seated) (row : ℕ) (seen : Word) (h : List Entry) (there : row < length m.0.roster)
    (born : is_born m.0.roster (history_of m.0.seen) row ≡ true)
    (s : Sees m.0 (an_exchange row) h (bare (event.Claim row seen.number m.0.number) ∷ []) m.0.taken n.0)
    (word : seen ≡ word_of false (cell_after m.0.roster h row)) (p : Phase) (phase_is : seen.phase ≡ p) where
  abbrev entry : Entry
  entry = bare (event.Claim row seen.number m.0.number)

  phase_at : (cell_after m.0.roster h row).phase ≡ p
  phase_at = ap (λ (w : Word). w.phase) (sym word) ∙ phase_is

  state_at : state_after m.0.roster (history_of h) row ≡ shown true seen.number p
  state_at =
      shown_state m.0.roster h row there
      ∙ ap (λ b. shown b (cell_after m.0.roster h row).number (cell_after m.0.roster h row).phase)
      (born_on m.0.roster (actors_of m.0) row m.0.seen h s.goes_on born)
      ∙ ap (λ q. shown true (cell_after m.0.roster h row).number q) phase_at
      ∙ ap (λ (w : Word). shown true w.number p) (sym word)

  -- the word that the claim leaves
  word_after : claimed seen m.0.number ≡ word_of false (cell_after n.0.roster n.0.seen row)
  word_after =
      let same = sees_same m.0 n.0 h (entry ∷ []) m.0.taken s in
      ap (λ w. claimed w m.0.number) word
      ∙ (λ j. record {
        phase = claimed_left m.0.number (events_of row (history_of h)) j;
        births = (cell_after m.0.roster h row).births;
        number = (cell_after m.0.roster h row).number;
      })
      ∙ ap (word_of false) (sym (own_cell m.0.roster entry h row refl))
      ∙ ap (λ rows. word_of false (cell_after rows (entry ∷ h) row)) (sym same.roster)
      ∙ ap (λ g. word_of false (cell_after n.0.roster g row)) (sym (ap (λ (v : View). v.seen) s.view))

  content_kept : content_after n.0.roster n.0.seen row ≡ content_after m.0.roster h row
  content_kept =
      let same = sees_same m.0 n.0 h (entry ∷ []) m.0.taken s in
      ap (λ rows. content_after rows n.0.seen row) same.roster
      ∙ ap (λ g. content_after m.0.roster g row) (ap (λ (v : View). v.seen) s.view)
      ∙ own_content m.0.roster entry h

pub did_claim : (m n : Seated) (row status : ℕ) (seen : Word) (content : Content) → row < length m.0.roster
    → is_born m.0.roster (history_of m.0.seen) row ≡ true → TookStop m n row seen content
    → seen.phase ≡ phase.Stopped status
    → Claims m.0 n.0 row content × IsHolding n.0 row (claimed seen m.0.number) content
did_claim m n row status seen content there born took phase_is =
    let h = took.1 in
    let s = took.2.0 in
    let word = took.2.1 in
    let p = phase.Stopped status in
    let legal = s.legal.1 in
    let at = phase_at m n row seen h there born s word p phase_is in
    let number : seen.number ≡ content.number =
    ap (λ (w : Word). w.number) word ∙ sym (content_number m.0.roster h legal row).0
    ∙ ap (λ (c : Content). c.number) (sym took.3) in
    let status_is : status ≡ stop_status content.stop =
    content_status m.0.roster h legal row status at ∙ ap (λ (c : Content). stop_status c.stop) (sym took.3) in
    let same = sees_same m.0 n.0 h (bare (event.Claim row seen.number m.0.number) ∷ []) m.0.taken s in (
      (
        h,
        subst (λ k. EndsWith m.0 n.0 h (bare (event.Claim row k m.0.number))) number
            (ended_with m.0 n.0 h (bare (event.Claim row seen.number m.0.number)) m.0.taken s),
        state_at m n row seen h there born s word p phase_is ∙ (λ j. state.Stopped (number j) (status_is j)),
        took.3,
      ),
      record {
        is_phase = ap (claimed_by m.0.number) phase_is ∙ ap phase.Claimed (sym same.number);
        is_word = word_after m n row seen h there born s word p phase_is;
        is_content = unwritten _ _ (took.3 ∙ sym (content_kept m n row seen h there born s word p phase_is));
      },
    )

pub did_reap : (m n : Seated) (row status : ℕ) (seen : Word) (death : Death) → row < length m.0.roster
    → is_born m.0.roster (history_of m.0.seen) row ≡ true → ReapedAt m n row seen → seen.phase ≡ phase.Dead status
    → IsDeath death → death_status death ≡ status → Reaps m.0 n.0 row death seen.number
did_reap m n row status seen death there born reaped phase_is ranged is =
    let h = reaped.1 in
    let s = reaped.2.0 in
    let word = reaped.2.1 in
    let p = phase.Dead status in
    let last = exit_of m.0.roster h s.legal.1 row status (phase_at m n row seen h there born s word p phase_is) in
    let same : last.0 ≡ death = same_death last.0 death last.1 ranged (last.2 ∙ sym is) in (
      h,
      ended_with m.0 n.0 h (bare (event.Claim row seen.number m.0.number)) m.0.taken s,
      state_at m n row seen h there born s word p phase_is ∙ ap (state.Dead seen.number) (sym is),
      ranged,
      subst (IsExitOf h row) same last.3,
    )

-- the death that a claimed word tells is one that there is
pub has_death : (m n : Seated) (row status : ℕ) (seen : Word) → ReapedAt m n row seen → seen.phase ≡ phase.Dead status
    → (death : Death) × IsDeath death × (death_status death ≡ status)
has_death m n row status seen reaped phase_is =
    let last = exit_of m.0.roster reaped.1 reaped.2.0.legal.1 row status
    (ap (λ (w : Word). w.phase) (sym reaped.2.1) ∙ phase_is) in
    (last.0, last.1, last.2)

-- ---- claims that another won

-- an entry of a running history, found by its event
split_at : (more : List Entry) (later : History) (e : Event) (sooner : History)
    → history_of more ≡ later ++ (e ∷ sooner)
    → (a : List Entry) × (x : Entry) × (b : List Entry) × (more ≡ a ++ (x ∷ b)) × (x.event ≡ e)
    × (history_of b ≡ sooner)
split_at [] [] e sooner is = cc
split_at [] (f ∷ later) e sooner is = cc
split_at (x ∷ more) [] e sooner is = (
  [],
  x,
  more,
  refl,
  (let same : x.event ≡ e = cc in same),
  (let same : history_of more ≡ sooner = cc in same),
)
split_at (x ∷ more) (f ∷ later) e sooner is =
    let inner = split_at more later e sooner (let same : history_of more ≡ later ++ (e ∷ sooner) = cc in same) in
    (x ∷ inner.0, inner.1, inner.2, ap (λ g. x ∷ g) inner.3, inner.4, inner.5)

-- what a claim leaves of its row
claimed_cell : (rows : List Row) (x : Entry) (h : List Entry) (row number tracer : ℕ)
    → x.event ≡ event.Claim row number tracer
    → ((cell_after rows (x ∷ h) row).phase ≡ claimed_by tracer (cell_after rows h row).phase)
    × ((cell_after rows (x ∷ h) row).number ≡ (cell_after rows h row).number)
claimed_cell rows x h row number tracer is =
    let own = own_cell rows x h row (ap subject is) in
    let es = events_of row (history_of h) in (
      ap (λ (c : Cell). c.phase) own ∙ ap (λ e. phase_in (e ∷ es)) is ∙ sym (claimed_left tracer es),
      ap (λ (c : Cell). c.number) own ∙ ap (λ e. number_in (e ∷ es)) is,
    )

-- the phase and the number of a word that shows a stop, or a death
stop_shown : (born : Bool) (n number status : ℕ) (p : Phase) → shown born n p ≡ state.Stopped number status
    → (p ≡ phase.Stopped status) × (n ≡ number)
stop_shown true n number status phase.Fresh is = cc
stop_shown false n number status phase.Fresh is = cc
stop_shown born n number status (phase.Resumed how) is = cc
stop_shown born n number status phase.Active is = cc
stop_shown born n number status (phase.Stopped other) is =
    ((let same : other ≡ status = cc in ap phase.Stopped same), (let same : n ≡ number = cc in same))
stop_shown born n number status (phase.Claimed tracer) is = cc
stop_shown born n number status (phase.Dead other) is = cc
stop_shown born n number status phase.Reaped is = cc

death_shown : (born : Bool) (n number status : ℕ) (p : Phase) → shown born n p ≡ state.Dead number status
    → p ≡ phase.Dead status
death_shown true n number status phase.Fresh is = cc
death_shown false n number status phase.Fresh is = cc
death_shown born n number status (phase.Resumed how) is = cc
death_shown born n number status phase.Active is = cc
death_shown born n number status (phase.Stopped other) is = cc
death_shown born n number status (phase.Claimed tracer) is = cc
death_shown born n number status (phase.Dead other) is = (let same : other ≡ status = cc in ap phase.Dead same)
death_shown born n number status phase.Reaped is = cc

-- directly after the claim that was lost, the row is as that claim left what the look had seen
module _ (look : List Entry) (v w : View) (row : ℕ) (h : List Entry) (there : row < length v.roster)
    (lost : IsLostSince look v w row h) where
  cell_kept : cell_after v.roster lost.before row ≡ cell_after v.roster look row
  cell_kept =
      ap (λ g. cell_after v.roster g row) lost.later.1
      ∙ same_cell v.roster row lost.later.0 look
      (ap (λ g. events_of row (history_of g)) (sym lost.later.1) ∙ lost.untouched)

  state_left : (born : Bool) × (state_after v.roster (history_of h) row
      ≡ shown born (cell_after v.roster look row).number (claimed_by lost.tracer (cell_after v.roster look row).phase))
  state_left =
      let left = claimed_cell v.roster lost.claim lost.before row lost.number lost.tracer lost.is_claim in
      let born = is_born v.roster (history_of h) row in
      let at = lost.point in (
        born,
        shown_state v.roster h row there
            ∙ ap (λ g. shown born (cell_after v.roster g row).number (cell_after v.roster g row).phase) at
            ∙ (λ j. shown born (left.1 j) (left.0 j))
            ∙ ap (λ (c : Cell). shown born c.number (claimed_by lost.tracer c.phase)) cell_kept,
      )

  pub lost_stop : (number status : ℕ) → state_after v.roster (history_of look) row ≡ state.Stopped number status
      → shown_of (state_after v.roster (history_of h) row) ≡ shows.Claimed number
  lost_stop number status stood =
      let is = stop_shown (is_born v.roster (history_of look) row) (cell_after v.roster look row).number number status
      (cell_after v.roster look row).phase (sym (shown_state v.roster look row there) ∙ stood) in
      ap shown_of (state_left.1 ∙ (λ j. shown state_left.0 (is.1 j) (claimed_by lost.tracer (is.0 j))))

  pub lost_death : (number status : ℕ) → state_after v.roster (history_of look) row ≡ state.Dead number status
      → shown_of (state_after v.roster (history_of h) row) ≡ shows.Reaped
  lost_death number status stood =
      let is = death_shown (is_born v.roster (history_of look) row) (cell_after v.roster look row).number number status
      (cell_after v.roster look row).phase (sym (shown_state v.roster look row there) ∙ stood) in
      ap shown_of (state_left.1
      ∙ ap (λ p. shown state_left.0 (cell_after v.roster look row).number (claimed_by lost.tracer p)) is)

-- a row that is as it was shows the word that was seen
unchanged_word : (m n : Seated) (row : ℕ) (seen w : Word) (p : Phase) → row < length m.0.roster
    → is_born m.0.roster (history_of m.0.seen) row ≡ true → (s : MissedAt m n row w)
    → seen ≡ word_of false (cell_after m.0.roster m.0.seen row)
    → (cell_after m.0.roster m.0.seen row).phase ≡ p → ((k : ℕ) → is_waitable (shown true k p) ≡ true)
    → cell_after m.0.roster (s.2.goes_on.0 ++ m.0.seen) row ≡ cell_after m.0.roster m.0.seen row → w ≡ seen
unchanged_word m n row seen w p there born s word phase_m waits same =
    let rows = m.0.roster in
    let cell : cell_after rows s.1 row ≡ cell_after rows m.0.seen row =
    ap (λ h. cell_after rows h row) s.2.goes_on.1 ∙ same in
    let low : s.3 ≡ false =
    not_both s.3
    (λ up.
    let born_h = born_on rows (actors_of m.0) row m.0.seen s.1 s.2.goes_on born in
    let shows : state.Running ≡ shown true (cell_after rows s.1 row).number p =
    sym (s.5 up) ∙ shown_state rows s.1 row there
    ∙ ap (λ b. shown b (cell_after rows s.1 row).number (cell_after rows s.1 row).phase) born_h
    ∙ ap (shown true (cell_after rows s.1 row).number) (ap (λ (c : Cell). c.phase) cell ∙ phase_m) in
    let clash : is_waitable state.Running ≡ true =
    ap is_waitable shows ∙ waits (cell_after rows s.1 row).number in cc) in
    s.4 ∙ ap (λ b. word_of b (cell_after rows s.1 row)) low ∙ ap (word_of false) cell ∙ sym word

lost_at : (m n : Seated) (row : ℕ) (seen w : Word) (p : Phase) (a : Shown) → row < length m.0.roster
    → is_born m.0.roster (history_of m.0.seen) row ≡ true → (s : MissedAt m n row w)
    → is_waitable (state_after m.0.roster (history_of m.0.seen) row) ≡ true
    → seen ≡ word_of false (cell_after m.0.roster m.0.seen row) → (cell_after m.0.roster m.0.seen row).phase ≡ p
    → ((c : ℕ) → shown_of (shown true seen.number (claimed_by c p)) ≡ a)
    → (was : WasClaimed row (history_of s.2.goes_on.0) (history_of m.0.seen))
    → (at : (before : List Entry) × (x : Entry) × (b : List Entry) × (s.2.goes_on.0 ≡ before ++ (x ∷ b))
    × (x.event ≡ event.Claim row was.number was.tracer) × (history_of b ≡ was.sooner))
    → SeenAt m.0 n.0 (IsLostSince m.0.seen m.0 n.0 row) row a
lost_at m n row seen w p a there born s waited word phase_m after was at =
    let rows = m.0.roster in
    let x = at.1 in
    let b = at.2 in
    let quiet : IsQuiet (actors_of m.0) (history_of (x ∷ b)) =
    quiet_sooner (actors_of m.0) at.0 (x ∷ b)
    (subst (λ g. IsQuiet (actors_of m.0) (history_of g)) at.3 s.2.goes_on.2) in
    let untouched : events_of row (history_of (b ++ m.0.seen)) ≡ events_of row (history_of m.0.seen) =
    ap (events_of row) (history_append b m.0.seen ∙ ap (λ g. g ++ history_of m.0.seen) at.5) ∙ was.unchanged in
    let cell : cell_after rows (b ++ m.0.seen) row ≡ cell_after rows m.0.seen row =
    same_cell rows row b m.0.seen untouched in
    let left = claimed_cell rows x (b ++ m.0.seen) row was.number was.tracer at.4 in
    let born_x : is_born rows (history_of (x ∷ b ++ m.0.seen)) row ≡ true =
    born_on rows (actors_of m.0) row m.0.seen (x ∷ b ++ m.0.seen) (x ∷ b, refl, quiet) born in
    let number : (cell_after rows (x ∷ b ++ m.0.seen) row).number ≡ seen.number =
    left.1 ∙ ap (λ (c : Cell). c.number) cell ∙ ap (λ (v : Word). v.number) (sym word) in
    let phase_x : (cell_after rows (x ∷ b ++ m.0.seen) row).phase ≡ claimed_by was.tracer p =
    left.0 ∙ ap (claimed_by was.tracer) (ap (λ (c : Cell). c.phase) cell ∙ phase_m) in
    let state_x : state_after rows (history_of (x ∷ b ++ m.0.seen)) row
    ≡ shown true seen.number (claimed_by was.tracer p) =
    shown_state rows (x ∷ b ++ m.0.seen) row there
    ∙ ap (λ c. shown c (cell_after rows (x ∷ b ++ m.0.seen) row).number (cell_after rows (x ∷ b ++ m.0.seen) row).phase)
    born_x
    ∙ ap (λ k. shown true k (cell_after rows (x ∷ b ++ m.0.seen) row).phase) number
    ∙ ap (shown true seen.number) phase_x in
    let later : Begins (x ∷ b ++ m.0.seen) n.0.seen = (
      at.0,
      ap (λ (v : View). v.seen) s.2.view ∙ s.2.goes_on.1 ∙ ap (λ g. g ++ m.0.seen) at.3
          ∙ append_assoc at.0 (x ∷ b) m.0.seen,
    ) in
    record {
      point = x ∷ b ++ m.0.seen;
      sooner = (x ∷ b, refl, quiet);
      later = later;
      step = record {
        waited = waited;
        before = b ++ m.0.seen;
        later = (b, refl);
        untouched = untouched;
        claim = x;
        number = was.number;
        tracer = was.tracer;
        is_claim = at.4;
        point = refl;
        found = n.0.seen;
        on = later;
        exchange = look_step m n row w s;
      };
      shown = sym (ap shown_of state_x ∙ after was.tracer);
    }

-- between the look at a row that waited and the exchange that failed, another claimed the row
pub lost_claim : (m n : Seated) (row : ℕ) (seen w : Word) (p : Phase) (a : Shown) → row < length m.0.roster
    → is_born m.0.roster (history_of m.0.seen) row ≡ true → AreLegal m.0.roster m.0.seen → MissedAt m n row w → w ≢ seen
    → seen ≡ word_of false (cell_after m.0.roster m.0.seen row) → seen.phase ≡ p
    → ((k : ℕ) → is_waitable (shown true k p) ≡ true)
    → ((c : ℕ) → shown_of (shown true seen.number (claimed_by c p)) ≡ a) → LosesAt m.0 n.0 row a
lost_claim m n row seen w p a there born legal_m s other word phase_is waits after =
    let rows = m.0.roster in
    let look = one_look m n row w s in
    let on = s.2.goes_on in
    let phase_m : (cell_after rows m.0.seen row).phase ≡ p =
    ap (λ (x : Word). x.phase) (sym word) ∙ phase_is in
    let state_m : state_after rows (history_of m.0.seen) row
    ≡ shown true (cell_after rows m.0.seen row).number p =
    shown_state rows m.0.seen row there
    ∙ ap (λ b. shown b (cell_after rows m.0.seen row).number (cell_after rows m.0.seen row).phase) born
    ∙ ap (shown true (cell_after rows m.0.seen row).number) phase_m in
    let waited : is_waitable (state_after rows (history_of m.0.seen) row) ≡ true =
    ap is_waitable state_m ∙ waits (cell_after rows m.0.seen row).number in
    let legal_on : AreLegal rows (on.0 ++ m.0.seen) = subst (AreLegal rows) on.1 s.2.legal in
    elim (taken_or_same rows (history_of on.0) (history_of m.0.seen) (legal_append rows on.0 m.0.seen legal_on) row waited) [
      | inl same ↦
          absurd (other (unchanged_word m n row seen w p there born s word phase_m waits
          (same_cell rows row on.0 m.0.seen (ap (events_of row) (history_append on.0 m.0.seen) ∙ same))))
      | inr was ↦ (
        look,
        lost_at m n row seen w p a there born s waited word phase_m after was
            (split_at on.0 was.later (event.Claim row was.number was.tracer) was.sooner was.is),
      )
    ]

-- ---- an attempt behind looks

-- what was lost after the look, the whole attempt lost
loses_from : (u v w : View) (row : ℕ) (a : Shown) → Looked u v → IsStepOf u v (a_look row v.seen) → LosesAt v w row a
    → LosesClaim u w row a
loses_from u v w row a first look l =
    let same = first.grows.same.roster in (
      looked_on u v w first l.0,
      record {
        point = l.1.point;
        sooner = goes_from u v l.1.point first.grows.goes_on first.grows.same l.1.sooner;
        later = l.1.later;
        step = (
          v.seen,
          step_on u v w (a_look row v.seen) look l.0.grows.steps,
          lost_since_from v.seen u v w row l.1.point same first.grows.steps l.1.step,
        );
        shown = l.1.shown ∙ ap (λ rows. shown_of (state_after rows (history_of l.1.point) row)) same;
      },
    )

-- the last look of a call that looks once more, at the row
pub last_look : (u : View) (m n : Seated) (row : ℕ) (w : Word) → Looked u m.0 → Saw m n row w
    → IsStepOf u n.0 (a_look row n.0.seen)
last_look u m n row w first s = step_from u m.0 n.0 (a_look row n.0.seen) first.grows.steps (look_step m n row w s)

-- the last of the looks was at the row
pub taken_from : {A : Type 0} (deaths : Bool) (u v w : View) (row : ℕ) (r : Taken A) → Looked u v
    → IsStepOf u v (a_look row v.seen) → IsTakenOrLost deaths v w row r → IsTaken deaths u w row r
taken_from deaths u v w row (taken.Stop claim) first look is =
    let same = first.grows.same in
    let c = is.0 in (
      (
        c.0,
        subst (λ k. EndsWith u w c.0 (bare (event.Claim row claim.stop.number k))) same.number
            (ends_from u v w c.0 (bare (event.Claim row claim.stop.number v.number)) first c.1),
        subst (λ rows. state_after rows (history_of c.0) row ≡ state.Stopped claim.stop.number (stop_status claim.stop.stop))
            same.roster c.2,
        subst (λ rows. claim.stop ≡ content_after rows c.0 row) same.roster c.3,
      ),
      is.1,
      is.2,
      is.3 ∙ same.number,
    )
taken_from deaths u v w row (taken.Ended death number) first look is =
    let same = first.grows.same in
    let c = is.0 in (
      (
        c.0,
        subst (λ k. EndsWith u w c.0 (bare (event.Claim row number k))) same.number
            (ends_from u v w c.0 (bare (event.Claim row number v.number)) first c.1),
        subst (λ rows. state_after rows (history_of c.0) row ≡ state.Dead number (death_status death)) same.roster c.2,
        c.3,
        c.4,
      ),
      is.1,
    )
taken_from deaths u v w row (taken.Nothing a) first look is = (inr (loses_from u v w row a first look is.0), is.1)

-- ---- an attempt that finds nothing to claim

-- a row that was born at the first of two looks is so after the second
pub born_after : (u : View) (m n : Seated) (row : ℕ) (w : Word) → Looked u m.0 → Saw m n row w
    → is_born u.roster (history_of m.0.seen) row ≡ true → is_born n.0.roster (history_of n.0.seen) row ≡ true
born_after u m n row w first s born =
    let look = one_look m n row w s in
    ap (λ rows. is_born rows (history_of n.0.seen) row) (look.grows.same.roster ∙ first.grows.same.roster)
    ∙ born_on u.roster (actors_of m.0) row m.0.seen n.0.seen look.grows.goes_on born

-- the look at its parent's word showed it unborn
pub not_born : {Looks : ℕ → Type 0} (v w : View) (row : ℕ) → Looked v w → LooksOnce Looks v w → SawUnborn v w row
    → GetsNothing v w row shows.Unborn
not_born v w row l once unborn =
    inl (l, no_exchange v w once row, inr unborn, ap shown_of (sym unborn.0))

-- the look at its own word showed nothing to claim
pub nothing_there : {Looks : ℕ → Type 0} (u : View) (m n : Seated) (row : ℕ) (w : Word) (a : Shown)
    → row < length u.roster → Looked u m.0 → LooksOnce Looks u m.0 → is_born u.roster (history_of m.0.seen) row ≡ true → Saw m n row w
    → shown_of (shown true w.number w.phase) ≡ a → GetsNothing u n.0 row a
nothing_there u m n row w a there first once born s is =
    let same = first.grows.same.roster in
    let now : is_born m.0.roster (history_of n.0.seen) row ≡ true =
    ap (λ rows. is_born rows (history_of n.0.seen) row) same
    ∙ born_on u.roster (actors_of m.0) row m.0.seen n.0.seen (one_look m n row w s).grows.goes_on born in
    let state_is : shown true w.number w.phase ≡ state_after m.0.roster (history_of n.0.seen) row =
    state_seen m n row w (subst (λ rows. row < length rows) (sym same) there) s now in
    inl (
      looked_on u m.0 n.0 first (one_look m n row w s),
      no_exchange m.0 n.0 (saw_once m n row w s) row ∙ no_exchange u m.0 once row,
      inl (last_look u m n row w first s),
      sym is ∙ ap shown_of state_is ∙ ap (λ rows. shown_of (state_after rows (history_of n.0.seen) row)) same,
    )

-- what can be claimed of a row that has not ended is a stop
pub claimable_stop : (deaths : Bool) (number : ℕ) (p : Phase) → is_claimable deaths (shown_of (shown true number p)) ≡ true
    → ((status : ℕ) → p ≢ phase.Dead status) → (status : ℕ) × (p ≡ phase.Stopped status)
claimable_stop deaths number phase.Fresh is alive = cc
claimable_stop deaths number (phase.Resumed how) is alive = cc
claimable_stop deaths number phase.Active is alive = cc
claimable_stop deaths number (phase.Stopped status) is alive = (status, refl)
claimable_stop deaths number (phase.Claimed tracer) is alive = cc
claimable_stop deaths number (phase.Dead status) is alive = absurd (alive status refl)
claimable_stop deaths number phase.Reaped is alive = cc
