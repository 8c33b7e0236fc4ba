-- A tracer's handle, from call to call: the rows that it has claimed, and the slots that are out with it.
use Rattle.std.proofs.Common.{refl, ◌≡◌, ◌≢◌, ◌<◌, ◌∷◌, ◌++◌, [], ℕ, true, false, None, List}
use Rattle.std.proofs.Common.{length, ◌∙◌, sym, ap, inl, inr, subst, arith, eq-eqb, ne_eqb, ◌==◌}
use Rattle.std.proofs.lemmas.Bool.{cases_Bool, cases_eq, or_left}
use Rattle.std.proofs.lemmas.List.Folds.{list_any-append}
use Rattle.atomic_table.specs.Table.{rest}
use Rattle.trace_record.specs.Content.{Content}
use Rattle.trace_record.specs.declared.resume.Resume.{Resume as Restart}
use Rattle.stop_history.specs.declared.limits.TheConstants.{MOST_ROWS}
use Rattle.stop_history.specs.declared.phase.Phase.{Phase}
use Rattle.stop_history.specs.declared.phase.Phase.TheVariants as phase
use Rattle.stop_history.specs.declared.roster.Row.{Row}
use Rattle.stop_history.specs.Actor.{is_moved_by, mover_of}
use Rattle.stop_history.specs.Event as event
use Rattle.stop_history.specs.Event.{events_of, subject}
use Rattle.stop_history.specs.Word.{Word, phase_in}
use Rattle.stop_history.proofs.Longer.{claimed_before}
use Rattle.stop_table.specs.declared.shown.Shown.TheVariants as shows
use Rattle.stop_table.specs.Entry.{AreLegal, Cell, Entry, GoesOn, bare, cell_after, history_of, resume_of, word_of}
use Rattle.stop_table.specs.Handle.{IsHolding, Looked, LooksAt, Meets, SawUnborn}
use Rattle.stop_table.specs.Seat.{HoldsAtHand, LetRun, Met, MissedAt, ReapedAt, Saw, TookStop}
use Rattle.stop_table.specs.Place.{place}
use Rattle.stop_table.specs.Steps.{Seated, Sees}
use Rattle.stop_table.specs.Tracer.{AreApart, IsTracer, emptied}
use Rattle.stop_table.specs.View.{View, actors_of, an_exchange, is_among}
use Rattle.stop_table.specs.Written.{IsWrittenOver}
use Rattle.stop_table.proofs.Entries.{history_append, other_cell, own_cell, stays_on}
use Rattle.stop_table.proofs.Exchanges.{claimed_phase_of}
use Rattle.stop_history.proofs.Rosters.{few_rows}
use Rattle.stop_table.proofs.Numbers.{few_below}
use Rattle.stop_table.proofs.Tracees.{looks_unborn}
use Rattle.stop_table.proofs.Walking.{legal_after, one_look, sees_same, stands_still}

-- ---- the rows that a tracer holds, while it makes no event

held_on : (rows : List Row) (m : Seated) (number : ℕ) (held : List ℕ) → IsTracer rows m number held → (h : List Entry)
    → AreLegal rows h → GoesOn (actors_of m.0) m.0.seen h → (row : ℕ) → is_among row held ≡ true
    → (cell_after rows h row).phase ≡ phase.Claimed number
held_on rows m number held t h legal on row among =
    let claimed = (t.claimed row among).1 in
    ap (λ (c : Cell). c.phase)
    (stays_on rows (actors_of m.0) m.0.seen h legal on row
    (ap (λ p. is_moved_by (actors_of m.0) (mover_of row p)) claimed ∙ t.mine))
    ∙ claimed

held_before : (rows : List Row) (m : Seated) (number : ℕ) (held : List ℕ) → IsTracer rows m number held → (h : List Entry)
    → GoesOn (actors_of m.0) m.0.seen h → (row : ℕ) → (cell_after rows h row).phase ≡ phase.Claimed number
    → is_among row held ≡ true
held_before rows m number held t h on row is =
    let now : phase_in (events_of row (history_of on.0 ++ history_of m.0.seen)) ≡ phase.Claimed number =
    ap (λ es. phase_in (events_of row es)) (sym (ap history_of on.1 ∙ history_append on.0 m.0.seen)) ∙ is in
    let same = claimed_before (actors_of m.0) (history_of on.0) (history_of m.0.seen) on.2 number t.mine row now in
    t.all row (ap phase_in (sym same) ∙ now)

pub tracer_looked : (rows : List Row) (m n : Seated) (number : ℕ) (held : List ℕ) → IsTracer rows m number held
    → Looked m.0 n.0 → n.1 ≡ m.1 → IsTracer rows n number held
tracer_looked rows m n number held t l slots =
    let legal = subst (λ rs. AreLegal rs n.0.seen) t.roster_is (legal_after m.0 n.0 l) in
    record {
      roster_is = l.grows.same.roster ∙ t.roster_is;
      placed = t.placed;
      number_is = l.grows.same.number ∙ t.number_is;
      few = t.few;
      mine = ap (is_among number) l.grows.same.tracers ∙ t.mine;
      idle = l.taken ∙ t.idle;
      legal = legal;
      slots = slots ∙ t.slots;
      apart = t.apart;
      claimed = λ row among.
          ((t.claimed row among).0, held_on rows m number held t n.0.seen legal l.grows.goes_on row among);
      all = held_before rows m number held t n.0.seen l.grows.goes_on;
    }

-- ---- an event of its own

module _ (rows : List Row) (m n : Seated) (number row : ℕ) (held : List ℕ) (h : List Entry) (x : Entry)
    (t : IsTracer rows m number held) (own : subject x.event ≡ row) (s : Sees m.0 (an_exchange row) h (x ∷ []) m.0.taken n.0) where
  legal : AreLegal rows (x ∷ h)
  legal = subst (λ rs. AreLegal rs (x ∷ h)) t.roster_is s.legal

  seen : n.0.seen ≡ x ∷ h
  seen = ap (λ (v : View). v.seen) s.view

  other_phase : (u : ℕ) → u ≢ row → (cell_after rows n.0.seen u).phase ≡ (cell_after rows h u).phase
  other_phase u other =
      ap (λ g. (cell_after rows g u).phase) seen
      ∙ ap (λ (c : Cell). c.phase) (other_cell rows u x h (λ same. other (same ∙ own)))

  pub after_event : (now : List ℕ) → n.1 ≡ emptied now → AreApart now
      → (is_among row now ≡ true → (row < length rows) × ((cell_after rows (x ∷ h) row).phase ≡ phase.Claimed number))
      → ((cell_after rows (x ∷ h) row).phase ≡ phase.Claimed number → is_among row now ≡ true)
      → ((u : ℕ) → u ≢ row → is_among u now ≡ is_among u held) → IsTracer rows n number now
  after_event now slots apart here there others =
      let same = sees_same m.0 n.0 h (x ∷ []) m.0.taken s in
      record {
        roster_is = same.roster ∙ t.roster_is;
        placed = t.placed;
        number_is = same.number ∙ t.number_is;
        few = t.few;
        mine = ap (is_among number) same.tracers ∙ t.mine;
        idle = ap (λ (v : View). v.taken) s.view ∙ t.idle;
        legal = subst (AreLegal rows) (sym seen) legal;
        slots = slots;
        apart = apart;
        claimed = λ u among. elim (cases_eq u row) [
          | inl is ↦
              (let told = here (ap (λ r. is_among r now) (sym is) ∙ among) in (
                subst (λ r. r < length rows) (sym is) told.0,
                ap (λ g. (cell_after rows g u).phase) seen ∙ ap (λ r. (cell_after rows (x ∷ h) r).phase) is ∙ told.1,
              ))
          | inr other ↦
              (let was = sym (others u other) ∙ among in (
                (t.claimed u was).0,
                other_phase u other ∙ held_on rows m number held t h legal.1 s.goes_on u was,
              ))
        ];
        all = λ u claimed. elim (cases_eq u row) [
          | inl is ↦
              ap (λ r. is_among r now) is
              ∙ there (ap (λ r. (cell_after rows (x ∷ h) r).phase) (sym is)
              ∙ ap (λ g. (cell_after rows g u).phase) (sym seen) ∙ claimed)
          | inr other ↦
              others u other
              ∙ held_before rows m number held t h s.goes_on u (sym (other_phase u other) ∙ claimed)
        ];
      }

  -- a row that was not the tracer's directly before the event was not among those that it held
  pub not_held : (p : Phase) → (cell_after rows h row).phase ≡ p → ((c : ℕ) → p ≢ phase.Claimed c)
      → is_among row held ≡ false
  not_held p is other =
      elim (cases_Bool (is_among row held)) [
        | inl among ↦ absurd (other number (sym is ∙ held_on rows m number held t h legal.1 s.goes_on row among))
        | inr not ↦ not
      ]

among_front : (u row : ℕ) (held : List ℕ) → u ≢ row → is_among u (row ∷ held) ≡ is_among u held
among_front u row held other = rw (ne_eqb _ _ other) refl

among_first : (row : ℕ) (held : List ℕ) → is_among row (row ∷ held) ≡ true
among_first row held = rw (eq-eqb row row refl) refl

-- ---- claims, deaths and resumes

stopped_not_claimed : (status c : ℕ) → phase.Stopped status ≢ phase.Claimed c
stopped_not_claimed status c is = cc

dead_not_claimed : (status c : ℕ) → phase.Dead status ≢ phase.Claimed c
dead_not_claimed status c is = cc

-- the phase of the row directly before a claim
phase_before : (rows : List Row) (m : Seated) (row : ℕ) (w : Word) (h : List Entry) (p : Phase) → m.0.roster ≡ rows
    → w ≡ word_of false (cell_after m.0.roster h row) → w.phase ≡ p → (cell_after rows h row).phase ≡ p
phase_before rows m row w h p same is phase_is =
    ap (λ rs. (cell_after rs h row).phase) (sym same) ∙ ap (λ (x : Word). x.phase) (sym is) ∙ phase_is

pub took_claim : (rows : List Row) (m n : Seated) (number row status : ℕ) (held : List ℕ) (w : Word) (content : Content)
    → row < length rows → IsTracer rows m number held → TookStop m n row w content → w.phase ≡ phase.Stopped status
    → IsTracer rows n number (row ∷ held)
took_claim rows m n number row status held w content there t took phase_is =
    let h = took.1 in
    let x = bare (event.Claim row w.number m.0.number) in
    let before = phase_before rows m row w h (phase.Stopped status) t.roster_is took.2.1 phase_is in
    let fresh = not_held rows m n number row held h x t refl took.2.0 (phase.Stopped status) before
    (stopped_not_claimed status) in
    let now : (cell_after rows (x ∷ h) row).phase ≡ phase.Claimed number =
    claimed_phase_of rows h row w.number m.0.number (phase.Stopped status) before ∙ ap phase.Claimed t.number_is in
    after_event rows m n number row held h x t refl took.2.0 (row ∷ held)
    (took.0 ∙ ap (λ d. (place row, None) ∷ d) t.slots) (fresh, t.apart) (λ among. (there, now))
    (λ is. among_first row held) (λ u other. among_front u row held other)

pub kept_reap : (rows : List Row) (m n : Seated) (number row status : ℕ) (held : List ℕ) (w : Word)
    → IsTracer rows m number held → ReapedAt m n row w → w.phase ≡ phase.Dead status → IsTracer rows n number held
kept_reap rows m n number row status held w t reaped phase_is =
    let h = reaped.1 in
    let x = bare (event.Claim row w.number m.0.number) in
    let before = phase_before rows m row w h (phase.Dead status) t.roster_is reaped.2.1 phase_is in
    let fresh = not_held rows m n number row held h x t refl reaped.2.0 (phase.Dead status) before
    (dead_not_claimed status) in
    let now : (cell_after rows (x ∷ h) row).phase ≡ phase.Reaped =
    claimed_phase_of rows h row w.number m.0.number (phase.Dead status) before in
    after_event rows m n number row held h x t refl reaped.2.0 held (reaped.0 ∙ t.slots) t.apart
    (λ among. let clash : false ≡ true = sym fresh ∙ among in cc)
    (λ is. let clash : phase.Reaped ≡ phase.Claimed number = sym now ∙ is in cc) (λ u other. refl)

pub let_go : (rows : List Row) (m n : Seated) (number row k : ℕ) (how : Restart) (content : Content) (others : List ℕ)
    → IsTracer rows m number (row ∷ others) → LetRun m n row k how content → IsTracer rows n number others
let_go rows m n number row k how content others t run =
    let h = run.1 in
    let x = resume_of row k how m.0.number content in
    let now : (cell_after rows (x ∷ h) row).phase ≡ phase.Resumed how =
    ap (λ (c : Cell). c.phase) (own_cell rows x h row refl) in
    after_event rows m n number row (row ∷ others) h x t refl run.2 others (run.0 ∙ ap rest t.slots) t.apart.1
    (λ among. let clash : false ≡ true = sym t.apart.0 ∙ among in cc)
    (λ is. let clash : phase.Resumed how ≡ phase.Claimed number = sym now ∙ is in cc)
    (λ u other. sym (among_front u row others other))

-- ---- turned slots, and meetings

pub turned_tracer : (rows : List Row) (m n : Seated) (number : ℕ) (held now : List ℕ) → IsTracer rows m number held
    → n.0 ≡ m.0 → n.1 ≡ emptied now → AreApart now → ((u : ℕ) → is_among u now ≡ is_among u held)
    → IsTracer rows n number now
turned_tracer rows m n number held now t view slots apart among = record {
  roster_is = ap (λ (v : View). v.roster) view ∙ t.roster_is;
  placed = t.placed;
  number_is = ap (λ (v : View). v.number) view ∙ t.number_is;
  few = t.few;
  mine = ap (λ (v : View). is_among number v.tracers) view ∙ t.mine;
  idle = ap (λ (v : View). v.taken) view ∙ t.idle;
  legal = subst (λ (v : View). AreLegal rows v.seen) (sym view) t.legal;
  slots = slots;
  apart = apart;
  claimed = λ row is.
      (let was = t.claimed row (sym (among row) ∙ is) in
      (was.0, ap (λ (v : View). (cell_after rows v.seen row).phase) view ∙ was.1));
  all = λ row is. among row ∙ t.all row (ap (λ (v : View). (cell_after rows v.seen row).phase) (sym view) ∙ is);
}

pub met_tracer : (rows : List Row) (m n : Seated) (w : View) (number : ℕ) (held : List ℕ) → IsTracer rows m number held
    → Met m w n → IsTracer rows n number held
met_tracer rows m n w number held t met =
    let roster = ap (λ (v : View). v.roster) met.view in
    let legal : AreLegal rows n.0.seen = subst (λ rs. AreLegal rs n.0.seen) (roster ∙ t.roster_is) met.legal in
    record {
      roster_is = roster ∙ t.roster_is;
      placed = t.placed;
      number_is = ap (λ (v : View). v.number) met.view ∙ t.number_is;
      few = t.few;
      mine = ap (λ (v : View). is_among number v.tracers) met.view
          ∙ list_any-append (λ y. number == y) m.0.tracers w.tracers
          ∙ or_left (is_among number m.0.tracers) (is_among number w.tracers) t.mine;
      idle = ap (λ (v : View). v.taken) met.view ∙ t.idle;
      legal = legal;
      slots = met.slots ∙ t.slots;
      apart = t.apart;
      claimed = λ row among. ((t.claimed row among).0, held_on rows m number held t n.0.seen legal met.left row among);
      all = held_before rows m number held t n.0.seen met.left;
    }

-- a look at the parent of an unborn row
pub seen_unborn : (rows : List Row) (m : Seated) (w : View) (number : ℕ) (held : List ℕ) (row : ℕ)
    → IsTracer rows m number held → Looked m.0 w → SawUnborn m.0 w row → LooksAt m.0 w row shows.Unborn
seen_unborn rows m w number held row t l unborn =
    looks_unborn m.0 m.0 w row
    (stands_still m.0 (subst (λ rs. AreLegal rs m.0.seen) (sym t.roster_is) t.legal)) l unborn

-- an exchange that found another word changed nothing
pub missed_claim : (rows : List Row) (m n : Seated) (number row : ℕ) (w : Word) (held : List ℕ)
    → IsTracer rows m number held → MissedAt m n row w → IsTracer rows n number held
missed_claim rows m n number row w held t s = tracer_looked rows m n number held t (one_look m n row w s) s.0

-- there is room for one more claim
pub room_left : (rows : List Row) (m : Seated) (number row : ℕ) (held : List ℕ) → IsTracer rows m number (row ∷ held)
    → length held < MOST_ROWS
room_left rows m number row held t =
    let few = few_below (row ∷ held) (length rows) t.apart (λ u among. (t.claimed u among).0) in
    let most = few_rows rows t.placed in omega arith

-- the row of a claim is one of those that are held
pub is_held_row : (rows : List Row) (m : Seated) (number : ℕ) (held : List ℕ) (row : ℕ) (w : Word) (content : Content)
    → IsTracer rows m number held → IsHolding m.0 row w content → is_among row held ≡ true
is_held_row rows m number held row w content t holding =
    t.all row
    (ap (λ rs. (cell_after rs m.0.seen row).phase) (sym t.roster_is)
    ∙ ap (λ (x : Word). x.phase) (sym holding.is_word) ∙ holding.is_phase ∙ ap phase.Claimed t.number_is)

pub at_front : (m n : Seated) (row : ℕ) (now others : List ℕ) (w : Word) (content : Content) → IsHolding m.0 row w content
    → n.0 ≡ m.0 → n.1 ≡ emptied now → now ≡ row ∷ others → HoldsAtHand n row w content
at_front m n row now others w content holding view slots is = record {
  slot = slots ∙ ap emptied is ∙ ap (λ d. (place row, None) ∷ d) (ap rest (sym (slots ∙ ap emptied is)));
  is_phase = holding.is_phase ∙ ap (λ (v : View). phase.Claimed v.number) (sym view);
  is_word = holding.is_word ∙ ap (λ (v : View). word_of false (cell_after v.roster v.seen row)) (sym view);
  is_content = subst (λ (v : View). IsWrittenOver (cell_after v.roster v.seen row).content content) (sym view)
      holding.is_content;
}

pub has_met : (m n : Seated) (w : View) → Met m w n → Meets m.0 w n.0
has_met m n w met = record {
  roster = ap (λ (v : View). v.roster) met.view;
  tracees = ap (λ (v : View). v.tracees) met.view;
  tracers = ap (λ (v : View). v.tracers) met.view;
  number = ap (λ (v : View). v.number) met.view;
  observations = ap (λ (v : View). v.observations) met.view;
  left = met.left;
  right = met.right;
}

pub tracer_looked_twice : (rows : List Row) (m n o : Seated) (number row : ℕ) (w : Word) (held : List ℕ)
    → IsTracer rows m number held → Looked m.0 n.0 → n.1 ≡ m.1 → Saw n o row w → IsTracer rows o number held
tracer_looked_twice rows m n o number row w held t l slots s =
    tracer_looked rows n o number held (tracer_looked rows m n number held t l slots) (one_look n o row w s) s.0
