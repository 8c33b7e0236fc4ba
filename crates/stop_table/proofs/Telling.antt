-- What a step's play tells the function that makes it.
use Rattle.std.proofs.Common.{refl, ◌≡◌, ◌≢◌, ◌<◌, ◌∷◌, [], ℕ, true, false, Option, Some, None, List, length, ◌∙◌, eqb}
use Rattle.std.proofs.Common.{sym, ap, subst}
use mathlib.Core.Option.{none}
use prog.Atomic.{either}
use Rattle.atomic_table.specs.Table.{Allows, rest, step}
use Rattle.trace_record.specs.Content.{Content}
use Rattle.trace_record.specs.Death.{IsDeath}
use Rattle.trace_record.specs.Resume.{IsResume}
use Rattle.trace_record.specs.declared.death.Death.{Death}
use Rattle.trace_record.specs.declared.resume.Resume.{Resume as Restart}
use Rattle.stop_history.specs.declared.phase.Phase.{Phase}
use Rattle.stop_history.specs.declared.phase.Phase.TheVariants as phase
use Rattle.stop_history.specs.declared.roster.Row.{Row}
use Rattle.stop_history.specs.Event as event
use Rattle.stop_history.specs.Layout.{raw_of}
use Rattle.stop_history.specs.Step.{died, restarted}
use Rattle.stop_history.specs.Word.{IsWord, Word}
use Rattle.trace_record.proofs.Deaths.{same_death}
use Rattle.stop_history.proofs.Words.{death_reported, same_word}
use Rattle.stop_history.specs.Roster.{IsRoster}
use Rattle.stop_table.specs.Entry.{AreLegal, Entry, bare, cell_after, publish_of, resume_of, word_of}
use Rattle.stop_table.specs.Rule.{KeepsRule}
use Rattle.stop_table.specs.Seat.{FoundBy, HasEnded, HoldsAtHand, LetRun, Published, ReapedAt, TookStop, TookUp}
use Rattle.stop_table.specs.Place.{place}
use Rattle.stop_table.specs.Steps.{Seated, Sees, TheStep, claimed_on, claims_on, exited_on, found_by, publishes_on}
use Rattle.stop_table.specs.Steps.{reaped_on, resumed_on, took_on}
use Rattle.stop_table.specs.View.{Observation, View, an_exchange}
use Rattle.stop_table.proofs.Allowed.{hand_is}
use Rattle.stop_table.proofs.Entries.{legal_back, word_ranged}

-- a step that is allowed over the roster of its view, at a row's place, is allowed over the table's key, which is that
-- roster, at the index that is this place
pub key_load : (play : TheStep → Seated → ℕ → Seated → Type 0) (key : List Row) (slots id i j : ℕ) (m : Seated)
    → m.0.roster ≡ key → i ≡ j
    → Allows (KeepsRule m.0.roster) slots id m j (λ n. n) (play (step slots j 0 0 none) m)
    → Allows (KeepsRule key) slots id m i (λ n. n) (play (step slots i 0 0 none) m)
key_load play key slots id i j m same at allowed =
    subst (λ l. Allows (KeepsRule key) slots id m l (λ n. n) (play (step slots l 0 0 none) m)) (sym at)
    (subst (λ rows. Allows (KeepsRule rows) slots id m j (λ n. n) (play (step slots j 0 0 none) m)) same allowed)

pub key_step : (play : TheStep → Seated → ℕ → Seated → Type 0) (key : List Row) (slots id i j old new : ℕ) (m n : Seated)
    → n ≡ m → m.0.roster ≡ key → i ≡ j
    → Allows (KeepsRule m.0.roster) slots id m j (λ x. either (eqb x old) new x) (play (step slots j old new none) m)
    → Allows (KeepsRule key) slots id n i (λ x. either (eqb x old) new x) (play (step slots i old new none) n)
key_step play key slots id i j old new m n is same at allowed =
    subst (λ (o : Seated). Allows (KeepsRule key) slots id o i (λ x. either (eqb x old) new x)
    (play (step slots i old new none) o)) (sym is)
    (subst (λ l. Allows (KeepsRule key) slots id m l (λ x. either (eqb x old) new x)
    (play (step slots l old new none) m)) (sym at)
    (subst (λ rows. Allows (KeepsRule rows) slots id m j (λ x. either (eqb x old) new x)
    (play (step slots j old new none) m)) same allowed))

-- the number that a step finds is a word's
pub shows_word : {by : List Entry → Observation} (row : ℕ) (m n : Seated) (found : ℕ) → row < length m.0.roster
    → found_by by row m found n
    → (word : Word) × IsWord word × (raw_of word ≡ found)
shows_word row m n found there l = (
  word_of l.3.0 (cell_after m.0.roster l.0 row),
  word_ranged m.0.roster l.0 l.2.placed l.2.legal l.3.0 row there,
  sym l.3.1,
)

pub saw : {by : List Entry → Observation} (row : ℕ) (m n : Seated) (found : ℕ) (word : Word) → row < length m.0.roster
    → found_by by row m found n → IsWord word → raw_of word ≡ found → FoundBy by m n row word
saw row m n found word there l ranged is = (
  l.1,
  l.0,
  l.2,
  l.3.0,
  same_word word (word_of l.3.0 (cell_after m.0.roster l.0 row)) ranged
      (word_ranged m.0.roster l.0 l.2.placed l.2.legal l.3.0 row there) (is ∙ l.3.1),
  l.3.2,
  l.3.3,
)

-- a word that was found in place of another is another word
pub other_word : (word seen : Word) (found old : ℕ) → raw_of word ≡ found → old ≡ raw_of seen → found ≢ old → word ≢ seen
other_word word seen found old is old_is other same = other (sym is ∙ ap raw_of same ∙ sym old_is)

pub at_hand : {X : Type 0} (l c : List (ℕ × X)) (t : ℕ) (x : X) → l ≡ (t, x) ∷ c → l ≡ (t, x) ∷ rest l
at_hand l c t x is = is ∙ ap (λ d. (t, x) ∷ d) (ap rest (sym is))

-- a slot at a row's place
abbrev pub with_slot : View → ℕ → Option Content → List (ℕ × Option Content) → Seated
with_slot v i x c = (v, (i, x) ∷ c)

pub in_place : (v : View) (x : Option Content) (c : List (ℕ × Option Content)) {i j : ℕ} → i ≡ j
    → with_slot v i x c ≡ with_slot v j x c
in_place v x c same = ap (λ l. with_slot v l x c) same

-- the word of the cell that was claimed is the one seen
claimed_word_is : (m : Seated) (t : ℕ) (h : List Entry) (seen : Word) (found : ℕ) → t < length m.0.roster
    → IsRoster m.0.roster → AreLegal m.0.roster h → IsWord seen → raw_of seen ≡ found
    → found ≡ raw_of (word_of false (cell_after m.0.roster h t)) → seen ≡ word_of false (cell_after m.0.roster h t)
claimed_word_is m t h seen found there roster legal ranged is shown =
    same_word seen (word_of false (cell_after m.0.roster h t)) ranged
    (word_ranged m.0.roster h roster legal false t there) (is ∙ shown)

claimed_at : (row : ℕ) (m n : Seated) (w : View) (found : ℕ) (seen : Word) (h : List Entry)
    → row < length m.0.roster → claims_on row m found n h → n.0 ≡ w → IsWord seen → raw_of seen ≡ found
    → Sees m.0 (an_exchange row) h (bare (event.Claim row seen.number m.0.number) ∷ []) m.0.taken w
    × (seen ≡ word_of false (cell_after m.0.roster h row))
claimed_at row m n w found seen h there c is_view ranged is =
    let same = claimed_word_is m row h seen found there c.0.placed
    (legal_back m.0.roster
    (bare (event.Claim row (cell_after m.0.roster h row).number m.0.number) ∷ []) h c.0.legal)
    ranged is c.1 in (
      subst (λ (v : View). Sees m.0 (an_exchange row) h (bare (event.Claim row seen.number m.0.number) ∷ []) m.0.taken v) is_view
          (subst (λ k. Sees m.0 (an_exchange row) h (bare (event.Claim row k m.0.number) ∷ []) m.0.taken n.0)
          (sym (ap (λ (x : Word). x.number) same)) c.0),
      same,
    )

pub took_out : (s : TheStep) (row : ℕ) (m n o : Seated) (found : ℕ) (seen : Word) (r : Content) → row < length m.0.roster
    → claimed_on s row m found n → found ≡ s.first → IsWord seen → s.first ≡ raw_of seen
    → n.1 ≡ (place row, Some r) ∷ rest n.1 → o ≡ (n.0, (place row, None) ∷ rest n.1) → TookStop m o row seen r
took_out s row m n o found seen r there play hit ranged old_is hand after =
    let c = play.0 hit in (
      ap (λ (x : Seated). x.1) after ∙ ap (λ d. (place row, None) ∷ d) (ap rest c.1),
      c.0,
      claimed_at row m n o.0 found seen c.0 there c.2 (ap (λ (x : Seated). x.0) (sym after)) ranged (sym (hit ∙ old_is)),
      hand_is n.1 (place row) r (cell_after m.0.roster c.0 row).content (rest n.1) m.1 hand c.1,
    )

pub reaped_seen : (s : TheStep) (row : ℕ) (m n : Seated) (found : ℕ) (seen : Word) → row < length m.0.roster
    → reaped_on s row m found n → found ≡ s.first → IsWord seen → s.first ≡ raw_of seen → ReapedAt m n row seen
reaped_seen s row m n found seen there play hit ranged old_is =
    let c = play.0 hit in
    (c.1, c.0, claimed_at row m n n.0 found seen c.0 there c.2 refl ranged (sym (hit ∙ old_is)))

pub took_up : (row : ℕ) (m n o : Seated) (r : Content) → took_on row m n
    → n.1 ≡ (place row, Some r) ∷ rest n.1 → o ≡ (n.0, (place row, None) ∷ rest n.1) → TookUp m o row r
took_up row m n o r play hand after = (
  ap (λ (x : Seated). x.1) after ∙ ap (λ d. (place row, None) ∷ d) (ap rest play.1),
  play.0,
  subst (λ (v : View). Sees m.0 (an_exchange row) play.0 [] true v) (ap (λ (x : Seated). x.0) (sym after)) play.2,
  hand_is n.1 (place row) r (cell_after m.0.roster play.0 row).content (rest n.1) m.1 hand play.1,
  play.3,
)

-- a record was put into the slot first, and then the step was made: both told of the seat before them
pub did_publish : (row : ℕ) (m was n : Seated) (r : Content) → m ≡ (was.0, (place row, Some r) ∷ rest was.1)
    → publishes_on row m n → Published was n row r
did_publish row m was n r before play =
    let in_hand : m.1 ≡ (place row, Some r) ∷ rest m.1 =
    at_hand m.1 (rest was.1) (place row) (Some r) (ap (λ (x : Seated). x.1) before) in
    let p = play r in_hand in (
      p.1 ∙ ap rest (ap (λ (x : Seated). x.1) before),
      p.0,
      subst (λ (v : View). Sees v (an_exchange row) p.0 (publish_of row r ∷ []) false n.0) (ap (λ (x : Seated). x.0) before) p.2,
    )

-- the phase of a row whose claim is held
pub held_phase : (m : Seated) (row : ℕ) (w : Word) (r : Content) → HoldsAtHand m row w r
    → (cell_after m.0.roster m.0.seen row).phase ≡ phase.Claimed m.0.number
held_phase m row w r held = ap (λ (x : Word). x.phase) (sym held.is_word) ∙ held.is_phase

-- what the new word of a resume says
restart_in_phase : Phase → Restart → Restart
restart_in_phase (phase.Resumed how) other = how
restart_in_phase phase.Fresh other = other
restart_in_phase phase.Active other = other
restart_in_phase (phase.Stopped status) other = other
restart_in_phase (phase.Claimed tracer) other = other
restart_in_phase (phase.Dead status) other = other
restart_in_phase phase.Reaped other = other

restart_is : (w : Word) (how other : Restart) → restarted w how ≡ restarted w other → how ≡ other
unfolding restart_in_phase
restart_is w how other same = ap (λ (x : Word). restart_in_phase x.phase how) same

restarted_ranged : (w : Word) (how other : Restart) → IsWord (restarted w how) → IsResume other
    → IsWord (restarted w other)
restarted_ranged w how other ranged is = record {
  of_phase = is;
  few = ranged.few;
  last = ranged.last;
  fresh = λ same. cc;
}

pub did_run : (s : TheStep) (row : ℕ) (m was n : Seated) (how : Restart) (w : Word) (r : Content)
    → row < length was.0.roster → HoldsAtHand was row w r → m ≡ (was.0, (place row, Some r) ∷ rest was.1)
    → IsWord (restarted w how) → s.second ≡ raw_of (restarted w how) → resumed_on s row m n
    → LetRun was n row w.number how r
did_run s row m was n how w r there held before ranged second told_of =
    let play = told_of r (at_hand m.1 (rest was.1) (place row) (Some r) (ap (λ (x : Seated). x.1) before)) in
    let view : m.0 ≡ was.0 = ap (λ (x : Seated). x.0) before in
    let told : Word = restarted (word_of false (cell_after m.0.roster m.0.seen row)) play.0 in
    let cell_is : w ≡ word_of false (cell_after m.0.roster m.0.seen row) =
    held.is_word ∙ ap (λ (v : View). word_of false (cell_after v.roster v.seen row)) (sym view) in
    let same : restarted w how ≡ restarted w play.0 =
    same_word (restarted w how) (restarted w play.0) ranged (restarted_ranged w how play.0 ranged play.1)
    (sym second ∙ play.2 ∙ ap (λ x. raw_of (restarted x play.0)) (sym cell_is)) in
    let same_how : play.0 ≡ how = sym (restart_is w how play.0 same) in (
      play.4 ∙ ap rest (ap (λ (x : Seated). x.1) before),
      play.3,
      subst (λ (v : View). Sees v (an_exchange row) play.3 (resume_of row w.number how v.number r ∷ []) v.taken n.0) view
          (subst (λ k. Sees m.0 (an_exchange row) play.3 (resume_of row k how m.0.number r ∷ []) m.0.taken n.0)
          (sym (ap (λ (x : Word). x.number) cell_is))
          (subst (λ (q : Restart). Sees m.0 (an_exchange row) play.3
          (resume_of row (cell_after m.0.roster m.0.seen row).number q m.0.number r ∷ []) m.0.taken n.0)
          same_how play.5)),
    )

-- what the new word of an exit says
status_of : Phase → ℕ
status_of (phase.Dead status) = status
status_of phase.Fresh = 0
status_of (phase.Resumed how) = 0
status_of phase.Active = 0
status_of (phase.Stopped status) = 0
status_of (phase.Claimed tracer) = 0
status_of phase.Reaped = 0

died_is : (w : Word) (death other : Death) → IsDeath death → IsDeath other → died w death ≡ died w other → death ≡ other
unfolding status_of
died_is w death other first second same =
    same_death death other first second (ap (λ (x : Word). status_of x.phase) same)

died_ranged : (w : Word) (death other : Death) → IsWord (died w death) → IsDeath other → IsWord (died w other)
died_ranged w death other ranged is = record {
  of_phase = death_reported other is;
  few = ranged.few;
  last = ranged.last;
  fresh = λ same. cc;
}

pub did_exit : (s : TheStep) (row : ℕ) (m was n : Seated) (d : Death) (w : Word) (r : Content)
    → m ≡ (was.0, (place row, Some r) ∷ rest was.1) → IsWord (died w d)
    → w ≡ word_of true (cell_after was.0.roster was.0.seen row) → IsDeath d
    → s.second ≡ raw_of (died w d) → exited_on s row m n → HasEnded was n row d
did_exit s row m was n d w r before ranged cell in_range second play =
    let view : m.0 ≡ was.0 = ap (λ (x : Seated). x.0) before in
    let cell_is : died w play.0 ≡ died (word_of false (cell_after m.0.roster m.0.seen row)) play.0 =
    ap (λ (x : Word). died x play.0) cell
    ∙ ap (λ (v : View). died (word_of false (cell_after v.roster v.seen row)) play.0) (sym view) in
    let same : died w d ≡ died w play.0 =
    same_word (died w d) (died w play.0) ranged (died_ranged w d play.0 ranged play.1)
    (sym second ∙ play.2 ∙ ap raw_of (sym cell_is)) in
    let same_death_is : play.0 ≡ d = sym (died_is w d play.0 in_range play.1 same) in (
      play.4 ∙ ap rest (ap (λ (x : Seated). x.1) before),
      play.3,
      subst (λ (v : View). Sees v (an_exchange row) play.3 (bare (event.Exit row d) ∷ []) false n.0) view
          (subst (λ (q : Death). Sees m.0 (an_exchange row) play.3 (bare (event.Exit row q) ∷ []) false n.0) same_death_is play.5),
    )
