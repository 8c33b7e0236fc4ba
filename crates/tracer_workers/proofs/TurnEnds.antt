-- A tracee's turn ends: by a stop that is published, by a death, or held back.
use Rattle.std.proofs.Common.{refl, ◌≡◌, ◌≢◌, ◌<◌, ◌+◌, ◌∷◌, [], ℕ, zero, suc, List, Option, Some, None, IsErr, inl, inr}
use Rattle.std.proofs.Common.{Ok, length, ◌∙◌, sym, ap, subst, arith, slice_get, slice_index_or, slice_set}
use Rattle.std.proofs.lemmas.Bool.{cases_eq}
use Rattle.trace_record.specs.Content.{Content}
use Rattle.trace_record.specs.Death.{IsDeath}
use Rattle.trace_record.specs.Stop.{IsStop}
use Rattle.trace_record.specs.declared.death.Death.{Death}
use Rattle.record_printer.specs.FolderAnswers.{refusal}
use Rattle.record_printer.specs.Piece.{Died, Stopped}
use Rattle.record_printer.specs.StopNote.{stop_note}
use Rattle.trace_script.specs.StopTrace.{Position, StopIs}
use Rattle.record_printer.specs.Represents.{Represents}
use Rattle.tracer_workers.specs.Scheduled.{CameTo}
use Rattle.stop_history.specs.declared.actor.Actor.TheVariants.{Tracee}
use Rattle.stop_history.specs.declared.state.State.TheVariants as state
use Rattle.stop_history.specs.Event as event
use Rattle.stop_history.specs.Sequential.{exit_answer, exit_by, publish_answer, unless_held}
use Rattle.stop_history.specs.History.{holding_back}
use Rattle.stop_history.specs.Roster.{row_at}
use Rattle.stop_history.specs.State.{last_number, state_after}
use Rattle.stop_table.specs.Entry.{Entry, bare, history_of, publish_of}
use Rattle.trace_script.specs.CaseFile.{CaseContent}
use Rattle.tracer_workers.specs.Config.{plan_of, show_of}
use Rattle.tracer_workers.specs.Driven.{IsDeathOf, element_after}
use Rattle.tracer_workers.specs.HistoryPieces.{pieces_of, stop_piece}
use Rattle.tracer_workers.specs.Scheduled.{IsHeldOrIdle, IsKeptAfter, IsReady, KeptRow, MovedBy, RunState, Stands}
use Rattle.tracer_workers.specs.Turn.{HasDied, HasStopped, onward, with_next, with_number, with_row}
use Rattle.tracer_workers.proofs.Fewer.{fewer_left, index_of_get}
use Rattle.tracer_workers.proofs.Made.{free_on, made_on}
use Rattle.tracer_workers.proofs.OneActor.{by_one}
use Rattle.tracer_workers.proofs.RunSteps.{exit_goes, last_most, not_held, publish_by_ok, publish_goes, stop_due}
use Rattle.tracer_workers.proofs.TurnStarts.{kept_ready}
use Rattle.tracer_workers.proofs.Taken.{death_taken, stop_taken}

-- ---- lists of rows

pub long_set : {A : Type 0} (xs : List A) (i : ℕ) (x : A) → length (slice_set xs i x) ≡ length xs
long_set [] i x = refl
long_set (y ∷ xs) zero x = refl
long_set (y ∷ xs) (suc i) x = ap suc (long_set xs i x)

pub get_set_other : {A : Type 0} (xs : List A) (i k : ℕ) (x : A) → k ≢ i → slice_get (slice_set xs i x) k ≡ slice_get xs k
get_set_other [] i k x apart = refl
get_set_other (y ∷ xs) zero zero x apart = absurd (apart refl)
get_set_other (y ∷ xs) zero (suc k) x apart = refl
get_set_other (y ∷ xs) (suc i) zero x apart = refl
get_set_other (y ∷ xs) (suc i) (suc k) x apart = get_set_other xs i k x (λ is. apart (ap suc is))

pub get_set_same : {A : Type 0} (xs : List A) (i : ℕ) (x y : A) → slice_get (slice_set xs i x) i ≡ Some y → y ≡ x
get_set_same [] i x y is = cc
get_set_same (z ∷ xs) zero x y is = cc
get_set_same (z ∷ xs) (suc i) x y is = get_set_same xs i x y is

pub set_there : {A : Type 0} (xs : List A) (i : ℕ) (x : A) → i < length xs → slice_get (slice_set xs i x) i ≡ Some x
set_there [] i x within = absurd (omega arith)
set_there (y ∷ xs) zero x within = refl
set_there (y ∷ xs) (suc i) x within = set_there xs i x (omega (arith, within))

-- ---- a stop

-- what a caller must know before the stop is published
pub record CanPublish (content : CaseContent) (run : RunState) (h : List Entry) (row : ℕ) (c : Content) : Type 0 where
  pub within : row < length run.rows
  pub stop : IsStop c.stop
  pub world : CameTo run.world (history_of h)
  pub answer : publish_answer run.world.rows (history_of h) row c.stop ≡ Ok (last_number (history_of h) row + 1)
  pub folder : Represents run.folder (pieces_of (show_of run.config) content.rows h)
  pub taken : refusal run.folder.rows (pieces_of (show_of run.config) content.rows h) (stop_piece (show_of run.config) c)
      ≡ None

module _ (content : CaseContent) (before : RunState) (h : List Entry) (row : ℕ) (c : Content)
    (stands : Stands content before h) (within : row < length content.rows)
    (runs : state_after content.rows (history_of h) row ≡ state.Running)
    (due : element_after (plan_of before.config content) h row ≡ StopIs c) (k : KeptRow)
    (there : slice_get before.rows row ≡ Some k) where
  abbrev stopped : KeptRow
  stopped = with_next k c (onward (plan_of before.config content) h row)

  can_publish_at : CanPublish content (with_row before row stopped) h row c
  can_publish_at =
      let made = stands.0 in
      let next = stop_due content before h row c made within due in
      record {
        within = omega (arith, within, made.long, long_set before.rows row stopped);
        stop = next.stop;
        world = made.world;
        answer = ap (λ rows. publish_answer rows (history_of h) row c.stop) made.world_rows
            ∙ publish_by_ok (state_after content.rows (history_of h) row) _ (last_number (history_of h) row) runs next.next
            (omega (arith, next.few, next.number));
        folder = made.folder;
        taken = ap (λ rows. refusal rows (pieces_of (show_of before.config) content.rows h) (stop_piece (show_of before.config) c))
            made.folder_rows
            ∙ ap (λ t. refusal content.rows (pieces_of (show_of before.config) content.rows h)
            (Stopped t c.number (stop_note (show_of before.config) c))) next.tid
            ∙ stop_taken (show_of before.config) content.rows made.known.roster h made.legal row within runs c.number
            (stop_note (show_of before.config) c) next.number;
      }

  stopped_moves : (new : RunState) → new.config ≡ before.config
      → CameTo new.world (event.Publish row (last_number (history_of h) row + 1) c.stop ∷ history_of h)
      → new.world.rows ≡ before.world.rows
      → Represents new.folder (stop_piece (show_of before.config) c ∷ pieces_of (show_of before.config) content.rows h)
      → new.folder.rows ≡ before.folder.rows
      → new.rows ≡ slice_set (slice_set before.rows row stopped) row (with_number stopped (last_number (history_of h) row + 1))
      → MovedBy (Tracee row) content (with_row before row stopped) new h
  stopped_moves new config world world_rows folder folder_rows rows =
      let made = stands.0 in
      let last = with_number stopped (last_number (history_of h) row + 1) in
      let x = publish_of row c in
      let next = stop_due content before h row c made within due in
      let goes = publish_goes content before new h row c made within runs due (record {
        config = config;
        world = world;
        world_rows = world_rows;
        folder = folder;
        folder_rows = folder_rows;
        long = ap length rows ∙ long_set (slice_set before.rows row stopped) row last ∙ long_set before.rows row stopped;
        others = λ other it apart at.
            sym (get_set_other before.rows row other stopped apart)
            ∙ sym (get_set_other (slice_set before.rows row stopped) row other last apart)
            ∙ ap (λ ks. slice_get ks other) (sym rows) ∙ at;
        own = λ it at.
            let is : it ≡ last = get_set_same (slice_set before.rows row stopped) row last it
            (ap (λ ks. slice_get ks row) (sym rows) ∙ at) in (
              ap (λ (r : KeptRow). r.tid) is ∙ (made.each row k there).tid,
              ap (λ (r : KeptRow). r.number) is,
              ap (λ (r : KeptRow). r.content) is,
              ap (λ (r : KeptRow). r.position) is,
            );
      }) in (
        x ∷ h,
        (made_on content before new h x made goes, free_on content.rows h x stands.1 refl),
        fewer_left content before new h x made goes next.few,
        by_one (Tracee row) x h refl,
      )

pub can_publish : (content : CaseContent) (run : RunState) (h : List Entry) (row : ℕ) (c : Content)
    → HasStopped content run h row c → CanPublish content run h row c
can_publish content run h row c s =
    subst (λ r. CanPublish content r h row c) (sym s.is)
    (can_publish_at content s.before h row c s.stands s.within s.runs s.due s.k s.there)

pub publish_moves : (content : CaseContent) (run new : RunState) (h : List Entry) (row : ℕ) (c : Content)
    → (s : HasStopped content run h row c) → new.config ≡ run.config
    → CameTo new.world (event.Publish row (last_number (history_of h) row + 1) c.stop ∷ history_of h)
    → new.world.rows ≡ run.world.rows
    → Represents new.folder (stop_piece (show_of run.config) c ∷ pieces_of (show_of run.config) content.rows h)
    → new.folder.rows ≡ run.folder.rows
    → new.rows ≡ slice_set run.rows row
    (with_number (with_next s.k c (onward (plan_of s.before.config content) h row)) (last_number (history_of h) row + 1))
    → MovedBy (Tracee row) content run new h
publish_moves content run new h row c s config world world_rows folder folder_rows rows =
    let k = with_next s.k c (onward (plan_of s.before.config content) h row) in
    let at : RunState → Type 0 = λ r. MovedBy (Tracee row) content r new h in
    subst at (sym s.is)
    (stopped_moves content s.before h row c s.stands s.within s.runs s.due s.k s.there new
    (config ∙ ap (λ (r : RunState). r.config) s.is) world (world_rows ∙ ap (λ (r : RunState). r.world.rows) s.is)
    (subst (λ (r : RunState). Represents new.folder (stop_piece (show_of r.config) c
    ∷ pieces_of (show_of r.config) content.rows h)) s.is folder)
    (folder_rows ∙ ap (λ (r : RunState). r.folder.rows) s.is)
    (rows ∙ ap (λ (r : RunState). slice_set r.rows row (with_number k (last_number (history_of h) row + 1))) s.is))

-- ---- a death

-- what a caller must know before a tracee dies
pub record CanEnd (content : CaseContent) (run : RunState) (h : List Entry) (row : ℕ) (death : Death) : Type 0 where
  pub within : row < length run.rows
  pub range : IsDeath death
  pub world : CameTo run.world (history_of h)
  pub folder : Represents run.folder (pieces_of (show_of run.config) content.rows h)
  -- of the row that is kept at the place
  pub taken : (k : KeptRow) → slice_get run.rows row ≡ Some k
      → refusal run.folder.rows (pieces_of (show_of run.config) content.rows h) (Died k.tid k.number death) ≡ None

module _ (content : CaseContent) (before : RunState) (h : List Entry) (row : ℕ) (death : Death)
    (stands : Stands content before h) (within : row < length content.rows)
    (runs : state_after content.rows (history_of h) row ≡ state.Running)
    (due : IsDeathOf (element_after (plan_of before.config content) h row) death) (range : IsDeath death) (k : KeptRow)
    (there : slice_get before.rows row ≡ Some k) (new_content : Content) (at : Position) where
  abbrev dead : KeptRow
  dead = with_next k new_content at

  kept_numbers : (it : KeptRow) → slice_get (slice_set before.rows row dead) row ≡ Some it
      → (it.tid ≡ (row_at content.rows row).tid) × (it.number ≡ last_number (history_of h) row)
  kept_numbers it is =
      let same = get_set_same before.rows row dead it is in
      let old = stands.0.each row k there in
      (ap (λ (r : KeptRow). r.tid) same ∙ old.tid, ap (λ (r : KeptRow). r.number) same ∙ old.number)

  can_end_at : CanEnd content (with_row before row dead) h row death
  can_end_at =
      let made = stands.0 in
      record {
        within = omega (arith, within, made.long, long_set before.rows row dead);
        range = range;
        world = made.world;
        folder = made.folder;
        taken = λ it is.
            let numbers = kept_numbers it is in
            ap (λ rows. refusal rows (pieces_of (show_of before.config) content.rows h) (Died it.tid it.number death)) made.folder_rows
            ∙ ap (λ t. refusal content.rows (pieces_of (show_of before.config) content.rows h) (Died t it.number death)) numbers.0
            ∙ death_taken (show_of before.config) content.rows made.known.roster h made.legal row within runs it.number death numbers.1;
      }

  death_moves : (new : RunState) → new.config ≡ before.config
      → exit_answer content.rows (history_of h) row ≡ Ok tt
      → CameTo new.world (event.Exit row death ∷ history_of h) → new.world.rows ≡ before.world.rows
      → (it : KeptRow) → slice_get (slice_set before.rows row dead) row ≡ Some it
      → Represents new.folder (Died it.tid it.number death ∷ pieces_of (show_of before.config) content.rows h)
      → new.folder.rows ≡ before.folder.rows
      → new.rows ≡ slice_set before.rows row dead
      → MovedBy (Tracee row) content (with_row before row dead) new h
  death_moves new config answer world world_rows it is folder folder_rows rows =
      let made = stands.0 in
      let x = bare (event.Exit row death) in
      let numbers = kept_numbers it is in
      let goes = exit_goes content before new h row death made within runs
      (not_held (holding_back content.rows (state_after content.rows (history_of h)) row)
      (state_after content.rows (history_of h) row) runs answer) range due (record {
        config = config;
        world = world;
        world_rows = world_rows;
        folder = subst (λ (p : ℕ × ℕ). Represents new.folder (Died p.0 p.1 death
            ∷ pieces_of (show_of before.config) content.rows h)) (λ i. (numbers.0 i, numbers.1 i)) folder;
        folder_rows = folder_rows;
        long = ap length rows ∙ long_set before.rows row dead;
        others = λ other r apart here.
            sym (get_set_other before.rows row other dead apart) ∙ ap (λ ks. slice_get ks other) (sym rows) ∙ here;
        own = λ r here. kept_numbers r (ap (λ ks. slice_get ks row) (sym rows) ∙ here);
      }) in (
        x ∷ h,
        (made_on content before new h x made goes, free_on content.rows h x stands.1 refl),
        fewer_left content before new h x made goes (last_most content before h row made within),
        by_one (Tracee row) x h refl,
      )

-- ---- the row at the place

pub stopped_there : (content : CaseContent) (run : RunState) (h : List Entry) (row : ℕ) (c : Content)
    → (s : HasStopped content run h row c)
    → slice_get run.rows row ≡ Some (with_next s.k c (onward (plan_of s.before.config content) h row))
stopped_there content run h row c s =
    ap (λ (r : RunState). slice_get r.rows row) s.is
    ∙ set_there s.before.rows row (with_next s.k c (onward (plan_of s.before.config content) h row))
    (let long = s.stands.0.long in omega (arith, s.within, long))

-- what is found at the place of a row
pub found_row : (rows : List KeptRow) (row : ℕ) (found k : KeptRow) → found ≡ slice_index_or rows row found
    → slice_get rows row ≡ Some k → found ≡ k
found_row rows row found k value there = value ∙ index_of_get rows row found k there

pub there_at : (rows : List KeptRow) (row : ℕ) (found : KeptRow) → found ≡ slice_index_or rows row found
    → row < length rows → slice_get rows row ≡ Some found
there_at [] row found value within = absurd (omega (arith, within))
there_at (k ∷ rows) zero found value within = ap Some (sym value)
there_at (k ∷ rows) (suc row) found value within = there_at rows row found value (omega (arith, within))

-- ---- a death, of a run that is told

abbrev pub died_row : {content : CaseContent} {run : RunState} {h : List Entry} {row : ℕ} {death : Death}
    → HasDied content run h row death → KeptRow
died_row s = with_next s.k s.new_content s.at

pub died_there : (content : CaseContent) (run : RunState) (h : List Entry) (row : ℕ) (death : Death)
    → (s : HasDied content run h row death) → slice_get run.rows row ≡ Some (died_row s)
died_there content run h row death s =
    ap (λ (r : RunState). slice_get r.rows row) s.is
    ∙ set_there s.before.rows row (died_row s) (let long = s.stands.0.long in omega (arith, s.within, long))

pub can_end : (content : CaseContent) (run : RunState) (h : List Entry) (row : ℕ) (death : Death)
    → HasDied content run h row death → CanEnd content run h row death
can_end content run h row death s =
    subst (λ r. CanEnd content r h row death) (sym s.is)
    (can_end_at content s.before h row death s.stands s.within s.runs s.due s.range s.k s.there s.new_content s.at)

pub end_moves : (content : CaseContent) (run new : RunState) (h : List Entry) (row : ℕ) (death : Death)
    → (s : HasDied content run h row death) → new.config ≡ run.config
    → exit_answer run.world.rows (history_of h) row ≡ Ok tt
    → CameTo new.world (event.Exit row death ∷ history_of h) → new.world.rows ≡ run.world.rows
    → Represents new.folder
    (Died (died_row s).tid (died_row s).number death ∷ pieces_of (show_of run.config) content.rows h)
    → new.folder.rows ≡ run.folder.rows
    → new.rows ≡ run.rows
    → MovedBy (Tracee row) content run new h
end_moves content run new h row death s config answer world world_rows folder folder_rows rows =
    let k = died_row s in
    subst (λ r. MovedBy (Tracee row) content r new h) (sym s.is)
    (death_moves content s.before h row death s.stands s.within s.runs s.due s.range s.k s.there s.new_content s.at new
    (config ∙ ap (λ (r : RunState). r.config) s.is)
    (ap (λ rows. exit_answer rows (history_of h) row) (sym (ap (λ (r : RunState). r.world.rows) s.is ∙ s.stands.0.world_rows))
    ∙ answer) world
    (world_rows ∙ ap (λ (r : RunState). r.world.rows) s.is) k
    (ap (λ (r : RunState). slice_get r.rows row) (sym s.is) ∙ died_there content run h row death s)
    (subst (λ (r : RunState). Represents new.folder
    (Died k.tid k.number death ∷ pieces_of (show_of r.config) content.rows h)) s.is
    folder)
    (folder_rows ∙ ap (λ (r : RunState). r.folder.rows) s.is)
    (rows ∙ ap (λ (r : RunState). r.rows) s.is))

-- held back: the answer names who holds it
held_of : (holding : Option ℕ) → IsErr (unless_held holding) → (other : ℕ) × (holding ≡ Some other)
held_of None is = cc
held_of (Some other) is = (other, refl)

held_stays_at : (content : CaseContent) (before : RunState) (h : List Entry) (row : ℕ) → (stands : Stands content before h)
    → (within : row < length content.rows) → (runs : state_after content.rows (history_of h) row ≡ state.Running)
    → (k : KeptRow) → (there : slice_get before.rows row ≡ Some k) → (new_content : Content) (at : Position)
    → IsReady (plan_of before.config content) h row (with_next k new_content at)
    → Stands content (with_row before row (with_next k new_content at)) h
held_stays_at content before h row stands within runs k there new_content at ready =
    let made = stands.0 in
    let dead = with_next k new_content at in (
      record {
        known = made.known;
        world = made.world;
        world_rows = made.world_rows;
        folder = made.folder;
        folder_rows = made.folder_rows;
        legal = made.legal;
        driven = made.driven;
        long = long_set before.rows row dead ∙ made.long;
        each = λ other it here.
            elim (cases_eq row other) [
              | inl same ↦
                  (let is : it ≡ dead = get_set_same before.rows row dead it
                  (ap (slice_get (slice_set before.rows row dead)) same ∙ here) in
                  let own : IsKeptAfter (plan_of before.config content) h row dead =
                  kept_ready content before h row stands within runs k there dead refl refl refl ready in
                  subst (λ r. IsKeptAfter (plan_of before.config content) h r it) same
                  (subst (IsKeptAfter (plan_of before.config content) h row) (sym is) own))
              | inr apart ↦
                  made.each other it (sym (get_set_other before.rows row other dead (λ is. apart (sym is))) ∙ here)
            ];
      },
      stands.1,
    )

pub held_stays : (content : CaseContent) (run : RunState) (h : List Entry) (row : ℕ) (death : Death)
    → HasDied content run h row death → Stands content run h
held_stays content run h row death s =
    subst (λ r. Stands content r h) (sym s.is)
    (held_stays_at content s.before h row s.stands s.within s.runs s.k s.there s.new_content s.at s.ready)

pub held_back : (content : CaseContent) (run : RunState) (h : List Entry) (row : ℕ) (death : Death)
    → (s : HasDied content run h row death) → IsErr (exit_answer run.world.rows (history_of h) row)
    → IsHeldOrIdle content h row
held_back content run h row death s answer =
    let same : run.world.rows ≡ content.rows = ap (λ (r : RunState). r.world.rows) s.is ∙ s.stands.0.world_rows in
    let refused : IsErr (exit_answer content.rows (history_of h) row) =
    subst (λ rows. IsErr (exit_answer rows (history_of h) row)) same answer in
    inr (held_of (holding_back content.rows (state_after content.rows (history_of h)) row)
    (subst (λ at. IsErr (exit_by (holding_back content.rows (state_after content.rows (history_of h)) row) at)) s.runs refused))
