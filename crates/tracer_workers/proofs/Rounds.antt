-- Turns one after the other: events come of them, or none, and then the run is over.
use Rattle.std.proofs.Common.{refl, ◌≡◌, ◌⊎◌, ◌||◌, ◌≤◌, ◌+◌, ℕ, Bool, true, false, List, length, ◌∙◌, sym, ap, subst, arith}
use Rattle.std.proofs.Common.{[], ◌∷◌, ◌++◌, zero, suc, Some, slice_get, inl, inr, Result, Ok, Err, IfOk, OnOk}
use Rattle.std.proofs.lemmas.Bool.{cases_eq}
use Rattle.stop_history.specs.declared.actor.Actor.{Actor}
use Rattle.stop_history.specs.declared.actor.Actor.TheVariants.{Tracee, Tracer}
use Rattle.stop_history.specs.Word.{word_at}
use Rattle.tracer_workers.specs.Scheduled.{CameTo, GoesOnBy, MovedBy}
use Rattle.record_printer.specs.Represents.{Represents}
use Rattle.stop_board.specs.World.{Contents}
use Rattle.stop_table.specs.Entry.{Entry, history_of}
use Rattle.trace_script.specs.CaseFacts.{IsCase}
use Rattle.trace_script.specs.CaseFile.{CaseContent}
use Rattle.tracer_workers.specs.Config.{plan_of}
use Rattle.tracer_workers.specs.Scheduled.{IsKeptAfter, IsRunOver, KeptRow, Moved, RunState, Stands, events_left}
use Rattle.tracer_workers.specs.Scheduled.{run_left, total}
use Rattle.tracer_workers.specs.Turn.{CanMakeNoEvent, HasGone, HasRunOut, HasServedRow, HasTurned, HaveRunOut, new_row}
use Rattle.tracer_workers.proofs.OneActor.{by_more}
use Rattle.tracer_workers.proofs.RunEnd.{run_over}

-- the World alone says how many events are left
pub left_same : (run new : RunState) → new.world ≡ run.world → run_left new ≡ run_left run
left_same run new same = ap (λ w. total (λ row. events_left (word_at w.words row)) (length w.rows)) same

pub moved_on : (content : CaseContent) (run mid new : RunState) (h later : List Entry) → run_left mid ≤ run_left run
    → Moved content mid new later → Moved content run new h
moved_on content run mid new h later fewer moved =
    let less = moved.2 in (moved.0, moved.1, omega (arith, fewer, less))

pub moved_from : (content : CaseContent) (run mid new : RunState) (h : List Entry) → run_left mid ≡ run_left run
    → Moved content mid new h → Moved content run new h
moved_from content run mid new h left moved = moved_on content run mid new h h (omega (arith, left)) moved

-- the same by one actor
pub moved_by_on : (actor : Actor) (content : CaseContent) (run mid new : RunState) (h later : List Entry)
    → run_left mid ≤ run_left run → GoesOnBy actor h later → MovedBy actor content mid new later
    → MovedBy actor content run new h
moved_by_on actor content run mid new h later fewer on moved =
    let less = moved.2 in (moved.0, moved.1, omega (arith, fewer, less), by_more actor h later moved.0 on moved.3)

pub moved_by_from : (actor : Actor) (content : CaseContent) (run mid new : RunState) (h : List Entry)
    → run_left mid ≡ run_left run → MovedBy actor content mid new h → MovedBy actor content run new h
moved_by_from actor content run mid new h left moved =
    let less = moved.2 in (moved.0, moved.1, omega (arith, left, less), moved.3)

-- whose turn it was does not matter to a round
whoever_moved : (actor : Actor) (content : CaseContent) (run new : RunState) (h : List Entry)
    → MovedBy actor content run new h → Moved content run new h
whoever_moved actor content run new h moved = (moved.0, moved.1, moved.2)

-- a turn tells nothing of what its tracee had done before it in the same turn
pub turned_from : (content : CaseContent) (run mid new : RunState) (h : List Entry) (row : ℕ) (moved : Bool)
    → run_left mid ≡ run_left run → HasTurned content mid new h row moved → HasTurned content run new h row moved
turned_from content run mid new h row true same turned = moved_by_from (Tracee row) content run mid new h same turned
turned_from content run mid new h row false same turned = (turned.0, turned.1 ∙ same, turned.2)

pub if_ok : {A E : Type 0} {P Q : A → Type 0} (r : Result A E) → ((a : A) → P a → Q a) → IfOk r P → IfOk r Q
if_ok (Ok a) to is = to a is
if_ok (Err e) to is = is

pub on_ok : {A E P : Type 0} (r : Result A E) → P → OnOk r P
on_ok (Ok a) p = p
on_ok (Err e) p = tt

-- the World may have let a row be taken up, or a tracer look
pub stands_over : (content : CaseContent) (run : RunState) (world : Contents) (h : List Entry) → Stands content run h
    → CameTo world (history_of h) → world.rows ≡ run.world.rows → Stands content (record run { world = world }) h
stands_over content run world h stands came rows =
    let made = stands.0 in (
      record {
        known = made.known;
        world = came;
        world_rows = rows ∙ made.world_rows;
        folder = made.folder;
        folder_rows = made.folder_rows;
        legal = made.legal;
        driven = made.driven;
        long = made.long;
        each = made.each;
      },
      stands.1,
    )

-- ---- a turn of a row's tracee, and then a worker's in that row

-- in either case a run still stands
pub turned_stands : (content : CaseContent) (run new : RunState) (h : List Entry) (row : ℕ) (moved : Bool)
    → HasTurned content run new h row moved → (later : List Entry) × Stands content new later
turned_stands content run new h row true turned = (turned.0, turned.1)
turned_stands content run new h row false turned = (h, turned.0)

pub pair_on : (content : CaseContent) (run mid new : RunState) (h : List Entry) (row tracer : ℕ) (turned claimed : Bool)
    → HasTurned content run mid h row turned
    → ((later : List Entry) → Stands content mid later → HasServedRow content mid new later row tracer claimed)
    → HasRunOut content run new h row (turned || claimed)
pair_on content run mid new h row tracer true true turned got =
    let less = turned.2 in
    moved_on content run mid new h turned.0 (omega (arith, less))
    (whoever_moved (Tracer tracer) content mid new turned.0 (got turned.0 turned.1))
pair_on content run mid new h row tracer true false turned got =
    let less = turned.2 in
    let stays = got turned.0 turned.1 in
    let left = stays.1 in (turned.0, stays.0, omega (arith, less, left))
pair_on content run mid new h row tracer false true turned got =
    moved_from content run mid new h turned.1 (whoever_moved (Tracer tracer) content mid new h (got h turned.0))
pair_on content run mid new h row tracer false false turned got =
    let stays = got h turned.0 in (stays.0, stays.1 ∙ turned.1, (turned.2, stays.2))

-- ---- as far as a row goes

-- by the last pair of turns: whether an event came of it, and of one before it
abbrev pub IsRunning : CaseContent → RunState → RunState → List Entry → (moved : Bool) → Type 0
IsRunning content run new h true = Moved content run new h
IsRunning content run new h false = Stands content new h × (run_left new ≡ run_left run)

pub running_stands : (content : CaseContent) (run new : RunState) (h : List Entry) (moved : Bool)
    → IsRunning content run new h moved → (later : List Entry) × Stands content new later
running_stands content run new h true running = (running.0, running.1)
running_stands content run new h false running = (h, running.0)

-- an event came of the pair
pub runs_on : (content : CaseContent) (run mid new : RunState) (h : List Entry) (row : ℕ) (moved : Bool)
    → ((later : List Entry) → Stands content mid later → HasRunOut content mid new later row true)
    → IsRunning content run mid h moved → Moved content run new h
runs_on content run mid new h row true pair running =
    let less = running.2 in moved_on content run mid new h running.0 (omega (arith, less)) (pair running.0 running.1)
runs_on content run mid new h row false pair running = moved_from content run mid new h running.1 (pair h running.0)

-- none came of it
pub runs_out : (content : CaseContent) (run mid new : RunState) (h : List Entry) (row : ℕ) (moved : Bool)
    → ((later : List Entry) → Stands content mid later → HasRunOut content mid new later row false)
    → IsRunning content run mid h moved → HasRunOut content run new h row moved
runs_out content run mid new h row true pair running =
    let less = running.2 in
    let stays = pair running.0 running.1 in
    let left = stays.1 in (running.0, stays.0, omega (arith, less, left))
runs_out content run mid new h row false pair running =
    let stays = pair h running.0 in (stays.0, stays.1 ∙ running.1, stays.2)

-- ---- the first rows, and one more

pub rows_stand : (content : CaseContent) (run new : RunState) (h : List Entry) (rows : ℕ) (moved : Bool)
    → HaveRunOut content run new h rows moved → (later : List Entry) × Stands content new later
rows_stand content run new h rows true have = (have.0, have.1)
rows_stand content run new h rows false have = (h, have.0)

pub rows_on : (content : CaseContent) (run mid new : RunState) (h : List Entry) (rows : ℕ) (moved out : Bool)
    → ((later : List Entry) → Stands content mid later → HasRunOut content mid new later rows out)
    → HaveRunOut content run mid h rows moved → HaveRunOut content run new h (rows + 1) (moved || out)
rows_on content run mid new h rows true true last have =
    let less = have.2 in moved_on content run mid new h have.0 (omega (arith, less)) (last have.0 have.1)
rows_on content run mid new h rows true false last have =
    let less = have.2 in
    let stays = last have.0 have.1 in
    let left = stays.1 in (have.0, stays.0, omega (arith, less, left))
rows_on content run mid new h rows false true last have = moved_from content run mid new h have.1 (last h have.0)
rows_on content run mid new h rows false false last have =
    let stays = last h have.0 in (
      stays.0,
      stays.1 ∙ have.1,
      λ row less.
          elim (cases_eq row rows) [
            | inl same ↦ subst (CanMakeNoEvent content h) (sym same) stays.2
            | inr other ↦ have.2 row (omega (arith, less, other))
          ],
    )

pub all_rows : (content : CaseContent) (run new : RunState) (h : List Entry) (moved : Bool)
    → HaveRunOut content run new h (length content.rows) moved → HasGone content run new h moved
all_rows content run new h true have = have
all_rows content run new h false have = (
  have.0,
  run_over content h have.0.0.known.roster have.0.1 (λ row within. (have.2 row within).1)
      (λ row within. (have.2 row within).0),
)

-- ---- rounds

-- by the last round: whether an event came of it
abbrev pub AreGone : CaseContent → RunState → (moved : Bool) → List Entry → Type 0
AreGone content run true later = Stands content run later
AreGone content run false later = Stands content run later × IsRunOver content later

-- how many rounds are left at most
abbrev pub rounds_left : RunState → Bool → ℕ
rounds_left run true = run_left run + 1
rounds_left run false = 0

pub gone_stands : (content : CaseContent) (run : RunState) (moved : Bool) (later : List Entry)
    → AreGone content run moved later → Stands content run later
gone_stands content run true later gone = gone
gone_stands content run false later gone = gone.0

pub gone_on : (content : CaseContent) (run new : RunState) (h : List Entry) (moved : Bool)
    → HasGone content run new h moved → (later : List Entry) × AreGone content new moved later
gone_on content run new h true gone = (gone.0, gone.1)
gone_on content run new h false gone = (h, gone)

-- ---- before any event

-- the rows with one more
pub get_last : {A : Type 0} (xs : List A) (x : A) (r : ℕ) (k : A) → slice_get (xs ++ x ∷ []) r ≡ Some k
    → (slice_get xs r ≡ Some k) ⊎ ((r ≡ length xs) × (k ≡ x))
get_last [] x zero k is = inr (refl, cc)
get_last [] x (suc r) k is = cc
get_last (y ∷ xs) x zero k is = inl is
get_last (y ∷ xs) x (suc r) k is =
    elim (get_last xs x r k is) [
      | inl old ↦ inl old
      | inr new ↦ inr (ap suc new.0, new.1)
    ]

pub opening_stands : (content : CaseContent) (run : RunState) → IsCase content
    → CameTo run.world [] → run.world.rows ≡ content.rows → Represents run.folder [] → run.folder.rows ≡ content.rows
    → length run.rows ≡ length content.rows
    → ((row : ℕ) (k : KeptRow) → slice_get run.rows row ≡ Some k → k ≡ new_row run.config content row)
    → Stands content run []
opening_stands content run known world world_rows folder folder_rows long each = (
  record {
    known = known;
    world = world;
    world_rows = world_rows;
    folder = folder;
    folder_rows = folder_rows;
    legal = tt;
    driven = tt;
    long = long;
    each = λ row k at.
        let new : IsKeptAfter (plan_of run.config content) [] row (new_row run.config content row) = record {
          tid = refl;
          number = refl;
          kept = (refl, inl (record { content = refl; position = refl }));
        } in
        subst (IsKeptAfter (plan_of run.config content) [] row) (sym (each row k at)) new;
  },
  λ row. refl,
)
