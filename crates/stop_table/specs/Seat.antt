-- What each function over one seat says: a kind of atomic step, together with the move of the record that goes with it.
use Rattle.std.specs.Prelude.{◌≡◌, ◌∷◌, [], ℕ, Bool, true, false, List, Option, None}
use Rattle.atomic_table.specs.Table.{rest}
use Rattle.atomic_table.specs.declared.shared.Seat.{Seat}
use Rattle.trace_record.specs.Content.{Content}
use Rattle.trace_record.specs.declared.death.Death.{Death}
use Rattle.trace_record.specs.declared.resume.Resume.{Resume as Restart}
use Rattle.stop_history.specs.declared.phase.Phase.TheVariants as phase
use Rattle.stop_history.specs.declared.state.State.TheVariants as state
use Rattle.stop_history.specs.Event as event
use Rattle.stop_history.specs.Roster.{IsRoster}
use Rattle.stop_history.specs.State.{state_after}
use Rattle.stop_history.specs.Word.{Word}
use Rattle.stop_table.specs.declared.cells.Cells.{Cells}
use Rattle.stop_table.specs.Entry.{AreLegal, Entry, GoesOn, bare, cell_after, history_of, publish_of, resume_of}
use Rattle.stop_table.specs.Entry.{word_of}
use Rattle.stop_table.specs.Place.{place}
use Rattle.stop_table.specs.Steps.{Seated, Sees, met, silent}
use Rattle.stop_table.specs.View.{Observation, View, actors_of, an_exchange, is_among, a_look}
use Rattle.stop_table.specs.Written.{IsWrittenOver}

abbrev pub IsSeatOf : {A : Type 0} → Cells A → Seat (Option Content) View → Type 0
IsSeatOf cells seat =
    (seat.table_id ≡ cells.table.shared.table_id) × (seat.me.0.roster ≡ cells.table.shared.key)

abbrev pub IsSameSeat : (before after : Seat (Option Content) View) → Type 0
IsSameSeat before after = (after.table_id ≡ before.table_id) × (after.id ≡ before.id)

-- the word of a row was found by a step that changed nothing
abbrev pub FoundBy : (step : List Entry → Observation) → Seated → Seated → ℕ → Word → Type 0
FoundBy step m n row word =
    (n.1 ≡ m.1) × (h : List Entry) × Sees m.0 step h [] m.0.taken n.0
    × (taken : Bool) × (word ≡ word_of taken (cell_after m.0.roster h row))
    × (taken ≡ true → state_after m.0.roster (history_of h) row ≡ state.Running)
    × (is_among row m.0.tracees ≡ true → taken ≡ m.0.taken)

-- one look at the word of a row
abbrev pub Saw : Seated → Seated → ℕ → Word → Type 0
Saw m n row word = FoundBy (a_look row) m n row word

-- an exchange that found another word in a row than it looked for
abbrev pub MissedAt : Seated → Seated → ℕ → Word → Type 0
MissedAt m n row word = FoundBy (an_exchange row) m n row word

-- what showed the word was claimed, after the history h
abbrev pub ClaimedAt : Seated → Seated → ℕ → Word → List Entry → Type 0
ClaimedAt m n row word h =
    Sees m.0 (an_exchange row) h (bare (event.Claim row word.number m.0.number) ∷ []) m.0.taken n.0
    × (word ≡ word_of false (cell_after m.0.roster h row))

-- the stop that showed the word was claimed, with its record
abbrev pub TookStop : Seated → Seated → ℕ → Word → Content → Type 0
TookStop m n row word content =
    (n.1 ≡ (place row, None) ∷ m.1)
    × (h : List Entry) × ClaimedAt m n row word h × (content ≡ (cell_after m.0.roster h row).content)

-- the death that showed the word was claimed
abbrev pub ReapedAt : Seated → Seated → ℕ → Word → Type 0
ReapedAt m n row word = (n.1 ≡ m.1) × (h : List Entry) × ClaimedAt m n row word h

-- the row is claimed by the tracer, with this word, this is its record with what the holder has written, and its slot is
-- the one taken last
pub record HoldsAtHand (m : Seated) (row : ℕ) (word : Word) (content : Content) : Type 0 where
  pub slot : m.1 ≡ (place row, None) ∷ rest m.1
  pub is_phase : word.phase ≡ phase.Claimed m.0.number
  pub is_word : word ≡ word_of false (cell_after m.0.roster m.0.seen row)
  pub is_content : IsWrittenOver (cell_after m.0.roster m.0.seen row).content content

-- the row is to run on, with this record
abbrev pub LetRun : Seated → Seated → (row number : ℕ) → Restart → Content → Type 0
LetRun m n row number how content =
    (n.1 ≡ rest m.1)
    × (h : List Entry)
    × Sees m.0 (an_exchange row) h (resume_of row number how m.0.number content ∷ []) m.0.taken n.0

-- the record was published
abbrev pub Published : Seated → Seated → ℕ → Content → Type 0
Published m n row content =
    (n.1 ≡ rest m.1) × (h : List Entry) × Sees m.0 (an_exchange row) h (publish_of row content ∷ []) false n.0

-- the row has ended
abbrev pub HasEnded : Seated → Seated → ℕ → Death → Type 0
HasEnded m n row death =
    (n.1 ≡ rest m.1) × (h : List Entry) × Sees m.0 (an_exchange row) h (bare (event.Exit row death) ∷ []) false n.0

-- the row was taken up, with its record, whose slot is out
abbrev pub TookUp : Seated → Seated → ℕ → Content → Type 0
TookUp m n row content =
    (n.1 ≡ (place row, None) ∷ m.1)
    × (h : List Entry) × Sees m.0 (an_exchange row) h [] true n.0 × (content ≡ (cell_after m.0.roster h row).content)
    × (cell_after m.0.roster h row ≡ cell_after m.0.roster m.0.seen row)

-- the handle took another in: what it has seen begins with what either had seen, and it acts for the actors of both
pub record Met (m : Seated) (w : View) (n : Seated) : Type 0 where
  pub slots : n.1 ≡ m.1
  pub view : n.0 ≡ silent (met m.0 w)
  pub left : GoesOn (actors_of m.0) m.0.seen n.0.seen
  pub right : GoesOn (actors_of w) w.seen n.0.seen
  pub placed : IsRoster n.0.roster
  pub legal : AreLegal n.0.roster n.0.seen
