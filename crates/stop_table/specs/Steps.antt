-- What each kind of atomic step on a row's word tells the handle that makes it. Each is an action of the interleaving
-- model: a look, a take-up, a publish, a claim that gets or misses, a resume, an exit.
use Rattle.std.specs.Prelude.{◌≡◌, ◌≢◌, ◌∷◌, ◌++◌, [], ℕ, Bool, true, false, List, Option, Some, length, if◌then◌else◌, nat_le}
use Rattle.atomic_table.specs.Table.{Me, Step, rest}
use Rattle.trace_record.specs.Content.{Content}
use Rattle.trace_record.specs.Death.{IsDeath}
use Rattle.trace_record.specs.Resume.{IsResume}
use Rattle.trace_record.specs.declared.death.Death.{Death}
use Rattle.trace_record.specs.declared.resume.Resume.{Resume as Restart}
use Rattle.stop_history.specs.declared.state.State.TheVariants as state
use Rattle.stop_history.specs.Event as event
use Rattle.stop_history.specs.Layout.{raw_of}
use Rattle.stop_history.specs.Roster.{IsRoster}
use Rattle.stop_history.specs.State.{state_after}
use Rattle.stop_history.specs.Step.{died, restarted}
use Rattle.stop_table.specs.Entry.{AreLegal, Entry, GoesOn, bare, cell_after, history_of, publish_of, resume_of}
use Rattle.stop_table.specs.Entry.{word_of}
use Rattle.stop_table.specs.Place.{place}
use Rattle.stop_table.specs.Rule.{AllGoOn}
use Rattle.stop_table.specs.View.{Observation, Past, View, actors_of, an_exchange, is_among, a_look}

-- a handle's view, and the slots that are out with it
abbrev pub Seated : Type 0
Seated = Me (Option Content) View

abbrev pub TheStep : Type 0
TheStep = Step (Option Content)

-- the view once it has seen the history h, by a step
abbrev pub at_seen : View → (step : List Entry → Observation) → (h : List Entry) → (taken : Bool) → View
at_seen v step h taken = record {
  roster = v.roster;
  tracees = v.tracees;
  number = v.number;
  tracers = v.tracers;
  taken = taken;
  seen = h;
  observations = step h ∷ v.observations;
  told = [];
}

-- Up to the step the history was h, which goes on from what was seen by events of others. Then it has the entries `new`
-- too, and is legal.
pub record Sees (v : View) (step : List Entry → Observation) (h new : List Entry) (taken : Bool) (w : View) : Type 0 where
  pub goes_on : GoesOn (actors_of v) v.seen h
  pub placed : IsRoster v.roster
  pub legal : AreLegal v.roster (new ++ h)
  pub view : w ≡ at_seen v step (new ++ h) taken

-- the number found is that of the row's word after the history; an active row runs, and is one of the handle's own
-- exactly where the handle has it taken up
abbrev pub Shows : View → (row found : ℕ) → List Entry → Type 0
Shows v row found h =
    (taken : Bool) × (found ≡ raw_of (word_of taken (cell_after v.roster h row)))
    × (taken ≡ true → state_after v.roster (history_of h) row ≡ state.Running)
    × (is_among row v.tracees ≡ true → taken ≡ v.taken)

-- Each kind of step tells this of the row at whose place the word stands.
abbrev pub AtRow : TheStep → (ℕ → Type 0) → Type 0
AtRow s told = (row : ℕ) → s.word ≡ place row → told row

-- the step found the row's word, and changed nothing
abbrev pub found_by : (step : List Entry → Observation) → ℕ → Seated → ℕ → Seated → Type 0
found_by step row m found n =
    (h : List Entry) × (n.1 ≡ m.1) × Sees m.0 step h [] m.0.taken n.0 × Shows m.0 row found h

-- the row's word was read
abbrev pub looked_on : ℕ → Seated → ℕ → Seated → Type 0
looked_on row m found n = found_by (a_look row) row m found n

-- an exchange found another word in the row than it looked for
abbrev pub missed_on : ℕ → Seated → ℕ → Seated → Type 0
missed_on row m found n = found_by (an_exchange row) row m found n

abbrev pub looked : TheStep → Seated → ℕ → Seated → Type 0
looked s m found n = AtRow s (λ row. looked_on row m found n)

-- the row was taken up, and its slot is out
abbrev pub took_on : ℕ → Seated → Seated → Type 0
took_on row m n =
    (h : List Entry) × (n.1 ≡ (place row, Some (cell_after m.0.roster h row).content) ∷ m.1)
    × Sees m.0 (an_exchange row) h [] true n.0 × (cell_after m.0.roster h row ≡ cell_after m.0.roster m.0.seen row)

abbrev pub takes_up : TheStep → Seated → ℕ → Seated → Type 0
takes_up s m found n = AtRow s (λ row. took_on row m n)

-- the record in the slot that was taken last was published
abbrev pub publishes_on : ℕ → Seated → Seated → Type 0
publishes_on row m n =
    (content : Content) → m.1 ≡ (place row, Some content) ∷ rest m.1
    → (h : List Entry) × (n.1 ≡ rest m.1) × Sees m.0 (an_exchange row) h (publish_of row content ∷ []) false n.0

abbrev pub publishes : TheStep → Seated → ℕ → Seated → Type 0
publishes s m found n = AtRow s (λ row. publishes_on row m n)

-- the row was claimed, by the exchange of the word found
abbrev pub claims_on : ℕ → Seated → ℕ → Seated → List Entry → Type 0
claims_on row m found n h =
    Sees m.0 (an_exchange row) h (bare (event.Claim row (cell_after m.0.roster h row).number m.0.number) ∷ []) m.0.taken n.0
    × (found ≡ raw_of (word_of false (cell_after m.0.roster h row)))

-- the stop that stood there was claimed, and its record is out; or another word was found
abbrev pub claimed_on : TheStep → ℕ → Seated → ℕ → Seated → Type 0
claimed_on s row m found n =
    (found ≡ s.first → (h : List Entry) × (n.1 ≡ (place row, Some (cell_after m.0.roster h row).content) ∷ m.1)
    × claims_on row m found n h)
    × (found ≢ s.first → missed_on row m found n)

abbrev pub claims_stop : TheStep → Seated → ℕ → Seated → Type 0
claims_stop s m found n = AtRow s (λ row. claimed_on s row m found n)

-- the death that stood there was claimed; or another word was found
abbrev pub reaped_on : TheStep → ℕ → Seated → ℕ → Seated → Type 0
reaped_on s row m found n =
    (found ≡ s.first → (h : List Entry) × (n.1 ≡ m.1) × claims_on row m found n h)
    × (found ≢ s.first → missed_on row m found n)

abbrev pub reaped : TheStep → Seated → ℕ → Seated → Type 0
reaped s m found n = AtRow s (λ row. reaped_on s row m found n)

-- the stop that the tracer held is to run on, as the new word says, with the record in the slot that was taken last
abbrev pub resumed_on : TheStep → ℕ → Seated → Seated → Type 0
resumed_on s row m n =
    (content : Content) → m.1 ≡ (place row, Some content) ∷ rest m.1
    → (how : Restart) × IsResume how
    × (s.second ≡ raw_of (restarted (word_of false (cell_after m.0.roster m.0.seen row)) how))
    × (h : List Entry) × (n.1 ≡ rest m.1)
    × Sees m.0 (an_exchange row) h
    (resume_of row (cell_after m.0.roster m.0.seen row).number how m.0.number content ∷ []) m.0.taken n.0

abbrev pub resumed : TheStep → Seated → ℕ → Seated → Type 0
resumed s m found n = AtRow s (λ row. resumed_on s row m n)

-- the tracee's row ended, as the new word says, and its slot is no longer out; of a dead row's record nothing is said
abbrev pub exited_on : TheStep → ℕ → Seated → Seated → Type 0
exited_on s row m n =
    (death : Death) × IsDeath death
    × (s.second ≡ raw_of (died (word_of false (cell_after m.0.roster m.0.seen row)) death))
    × (h : List Entry) × (n.1 ≡ rest m.1) × Sees m.0 (an_exchange row) h (bare (event.Exit row death) ∷ []) false n.0

abbrev pub exited : TheStep → Seated → ℕ → Seated → Type 0
exited s m found n = AtRow s (λ row. exited_on s row m n)

-- ---- meetings

abbrev pub longer : List Entry → List Entry → List Entry
longer a b = if nat_le (length a) (length b) then b else a

abbrev pub past : View → Past
past v = record { tracees = v.tracees; tracers = v.tracers; seen = v.seen }

-- a handle takes in another
abbrev pub met : View → View → View
met v w = record {
  roster = v.roster;
  tracees = v.tracees ++ w.tracees;
  number = v.number;
  tracers = v.tracers ++ w.tracers;
  taken = v.taken;
  seen = longer v.seen w.seen;
  observations = v.observations;
  told = past v ∷ past w ∷ [];
}

abbrev pub silent : View → View
silent v = record {
  roster = v.roster;
  tracees = v.tracees;
  number = v.number;
  tracers = v.tracers;
  taken = v.taken;
  seen = v.seen;
  observations = v.observations;
  told = [];
}

-- what either had seen at the meeting is a beginning of what is seen now
abbrev pub compared : TheStep → Seated → ℕ → Seated → Type 0
compared s m found n =
    (n ≡ (silent m.0, m.1)) × AllGoOn m.0.told m.0.seen × IsRoster m.0.roster × AreLegal m.0.roster m.0.seen
