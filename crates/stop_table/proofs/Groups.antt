-- A leader's thread group: rows that are settled beside the leader stay so while the leader makes no event, with as many
-- children, and then nobody holds its exit back.
use Rattle.std.proofs.Common.{refl, ◌≡◌, ◌≢◌, ◌<◌, ◌∷◌, ◌++◌, ◌≤◌, ◌+◌, [], ℕ, zero, suc, Bool, true, false, Some, None, List}
use Rattle.std.proofs.Common.{Option, length}
use Rattle.std.proofs.Common.{◌∙◌, sym, ap, subst, inl, inr, arith, find, eq-eqb, ne_eqb}
use Rattle.std.specs.List.{range_with_len}
use Rattle.std.proofs.lemmas.Bool.{cases_Bool, cases_eq}
use Rattle.stop_history.specs.declared.actor.Actor.{Actor}
use Rattle.stop_history.specs.declared.actor.Actor.TheVariants.{Tracee}
use Rattle.stop_history.specs.declared.roster.Row.{Row}
use Rattle.stop_history.specs.declared.state.State.{State}
use Rattle.stop_history.specs.declared.state.State.TheVariants as state
use Rattle.stop_history.specs.Actor.{IsQuiet, actor_of, is_moved_by, mover_of}
use Rattle.stop_history.specs.Event as event
use Rattle.stop_history.specs.Event.{Event, History, subject}
use Rattle.stop_history.specs.History.{Fits, IsLegal, IsSettled, IsSilent, births_after, births_in, holding_back, holds_back}
use Rattle.stop_history.specs.History.{ended, unborn_beside, unborn_below}
use Rattle.stop_history.specs.Roster.{is_leader, row_at}
use Rattle.stop_history.specs.State.{is_alive, is_ended, state_after}
use Rattle.stop_history.proofs.Events.{other_events, own_events}
use Rattle.stop_history.proofs.Settled.{settled_stays}
use Rattle.stop_history.proofs.Longer.{mover}
use Rattle.stop_table.specs.Entry.{AreLegal, Cell, Entry, GoesOn, cell_after, history_of}
use Rattle.stop_table.specs.Group.{AreCounted, AreSettled, IsGroupSettled}
use Rattle.stop_table.proofs.Entries.{history_append, legal_append, stays, stays_on}

ended_rests : (s : State) → is_ended s ≡ true → is_alive s ≡ false
ended_rests state.Absent is = cc
ended_rests state.Unborn is = cc
ended_rests state.Running is = cc
ended_rests (state.Stopped number status) is = cc
ended_rests (state.Claimed number tracer) is = cc
ended_rests (state.Dead number status) is = refl
ended_rests state.Reaped is = refl

-- a settled row is not alive
pub settled_rests : (rows : List Row) (beside : Option ℕ) (h : History) (row : ℕ) → IsSettled rows beside h row
    → is_alive (state_after rows h row) ≡ false
settled_rests rows beside h _ (ended row is) = ended_rests (state_after rows h row) is
settled_rests rows beside h _ (unborn_beside row parent unborn of_parent is) = ap is_alive unborn
settled_rests rows beside h _ (unborn_below row parent unborn of_parent below) = ap is_alive unborn

-- ---- the first row that holds a leader back

pub none_in_range : (test : ℕ → Bool) (a n : ℕ) → ((i : ℕ) → a ≤ i → i < a + n → test i ≡ false)
    → find test (range_with_len a n) ≡ None
none_in_range test a zero fails = refl
none_in_range test a (suc n) fails =
    rw (fails a (omega arith) (omega arith))
    (none_in_range test (a + 1) n (λ i low high. fails i (omega arith) (omega arith)))

pub first_in_range : (test : ℕ → Bool) (a n k : ℕ) → a ≤ k → k < a + n
    → ((i : ℕ) → a ≤ i → i < k → test i ≡ false) → test k ≡ true → find test (range_with_len a n) ≡ Some k
first_in_range test a zero k low high fails passes = absurd (omega arith)
first_in_range test a (suc n) k low high fails passes =
    elim (cases_eq a k) [
      | inl same ↦ rw (ap test same ∙ passes) (ap Some same)
      | inr other ↦
          rw (fails a (omega arith) (omega arith))
          (first_in_range test (a + 1) n k (omega arith) (omega arith) (λ i l h. fails i (omega arith) h) passes)
    ]

-- a row below k does not hold a leader back
free_below : (rows : List Row) (leader k : ℕ) (h : List Entry) → AreSettled rows leader k h → (other : ℕ) → other < k
    → holds_back rows (state_after rows (history_of h)) leader other ≡ false
free_below rows leader k h settled other low =
    elim (cases_eq other leader) [
      | inl same ↦ rw (eq-eqb _ _ same) refl
      | inr apart ↦
          rw (ne_eqb _ _ apart)
          (elim (cases_eq (row_at rows other).tgid (row_at rows leader).tgid) [
            | inl together ↦
                rw (eq-eqb _ _ together)
                (settled_rests rows (Some leader) (history_of h) other (settled other low apart together))
            | inr strange ↦ rw (ne_eqb _ _ strange) refl
          ])
    ]

pub nobody_holds : (rows : List Row) (h : List Entry) (row : ℕ) → IsGroupSettled rows row h
    → holding_back rows (state_after rows (history_of h)) row ≡ None
nobody_holds rows h row settled =
    elim (cases_Bool (is_leader (row_at rows row))) [
      | inl leads ↦
          rw leads
          (none_in_range (holds_back rows (state_after rows (history_of h)) row) 0 (length rows)
          (λ other low high. free_below rows row (length rows) h (settled leads) other (omega arith)))
      | inr follows ↦ rw follows refl
    ]

pub somebody_holds : (rows : List Row) (h : List Entry) (row other : ℕ) → is_leader (row_at rows row) ≡ true
    → AreSettled rows row other h → other < length rows → other ≢ row
    → (row_at rows other).tgid ≡ (row_at rows row).tgid
    → is_alive (state_after rows (history_of h) other) ≡ true
    → holding_back rows (state_after rows (history_of h)) row ≡ Some other
somebody_holds rows h row other leads settled within apart together alive =
    rw leads
    (first_in_range (holds_back rows (state_after rows (history_of h)) row) 0 (length rows) other (omega arith)
    (omega arith)
    (λ i low high. free_below rows row other h settled i high)
    (rw (ne_eqb _ _ apart, eq-eqb _ _ together) alive))

-- ---- while the leader makes no event

-- an event of a leader that runs is its own
leaders_event : (rows : List Row) (actors : Actor → Bool) (leader : ℕ) (x : Entry) (h : List Entry)
    → AreLegal rows (x ∷ h) → actors (Tracee leader) ≡ true → actors (actor_of x.event) ≡ false
    → mover_of leader (cell_after rows h leader).phase ≡ Some (Tracee leader) → leader ≢ subject x.event
leaders_event rows actors leader x h legal mine quiet moved same =
    let who : actor_of x.event ≡ Tracee leader =
    mover rows (history_of h) x.event legal.0.0 (Tracee leader)
    (subst (λ r. mover_of r (cell_after rows h r).phase ≡ Some (Tracee leader)) same moved) in
    let clash : true ≡ false = sym mine ∙ ap actors (sym who) ∙ quiet in cc

silent_beside : (rows : List Row) (actors : Actor → Bool) (leader : ℕ) (more seen : List Entry)
    → AreLegal rows (more ++ seen) → IsQuiet actors (history_of more) → actors (Tracee leader) ≡ true
    → mover_of leader (cell_after rows seen leader).phase ≡ Some (Tracee leader)
    → IsSilent (Some leader) (history_of more)
silent_beside rows actors leader [] seen legal quiet mine moved = tt
silent_beside rows actors leader (x ∷ more) seen legal quiet mine moved =
    let before = stays rows actors more seen legal.1 quiet.1 leader
    (ap (is_moved_by actors) moved ∙ mine) in
    let here : mover_of leader (cell_after rows (more ++ seen) leader).phase ≡ Some (Tracee leader) =
    ap (λ (c : Cell). mover_of leader c.phase) before ∙ moved in (
      (λ same. let is : leader ≡ subject x.event = cc in
          leaders_event rows actors leader x (more ++ seen) legal mine quiet.0 here is),
      silent_beside rows actors leader more seen legal.1 quiet.1 mine moved,
    )

pub settled_on : (rows : List Row) (actors : Actor → Bool) (leader k : ℕ) (seen h : List Entry) → AreLegal rows h
    → GoesOn actors seen h → actors (Tracee leader) ≡ true
    → mover_of leader (cell_after rows seen leader).phase ≡ Some (Tracee leader)
    → AreSettled rows leader k seen → AreSettled rows leader k h
settled_on rows actors leader k seen h legal on mine moved settled row low apart together =
    let legal' : AreLegal rows (on.0 ++ seen) = subst (AreLegal rows) on.1 legal in
    subst (λ x. IsSettled rows (Some leader) x row)
    (sym (history_append on.0 seen) ∙ ap history_of (sym on.1))
    (settled_stays rows (Some leader) (history_of on.0) (history_of seen) (legal_append rows on.0 seen legal')
    (silent_beside rows actors leader on.0 seen legal' on.2 mine moved) row (settled row low apart together))

-- ---- how many children

-- a row that does not run creates no child
births_own : (rows : List Row) (h : History) (e : Event) → Fits rows h e → state_after rows h (subject e) ≢ state.Running
    → births_after (e ∷ h) (subject e) ≡ births_after h (subject e)
births_own rows h (event.Publish at number stop) fits rests = absurd (rests fits.0)
births_own rows h (event.Claim at number tracer) fits rests =
    ap births_in (own_events at (event.Claim at number tracer) h refl)
births_own rows h (event.Resume at number how tracer) fits rests =
    ap births_in (own_events at (event.Resume at number how tracer) h refl)
births_own rows h (event.Exit at death) fits rests = ap births_in (own_events at (event.Exit at death) h refl)

births_by_one : (rows : List Row) (h : History) (e : Event) (row : ℕ) → Fits rows h e
    → state_after rows h row ≢ state.Running → births_after (e ∷ h) row ≡ births_after h row
births_by_one rows h e row fits rests =
    elim (cases_eq (subject e) row) [
      | inl same ↦
          subst (λ r. births_after (e ∷ h) r ≡ births_after h r) same
          (births_own rows h e fits (λ runs. rests (ap (state_after rows h) (sym same) ∙ runs)))
      | inr other ↦ ap births_in (other_events row e h other)
    ]

births_stay : (rows : List Row) (beside : Option ℕ) (more h : History) (row : ℕ) → IsLegal rows (more ++ h)
    → IsSilent beside more → IsSettled rows beside h row → births_after (more ++ h) row ≡ births_after h row
births_stay rows beside [] h row legal silent settled = refl
births_stay rows beside (e ∷ more) h row legal silent settled =
    let still = settled_stays rows beside more h legal.1 silent.1 row settled in
    births_by_one rows (more ++ h) e row legal.0
    (λ runs. let clash : true ≡ false = sym (ap is_alive runs) ∙ settled_rests rows beside (more ++ h) row still in cc)
    ∙ births_stay rows beside more h row legal.1 silent.1 settled

pub counted_on : (rows : List Row) (actors : Actor → Bool) (leader k : ℕ) (births : List ℕ) (seen h : List Entry)
    → AreLegal rows h → GoesOn actors seen h → actors (Tracee leader) ≡ true
    → mover_of leader (cell_after rows seen leader).phase ≡ Some (Tracee leader) → AreSettled rows leader k seen
    → AreCounted rows leader k births seen → AreCounted rows leader k births h
counted_on rows actors leader k births seen h legal on mine moved settled counted row low together =
    counted row low together
    ∙ elim (cases_eq row leader) [
      | inl own ↦
          subst (λ r. (cell_after rows seen r).births ≡ (cell_after rows h r).births) (sym own)
          (ap (λ (c : Cell). c.births) (sym (stays_on rows actors seen h legal on leader
          (ap (is_moved_by actors) moved ∙ mine))))
      | inr apart ↦
          let legal' : AreLegal rows (on.0 ++ seen) = subst (AreLegal rows) on.1 legal in
          let same : history_of h ≡ history_of on.0 ++ history_of seen = ap history_of on.1 ∙ history_append on.0 seen in
          sym (ap (λ x. births_after x row) same
          ∙ births_stay rows (Some leader) (history_of on.0) (history_of seen) row (legal_append rows on.0 seen legal')
          (silent_beside rows actors leader on.0 seen legal' on.2 mine moved) (settled row low apart together))
    ]
