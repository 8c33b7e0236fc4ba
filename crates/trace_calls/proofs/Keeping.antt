-- The claims that are kept, as the history goes on.
use Rattle.std.proofs.Common.{refl, ◌≡◌, ◌≢◌, ◌<◌, ◌∷◌, ◌++◌, [], ℕ, ℤ, zero, suc, Bool, true, false, List, length}
use Rattle.std.proofs.Common.{get_or, set, Result, Ok, Err}
use Rattle.std.proofs.Common.{Option, Some, None, replicate, ◌∙◌, sym, ap, inl, inr, arith, subst, eq-eqb, is_some}
use Rattle.std.specs.List.{list_any}
use Rattle.std.proofs.lemmas.Bool.{cases_Bool}
use Rattle.std.proofs.lemmas.List.{get_or-map, length-map, length-set, map-set, set-get_or}
use lib.Seq.{map-set_same}
use Rattle.std.specs.Option.{unwrap_or}
use Rattle.std.proofs.lemmas.Option.{same_Some, slice_get-get_or, slice_get_read, slice_get_within}
use Rattle.trace_pages.specs.declared.fault.Fault.{Fault}
use Rattle.trace_pages.specs.FlatMemory.{Absent, FlatMemory, Full, RunEnd, Top, run_end}
use Rattle.trace_pages.specs.Memory.{store_answer}
use Rattle.trace_record.specs.Content.{Content, empty_content}
use Rattle.stop_history.specs.declared.roster.Row.{Row}
use Rattle.stop_history.specs.declared.phase.Phase.TheVariants as phase
use Rattle.stop_history.specs.Event as event
use Rattle.stop_history.specs.Event.{events_of, subject}
use Rattle.trace_record.specs.declared.resume.Resume.{Resume as Restart}
use Rattle.stop_history.specs.State.{is_born, state_after}
use Rattle.stop_history.specs.Word.{Word, phase_in, shown}
use Rattle.stop_history.proofs.Longer.{claimed_before}
use Rattle.stop_table.specs.declared.claim.Claim.{Claim}
use Rattle.stop_table.specs.Entry.{AreLegal, Cell, Entry, GoesOn, bare, cell_after, content_after, history_of}
use Rattle.stop_table.specs.Entry.{resume_of, word_of}
use Rattle.stop_table.specs.Handle.{Claims, EndsWith, IsHolding, Looked}
use Rattle.stop_table.specs.Tracer.{IsTracerHandle, TracerHandle, held_rows, is_claimed_by, is_held}
use Rattle.stop_table.specs.View.{View, actors_of, is_among}
use Rattle.stop_table.specs.Written.{IsWrittenOver}
use Rattle.stop_table.proofs.Entries.{content_number, history_append, other_cell, own_cell, own_content, shown_state}
use Rattle.stop_table.proofs.Entries.{stays_on}
use Rattle.stop_table.proofs.Own.{claimed_by_is, held_moved}
use Rattle.stop_table.proofs.Walking.{legal_after}
use Rattle.trace_calls.specs.ByPid.{HasNotClaimed, row_of_pid, with_record}
use Rattle.trace_calls.specs.ByRow.{HasClaimedRow}
use Rattle.trace_calls.specs.Handle.{CallsHandle, HasRecords, IsCalls, KeepsClaim, KeepsClaims, claimed_record}
use Rattle.trace_calls.specs.Handle.{handle_of}
use Rattle.trace_calls.specs.Handle.{record_of, records_of}
use Rattle.trace_calls.specs.Waiting.{ReportsStatus}
use Rattle.trace_calls.proofs.Places.{none_in_range, replicate_place, set_place, without_some}

-- ---- a row that is claimed

pub holding_held : (v : View) (row : ℕ) (word : Word) (content : Content) → IsHolding v row word content
    → is_held v row ≡ true
holding_held v row word content h =
    ap (is_claimed_by v.number) (ap (λ (w : Word). w.phase) (sym h.is_word) ∙ h.is_phase)
    ∙ eq-eqb v.number v.number refl

-- what of a row's claim goes on
pub record Keeps (v w : View) (row : ℕ) : Type 0 where
  pub held : is_held w row ≡ is_held v row
  pub cell : is_held v row ≡ true → cell_after w.roster w.seen row ≡ cell_after v.roster v.seen row
  pub number : w.number ≡ v.number

-- while others act, up to the history h
pub claim_at : (v : View) (h : List Entry) → is_among v.number v.tracers ≡ true → AreLegal v.roster h
    → GoesOn (actors_of v) v.seen h → (row : ℕ)
    → (is_claimed_by v.number (cell_after v.roster h row).phase ≡ is_held v row)
    × (is_held v row ≡ true → cell_after v.roster h row ≡ cell_after v.roster v.seen row)
claim_at v h mine legal on row =
    let stays = λ (held : is_held v row ≡ true).
    stays_on v.roster (actors_of v) v.seen h legal on row (held_moved v row mine held) in (
      elim (cases_Bool (is_held v row)) [
        | inl held ↦ ap (λ (c : Cell). is_claimed_by v.number c.phase) (stays held)
        | inr free ↦ elim (cases_Bool (is_claimed_by v.number (cell_after v.roster h row).phase)) [
          | inr later ↦ later ∙ sym free
          | inl later ↦
              let at = claimed_by_is v.number (cell_after v.roster h row).phase later in
              let now : phase_in (events_of row (history_of on.0 ++ history_of v.seen)) ≡ phase.Claimed v.number =
              ap (λ es. phase_in (events_of row es)) (sym (ap history_of on.1 ∙ history_append on.0 v.seen)) ∙ at in
              let same = claimed_before (actors_of v) (history_of on.0) (history_of v.seen) on.2 v.number mine row now in
              let was : phase_in (events_of row (history_of v.seen)) ≡ phase.Claimed v.number =
              ap phase_in (sym same) ∙ now in
              let clash : true ≡ false =
              sym (ap (is_claimed_by v.number) was ∙ eq-eqb v.number v.number refl) ∙ free in cc
        ]
      ],
      stays,
    )

pub keeps_look : (v w : View) → is_among v.number v.tracers ≡ true → Looked v w → (row : ℕ) → Keeps v w row
keeps_look v w mine l row =
    let same = l.grows.same in
    let at = claim_at v w.seen mine (legal_after v w l) l.grows.goes_on row in
    let cell = ap (λ rows. cell_after rows w.seen row) same.roster in
    record {
      held = (λ k. is_claimed_by (same.number k) (cell k).phase) ∙ at.0;
      cell = λ held. cell ∙ at.1 held;
      number = same.number;
    }

pub keeps_beside : (v w : View) (before : List Entry) (x : Entry) → is_among v.number v.tracers ≡ true
    → EndsWith v w before x → (row : ℕ) → row ≢ subject x.event → Keeps v w row
keeps_beside v w before x mine e row other =
    let same = e.same in
    let legal = subst (AreLegal v.roster) e.seen (subst (λ rows. AreLegal rows w.seen) same.roster e.legal) in
    let at = claim_at v before mine legal.1 e.goes_on row in
    let cell = ap (λ rows. cell_after rows w.seen row) same.roster ∙ ap (λ h. cell_after v.roster h row) e.seen
    ∙ other_cell v.roster row x before other in
    record {
      held = (λ k. is_claimed_by (same.number k) (cell k).phase) ∙ at.0;
      cell = λ held. cell ∙ at.1 held;
      number = same.number;
    }

pub kept_claim : {A : Type 0} (v w : View) (row : ℕ) (claim : Option (Claim A)) → Keeps v w row
    → KeepsClaim v row claim → KeepsClaim w row claim
kept_claim v w row None k is = k.held ∙ is
kept_claim v w row (Some claim) k is =
    let cell = k.cell (holding_held v row claim.word claim.stop is.1) in (
      is.0,
      record {
        is_phase = is.1.is_phase ∙ ap phase.Claimed (sym k.number);
        is_word = is.1.is_word ∙ ap (word_of false) (sym cell);
        is_content = subst (λ (c : Cell). IsWrittenOver c.content claim.stop) (sym cell) is.1.is_content;
      },
    )

-- while the tracer only looks, all claims are kept
pub looked_calls : {A : Type 0} (t u : TracerHandle) (rows : List Row) (held : List (Option (Claim A))) (counts : List ℕ)
    → IsTracerHandle t → IsCalls t rows held counts → Looked t.view u.view → IsCalls u rows held counts
looked_calls t u rows held counts is calls l = record {
  roster = calls.roster ∙ sym l.grows.same.roster;
  held_long = calls.held_long;
  counts_long = calls.counts_long;
  claims = λ row claim at.
      kept_claim t.view u.view row claim (keeps_look t.view u.view is.mine l row) (calls.claims row claim at);
}

-- the record of a row that is claimed is that of its claim
written_by : {A : Type 0} (v : View) (row : ℕ) (claim : Option (Claim A)) (recorded : Option Content)
    → KeepsClaim v row claim → is_held v row ≡ true → recorded ≡ record_of claim
    → IsWrittenOver (content_after v.roster v.seen row) (unwrap_or recorded (empty_content 0))
written_by v row None recorded kept held is = let clash : true ≡ false = sym held ∙ kept in cc
written_by v row (Some claim) recorded kept held is =
    subst (λ o. IsWrittenOver (content_after v.roster v.seen row) (unwrap_or o (empty_content 0))) (sym is)
    kept.1.is_content

pub has_records : {A : Type 0} (a : CallsHandle) (t : TracerHandle) (rows : List Row) (held : List (Option (Claim A)))
    (counts : List ℕ) → handle_of t counts (records_of held) ≡ a → IsCalls t rows held counts → HasRecords a
has_records a t rows held counts same calls =
    let long : length held ≡ length t.view.roster = calls.held_long ∙ ap length calls.roster in
    subst HasRecords same (record {
      long = length-map held record_of ∙ long;
      written = λ row within is.
          let low : row < length held = omega arith in
          written_by t.view row (get_or held row None) (get_or (records_of held) row None)
          (calls.claims row (get_or held row None) (slice_get-get_or held row None low)) is
          (get_or-map record_of held row None None low);
    })

-- a row that is not claimed has no claim
pub no_claim : {A : Type 0} (v : View) (row : ℕ) (claim : Option (Claim A)) → KeepsClaim v row claim
    → is_held v row ≡ false → claim ≡ None
no_claim v row None is free = refl
no_claim v row (Some claim) is free =
    let clash : true ≡ false = sym (holding_held v row claim.word claim.stop is.1) ∙ free in cc

-- a row that has something to report is not the caller's own
claimed_silent : (born : Bool) (k : ℕ) (tracer : ℕ) (deaths : Bool) (number status : ℕ)
    → ReportsStatus deaths number status (shown born k (phase.Claimed tracer)) → ⊥
claimed_silent born k tracer deaths number status is = elim is [ inl stop ↦ cc | inr death ↦ (let d = death.1 in cc) ]

pub reports_free : (v : View) (h : List Entry) → is_among v.number v.tracers ≡ true → AreLegal v.roster h
    → GoesOn (actors_of v) v.seen h → (row : ℕ) → row < length v.roster → (deaths : Bool) (number status : ℕ)
    → ReportsStatus deaths number status (state_after v.roster (history_of h) row) → is_held v row ≡ false
reports_free v h mine legal on row within deaths number status reports =
    elim (cases_Bool (is_held v row)) [
      | inr free ↦ free
      | inl held ↦
          let at = claimed_by_is v.number (cell_after v.roster h row).phase
          ((claim_at v h mine legal on row).0 ∙ held) in
          absurd (claimed_silent (is_born v.roster (history_of h) row) (cell_after v.roster h row).number v.number deaths
          number status
          (subst (ReportsStatus deaths number status)
          (shown_state v.roster h row within
          ∙ ap (shown (is_born v.roster (history_of h) row) (cell_after v.roster h row).number) at)
          reports))
    ]

-- ---- a tracer that has claimed nothing

pub free_row : (v : View) → held_rows v ≡ [] → (row : ℕ) → row < length v.roster → is_held v row ≡ false
free_row v none row within = none_in_range (is_held v) 0 (length v.roster) none row (omega arith) (omega arith)

pub nothing_kept : {A : Type 0} (v : View) (held : List (Option (Claim A))) → length held ≡ length v.roster
    → held_rows v ≡ [] → KeepsClaims v held → list_any is_some held ≡ false
nothing_kept v held long none claims =
    without_some held (λ row claim is.
    let within = slice_get_within held row (Some claim) is in
    let kept = claims row (Some claim) is in
    let clash : true ≡ false =
    sym (holding_held v row claim.word claim.stop kept.1) ∙ free_row v none row (omega arith) in cc)

pub nothing_yet : {A : Type 0} (v : View) (count : ℕ) → count ≡ length v.roster → held_rows v ≡ []
    → KeepsClaims {A = A} v (replicate count None)
nothing_yet v count long none row claim is =
    let at = replicate_place count row None claim is in
    subst (KeepsClaim v row) (sym at.1) (free_row v none row (let low = at.0 in omega arith))

-- ---- the calls by row

pub in_roster : {A : Type 0} (a : CallsHandle) (t : TracerHandle) (rows : List Row) (held : List (Option (Claim A)))
    (counts : List ℕ) (row : ℕ) → handle_of t counts (records_of held) ≡ a → IsCalls t rows held counts
    → row < length rows
    → row < length a.view.roster
in_roster a t rows held counts row same calls low =
    let long = ap length calls.roster ∙ ap (λ (h : CallsHandle). length h.view.roster) same in
    omega (arith, low, long)

module _ {A : Type 0} (a : CallsHandle) (t : TracerHandle) (rows : List Row) (held : List (Option (Claim A)))
    (counts : List ℕ) (same : handle_of t counts (records_of held) ≡ a) (calls : IsCalls t rows held counts) (row : ℕ)
    (claim : Option (Claim A)) (within : row < length a.view.roster) (stands : claim ≡ get_or held row claim) where
  low : row < length held
  low =
      let long : length held ≡ length a.view.roster =
      calls.held_long ∙ ap length calls.roster ∙ ap (λ (h : CallsHandle). length h.view.roster) same in
      omega arith

  keeps : KeepsClaim t.view row claim
  keeps = calls.claims row claim (slice_get_read held (length held) row claim refl low stands)

  pub not_claimed : claim ≡ None → is_held a.view row ≡ false
  not_claimed none =
      subst (λ (h : CallsHandle). is_held h.view row ≡ false) same (subst (KeepsClaim t.view row) none keeps)

  pub holding : (c : Claim A) → claim ≡ Some c → (c.row ≡ row) × IsHolding t.view row c.word c.stop
  holding c is = subst (KeepsClaim t.view row) is keeps

  pub has_claimed : (c : Claim A) → claim ≡ Some c → HasClaimedRow a row
  has_claimed c is =
      let k = holding c is in
      (within, subst (λ (h : CallsHandle). is_held h.view row ≡ true) same (holding_held t.view row c.word c.stop k.1))

  pub is_recorded : (c : Claim A) → claim ≡ Some c → c.stop ≡ claimed_record a row
  is_recorded c is =
      let at : get_or (records_of held) row None ≡ Some c.stop =
      get_or-map record_of held row claim None low ∙ ap record_of (sym stands ∙ is) in
      ap (λ o. unwrap_or o (empty_content 0)) (sym at) ∙ ap (λ (h : CallsHandle). claimed_record h row) same

-- ---- a restart

-- the row of a resume is not claimed any more
resumed_free : (v w : View) (before : List Entry) (row number : ℕ) (how : Restart) (content : Content)
    → EndsWith v w before (resume_of row number how v.number content) → is_held w row ≡ false
resumed_free v w before row number how content e =
    let x = resume_of row number how v.number content in
    ap (λ h. is_claimed_by w.number (cell_after w.roster h row).phase) e.seen
    ∙ ap (λ (c : Cell). is_claimed_by w.number c.phase) (own_cell w.roster x before row refl)

pub resumed_claims : {A : Type 0} (t t' : TracerHandle) (rows : List Row) (held : List (Option (Claim A)))
    (counts : List ℕ) (before : List Entry) (row number : ℕ) (how : Restart) (content : Content)
    (left : Option (Claim A)) → IsTracerHandle t → IsCalls t rows held counts
    → EndsWith t.view t'.view before (resume_of row number how t.view.number content) → left ≡ None
    → IsCalls t' rows (set held row left) counts
resumed_claims t t' rows held counts before row number how content left is calls e none = record {
  roster = calls.roster ∙ sym e.same.roster;
  held_long = length-set held row left ∙ calls.held_long;
  counts_long = calls.counts_long;
  claims = λ other claim at. elim (set_place held row other left claim at) [
    | inl here ↦
        subst (KeepsClaim t'.view other) (sym (here.1 ∙ none))
        (ap (is_held t'.view) here.0 ∙ resumed_free t.view t'.view before row number how content e)
    | inr beside ↦
        kept_claim t.view t'.view other claim
        (keeps_beside t.view t'.view before (resume_of row number how t.view.number content) is.mine e other beside.0)
        (calls.claims other claim beside.1)
  ];
}

-- the number of the stop that is resumed is that of its record
pub held_number : (v : View) (row : ℕ) (word : Word) (content : Content) → AreLegal v.roster v.seen
    → IsHolding v row word content → word.number ≡ content.number
held_number v row word content legal h =
    ap (λ (w : Word). w.number) h.is_word ∙ sym (content_number v.roster v.seen legal row).0
    ∙ sym h.is_content.number

pub made_restart : (a : CallsHandle) (t t' : TracerHandle) (counts : List ℕ) (records : List (Option Content))
    (row at number : ℕ) (how : Restart) (content : Content) → handle_of t counts records ≡ a → at ≡ row
    → number ≡ (claimed_record a row).number → content ≡ claimed_record a row
    → ((before : List Entry) × EndsWith t.view t'.view before (resume_of at number how t.view.number content))
    → (before : List Entry) × EndsWith a.view t'.view before
    (resume_of row (claimed_record a row).number how a.view.number (claimed_record a row))
made_restart a t t' counts records row at number how content same here is held made = (
  made.0,
  subst (λ n. EndsWith a.view t'.view made.0 (resume_of row n how a.view.number (claimed_record a row))) is
      (subst (λ r. EndsWith a.view t'.view made.0 (resume_of r number how a.view.number (claimed_record a row))) here
      (subst (λ c. EndsWith a.view t'.view made.0 (resume_of at number how a.view.number c)) held
      (subst (λ (h : CallsHandle). EndsWith h.view t'.view made.0 (resume_of at number how h.view.number content)) same
      made.1))),
)

-- ---- records

-- a claim has the record that its tracee published
pub taken_content : (v w : View) (row : ℕ) (content : Content) → Claims v w row content
    → content ≡ content_after w.roster w.seen row
taken_content v w row content c =
    let x = bare (event.Claim row content.number v.number) in
    let after : content_after w.roster w.seen row ≡ content_after v.roster c.0 row =
    ap (λ rows. content_after rows w.seen row) c.1.same.roster ∙ ap (λ h. content_after v.roster h row) c.1.seen
    ∙ own_content v.roster x c.0 in
    c.3 ∙ sym after

-- the records once the claim at a place is another
pub record_set : {A : Type 0} (held : List (Option (Claim A))) (row : ℕ) (claim : Option (Claim A))
    → records_of (set held row claim) ≡ set (records_of held) row (record_of claim)
record_set held row claim = map-set record_of held row claim

-- no claim has a record
pub no_records : (A : Type 0) (count : ℕ) → records_of {A = A} (replicate count None) ≡ replicate count None
no_records A zero = refl
no_records A (suc count) = ap (λ records. None ∷ records) (no_records A count)

-- a pid whose row is not claimed
pub not_claimed_pid : (a : CallsHandle) (pid : ℤ) (place : Option ℕ) (row : ℕ) → place ≡ row_of_pid a.view.roster pid
    → place ≡ Some row → is_held a.view row ≡ false → HasNotClaimed a pid
not_claimed_pid a pid place row is at free = λ other there.
    subst (λ r. is_held a.view r ≡ false) (same_Some row other (sym at ∙ is ∙ there)) free

-- a claim that is put back as it was
pub unchanged : {A : Type 0} (held : List (Option (Claim A))) (row : ℕ) (claim : Option (Claim A))
    → claim ≡ get_or held row claim → set held row claim ≡ held
unchanged held row claim stands = ap (set held row) stands ∙ set-get_or held row claim

-- the caller, once a claim that it has at a place has another record
pub rewritten : {A : Type 0} (a : CallsHandle) (t : TracerHandle) (held : List (Option (Claim A))) (counts : List ℕ)
    (row : ℕ) (claim : Claim A) (content : Content) → handle_of t counts (records_of held) ≡ a → claim.stop ≡ content
    → handle_of t counts (records_of (set held row (Some claim))) ≡ with_record a row content
rewritten a t held counts row claim content same is =
    ap (handle_of t counts)
    (record_set held row (Some claim) ∙ ap (λ s. set (records_of held) row (Some s)) is)
    ∙ ap (λ (h : CallsHandle). with_record h row content) same

-- and once it has the record that it had
pub put_back : {A : Type 0} (a : CallsHandle) (t : TracerHandle) (held : List (Option (Claim A))) (counts : List ℕ)
    (row : ℕ) (old claim : Claim A) (at : Option (Claim A)) → handle_of t counts (records_of held) ≡ a
    → at ≡ get_or held row at → at ≡ Some old → claim.stop ≡ old.stop
    → handle_of t counts (records_of (set held row (Some claim))) ≡ a
put_back a t held counts row old claim at same stands is stop =
    ap (handle_of t counts)
    (map-set_same record_of held row (Some claim) at (ap Some stop ∙ ap record_of (sym is ∙ stands)))
    ∙ same

-- the claim of a row, with another record, is a claim of the row as before
pub rewritten_claims : {A : Type 0} (t : TracerHandle) (rows : List Row) (held : List (Option (Claim A)))
    (counts : List ℕ) (row : ℕ) (claim : Claim A) → IsCalls t rows held counts → claim.row ≡ row
    → IsHolding t.view row claim.word claim.stop → IsCalls t rows (set held row (Some claim)) counts
rewritten_claims t rows held counts row claim calls at holding = record {
  roster = calls.roster;
  held_long = length-set held row (Some claim) ∙ calls.held_long;
  counts_long = calls.counts_long;
  claims = λ other one stands. elim (set_place held row other (Some claim) one stands) [
    | inl here ↦
        subst (KeepsClaim t.view other) (sym here.1)
        (subst (λ r. KeepsClaim t.view r (Some claim)) (sym here.0) (at, holding))
    | inr beside ↦ calls.claims other one beside.1
  ];
}

-- ---- stores

-- a store that is done was of a run that is all there
done_run : (end : RunEnd) → store_answer end ≡ Ok tt → end ≡ Full
done_run Full is = refl
done_run (Absent address) is = cc
done_run Top is = cc

pub done_stores : (r : Result (Unit {0}) Fault) (address count : ℕ) (memory : FlatMemory)
    → r ≡ store_answer (run_end memory address count) → r ≡ Ok tt → run_end memory address count ≡ Full
done_stores r address count memory answer is = done_run (run_end memory address count) (sym answer ∙ is)

pub refused_faults : (r : Result (Unit {0}) Fault) (address count : ℕ) (memory : FlatMemory) (fault : Fault)
    → r ≡ store_answer (run_end memory address count) → r ≡ Err fault → run_end memory address count ≡ Full → ⊥
refused_faults r address count memory fault answer is whole =
    let clash : Err fault ≡ Ok tt = sym is ∙ answer ∙ ap store_answer whole in cc
