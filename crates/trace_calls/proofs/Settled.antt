-- What a scan found, as it is answered and kept.
use Rattle.std.proofs.Common.{refl, ◌≡◌, ◌≢◌, ◌<◌, ◌+◌, ◌*◌, ◌∷◌, [], ℕ, Bool, true, false, List, length}
use Rattle.std.proofs.Common.{Option, Some, None, Result, ◌∙◌, sym, ap, cond, inl, inr, arith, set, subst}
use Rattle.std.specs.List.{slice_get}
use Rattle.std.proofs.lemmas.Bool.{cases_eq}
use Rattle.std.proofs.lemmas.List.{length-set}
use Rattle.std.proofs.lemmas.Option.{slice_get-get_or}
use Rattle.trace_options.specs.declared.errno.Errno.{Errno}
use Rattle.trace_status.specs.WaitStatus.{pid_of}
use Rattle.trace_record.specs.Content.{Content}
use Rattle.trace_record.specs.Death.{IsDeath, death_status, death_wait_status}
use Rattle.trace_record.specs.Stop.{stop_status, stop_wait_status}
use Rattle.trace_record.specs.declared.death.Death.{Death}
use Rattle.trace_record.specs.declared.death.Death.TheVariants as death
use Rattle.trace_record.specs.declared.stop.Stop.{Stop}
use Rattle.trace_record.specs.declared.stop.Stop.TheVariants as stop
use Rattle.stop_history.specs.declared.roster.Row.{Row}
use Rattle.stop_history.specs.Event as event
use Rattle.stop_history.specs.Event.{Event, History, events_of, subject}
use Rattle.stop_history.specs.Ranges.{AreInRange}
use Rattle.stop_history.specs.State.{claimed_state, is_born, number_in, state_after, state_in}
use Rattle.stop_history.proofs.Events.{other_events, own_events}
use Rattle.stop_history.proofs.States.{state_within}
use Rattle.stop_table.specs.declared.claim.Claim.{Claim}
use Rattle.stop_table.specs.Entry.{AreLegal, Begins, Entry, bare, content_after, history_of}
use Rattle.stop_table.specs.Handle.{EndsWith, Looked}
use Rattle.stop_table.specs.Tracer.{IsTracerHandle, TracerHandle, is_held}
use Rattle.stop_table.specs.View.{View}
use Rattle.stop_table.proofs.Entries.{legal_back, ranged_history}
use Rattle.stop_table.proofs.Walking.{legal_after}
use Rattle.stop_history.specs.declared.wait_request.WaitRequest.{WaitRequest}
use Rattle.trace_calls.specs.declared.row_status.RowStatus.{RowStatus}
use Rattle.trace_calls.specs.declared.scan.Finding.{Finding}
use Rattle.trace_calls.specs.declared.scan.Finding.TheVariants as finding
use Rattle.trace_calls.specs.Answer.{IsRowAnswer, IsStatusOf, records_with}
use Rattle.trace_calls.specs.Handle.{CallsHandle, IsCalls, KeepsClaim, KeepsClaims, handle_of, records_of}
use Rattle.trace_calls.specs.RowStatus.{ReportsDeath}
use Rattle.trace_calls.specs.Scan.{IsFinding}
use Rattle.trace_calls.specs.Settling.{AnswersStatus, CanSettle, IsReportable, Settles}
use Rattle.trace_calls.specs.Waiting.{Found, ReportsStatus, Took}
use Rattle.trace_calls.proofs.Keeping.{holding_held, kept_claim, keeps_beside, keeps_look, looked_calls}
use Rattle.trace_calls.proofs.Keeping.{no_claim, record_set, reports_free}
use Rattle.trace_calls.proofs.Places.{set_place}

-- ---- statuses

pub pid_of_stop : (pid : ℕ) (s : Stop) → pid_of (stop_wait_status pid s) ≡ Some pid
pid_of_stop pid stop.Start = refl
pid_of_stop pid stop.Enter = refl
pid_of_stop pid stop.Exit = refl
pid_of_stop pid (stop.Seccomp ret_data) = refl
pid_of_stop pid (stop.Fork child) = refl
pid_of_stop pid (stop.Clone child) = refl
pid_of_stop pid (stop.Exec former) = refl
pid_of_stop pid (stop.Signal signal) = refl
pid_of_stop pid (stop.Ending death) = refl

pub pid_of_death : (pid : ℕ) (d : Death) → pid_of (death_wait_status pid d) ≡ Some pid
pid_of_death pid (death.Exited code) = refl
pid_of_death pid (death.Signaled signal core) = refl

-- the low byte of a stop's raw status
stop_low : (s : Stop) → (high : ℕ) × (stop_status s ≡ high * 0x100 + 127)
stop_low stop.Start = (128 * 0x100 + 5, refl)
stop_low stop.Enter = (0x85, refl)
stop_low stop.Exit = (0x85, refl)
stop_low (stop.Seccomp ret_data) = (7 * 0x100 + 5, refl)
stop_low (stop.Fork child) = (1 * 0x100 + 5, refl)
stop_low (stop.Clone child) = (3 * 0x100 + 5, refl)
stop_low (stop.Exec former) = (4 * 0x100 + 5, refl)
stop_low (stop.Signal signal) = (signal, refl)
stop_low (stop.Ending death) = (6 * 0x100 + 5, refl)

-- a stop's raw status reports no death
pub no_death : (s : Stop) (d : Death) → IsDeath d → stop_status s ≡ death_status d → ⊥
no_death s (death.Exited code) ranged same = let low = (stop_low s).1 in omega (arith, low, same)
no_death s (death.Signaled signal true) ranged same = let low = (stop_low s).1 in omega (arith, low, same, ranged)
no_death s (death.Signaled signal false) ranged same = let low = (stop_low s).1 in omega (arith, low, same, ranged)

-- the events of one row are in range with all others
ranged_events : (row : ℕ) (h : History) → AreInRange h → AreInRange (events_of row h)
ranged_events row [] ranged = tt
ranged_events row (e ∷ h) ranged =
    elim (cases_eq (subject e) row) [
      | inl own ↦ subst AreInRange (sym (own_events row e h own)) (ranged.0, ranged_events row h ranged.1)
      | inr other ↦ subst AreInRange (sym (other_events row e h other)) (ranged_events row h ranged.1)
    ]

claim_silent : (number tracer : ℕ) (es : List Event) (deaths : Bool) (n status : ℕ)
    → ReportsStatus deaths n status (claimed_state number tracer es) → IsReportable status
claim_silent number tracer [] deaths n status (inl is) = cc
claim_silent number tracer [] deaths n status (inr is) = (let d = is.1 in cc)
claim_silent number tracer (event.Publish row k s ∷ es) deaths n status (inl is) = cc
claim_silent number tracer (event.Publish row k s ∷ es) deaths n status (inr is) = (let d = is.1 in cc)
claim_silent number tracer (event.Claim row k other ∷ es) deaths n status (inl is) = cc
claim_silent number tracer (event.Claim row k other ∷ es) deaths n status (inr is) = (let d = is.1 in cc)
claim_silent number tracer (event.Resume row k how other ∷ es) deaths n status (inl is) = cc
claim_silent number tracer (event.Resume row k how other ∷ es) deaths n status (inr is) = (let d = is.1 in cc)
claim_silent number tracer (event.Exit row d ∷ es) deaths n status (inl is) = cc
claim_silent number tracer (event.Exit row d ∷ es) deaths n status (inr is) = (let e = is.1 in cc)

reportable_in : (born : Bool) (es : List Event) → AreInRange es → (deaths : Bool) (n status : ℕ)
    → ReportsStatus deaths n status (state_in born es) → IsReportable status
reportable_in true [] ranged deaths n status (inl is) = cc
reportable_in true [] ranged deaths n status (inr is) = (let d = is.1 in cc)
reportable_in false [] ranged deaths n status (inl is) = cc
reportable_in false [] ranged deaths n status (inr is) = (let d = is.1 in cc)
reportable_in born (event.Publish row k s ∷ es) ranged deaths n status (inl is) =
    inl (s, ranged.0, (let same : stop_status s ≡ status = cc in same))
reportable_in born (event.Publish row k s ∷ es) ranged deaths n status (inr is) = (let d = is.1 in cc)
reportable_in born (event.Claim row k tracer ∷ es) ranged deaths n status is =
    claim_silent (number_in es) tracer es deaths n status is
reportable_in born (event.Resume row k how tracer ∷ es) ranged deaths n status (inl is) = cc
reportable_in born (event.Resume row k how tracer ∷ es) ranged deaths n status (inr is) = (let d = is.1 in cc)
reportable_in born (event.Exit row d ∷ es) ranged deaths n status (inl is) = cc
reportable_in born (event.Exit row d ∷ es) ranged deaths n status (inr is) =
    inr (d, ranged.0, (let e = is.1 in let same : death_status d ≡ status = cc in same))

reportable : (rows : List Row) (h : List Entry) → AreLegal rows h → (row : ℕ) → row < length rows
    → (deaths : Bool) (n status : ℕ) → ReportsStatus deaths n status (state_after rows (history_of h) row)
    → IsReportable status
reportable rows h legal row within deaths n status is =
    reportable_in (is_born rows (history_of h) row) (events_of row (history_of h))
    (ranged_events row (history_of h) (ranged_history rows h legal)) deaths n status
    (subst (ReportsStatus deaths n status) (state_within rows (history_of h) row within) is)

-- the history before a claim is legal
legal_before : (v w : View) (before : List Entry) (x : Entry) → EndsWith v w before x → AreLegal v.roster before
legal_before v w before x e =
    (subst (AreLegal v.roster) e.seen (subst (λ rows. AreLegal rows w.seen) e.same.roster e.legal)).1

legal_point : (v w : View) (h : List Entry) → Looked v w → Begins h w.seen → AreLegal v.roster h
legal_point v w h l on = legal_back v.roster on.0 h (subst (AreLegal v.roster) on.1 (legal_after v w l))

found_reportable : (request : WaitRequest) (v w : View) (row number status : ℕ) → (keeps : Bool) → row < length v.roster
    → Took keeps request.deaths v w row number status → IsReportable status
found_reportable request v w row number status true within took =
    reportable v.roster took.1.point (legal_point v w took.1.point took.0 took.1.later) row within request.deaths number
    status took.1.state
found_reportable request v w row number status false within took =
    reportable v.roster took.0 (legal_before v w took.0 (bare (event.Claim row number v.number)) took.1) row within
    request.deaths number status took.2

-- a row that was claimed was not the caller's own
was_free : (request : WaitRequest) (t : TracerHandle) (w : View) (row number status : ℕ) → (keeps : Bool)
    → keeps ≡ false → IsTracerHandle t → row < length t.view.roster
    → Took keeps request.deaths t.view w row number status → is_held t.view row ≡ false
was_free request t w row number status true keeps is within took = cc
was_free request t w row number status false keeps is within took =
    let x = bare (event.Claim row number t.view.number) in
    reports_free t.view took.0 is.mine (legal_before t.view w took.0 x took.1) took.1.goes_on row within request.deaths
    number status took.2

-- a row that was shown is not the caller's own
shown_free : (request : WaitRequest) (t : TracerHandle) (w : View) (row number status : ℕ) → (keeps : Bool) → keeps ≡ true
    → IsTracerHandle t → row < length t.view.roster → Took keeps request.deaths t.view w row number status
    → is_held w row ≡ false
shown_free request t w row number status false keeps is within took = cc
shown_free request t w row number status true keeps is within took =
    (keeps_look t.view w is.mine took.0 row).held
    ∙ reports_free t.view took.1.point is.mine (legal_point t.view w took.1.point took.0 took.1.later) took.1.sooner row
    within request.deaths number status took.1.state

-- the records once a claim was kept, and where none was
kept_record : (w : View) (row : ℕ) (content : Content) (records : List (Option Content)) → is_held w row ≡ true
    → content ≡ content_after w.roster w.seen row → set records row (Some content) ≡ records_with w row records
kept_record w row content records held is =
    ap (λ c. set records row (Some c)) is
    ∙ ap (λ b. cond b (set records row (Some (content_after w.roster w.seen row))) records) (sym held)

no_record : (w : View) (row : ℕ) (records : List (Option Content)) → is_held w row ≡ false
    → records ≡ records_with w row records
no_record w row records free =
    ap (λ b. cond b (set records row (Some (content_after w.roster w.seen row))) records) (sym free)

module _ {A : Type 0} (request : WaitRequest) (rows : List Row) (t t' : TracerHandle) (held : List (Option (Claim A)))
    (counts : List ℕ) (is : IsTracerHandle t) (calls : IsCalls t rows held counts) where
  there : (row : ℕ) → row < length t.view.roster → row < length rows
  there row within = subst (λ rs. row < length rs) (sym calls.roster) within

  claim_of : (row : ℕ) → row < length rows → (claim : Option (Claim A)) × (slice_get held row ≡ Some claim)
  claim_of row within =
      let long = calls.held_long in
      (_, slice_get-get_or held row None (omega arith))

  pub placed : (found : Finding A) → IsFinding request t.view t'.view found → CanSettle rows held found
  placed (finding.Stop claim) f =
      let row = claim.row in
      let within = f.1.0.selected.0 in
      let took = f.1.1 in
      let status = stop_status claim.stop.stop in
      let at = claim_of row (there row within) in
      let free = was_free request t t'.view row claim.stop.number status request.keeps f.0 is within took in (
        there row within,
        found_reportable request t.view t'.view row claim.stop.number status request.keeps within took,
        at.1 ∙ ap Some (no_claim t.view row at.0 (calls.claims row at.0 at.1) free),
      )
  placed (finding.Ended row d number) f = (
    there row f.1.0.selected.0,
    found_reportable request t.view t'.view row number (death_status d) request.keeps f.1.0.selected.0 f.1.1,
  )
  placed (finding.Shows row number status) f = (
    there row f.1.0.selected.0,
    found_reportable request t.view t'.view row number status request.keeps f.1.0.selected.0 f.1.1,
  )
  placed finding.NothingYet f = tt
  placed finding.NoChild f = tt

  -- ---- what is kept

  -- while the tracer makes no event
  kept_looking : Looked t.view t'.view → KeepsClaims t'.view held
  kept_looking l row claim at = (looked_calls t t' rows held counts is calls l).claims row claim at

  -- where it makes one of another row
  kept_beside : (at number status : ℕ) → (keeps : Bool) → keeps ≡ false
      → Took keeps request.deaths t.view t'.view at number status → (row : ℕ) → row ≢ at → (claim : Option (Claim A))
      → slice_get held row ≡ Some claim → KeepsClaim t'.view row claim
  kept_beside at number status true none took row other claim stands = cc
  kept_beside at number status false none took row other claim stands =
      kept_claim t.view t'.view row claim
      (keeps_beside t.view t'.view took.0 (bare (event.Claim at number t.view.number)) is.mine took.1 row other)
      (calls.claims row claim stands)

  looked_by : (row number status : ℕ) → (keeps : Bool) → keeps ≡ true
      → Took keeps request.deaths t.view t'.view row number status → Looked t.view t'.view
  looked_by row number status true none took = took.0
  looked_by row number status false none took = cc

  took_roster : (row number status : ℕ) → (keeps : Bool)
      → Took keeps request.deaths t.view t'.view row number status → t'.view.roster ≡ t.view.roster
  took_roster row number status true took = took.0.grows.same.roster
  took_roster row number status false took = took.1.same.roster

  same_roster : (found : Finding A) → IsFinding request t.view t'.view found → t'.view.roster ≡ t.view.roster
  same_roster (finding.Stop claim) f =
      took_roster claim.row claim.stop.number (stop_status claim.stop.stop) request.keeps f.1.1
  same_roster (finding.Ended row d number) f = took_roster row number (death_status d) request.keeps f.1.1
  same_roster (finding.Shows row number status) f = took_roster row number status request.keeps f.1.1
  same_roster finding.NothingYet f = f.looked.grows.same.roster
  same_roster finding.NoChild f = f.looked.grows.same.roster

  kept_claims : (held' : List (Option (Claim A))) (counts' : List ℕ) (result : Result (Option RowStatus) Errno)
      → (found : Finding A) → IsFinding request t.view t'.view found
      → Settles rows held held' counts counts' found result → KeepsClaims t'.view held'
  kept_claims held' counts' result (finding.Stop claim) f s row other at =
      elim (set_place held claim.row row (Some claim) other (ap (λ h. slice_get h row) (sym s.1) ∙ at)) [
        | inl here ↦
            subst (KeepsClaim t'.view row) (sym here.1)
            (subst (λ r. KeepsClaim t'.view r (Some claim)) (sym here.0) (refl, f.2))
        | inr beside ↦
            kept_beside claim.row claim.stop.number (stop_status claim.stop.stop) request.keeps f.0 f.1.1 row beside.0 other
            beside.1
      ]
  kept_claims held' counts' result (finding.Ended at d number) f s row other stands =
      let was = ap (λ h. slice_get h row) (sym s.1) ∙ stands in
      elim (cases_eq row at) [
        | inl here ↦
            let free = was_free request t t'.view at number (death_status d) request.keeps f.0 is f.1.0.selected.0 f.1.1 in
            let none = no_claim t.view row other (calls.claims row other was) (ap (is_held t.view) here ∙ free) in
            subst (KeepsClaim t'.view row) (sym none) (ap (is_held t'.view) here ∙ f.2)
        | inr beside ↦ kept_beside at number (death_status d) request.keeps f.0 f.1.1 row beside other was
      ]
  kept_claims held' counts' result (finding.Shows at number status) f s row other stands =
      kept_looking (looked_by at number status request.keeps f.0 f.1.1) row other
      (ap (λ h. slice_get h row) (sym s.1) ∙ stands)
  kept_claims held' counts' result finding.NothingYet f s row other stands =
      kept_looking f.looked row other (ap (λ h. slice_get h row) (sym s.1) ∙ stands)
  kept_claims held' counts' result finding.NoChild f s row other stands =
      kept_looking f.looked row other (ap (λ h. slice_get h row) (sym s.1) ∙ stands)

  held_long : (held' : List (Option (Claim A))) (counts' : List ℕ) (result : Result (Option RowStatus) Errno)
      → (found : Finding A) → Settles rows held held' counts counts' found result
      → (length held' ≡ length held) × (length counts' ≡ length counts)
  held_long held' counts' result (finding.Stop claim) s =
      (ap length s.1 ∙ length-set held claim.row (Some claim), ap length s.0.1 ∙ length-set counts claim.row claim.stop.number)
  held_long held' counts' result (finding.Ended row d number) s =
      (ap length s.1, ap length s.0.1 ∙ length-set counts row number)
  held_long held' counts' result (finding.Shows row number status) s =
      (ap length s.1, ap length s.0.2.1 ∙ length-set counts row number)
  held_long held' counts' result finding.NothingYet s = (ap length s.1, ap length s.2)
  held_long held' counts' result finding.NoChild s = (ap length s.1, ap length s.2)

  pub kept : (held' : List (Option (Claim A))) (counts' : List ℕ) (result : Result (Option RowStatus) Errno)
      → (found : Finding A) → IsFinding request t.view t'.view found
      → Settles rows held held' counts counts' found result → IsCalls t' rows held' counts'
  kept held' counts' result found f s =
      let long = held_long held' counts' result found s in
      record {
        roster = calls.roster ∙ sym (same_roster found f);
        held_long = long.0 ∙ calls.held_long;
        counts_long = long.1 ∙ calls.counts_long;
        claims = kept_claims held' counts' result found f s;
      }

  -- ---- what is answered

  abbrev before : CallsHandle
  before = handle_of t counts (records_of held)

  abbrev after : List (Option (Claim A)) → List ℕ → CallsHandle
  after held' counts' = handle_of t' counts' (records_of held')

  answers_row : (held' : List (Option (Claim A))) (counts' : List ℕ) (result : Result (Option RowStatus) Errno)
      (row number raw : ℕ) (died : Option Death) → Found request t.view t'.view row number raw → ReportsDeath raw died
      → AnswersStatus rows counts counts' row number raw died result
      → records_of held' ≡ records_with t'.view row (records_of held)
      → IsRowAnswer request before (after held' counts') result
  answers_row held' counts' result row number raw died f reports s records =
      subst (IsRowAnswer request before (after held' counts')) (sym s.0.1)
      (record {
        raw = raw;
        is_found = f;
        is_status = subst (λ rs. IsStatusOf rs row raw s.0.0) calls.roster s.0.2;
        reports = reports;
        counts = s.1;
        records = records;
      })

  pub answered : (held' : List (Option (Claim A))) (counts' : List ℕ) (result : Result (Option RowStatus) Errno)
      → (found : Finding A) → IsFinding request t.view t'.view found
      → Settles rows held held' counts counts' found result
      → IsRowAnswer request before (after held' counts') result
  answered held' counts' result (finding.Stop claim) f s =
      answers_row held' counts' result claim.row claim.stop.number (stop_status claim.stop.stop) None f.1
      (λ d ranged same. no_death claim.stop.stop d ranged (sym same)) s.0
      (ap records_of s.1 ∙ record_set held claim.row (Some claim)
      ∙ kept_record t'.view claim.row claim.stop (records_of held)
      (holding_held t'.view claim.row claim.word claim.stop f.2) f.3)
  answered held' counts' result (finding.Ended row d number) f s =
      answers_row held' counts' result row number (death_status d) (Some d) f.1 (f.3, refl) s.0
      (ap records_of s.1 ∙ no_record t'.view row (records_of held) f.2)
  answered held' counts' result (finding.Shows row number status) f s =
      answers_row held' counts' result row number status s.0.0 f.1 s.0.1 s.0.2
      (ap records_of s.1
      ∙ no_record t'.view row (records_of held)
      (shown_free request t t'.view row number status request.keeps f.0 is f.1.0.selected.0 f.1.1))
  answered held' counts' result finding.NothingYet f s =
      subst (IsRowAnswer request before (after held' counts')) (sym s.0) (f, (s.2, ap records_of s.1))
  answered held' counts' result finding.NoChild f s =
      subst (IsRowAnswer request before (after held' counts')) (sym s.0) (f, (s.2, ap records_of s.1))
