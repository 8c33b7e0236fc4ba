-- A worker's thread: what its waits claim, the pieces of it, and its restarts.
use Rattle.std.proofs.Common.{refl, ◌≡◌, ◌≢◌, ◌+◌, ◌*◌, ◌<◌, ◌≤◌, ◌∷◌, ◌++◌, [], ℕ, zero, suc, Bool, true, false, List, Some}
use Rattle.std.proofs.Common.{None, Option, Err, length, inl, inr, ◌∙◌, sym, ap, subst, arith, eq-eqb, ne_eqb, filter}
use Rattle.std.proofs.Common.{cond, get_or, set}
use Rattle.std.specs.Option.{unwrap_or}
use Rattle.std.specs.Prelude.{MatchOption}
use Rattle.std.specs.List.{range_with_len}
use Rattle.std.proofs.lemmas.Bool.{cases_eq}
use Rattle.std.proofs.lemmas.List.{append_assoc, append-nil, get_or-set_same, length-set}
use Rattle.record_printer.specs.Piece.{Died, Piece}
use Rattle.record_printer.specs.declared.call.show.Show.{Show}
use Rattle.stop_history.specs.declared.actor.Actor.{Actor}
use Rattle.stop_history.specs.declared.actor.Actor.TheVariants.{Tracer}
use Rattle.stop_history.specs.declared.phase.Phase.TheVariants as phase
use Rattle.stop_history.specs.declared.roster.Row.{Row}
use Rattle.stop_history.specs.declared.state.State.TheVariants as state
use Rattle.stop_history.specs.Actor.{IsQuiet, actor_of}
use Rattle.stop_history.specs.Event as event
use Rattle.stop_history.specs.Event.{Event, events_of}
use Rattle.stop_history.specs.Roster.{IsRoster, row_at}
use Rattle.stop_history.specs.State.{is_born, number_in, state_after, state_in}
use Rattle.stop_history.specs.Word.{claimed_phase}
use Rattle.stop_history.proofs.States.{state_within}
use Rattle.stop_table.specs.Entry.{AreLegal, Cell, Entry, GoesOn, bare, cell_after, content_after, history_of}
use Rattle.stop_table.specs.Entry.{resume_of}
use Rattle.stop_table.specs.Handle.{EndsWith, Grows, IsSame, Looked}
use Rattle.stop_table.specs.Tracer.{IsTracerHandle, held_rows, is_claimed_by, is_held}
use Rattle.stop_table.specs.View.{View, actors_of, is_among}
use Rattle.stop_table.proofs.Entries.{cell_from, own_cell}
use Rattle.stop_table.proofs.Own.{same_actors}
use Rattle.stop_table.proofs.Walking.{itself, same_trans}
use Rattle.trace_calls.specs.declared.row_status.RowStatus.{RowStatus}
use Rattle.trace_calls.specs.Answer.{HasFound}
use Rattle.trace_calls.specs.ByRow.{HasClaimedRow, IsRowRestart}
use Rattle.trace_calls.specs.Handle.{CallsHandle, HasRecords, claimed_record, tracer_of}
use Rattle.stop_history.specs.WaitRequest.{anyone}
use Rattle.trace_calls.specs.Waiting.{NoChild}
use Rattle.trace_options.specs.declared.errno.Errno.{Errno}
use Rattle.trace_options.specs.declared.errno.Errno.TheVariants as errno
use Rattle.trace_calls.proofs.Keeping.{claim_at, free_row, keeps_beside, keeps_look}
use Rattle.trace_record.specs.Content.{Content, empty_content}
use Rattle.trace_calls.proofs.Settled.{no_death}
use Rattle.trace_calls.specs.RowStatus.{ReportsDeath}
use Rattle.trace_record.specs.Death.{IsDeath, death_status}
use Rattle.trace_record.specs.Resume.{IsResume}
use Rattle.trace_record.specs.Stop.{IsStop, stop_status}
use Rattle.trace_record.specs.declared.death.Death.{Death}
use Rattle.trace_record.proofs.Deaths.{same_death}
use Rattle.trace_record.specs.declared.resume.Resume.{Resume as Restart}
use Rattle.trace_record.specs.declared.stop.Stop.{Stop}
use Rattle.trace_script.specs.CaseFile.{CaseContent}
use Rattle.tracer_workers.specs.Config.{plan_of, policy_of, show_of}
use Rattle.tracer_workers.specs.Driven.{IsRestarted, IsTraced}
use Rattle.tracer_workers.specs.DrivenBy.{AreDrivenBy}
use Rattle.tracer_workers.specs.HistoryPieces.{stop_piece}
use Rattle.tracer_workers.specs.WorkerThread.{AreKept, AreOverForGood, AreServices, HasServed, HasWaited}
use Rattle.tracer_workers.specs.WorkerThread.{IsService, Restarts, RestartsByPolicy}
use Rattle.tracer_workers.specs.WorkerThread.{claimed_piece, own_pieces, pieces_claimed, worker_pieces_with}
use Rattle.tracer_workers.specs.declared.config.Config.{Config}
use Rattle.tracer_workers.proofs.AfterClaim.{not_by_claim}
use Rattle.tracer_workers.proofs.Claims.{last_stop, mode_in_range}
use Rattle.tracer_workers.proofs.Fitting.{IsNewestInRange, newest_in_range}

-- ---- the pieces of a tracer's claims

-- an event of another leaves them
quiet_piece : (show : Show) (rows : List Row) (actors : Actor → Bool) (tracer : ℕ) → actors (Tracer tracer) ≡ true
    → (h : List Entry) (e : Event) (pieces : List Piece) → actors (actor_of e) ≡ false
    → worker_pieces_with show rows tracer h e pieces ≡ pieces
quiet_piece show rows actors tracer mine h (event.Publish row number stop) pieces quiet = refl
quiet_piece show rows actors tracer mine h (event.Claim row number claimer) pieces quiet =
    elim (cases_eq claimer tracer) [
      | inl same ↦
          (let clash : true ≡ false = sym mine ∙ ap (λ n. actors (Tracer n)) (sym same) ∙ quiet in cc)
      | inr other ↦ rw (ne_eqb claimer tracer other) refl
    ]
quiet_piece show rows actors tracer mine h (event.Resume row number how claimer) pieces quiet = refl
quiet_piece show rows actors tracer mine h (event.Exit row death) pieces quiet = refl

quiet_pieces : (show : Show) (rows : List Row) (actors : Actor → Bool) (tracer : ℕ) → actors (Tracer tracer) ≡ true
    → (more h : List Entry) → IsQuiet actors (history_of more)
    → pieces_claimed show rows tracer (more ++ h) ≡ pieces_claimed show rows tracer h
quiet_pieces show rows actors tracer mine [] h quiet = refl
quiet_pieces show rows actors tracer mine (x ∷ more) h quiet =
    quiet_piece show rows actors tracer mine (more ++ h) x.event (pieces_claimed show rows tracer (more ++ h)) quiet.0
    ∙ quiet_pieces show rows actors tracer mine more h quiet.1

pub pieces_on : (show : Show) (v : View) (h : List Entry) → is_among v.number v.tracers ≡ true
    → GoesOn (actors_of v) v.seen h → pieces_claimed show v.roster v.number h ≡ own_pieces show v
pieces_on show v h mine on =
    ap (pieces_claimed show v.roster v.number) on.1
    ∙ quiet_pieces show v.roster (actors_of v) v.number mine on.0 v.seen on.2

pieces_same : (show : Show) (v w : View) → IsSame v w
    → own_pieces show w ≡ pieces_claimed show v.roster v.number w.seen
pieces_same show v w same = λ i. pieces_claimed show (same.roster i) (same.number i) w.seen

pub pieces_look : (show : Show) (v w : View) → is_among v.number v.tracers ≡ true → Grows v w
    → own_pieces show w ≡ own_pieces show v
pieces_look show v w mine g = pieces_same show v w g.same ∙ pieces_on show v w.seen mine g.goes_on

pub pieces_claim : (show : Show) (v w : View) (before : List Entry) (row number : ℕ)
    → is_among v.number v.tracers ≡ true → EndsWith v w before (bare (event.Claim row number v.number))
    → own_pieces show w
    ≡ own_pieces show v
    ++ claimed_piece show (row_at v.roster row).tid (content_after v.roster before row) (events_of row (history_of before))
    ∷ []
pieces_claim show v w before row number mine made =
    let piece =
    claimed_piece show (row_at v.roster row).tid (content_after v.roster before row) (events_of row (history_of before)) in
    pieces_same show v w made.same ∙ ap (pieces_claimed show v.roster v.number) made.seen
    ∙ rw (eq-eqb v.number v.number refl) (ap (λ pieces. pieces ++ piece ∷ []) (pieces_on show v before mine made.goes_on))

pub pieces_resume : (show : Show) (v w : View) (before : List Entry) (row number : ℕ) (how : Restart)
    (content : Content) → is_among v.number v.tracers ≡ true
    → EndsWith v w before (resume_of row number how v.number content)
    → own_pieces show w ≡ own_pieces show v
pieces_resume show v w before row number how content mine made =
    pieces_same show v w made.same ∙ ap (pieces_claimed show v.roster v.number) made.seen
    ∙ pieces_on show v before mine made.goes_on

-- ---- keeping them

pub kept_more : (before after kept : List Piece) (piece : Piece) → AreKept before after kept false
    → AreKept before (after ++ piece ∷ []) (kept ++ piece ∷ []) false
kept_more before after kept piece k =
    let all : after ≡ before ++ kept =
    k.all ∙ ap (λ missing. (before ++ kept) ++ missing) (k.whole refl) ∙ append-nil (before ++ kept) in
    record {
      missing = [];
      all = ap (λ pieces. pieces ++ piece ∷ []) all ∙ append_assoc before kept (piece ∷ [])
          ∙ sym (append-nil (before ++ (kept ++ piece ∷ [])));
      whole = λ none. refl;
    }

pub kept_more_by : (short : Bool) (old new : List Piece) (piece : Piece) → short ≡ false → new ≡ old ++ piece ∷ []
    → (before after : List Piece) → AreKept before after old short → AreKept before (after ++ piece ∷ []) new short
kept_more_by short old new piece whole is before after k =
    subst (AreKept before (after ++ piece ∷ []) new) (sym whole)
    (subst (λ kept. AreKept before (after ++ piece ∷ []) kept false) (sym is)
    (kept_more before after old piece (subst (AreKept before after old) whole k)))

-- ---- the last event of a row

stopped_last : (born : Bool) (es : List Event) (number raw : ℕ) → state_in born es ≡ state.Stopped number raw
    → (row : ℕ) × (at : Stop) × (older : List Event) × (es ≡ event.Publish row number at ∷ older) × (stop_status at ≡ raw)
stopped_last true [] number raw is = cc
stopped_last false [] number raw is = cc
stopped_last born (event.Publish row n at ∷ es) number raw is =
    let first : n ≡ number = cc in
    let second : stop_status at ≡ raw = cc in
    (row, at, es, ap (λ k. event.Publish row k at ∷ es) first, second)
stopped_last born (event.Claim row n tracer ∷ es) number raw is =
    not_by_claim (number_in es) tracer es (state.Stopped number raw) is refl
stopped_last born (event.Resume row n how tracer ∷ es) number raw is = cc
stopped_last born (event.Exit row death ∷ es) number raw is = cc

dead_last : (born : Bool) (es : List Event) (number raw : ℕ) → state_in born es ≡ state.Dead number raw
    → (row : ℕ) × (death : Death) × (older : List Event) × (es ≡ event.Exit row death ∷ older)
    × (death_status death ≡ raw) × (number_in older ≡ number)
dead_last true [] number raw is = cc
dead_last false [] number raw is = cc
dead_last born (event.Publish row n at ∷ es) number raw is = cc
dead_last born (event.Claim row n tracer ∷ es) number raw is =
    not_by_claim (number_in es) tracer es (state.Dead number raw) is refl
dead_last born (event.Resume row n how tracer ∷ es) number raw is = cc
dead_last born (event.Exit row death ∷ es) number raw is =
    let first : number_in es ≡ number = cc in
    let second : death_status death ≡ raw = cc in
    (row, death, es, refl, second, first)

-- ---- rows that are free

no_row : (f : ℕ → Bool) (start count : ℕ) → ((k : ℕ) → start ≤ k → k < start + count → f k ≡ false)
    → filter f (range_with_len start count) ≡ []
no_row f start zero none = refl
no_row f start (suc count) none =
    rw (none start (omega arith) (omega arith)) (no_row f (start + 1) count (λ k low high. none k (omega arith) (omega arith)))

pub all_free : (v : View) → ((row : ℕ) → row < length v.roster → is_held v row ≡ false) → held_rows v ≡ []
all_free v free = no_row (is_held v) 0 (length v.roster) (λ k low high. free k (omega arith))

-- ---- restarts by the policy

-- entries of others are no services
services_quiet : (config : Config) (rows : List Row) (actors : Actor → Bool) (quiet more h : List Entry)
    → IsQuiet actors (history_of quiet) → AreServices config rows actors more h
    → AreServices config rows actors (quiet ++ more) h
services_quiet config rows actors [] more h quiet services = services
services_quiet config rows actors (x ∷ rest) more h quiet services = (
  λ own. let clash : true ≡ false = sym own ∙ quiet.0 in cc,
  services_quiet config rows actors rest more h quiet.1 services,
)

-- what a handle has done up to a history
abbrev HasServedTo : Config → View → List Entry → Type 0
HasServedTo config u h =
    (more : List Entry) × (h ≡ more ++ u.seen) × AreServices config u.roster (actors_of u) more u.seen

restarts_on : (config : Config) (u v : View) (h : List Entry) → IsSame u v → GoesOn (actors_of v) v.seen h
    → RestartsByPolicy config u v → HasServedTo config u h
restarts_on config u v h same on r =
    let quiet = subst (λ actors. GoesOn actors v.seen h) (same_actors u v same) on in (
      quiet.0 ++ r.0,
      quiet.1 ∙ ap (λ seen. quiet.0 ++ seen) r.1 ∙ sym (append_assoc quiet.0 r.0 u.seen),
      services_quiet config u.roster (actors_of u) quiet.0 r.0 u.seen quiet.2 r.2,
    )

-- one service more
restarts_end : (config : Config) (u v w : View) (before : List Entry) (x : Entry) → IsSame u v → EndsWith v w before x
    → IsService config u.roster before x.event x.content → RestartsByPolicy config u v → RestartsByPolicy config u w
restarts_end config u v w before x same made service r =
    let on = restarts_on config u v before same made.goes_on r in (
      x ∷ on.0,
      made.seen ∙ ap (λ seen. x ∷ seen) on.1,
      (λ own. subst (λ seen. IsService config u.roster seen x.event x.content) on.1 service, on.2),
    )

-- services are those of a driven run
service_driven : (config : Config) (content : CaseContent) (h : List Entry) (e : Event) (carried : Content)
    → IsService config content.rows h e carried
    → IsTraced (plan_of config content) h e carried × IsRestarted (plan_of config content) h e carried
service_driven config content h (event.Claim row number tracer) carried service = (tt, tt)
service_driven config content h (event.Resume row number how tracer) carried service = (tt, service)
service_driven config content h (event.Publish row number stop) carried service = absurd service
service_driven config content h (event.Exit row death) carried service = absurd service

services_driven : (config : Config) (content : CaseContent) (actors : Actor → Bool) (more h : List Entry)
    → AreServices config content.rows actors more h → AreDrivenBy actors (plan_of config content) h
    → AreDrivenBy actors (plan_of config content) (more ++ h)
services_driven config content actors [] h services driven = driven
services_driven config content actors (x ∷ more) h services driven = (
  λ own. service_driven config content (more ++ h) x.event x.content (services.0 own),
  services_driven config content actors more h services.1 driven,
)

-- so what a handle's tracers had driven before stays driven
pub stays_driven : (config : Config) (content : CaseContent) (v w : View) → content.rows ≡ v.roster → IsSame v w
    → RestartsByPolicy config v w → AreDrivenBy (actors_of v) (plan_of config content) v.seen
    → AreDrivenBy (actors_of w) (plan_of config content) w.seen
stays_driven config content v w rows same r driven =
    let plan = plan_of config content in
    let services =
    subst (λ rows. AreServices config rows (actors_of v) r.0 v.seen) (sym rows) r.2 in
    subst (λ actors. AreDrivenBy actors plan w.seen) (sym (same_actors v w same))
    (subst (AreDrivenBy (actors_of v) plan) (sym r.1)
    (services_driven config content (actors_of v) r.0 v.seen services driven))

-- ---- what a wait has claimed

module _ (v : View) (b : CallsHandle) (found : RowStatus) (mine : is_among v.number v.tracers ≡ true)
    (none : held_rows v ≡ []) (h : HasWaited v b.view found) where
  abbrev w : View
  w = b.view

  abbrev before : List Entry
  before = h.claimed.0

  abbrev x : Entry
  x = bare (event.Claim found.row found.number v.number)

  abbrev es : List Event
  es = events_of found.row (history_of before)

  made : EndsWith v w before x
  made = h.claimed.1

  legal : AreLegal v.roster before
  legal =
      let now : AreLegal v.roster (x ∷ before) =
      subst (AreLegal v.roster) made.seen (subst (λ rows. AreLegal rows w.seen) made.same.roster made.legal) in now.1

  newest : IsNewestInRange es
  newest = newest_in_range v.roster before legal found.row

  state_is : state_after v.roster (history_of before) found.row ≡ state_in (is_born v.roster (history_of before) found.row) es
  state_is = state_within v.roster (history_of before) found.row h.within

  -- a stop is its row's last event
  stop_last : found.death ≡ None → (row : ℕ) × (at : Stop) × (older : List Event)
      × (es ≡ event.Publish row found.number at ∷ older) × (stop_status at ≡ h.raw)
  stop_last silent =
      elim h.claimed.2 [
        | inl stopped ↦
            stopped_last (is_born v.roster (history_of before) found.row) es found.number h.raw (sym state_is ∙ stopped)
        | inr dead ↦
            (let last = dead_last (is_born v.roster (history_of before) found.row) es found.number h.raw (sym state_is ∙ dead.1) in
            let ranged : IsDeath last.1 = subst IsNewestInRange last.3 newest in
            let unreported : ReportsDeath h.raw None = subst (ReportsDeath h.raw) silent h.reports in
            absurd (unreported last.1 ranged last.4))
      ]

  -- and so is a death
  death_last : (d : Death) → found.death ≡ Some d → (row : ℕ) × (older : List Event)
      × (es ≡ event.Exit row d ∷ older) × (number_in older ≡ found.number)
  death_last d says =
      let reported : ReportsDeath h.raw (Some d) = subst (ReportsDeath h.raw) says h.reports in
      elim h.claimed.2 [
        | inl stopped ↦
            (let last =
            stopped_last (is_born v.roster (history_of before) found.row) es found.number h.raw (sym state_is ∙ stopped) in
            absurd (no_death last.1 d reported.0 (last.4 ∙ sym reported.1)))
        | inr dead ↦
            (let last = dead_last (is_born v.roster (history_of before) found.row) es found.number h.raw (sym state_is ∙ dead.1) in
            let ranged : IsDeath last.1 = subst IsNewestInRange last.3 newest in
            let same : last.1 ≡ d = same_death last.1 d ranged reported.0 (last.4 ∙ sym reported.1) in
            (last.0, last.2, last.3 ∙ ap (λ y. event.Exit last.0 y ∷ last.2) same, last.5))
      ]

  others : (other : ℕ) → other ≢ found.row → other < length w.roster → is_held w other ≡ false
  others other apart within =
      let long = ap length made.same.roster in
      (keeps_beside v w before x mine made other apart).held ∙ free_row v none other (omega arith)

  own : cell_after w.roster w.seen found.row
      ≡ cell_from (x.event ∷ es) (content_after v.roster before found.row)
  own =
      (λ i. cell_after (made.same.roster i) (made.seen i) found.row) ∙ own_cell v.roster x before found.row refl

  pub holds : found.death ≡ None → HasClaimedRow b found.row
  holds silent =
      let last = stop_last silent in
      let claimed : claimed_phase v.number es ≡ phase.Claimed v.number = ap (claimed_phase v.number) last.3 in
      let long = ap length made.same.roster in
      let there = h.within in (
        omega (arith, there, long),
        ap (λ (c : Cell). is_claimed_by w.number c.phase) own ∙ ap (is_claimed_by w.number) claimed
            ∙ eq-eqb v.number w.number (sym made.same.number),
      )

  -- the pieces with that of the stop, and with that of the death
  pub stop_kept : (show : Show) → found.death ≡ None → claimed_record b found.row ≡ content_after w.roster w.seen found.row
      → own_pieces show w ≡ own_pieces show v ++ stop_piece show (claimed_record b found.row) ∷ []
  stop_kept show silent recorded =
      let last = stop_last silent in
      let content : content_after v.roster before found.row ≡ claimed_record b found.row =
      sym (ap (λ (c : Cell). c.content) own) ∙ sym recorded in
      pieces_claim show v w before found.row found.number mine made
      ∙ ap (λ es. own_pieces show v
      ++ claimed_piece show (row_at v.roster found.row).tid (content_after v.roster before found.row) es ∷ []) last.3
      ∙ ap (λ c. own_pieces show v ++ stop_piece show c ∷ []) content

  pub death_kept : (show : Show) (tid : ℕ) → tid ≡ (row_at w.roster found.row).tid → (d : Death) → found.death ≡ Some d
      → own_pieces show w ≡ own_pieces show v ++ Died tid found.number d ∷ []
  death_kept show tid says d dies =
      let last = death_last d dies in
      let same : (row_at v.roster found.row).tid ≡ tid =
      sym (says ∙ ap (λ rows. (row_at rows found.row).tid) made.same.roster) in
      pieces_claim show v w before found.row found.number mine made
      ∙ ap (λ es. own_pieces show v
      ++ claimed_piece show (row_at v.roster found.row).tid (content_after v.roster before found.row) es ∷ []) last.2
      ∙ (λ i. own_pieces show v ++ Died (same i) (last.3 i) d ∷ [])

  -- after the claim of a death no row is held
  pub death_free : (d : Death) → found.death ≡ Some d → held_rows w ≡ []
  death_free d dies =
      let last = death_last d dies in
      let reaped : claimed_phase v.number es ≡ phase.Reaped = ap (claimed_phase v.number) last.2 in
      let here : is_held w found.row ≡ false =
      ap (λ (c : Cell). is_claimed_by w.number c.phase) own ∙ ap (is_claimed_by w.number) reaped in
      all_free w (λ row within. elim (cases_eq row found.row) [
        | inl same ↦ ap (is_held w) same ∙ here
        | inr apart ↦ others row apart within
      ])

  claim_restarts : (config : Config) (u : View) → IsSame u v → RestartsByPolicy config u v → RestartsByPolicy config u w
  claim_restarts config u same r = restarts_end config u v w before x same made tt r

  -- the restart by the policy
  abbrev restarted_by : Config → (number : ℕ) → Entry
  restarted_by config number =
      resume_of found.row number (policy_of config (content_after w.roster w.seen found.row)) w.number
      (content_after w.roster w.seen found.row)

  -- nor is one after the restart
  pub restart_free : (config : Config) (z : View) → Restarts config w z found.row → held_rows z ≡ []
  restart_free config z r =
      let y = restarted_by config r.1 in
      let here : is_held z found.row ≡ false =
      (λ i. is_claimed_by z.number (cell_after (r.2.same.roster i) (r.2.seen i) found.row).phase)
      ∙ ap (λ (c : Cell). is_claimed_by z.number c.phase) (own_cell w.roster y r.0 found.row refl) in
      let mine_now : is_among w.number w.tracers ≡ true =
      (λ i. is_among (made.same.number i) (made.same.tracers i)) ∙ mine in
      all_free z (λ row within. elim (cases_eq row found.row) [
        | inl same ↦ ap (is_held z) same ∙ here
        | inr apart ↦
            (let long = ap length r.2.same.roster in
            (keeps_beside w z r.0 y mine_now r.2 row apart).held ∙ others row apart (omega arith))
      ])

  restart_restarts : (config : Config) (u z : View) → IsSame u w → is_held w found.row ≡ true → Restarts config w z found.row
      → RestartsByPolicy config u w → RestartsByPolicy config u z
  restart_restarts config u z same held r before =
      let y = restarted_by config r.1 in
      let mine_now : is_among w.number w.tracers ≡ true =
      (λ i. is_among (made.same.number i) (made.same.tracers i)) ∙ mine in
      let now : AreLegal w.roster (y ∷ r.0) =
      subst (AreLegal w.roster) r.2.seen (subst (λ roster. AreLegal roster z.seen) r.2.same.roster r.2.legal) in
      let cell = (claim_at w r.0 mine_now now.1 r.2.goes_on found.row).1 held in
      let stays : content_after w.roster w.seen found.row ≡ content_after u.roster r.0 found.row =
      sym (ap (λ (c : Cell). c.content) cell) ∙ ap (λ roster. content_after roster r.0 found.row) same.roster in
      restarts_end config u w z r.0 y same r.2 (ap (policy_of config) stays, stays) before

  -- what was served is more
  module _ (config : Config) (u : View) (kept more : List Piece) (short later : Bool)
      (served : HasServed config u v kept short) where
    pub served_death : (tid : ℕ) → tid ≡ (row_at w.roster found.row).tid → (d : Death) → found.death ≡ Some d
        → AreKept (own_pieces (show_of config) u) (own_pieces (show_of config) v ++ Died tid found.number d ∷ []) more later
        → HasServed config u w more later
    served_death tid says d dies k = record {
      same = same_trans u v w served.same made.same;
      free = death_free d dies;
      pieces = subst (λ all. AreKept (own_pieces (show_of config) u) all more later)
          (sym (death_kept (show_of config) tid says d dies)) k;
      restarts = claim_restarts config u served.same served.restarts;
    }

    pub served_stop : found.death ≡ None → claimed_record b found.row ≡ content_after w.roster w.seen found.row
        → (z : View) → Restarts config w z found.row
        → AreKept (own_pieces (show_of config) u)
        (own_pieces (show_of config) v ++ stop_piece (show_of config) (claimed_record b found.row) ∷ []) more later
        → HasServed config u z more later
    served_stop silent recorded z r k =
        let mine_now : is_among w.number w.tracers ≡ true =
        (λ i. is_among (made.same.number i) (made.same.tracers i)) ∙ mine in
        let all =
        pieces_resume (show_of config) w z r.0 found.row r.1
        (policy_of config (content_after w.roster w.seen found.row)) (content_after w.roster w.seen found.row) mine_now r.2
        ∙ stop_kept (show_of config) silent recorded in
        record {
          same = same_trans u w z (same_trans u v w served.same made.same) r.2.same;
          free = restart_free config z r;
          pieces = subst (λ all. AreKept (own_pieces (show_of config) u) all more later) (sym all) k;
          restarts = restart_restarts config u z (same_trans u v w served.same made.same) (holds silent).1 r
              (claim_restarts config u served.same served.restarts);
        }

-- ---- a tracer's handle

pub tracer_on : (a b : CallsHandle) → IsTracerHandle (tracer_of a) → IsSame a.view b.view
    → AreLegal b.view.roster b.view.seen → IsTracerHandle (tracer_of b)
tracer_on a b is same legal =
    let few = is.few in
    let number = same.number in
    record {
      few = omega (arith, few, number);
      placed = subst IsRoster (sym same.roster) is.placed;
      mine = (λ i. is_among (same.number i) (same.tracers i)) ∙ is.mine;
      legal = legal;
    }

-- ---- restarts

pub restart_ranged : (config : Config) (a : CallsHandle) → IsTracerHandle (tracer_of a) → HasRecords a → (row : ℕ)
    → HasClaimedRow a row → IsResume (policy_of config (claimed_record a row))
restart_ranged config a is records row has =
    mode_in_range config.seccomp config.shown (claimed_record a row)
    (subst IsStop (sym (records.written row has.0 has.1).stop) (last_stop a.view.roster a.view.seen is.legal row))

pub not_refused : (a z : CallsHandle) (row : ℕ) (how : Restart) (e : Errno) → HasClaimedRow a row → IsResume how
    → IsRowRestart a z row how (Err e) → ⊥
not_refused a z row how errno.ESRCH has ranged is =
    let clash : true ≡ false = sym has.1 ∙ is.0 has.0 in cc
not_refused a z row how errno.EIO has ranged is = let big = is.1 in omega (arith, ranged, big)
not_refused a z row how errno.EINVAL has ranged is = is
not_refused a z row how errno.ECHILD has ranged is = is

-- ---- waits

pub no_child : (a b : CallsHandle) → NoChild anyone a.view b.view
    → Looked a.view b.view × AreOverForGood b.view.roster b.view.seen
no_child a b none = (
  none.looked,
  subst (λ rows. AreOverForGood rows b.view.seen) (sym none.looked.grows.same.roster)
      (λ more legal row within. none.final refl more legal row (within, refl)),
)

pub none_found : (a b : CallsHandle) (r : Option RowStatus) → ((found : RowStatus) → r ≡ Some found → ⊥)
    → MatchOption r (NoChild anyone a.view b.view) (λ found. HasFound a b found) → NoChild anyone a.view b.view
none_found a b None other is = is
none_found a b (Some found) other is = absurd (other found refl)

pub waited : (a b : CallsHandle) (found : RowStatus) → HasFound a b found → HasWaited a.view b.view found
waited a b found has =
    let is = has.1 in
    record {
      raw = is.raw;
      within = is.is_found.0.selected.0;
      claimed = is.is_found.1;
      reports = is.reports;
    }

-- the row that a wait has found is one of the roster
pub found_within : (a b : CallsHandle) (found : RowStatus) → HasFound a b found → found.row < length b.view.roster
found_within a b found has =
    let is = waited a b found has in
    let there = is.within in
    let long = ap length is.claimed.1.same.roster in
    omega (arith, there, long)

-- the record of a stop that a wait has claimed is the one that its tracee published
pub recorded : (a b : CallsHandle) (found : RowStatus) → HasFound a b found → HasClaimedRow b found.row → HasRecords b
    → claimed_record b found.row ≡ content_after b.view.roster b.view.seen found.row
recorded a b found answer has records =
    let is = answer.1 in
    let content = content_after b.view.roster b.view.seen found.row in
    let made : b.records ≡ set a.records found.row (Some content) =
    is.records ∙ ap (λ held. cond held (set a.records found.row (Some content)) a.records) has.1 in
    let long : length b.records ≡ length a.records =
    ap length made ∙ length-set a.records found.row (Some content) in
    let there = has.0 in
    let all = records.long in
    let low : found.row < length a.records = omega (arith, there, all, long) in
    ap (λ o. unwrap_or o (empty_content 0))
    (ap (λ records. get_or records found.row None) made ∙ get_or-set_same a.records found.row (Some content) None low)

-- ---- a worker's loop

pub served_none : (config : Config) (v : View) → held_rows v ≡ [] → HasServed config v v [] false
served_none config v none = record {
  same = itself v;
  free = none;
  pieces = record {
    missing = [];
    all = sym (append-nil (own_pieces (show_of config) v ++ []) ∙ append-nil (own_pieces (show_of config) v));
    whole = λ whole. refl;
  };
  restarts = ([], refl, tt);
}

pub served_look : (config : Config) (u v w : View) (kept : List Piece) (short : Bool) → is_among v.number v.tracers ≡ true
    → Looked v w → HasServed config u v kept short → HasServed config u w kept short
served_look config u v w kept short mine looked served =
    let same = looked.grows.same in
    record {
      same = same_trans u v w served.same same;
      free = all_free w (λ row within.
          (keeps_look v w mine looked row).held
          ∙ free_row v served.free row (let long = ap length same.roster in omega (arith, within, long)));
      pieces = subst (λ all. AreKept (own_pieces (show_of config) u) all kept short)
          (sym (pieces_look (show_of config) v w mine looked.grows)) served.pieces;
      restarts = restarts_on config u v w.seen served.same looked.grows.goes_on served.restarts;
    }
