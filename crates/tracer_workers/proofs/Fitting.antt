-- In a driven run of a case, what comes next in a script is a stop that its row may make, or a death.
use Rattle.std.proofs.Common.{refl, ◌≡◌, ◌<◌, ◌≤◌, ◌+◌, ◌∷◌, [], ℕ, true, List, Option, Some, None, length}
use Rattle.std.proofs.Common.{is_some, cond, ◌∙◌, sym, ap, subst, inl, inr, arith}
use Rattle.std.proofs.lemmas.Bool.{cases_eq}
use Rattle.trace_record.specs.Content.{Content}
use Rattle.trace_record.specs.Death.{IsDeath}
use Rattle.trace_record.specs.Resume.{IsResume}
use Rattle.trace_record.specs.Stop.{IsStop, child_of}
use Rattle.trace_record.specs.declared.death.Death.{Death}
use Rattle.trace_record.specs.declared.death.Death.TheVariants.{Exited}
use Rattle.trace_record.specs.declared.resume.Resume.{Resume as Restart}
use Rattle.trace_record.specs.declared.stop.Stop.TheVariants as stops
use Rattle.stop_history.specs.declared.roster.Row.{Row}
use Rattle.stop_history.specs.Event as event
use Rattle.stop_history.specs.Event.{Event, events_of, subject}
use Rattle.stop_history.specs.History.{births_in, creates_next, names_next}
use Rattle.stop_history.specs.Ranges.{IsInRange}
use Rattle.stop_history.specs.State.{number_in}
use Rattle.stop_history.specs.Word.{claimed_phase, phase_in}
use Rattle.stop_table.specs.Entry.{AreLegal, Entry, IsCarried, content_after, history_of}
use Rattle.trace_script.specs.Births.{AreGood, IsGoodOutcome, children_reported, with_child}
use Rattle.trace_script.specs.CaseFacts.{AreNext}
use Rattle.trace_script.specs.StopNumbers.{IsWithin, stops_in}
use Rattle.trace_script.specs.StopTrace.{Context, DeathIs, Died, Exiting, Faulted, Outcome, Position, StopIs}
use Rattle.trace_script.specs.StopTrace.{Stopped, Through, context_of, element_by, first_restart, next_element}
use Rattle.trace_script.specs.StopTrace.{next_position, outcome_at, position_after, position_by}
use Rattle.trace_script.proofs.Births.{good_next}
use Rattle.trace_script.proofs.StopNumbers.{stays_within}
use Rattle.trace_script.proofs.Traces.{setting_stays, stop_is_next}
use Rattle.tracer_workers.specs.Driven.{AreDriven, IsTraced, position_at, restart_after, restart_at}
use Rattle.tracer_workers.specs.Plan.{Plan, opening_of}
use Rattle.tracer_workers.specs.Scheduled.{most_stops}
use Rattle.tracer_workers.proofs.Left.{Left, left_of, left_with, other_left, own_left}

-- what is known of the scripts of a plan
pub record IsFitting (plan : Plan) : Type 0 where
  pub good : (row : ℕ) → row < length plan.rows → AreGood (opening_of plan row).left
  pub within : (row : ℕ) → row < length plan.rows → IsWithin most_stops (opening_of plan row)
  pub children : (row : ℕ) → row < length plan.rows
      → AreNext plan.rows row 0 (children_reported (plan.setting row) (opening_of plan row).left)

-- ---- the restart that a row takes up is in range

abbrev pub IsNewestInRange : List Event → Type 0
IsNewestInRange [] = Unit {0}
IsNewestInRange (e ∷ es) = IsInRange e

first_in_range : IsResume first_restart
first_in_range = omega arith

claimed_in_range : (tracer : ℕ) (es : List Event) → IsResume (restart_at (claimed_phase tracer es))
claimed_in_range tracer [] = first_in_range
claimed_in_range tracer (event.Publish row number stop ∷ es) = first_in_range
claimed_in_range tracer (event.Claim row number other ∷ es) = first_in_range
claimed_in_range tracer (event.Resume row number how other ∷ es) = first_in_range
claimed_in_range tracer (event.Exit row death ∷ es) = first_in_range

in_range : (es : List Event) → IsNewestInRange es → IsResume (restart_at (phase_in es))
in_range [] newest = first_in_range
in_range (event.Publish row number stop ∷ es) newest = first_in_range
in_range (event.Claim row number tracer ∷ es) newest = claimed_in_range tracer es
in_range (event.Resume row number how tracer ∷ es) newest = newest.0
in_range (event.Exit row death ∷ es) newest = first_in_range

pub newest_in_range : (rows : List Row) (h : List Entry) → AreLegal rows h → (row : ℕ)
    → IsNewestInRange (events_of row (history_of h))
newest_in_range rows [] legal row = tt
newest_in_range rows (x ∷ h) legal row =
    elim (cases_eq (subject x.event) row) [
      | inl same ↦
          subst (λ (a : Left). IsNewestInRange a.events) (sym (own_left rows x h row same)) legal.0.1
      | inr other ↦
          subst (λ (a : Left). IsNewestInRange a.events) (sym (other_left rows x h row other))
          (newest_in_range rows h legal.1 row)
    ]

pub restart_in_range : (rows : List Row) (h : List Entry) → AreLegal rows h → (row : ℕ)
    → IsResume (restart_after h row)
restart_in_range rows h legal row =
    in_range (events_of row (history_of h)) (newest_in_range rows h legal row)

-- ---- where a row is in its script

pub record IsFit (plan : Plan) (row : ℕ) (a : Left) : Type 0 where
  pub setting : (position_after (opening_of plan row) a.turns).setting ≡ plan.setting row
  pub number : (position_after (opening_of plan row) a.turns).number ≡ number_in a.events
  pub within : IsWithin most_stops (position_after (opening_of plan row) a.turns)
  pub good : AreGood (position_after (opening_of plan row) a.turns).left
  pub children : AreNext plan.rows row (births_in a.events)
      (children_reported (plan.setting row) (position_after (opening_of plan row) a.turns).left)

-- a child that a stop names is the next one
children_by : (rows : List Row) (row births : ℕ) (child : Option ℕ) (rest : List ℕ)
    → AreNext rows row births (with_child child rest)
    → (names_next rows row births child ≡ true)
    × AreNext rows row (cond (is_some child) (births + 1) births) rest
children_by rows row births None rest next = (refl, next)
children_by rows row births (Some child) rest next = (next.0, next.1)

-- a stop that came, and what is left then
record CameStop (rows : List Row) (row births : ℕ) (p q : Position) (c : Content) : Type 0 where
  pub stop : IsStop c.stop
  pub good : AreGood q.left
  pub next : names_next rows row births (child_of c.stop) ≡ true
  pub left : AreNext rows row (cond (is_some (child_of c.stop)) (births + 1) births)
      (children_reported p.setting q.left)

stop_by : (rows : List Row) (row births : ℕ) (p : Position) (o : Outcome) (c : Content) → element_by p o ≡ StopIs c
    → IsGoodOutcome p.setting (children_reported p.setting p.left) o
    → AreNext rows row births (children_reported p.setting p.left) → CameStop rows row births p (position_by p o) c
stop_by rows row births p (Stopped left at y) c is good next =
    let same : at ≡ c.stop = cc in
    let named : children_reported p.setting p.left ≡ with_child (child_of c.stop) (children_reported p.setting left) =
    good.2 ∙ ap (λ s. with_child (child_of s) (children_reported p.setting left)) same in
    let children = children_by rows row births (child_of c.stop) (children_reported p.setting left)
    (subst (AreNext rows row births) named next) in
    record { stop = subst IsStop same good.0; good = good.1; next = children.0; left = children.1 }
-- before its death a tracee names no child
stop_by rows row births p (Exiting death y) c is good next =
    let same : stops.Ending death ≡ c.stop = cc in record {
      stop = subst IsStop same good;
      good = (good, tt);
      next = subst (λ s. names_next rows row births (child_of s) ≡ true) same refl;
      left = subst (λ s. AreNext rows row (cond (is_some (child_of s)) (births + 1) births) []) same tt;
    }
stop_by rows row births p (Through y) c is good next = cc
stop_by rows row births p (Died death) c is good next = cc
stop_by rows row births p (Faulted address) c is good next = cc

death_by : (p : Position) (o : Outcome) (d : Death) → element_by p o ≡ DeathIs d
    → IsGoodOutcome p.setting (children_reported p.setting p.left) o → IsDeath d
death_by p (Stopped left at y) d is good = cc
death_by p (Exiting death y) d is good = cc
death_by p (Through y) d is good =
    let same : Exited 0 ≡ d = cc in subst IsDeath same (omega arith)
death_by p (Died death) d is good = let same : death ≡ d = cc in subst IsDeath same good
death_by p (Faulted address) d is good = cc

-- the next stop of a row is one that the row may make
pub record IsNextStop (plan : Plan) (row : ℕ) (a : Left) (q : Position) (c : Content) : Type 0 where
  pub stop : IsStop c.stop
  pub tid : c.tid ≡ (plan.setting row).tid
  pub number : c.number ≡ number_in a.events + 1
  pub few : c.number ≤ most_stops
  pub next : creates_next plan.rows row (births_in a.events) c.stop ≡ true
  pub after : q.number ≡ c.number
  pub good : AreGood q.left
  pub left : AreNext plan.rows row (cond (is_some (child_of c.stop)) (births_in a.events + 1) (births_in a.events))
      (children_reported (plan.setting row) q.left)

pub next_stop : (plan : Plan) (row : ℕ) (a : Left) → IsFit plan row a → (how : Restart) (x : Context) (c : Content)
    → IsResume how
    → next_element (position_after (opening_of plan row) a.turns) how x ≡ StopIs c
    → IsNextStop plan row a (next_position (position_after (opening_of plan row) a.turns) how x) c
next_stop plan row a fit how x c range is =
    let p = position_after (opening_of plan row) a.turns in
    let q = next_position p how x in
    let births = births_in a.events in
    let next : AreNext plan.rows row births (children_reported p.setting p.left) =
    subst (λ s. AreNext plan.rows row births (children_reported s p.left)) (sym fit.setting) fit.children in
    let made = stop_by plan.rows row births p (outcome_at p how x) c is
    (good_next p.setting how p.left x range fit.good) next in
    let numbered = stop_is_next p how x c is in
    let within : q.number + stops_in q.left ≤ most_stops = stays_within most_stops p how x fit.within in
    record {
      stop = made.stop;
      tid = numbered.0 ∙ ap (λ s. s.tid) fit.setting;
      number = numbered.1 ∙ ap (λ n. n + 1) fit.number;
      few = omega (arith, within, numbered.2);
      next = made.next;
      after = numbered.2;
      good = made.good;
      left = subst (λ s. AreNext plan.rows row (cond (is_some (child_of c.stop)) (births + 1) births)
          (children_reported s q.left)) fit.setting made.left;
    }

pub next_death : (plan : Plan) (row : ℕ) (a : Left) → IsFit plan row a → (how : Restart) (x : Context) (d : Death)
    → IsResume how
    → next_element (position_after (opening_of plan row) a.turns) how x ≡ DeathIs d → IsDeath d
next_death plan row a fit how x d range is =
    let p = position_after (opening_of plan row) a.turns in
    death_by p (outcome_at p how x) d is (good_next p.setting how p.left x range fit.good)

pub own_fit : (plan : Plan) (h : List Entry) → AreLegal plan.rows h → (e : Event) (content : Content)
    → IsCarried plan.rows (content_after plan.rows h (subject e)) e content → IsTraced plan h e content
    → IsFit plan (subject e) (left_of plan.rows h (subject e))
    → IsFit plan (subject e) (left_with plan.rows h (subject e) e content)
own_fit plan h legal (event.Publish row number stop) content carried traced fit =
    let p = position_at plan h row in
    let how = restart_after h row in
    let x = context_of (content_after plan.rows h row) in
    let next = next_stop plan row (left_of plan.rows h row) fit how x content (restart_in_range plan.rows h legal row) traced in
    record {
      setting = setting_stays p how x ∙ fit.setting;
      number = next.after ∙ carried.1;
      within = stays_within most_stops p how x fit.within;
      good = next.good;
      children = subst (λ s. AreNext plan.rows row
          (cond (is_some (child_of s)) (births_in (events_of row (history_of h)) + 1) (births_in (events_of row (history_of h))))
          (children_reported (plan.setting row) (next_position p how x).left)) carried.2 next.left;
    }
own_fit plan h legal (event.Claim row number tracer) content carried traced fit = record {
  setting = fit.setting;
  number = fit.number;
  within = fit.within;
  good = fit.good;
  children = fit.children;
}
own_fit plan h legal (event.Resume row number how tracer) content carried traced fit = record {
  setting = fit.setting;
  number = fit.number;
  within = fit.within;
  good = fit.good;
  children = fit.children;
}
own_fit plan h legal (event.Exit row death) content carried traced fit = record {
  setting = fit.setting;
  number = fit.number;
  within = fit.within;
  good = fit.good;
  children = fit.children;
}

pub fits_at : (plan : Plan) (h : List Entry) → IsFitting plan → AreLegal plan.rows h → AreDriven plan h → (row : ℕ)
    → row < length plan.rows → IsFit plan row (left_of plan.rows h row)
fits_at plan [] fitting legal driven row within = record {
  setting = refl;
  number = refl;
  within = fitting.within row within;
  good = fitting.good row within;
  children = fitting.children row within;
}
fits_at plan (x ∷ h) fitting legal driven row within =
    elim (cases_eq (subject x.event) row) [
      | inl same ↦
          (let there = subst (λ r. r < length plan.rows) (sym same) within in
          let own : IsFit plan (subject x.event) (left_of plan.rows (x ∷ h) (subject x.event)) =
          subst (IsFit plan (subject x.event)) (sym (own_left plan.rows x h (subject x.event) refl))
          (own_fit plan h legal.1 x.event x.content legal.0.2 driven.0.0
          (fits_at plan h fitting legal.1 driven.1 (subject x.event) there)) in
          subst (λ r. IsFit plan r (left_of plan.rows (x ∷ h) r)) same own)
      | inr other ↦
          subst (IsFit plan row) (sym (other_left plan.rows x h row other))
          (fits_at plan h fitting legal.1 driven.1 row within)
    ]
