-- The handle that is left has taken in all others, so what it sees goes on from what each had seen.
use Rattle.std.proofs.Common.{refl, [], ◌≡◌, ◌∙◌, Err, true, reverse, sym, ap, subst, length, inl, inr}
use Rattle.std.specs.List.{All}
use Rattle.std.proofs.lemmas.Result.{err_from_is_err_and}
use Rattle.stop_history.specs.Roster.{IsRoster}
use Rattle.stop_table.specs.Entry.{AreLegal}
use Rattle.stop_table.proofs.Walking.{legal_after}
use Rattle.tracer_workers.specs.Driven.{AreReaped}
use Rattle.tracer_workers.specs.Gathering.{GoesOnFrom, HasLookedForUnreaped, HasUnreaped, IsFreeTracee, TakesIn}
use Rattle.tracer_workers.specs.Gathering.{views_of}
use Rattle.tracer_workers.specs.declared.run_error.RunError.TheVariants as run_error
use Rattle.tracer_workers.proofs.AnyOrder.{seen_there, text_there}
use Rattle.tracer_workers.proofs.Folding.{same_error}
use Rattle.tracer_workers.proofs.Meeting.{all_taken, all_through, looked_on_takes, on_from_all, tracers_through}
use Rattle.tracer_workers.proofs.Reaped.{none_held}
use Rattle.tracer_workers.proofs.gathering.gather.Goals as goal
use Rattle.tracer_workers.proofs.gathering.gather.Goals.{After-are_reaped}

same_roster : (g : _) (c : After-are_reaped g) → c.meet_tracees-tracer.result.view.roster ≡ c.args.roster.now
same_roster g c =
    c.meet_tracees-tracer.ensures.table.1
    ∙ (c.meet_tracers.ensures.table c.requires.handles.0 c.args.roster.now c.requires.handles.1).1

-- the one that is left before it looks has taken in all
all_met : (g : _) (c : After-are_reaped g)
    → All (λ v. TakesIn v c.meet_tracees-tracer.result.view) (views_of c.args.tracers.items c.args.tracees.items)
all_met g c =
    let t = c.meet_tracees-tracer.result.view in
    let taken = c.meet_tracees-tracer.ensures.taken_in in
    all_taken t c.args.tracers.items c.args.tracees.items
    (tracers_through c.meet_tracers.result.view t taken.0 c.args.tracers.items c.meet_tracers.ensures.taken_in)
    taken.1

all_in : (g : _) (c : After-are_reaped g)
    → All (λ v. TakesIn v c.are_reaped.new.tracer.view) (views_of c.args.tracers.items c.args.tracees.items)
all_in g c =
    all_through c.meet_tracees-tracer.result.view c.are_reaped.new.tracer.view
    (looked_on_takes c.meet_tracees-tracer.result.view c.are_reaped.new.tracer.view c.are_reaped.ensures.handle.1)
    (views_of c.args.tracers.items c.args.tracees.items) (all_met g c)

all_gone_on : (g : _) (c : After-are_reaped g)
    → GoesOnFrom (views_of c.args.tracers.items c.args.tracees.items) c.are_reaped.new.tracer.view.seen
all_gone_on g c =
    on_from_all c.are_reaped.new.tracer.view c.are_reaped.new.tracer.view.seen
    (views_of c.args.tracers.items c.args.tracees.items) (all_in g c) ([], refl, tt)

legal_there : (g : _) (c : After-are_reaped g) → AreLegal c.args.roster.now c.are_reaped.new.tracer.view.seen
legal_there g c =
    subst (λ rows. AreLegal rows c.are_reaped.new.tracer.view.seen) (same_roster g c)
    (legal_after c.meet_tracees-tracer.result.view c.are_reaped.new.tracer.view c.are_reaped.ensures.handle.1)

all_reaped : (g : _) (c : After-are_reaped g) → c.are_reaped.result ≡ true
    → AreReaped c.args.roster.now c.are_reaped.new.tracer.view.seen
all_reaped g c is =
    subst (λ rows. AreReaped rows c.are_reaped.new.tracer.view.seen) (same_roster g c)
    (subst (HasLookedForUnreaped c.meet_tracees-tracer.result.view c.are_reaped.new.tracer.view)
    is c.are_reaped.ensures.looked)

pub meet_tracees-tracer-requires : goal.meet_tracees-tracer-requires
meet_tracees-tracer-requires g c =
    let table = c.meet_tracers.ensures.table c.requires.handles.0 c.args.roster.now c.requires.handles.1 in (
      c.args.roster.now,
      subst (λ id. All (IsFreeTracee id c.args.roster.now) c.args.tracees.items) (sym table.0) c.requires.handles.2,
    )

pub are_reaped-requires : goal.are_reaped-requires
are_reaped-requires g c =
    c.len.ensures
    ∙ ap length (sym (c.meet_tracees-tracer.ensures.table.1
    ∙ (c.meet_tracers.ensures.table c.requires.handles.0 c.args.roster.now c.requires.handles.1).1))

pub returns-then-not-are_reaped-clause-lost : goal.returns-then-not-are_reaped-clause-lost
returns-then-not-are_reaped-clause-lost g c = λ is.
    let t = c.meet_tracees-tracer.result.view in
    let u = c.are_reaped.new.tracer.view in
    let before = (goal.at.returns-then-not-are_reaped-clause-lost g c).After-are_reaped in
    let left = subst (HasLookedForUnreaped t u) c.if-not-are_reaped.true c.are_reaped.ensures.looked in
    let same = same_roster g before in
    record {
      history = left.0;
      legal = subst (λ rows. AreLegal rows left.0) same left.1;
      goes_on = on_from_all t left.0 (views_of c.args.tracers.items c.args.tracees.items) (all_met g before) left.2;
      lost_there = inl (subst (λ rows. HasUnreaped rows left.0) same left.3);
    }

pub returns-in_err-text-clause-lost : goal.returns-in_err-text-clause-lost
returns-in_err-text-clause-lost g c = λ is.
    let before = (goal.at.returns-in_err-text-clause-lost g c).After-are_reaped in
    let told = err_from_is_err_and c.from_residual.result c.from_residual.ensures.1 in
    let lost = sym told.2 ∙ same_error c.from_residual.result told.0 run_error.Lost told.1 is in
    record {
      history = c.are_reaped.new.tracer.view.seen;
      legal = legal_there g before;
      goes_on = all_gone_on g before;
      lost_there = inr (c.in_err-text.ensures.lost (ap Err lost));
    }

pub returns-in_err-text-clause-no_memory : goal.returns-in_err-text-clause-no_memory
returns-in_err-text-clause-no_memory g c = λ is.
    let before = (goal.at.returns-in_err-text-clause-no_memory g c).After-are_reaped in
    record {
      history = c.are_reaped.new.tracer.view.seen;
      legal = legal_there g before;
      goes_on = all_gone_on g before;
      reaped = all_reaped g before c.if-not-are_reaped.false;
    }

pub returns-clause-free : goal.returns-clause-free
returns-clause-free g c = λ id free.
    let before = (goal.at.returns-clause-free g c).After-are_reaped in
    let u = c.are_reaped.new.tracer.view in
    let same : u.roster ≡ c.args.roster.now =
    c.are_reaped.ensures.handle.1.grows.same.roster ∙ same_roster g before in
    record {
      table = c.are_reaped.ensures.handle.0 ∙ c.meet_tracees-tracer.ensures.table.0
          ∙ (c.meet_tracers.ensures.table id c.args.roster.now free).0;
      roster = same;
      idle = none_held u (subst (λ rows. AreLegal rows u.seen) (sym same) (legal_there g before))
          (subst (λ rows. AreReaped rows u.seen) (sym same) (all_reaped g before c.if-not-are_reaped.false));
    }

pub returns-clause-taken_in : goal.returns-clause-taken_in
returns-clause-taken_in g c = all_in g (goal.at.returns-clause-taken_in g c).After-are_reaped

pub returns-clause-legal : goal.returns-clause-legal
returns-clause-legal g c = legal_there g (goal.at.returns-clause-legal g c).After-are_reaped

pub returns-clause-reaped : goal.returns-clause-reaped
returns-clause-reaped g c =
    all_reaped g (goal.at.returns-clause-reaped g c).After-are_reaped (c.if-not-are_reaped.false)

pub returns-clause-text : goal.returns-clause-text
returns-clause-text g c = λ show seen.
    let before = (goal.at.returns-clause-text g c).After-are_reaped in
    let rows = c.args.roster.now in
    let roster : IsRoster rows = subst IsRoster (same_roster g before) c.are_reaped.ensures.roster in
    let h = c.are_reaped.new.tracer.view.seen in
    let pieces = c.args.pieces.items in
    c.in_ok-text.ensures.text
    ∙ text_there show rows roster h (legal_there g before) (all_reaped g before c.if-not-are_reaped.false) (reverse pieces)
    (seen_there show rows (views_of c.args.tracers.items c.args.tracees.items) h pieces (all_gone_on g before) seen)
    c.in_ok-text.ensures.whole.none_lost
