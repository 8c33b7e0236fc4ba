-- What the threads of a run give back of the handles that they were handed.
use Rattle.std.proofs.Common.{refl, ◌≡◌, ◌∙◌, [], ℕ, Bool, true, false, List, sym, ap, subst}
use Rattle.record_printer.specs.Piece.{Piece}
use Rattle.atomic_table.specs.Seated.{TableId}
use Rattle.stop_table.specs.Handle.{own_events}
use Rattle.stop_table.specs.Opening.{new_tracee}
use Rattle.stop_table.specs.Tracee.{TraceeHandle}
use Rattle.stop_table.specs.Tracer.{TracerHandle, held_rows}
use Rattle.stop_table.specs.View.{View, actors_of}
use Rattle.trace_script.specs.StopTrace.{Position}
use Rattle.tracer_workers.specs.Plan.{IsCasePlan, Plan, opening_of}
use Rattle.tracer_workers.specs.TraceeThread.{IsToStart}
use Rattle.tracer_workers.specs.Threaded.{CanRun, HasRun, HasWorked}
use Rattle.tracer_workers.specs.WorkerThread.{AreOverForGood, HasServed}
use Rattle.tracer_workers.specs.declared.config.Config.{Config}
use Rattle.tracer_workers.proofs.OwnEntries.{driven_on, none_own}
use Rattle.tracer_workers.proofs.WorkerThreads.{served_none}

-- a tracee that was left has made no event
pub left_alone : (a : TraceeHandle) (p : Position) → CanRun a p → HasRun a p a
left_alone a p can = record {
  same = (refl, refl, record { roster = refl; tracees = refl; tracers = refl; number = refl });
  idle = can.0;
  driven = λ plan start.
      driven_on (actors_of a.view) plan [] a.view.seen
      (none_own (actors_of a.view) a.view.seen start.silent) tt;
}

served_short : (config : Config) (v : View) (short : Bool) → held_rows v ≡ [] → HasServed config v v [] short
served_short config v short free =
    let s = served_none config v free in
    record {
      same = s.same;
      free = s.free;
      pieces = record { missing = s.pieces.missing; all = s.pieces.all; whole = λ whole. s.pieces.whole refl };
      restarts = s.restarts;
    }

-- a tracer whose worker has done nothing
pub idle_worked : (config : Config) (a b : TracerHandle) (pieces : List Piece) (short : Bool) → b.table_id ≡ a.table_id
    → b.view ≡ a.view → held_rows a.view ≡ [] → pieces ≡ [] → short ≡ true → HasWorked config a b pieces short
idle_worked config a b pieces short table view free none lacks = (
  table,
  subst (λ w. HasServed config a.view w pieces short) (sym view)
      (subst (λ ps. HasServed config a.view a.view ps short) (sym none) (served_short config a.view short free)),
  λ whole. let clash : true ≡ false = sym lacks ∙ whole in cc,
)

-- a tracer whose worker has worked
pub done_worked : (config : Config) (a b : TracerHandle) (v w : View) (pieces : List Piece) (short : Bool)
    → b.table_id ≡ a.table_id → v ≡ a.view → b.view ≡ w → HasServed config v w pieces short
    → AreOverForGood w.roster w.seen → HasWorked config a b pieces short
done_worked config a b v w pieces short table before after served over = (
  table,
  subst (λ u. HasServed config a.view u pieces short) (sym after)
      (subst (λ u. HasServed config u w pieces short) before served),
  λ whole. subst (λ (u : View). AreOverForGood u.roster u.seen) (sym after) over,
)

-- a new tracee can begin with the machine of its row
pub to_start : (plan : Plan) (id : TableId) (row : ℕ) (e : TraceeHandle) (p : Position) → IsCasePlan plan
    → e ≡ new_tracee id plan.rows row → p ≡ opening_of plan row → IsToStart plan e p
to_start plan id row e p known is opening = record {
  known = known;
  rows = ap (λ (t : TraceeHandle). t.view.roster) is;
  silent = ap (λ (t : TraceeHandle). own_events t.view) is;
  opening = opening ∙ ap (opening_of plan) (sym (ap (λ (t : TraceeHandle). t.row) is));
}
