-- What the threads give back makes up one run of the case.
use Rattle.std.proofs.Common.{◌≡◌, ◌≢◌, ◌<◌, ◌∙◌, Err, IfErr, length, sym, ap, subst, arith}
use Rattle.std.specs.List.{All, flat_map}
use Rattle.std.proofs.lemmas.Result.{err_from_is_err_and}
use Rattle.stop_history.specs.declared.limits.TheConstants.{TRACERS}
use Rattle.stop_table.specs.Entry.{AreLegal}
use Rattle.stop_table.specs.Opening.{AreTracees, AreTracers}
use Rattle.tracer_workers.specs.Config.{plan_of, show_of}
use Rattle.tracer_workers.specs.Driven.{AreReaped}
use Rattle.tracer_workers.specs.Gathering.{AreSeen, GoesOnFrom, HasLostStop, IsFreeTracee, IsFreeTracer, views_of}
use Rattle.tracer_workers.specs.CaseText.{history_text}
use Rattle.tracer_workers.specs.Printing.{printed_lines}
use Rattle.tracer_workers.specs.declared.run_error.RunError.TheVariants as run_error
use Rattle.tracer_workers.specs.declared.threaded.tracee_threads.Scripted.{Scripted}
use Rattle.tracer_workers.specs.declared.threaded.worker_threads.TracerWithPieces.{TracerWithPieces}
use Rattle.tracer_workers.proofs.Ran.{all_can_run, all_ready, case_driven, case_keeps, case_seen, case_some, case_tracees}
use Rattle.tracer_workers.proofs.Ran.{case_tracers, new_tracees}
use Rattle.tracer_workers.proofs.threaded.run_case.Goals as goal

pub with_machines-requires : goal.with_machines-requires
with_machines-requires g c =
    let ok = c.in-Ok.ensures.ok in (
      ok.0,
      subst (λ rows. AreTracees ok.0 rows c.in-Ok.ends.tracees.items) c.roster-roster.ensures.rows ok.3,
      ok.1 ∙ ap length c.roster-roster.ensures.rows,
    )

pub run_in_scope-requires-after_bounds : goal.run_in_scope-requires-after_bounds
run_in_scope-requires-after_bounds g c κs within =
    let ok = c.in-Ok.ensures.ok in
    let rows = c.args.case.now.rows in
    record {
      tracees = all_can_run ok.0 c.args.config.now c.args.case.now (λ (s : Scripted g.row.A.Denot). s.tracee)
          (λ (s : Scripted g.row.A.Denot). s.machine) c.in-Ok.ends.tracees.items c.in_ok-scripted.scripted.items
          (new_tracees ok.0 rows c.in-Ok.ends.tracees.items
          (subst (λ rows. AreTracees ok.0 rows c.in-Ok.ends.tracees.items) c.roster-roster.ensures.rows ok.3))
          c.in_ok-scripted.ensures;
      tracers = all_ready ok.0 rows c.roster-roster.result.now c.roster-roster.ensures.rows c.in-Ok.ends.tracers.items
          c.split_spare.new.tracers.items c.in_ok-spare.spare.items c.in_ok-spare.ensures.all
          (subst (λ rows. AreTracers ok.0 rows c.in-Ok.ends.tracers.items) c.roster-roster.ensures.rows ok.4);
    }

pub gather-requires-clause-at_least_one : goal.gather-requires-clause-at_least_one
gather-requires-clause-at_least_one g c =
    let ok = c.in-Ok.ensures.ok in
    let first = subst (λ rows. AreTracees ok.0 rows c.in-Ok.ends.tracees.items) c.roster-roster.ensures.rows ok.3 in
    let second = subst (λ rows. AreTracers ok.0 rows c.in-Ok.ends.tracers.items) c.roster-roster.ensures.rows ok.4 in
    let many : length c.in-Ok.ends.tracers.items ≡ TRACERS = sym c.in-Ok.ends.tracers.ok.0 ∙ ok.2 in
    let some = case_some ok.0 c.args.config.now c.args.case.now c.in_ok-scripted.scripted.items c.in_ok-back.back.workers.items
    (λ (s : Scripted g.row.A.Denot). s.tracee) (λ (s : Scripted g.row.A.Denot). s.machine)
    (λ (w : TracerWithPieces g.row.A.Denot). w.tracer) (λ (w : TracerWithPieces g.row.A.Denot). w.kept.pieces.items)
    (λ (w : TracerWithPieces g.row.A.Denot). w.kept.short) c.in-Ok.ends.tracees.items c.in-Ok.ends.tracers.items
    c.split_spare.new.tracers.items c.in_ok-spare.spare.items c.in_ok-back.back.tracees.items c.take_apart.new.tracers.items
    first (sym c.in-Ok.ends.tracees.ok.0 ∙ ok.1 ∙ ap length c.roster-roster.ensures.rows) second many c.in_ok-spare.ensures.all c.in_ok-scripted.ensures
    c.in_ok-back.ensures.back.tracees c.in_ok-back.ensures.back.workers c.in_ok-pieces.ensures.tracers in
    omega (arith, some, c.take_apart.new.tracers.ok)

pub gather-requires-clause-handles : goal.gather-requires-clause-handles
gather-requires-clause-handles g c =
    let ok = c.in-Ok.ensures.ok in
    let first = subst (λ rows. AreTracees ok.0 rows c.in-Ok.ends.tracees.items) c.roster-roster.ensures.rows ok.3 in
    let second = subst (λ rows. AreTracers ok.0 rows c.in-Ok.ends.tracers.items) c.roster-roster.ensures.rows ok.4 in
    let many : length c.in-Ok.ends.tracers.items ≡ TRACERS = sym c.in-Ok.ends.tracers.ok.0 ∙ ok.2 in (
      ok.0,
      subst (λ rows. All (IsFreeTracer ok.0 rows) c.take_apart.new.tracers.items) (sym c.roster-roster.ensures.rows)
          (case_tracers ok.0 c.args.config.now c.args.case.now c.in_ok-scripted.scripted.items c.in_ok-back.back.workers.items
          (λ (s : Scripted g.row.A.Denot). s.tracee) (λ (s : Scripted g.row.A.Denot). s.machine)
          (λ (w : TracerWithPieces g.row.A.Denot). w.tracer) (λ (w : TracerWithPieces g.row.A.Denot). w.kept.pieces.items)
          (λ (w : TracerWithPieces g.row.A.Denot). w.kept.short) c.in-Ok.ends.tracees.items c.in-Ok.ends.tracers.items
          c.split_spare.new.tracers.items c.in_ok-spare.spare.items c.in_ok-back.back.tracees.items c.take_apart.new.tracers.items
          first (sym c.in-Ok.ends.tracees.ok.0 ∙ ok.1 ∙ ap length c.roster-roster.ensures.rows) second many c.in_ok-spare.ensures.all c.in_ok-scripted.ensures
          c.in_ok-back.ensures.back.tracees c.in_ok-back.ensures.back.workers c.in_ok-pieces.ensures.tracers),
      subst (λ rows. All (IsFreeTracee ok.0 rows) c.in_ok-back.back.tracees.items) (sym c.roster-roster.ensures.rows)
          (case_tracees ok.0 c.args.config.now c.args.case.now c.in_ok-scripted.scripted.items c.in_ok-back.back.workers.items
          (λ (s : Scripted g.row.A.Denot). s.tracee) (λ (s : Scripted g.row.A.Denot). s.machine)
          (λ (w : TracerWithPieces g.row.A.Denot). w.tracer) (λ (w : TracerWithPieces g.row.A.Denot). w.kept.pieces.items)
          (λ (w : TracerWithPieces g.row.A.Denot). w.kept.short) c.in-Ok.ends.tracees.items c.in-Ok.ends.tracers.items
          c.split_spare.new.tracers.items c.in_ok-spare.spare.items c.in_ok-back.back.tracees.items c.take_apart.new.tracers.items
          first (sym c.in-Ok.ends.tracees.ok.0 ∙ ok.1 ∙ ap length c.roster-roster.ensures.rows) second many c.in_ok-spare.ensures.all c.in_ok-scripted.ensures
          c.in_ok-back.ensures.back.tracees c.in_ok-back.ensures.back.workers c.in_ok-pieces.ensures.tracers),
    )

pub returns : goal.returns
returns g c =
    let ok = c.in-Ok.ensures.ok in
    let first = subst (λ rows. AreTracees ok.0 rows c.in-Ok.ends.tracees.items) c.roster-roster.ensures.rows ok.3 in
    let second = subst (λ rows. AreTracers ok.0 rows c.in-Ok.ends.tracers.items) c.roster-roster.ensures.rows ok.4 in
    let many : length c.in-Ok.ends.tracers.items ≡ TRACERS = sym c.in-Ok.ends.tracers.ok.0 ∙ ok.2 in
    let config = c.args.config.now in
    let content = c.args.case.now in
    let rows = c.roster-roster.ensures.rows in
    let told = c.in_ok-_tracer.ensures in
    let h = c.in_ok-_tracer._tracer.view.seen in
    let print = printed_lines (show_of config) in
    let on : GoesOnFrom (views_of c.take_apart.new.tracers.items c.in_ok-back.back.tracees.items) h =
    λ k d within. (told.taken_in k d within).seen in
    let legal : AreLegal content.rows h = subst (λ rs. AreLegal rs h) rows told.legal in
    let seen = case_seen ok.0 c.args.config.now c.args.case.now c.in_ok-scripted.scripted.items c.in_ok-back.back.workers.items
    (λ (s : Scripted g.row.A.Denot). s.tracee) (λ (s : Scripted g.row.A.Denot). s.machine)
    (λ (w : TracerWithPieces g.row.A.Denot). w.tracer) (λ (w : TracerWithPieces g.row.A.Denot). w.kept.pieces.items)
    (λ (w : TracerWithPieces g.row.A.Denot). w.kept.short) c.in-Ok.ends.tracees.items c.in-Ok.ends.tracers.items
    c.split_spare.new.tracers.items c.in_ok-spare.spare.items c.in_ok-back.back.tracees.items c.take_apart.new.tracers.items
    first (sym c.in-Ok.ends.tracees.ok.0 ∙ ok.1 ∙ ap length c.roster-roster.ensures.rows) second many c.in_ok-spare.ensures.all c.in_ok-scripted.ensures
    c.in_ok-back.ensures.back.tracees c.in_ok-back.ensures.back.workers c.in_ok-pieces.ensures.tracers h legal on in
    let kept = subst (λ ps. AreSeen (show_of config) content.rows (views_of c.take_apart.new.tracers.items c.in_ok-back.back.tracees.items) ps)
    (sym c.in_ok-pieces.ensures.pieces) seen in
    let driven = case_driven ok.0 c.args.config.now c.args.case.now c.in_ok-scripted.scripted.items c.in_ok-back.back.workers.items
    (λ (s : Scripted g.row.A.Denot). s.tracee) (λ (s : Scripted g.row.A.Denot). s.machine)
    (λ (w : TracerWithPieces g.row.A.Denot). w.tracer) (λ (w : TracerWithPieces g.row.A.Denot). w.kept.pieces.items)
    (λ (w : TracerWithPieces g.row.A.Denot). w.kept.short) c.in-Ok.ends.tracees.items c.in-Ok.ends.tracers.items
    c.split_spare.new.tracers.items c.in_ok-spare.spare.items c.in_ok-back.back.tracees.items c.take_apart.new.tracers.items
    first (sym c.in-Ok.ends.tracees.ok.0 ∙ ok.1 ∙ ap length c.roster-roster.ensures.rows) second many c.in_ok-spare.ensures.all c.in_ok-scripted.ensures
    c.in_ok-back.ensures.back.tracees c.in_ok-back.ensures.back.workers c.in_ok-pieces.ensures.tracers h legal on in
    let reaped : AreReaped content.rows h = subst (λ rs. AreReaped rs h) rows told.reaped in
    record {
      text = told.text (show_of config)
          (subst (λ rs. AreSeen (show_of config) rs (views_of c.take_apart.new.tracers.items c.in_ok-back.back.tracees.items)
          c.in_ok-pieces.pieces.items) (sym rows) kept)
          ∙ ap (λ rs. history_text print rs h) rows
          ∙ c.runs_print_their_case.ensures print (plan_of config content) h c.roster-roster.ensures.case.roster legal driven reaped
          ∙ c.the_mode_changes_no_text.ensures config content;
      kept = tt;
    }

pub returns-in_err-_tracer-clause-kept : goal.returns-in_err-_tracer-clause-kept
returns-in_err-_tracer-clause-kept g c =
    let ok = c.in-Ok.ensures.ok in
    let first = subst (λ rows. AreTracees ok.0 rows c.in-Ok.ends.tracees.items) c.roster-roster.ensures.rows ok.3 in
    let second = subst (λ rows. AreTracers ok.0 rows c.in-Ok.ends.tracers.items) c.roster-roster.ensures.rows ok.4 in
    let many : length c.in-Ok.ends.tracers.items ≡ TRACERS = sym c.in-Ok.ends.tracers.ok.0 ∙ ok.2 in
    let views = views_of c.take_apart.new.tracers.items c.in_ok-back.back.tracees.items in
    let some : 0 < length c.split_spare.new.tracers.items =
    omega (arith, c.in_ok-spare.ensures.left, ok.2, c.requires.0, c.split_spare.new.tracers.ok) in
    let told = err_from_is_err_and c.from_residual-in_err-_tracer.result c.from_residual-in_err-_tracer.ensures.1 in
    subst (λ r. IfErr r (λ error. error ≢ run_error.Lost)) (sym told.1) (λ is.
    case_keeps ok.0 c.args.config.now c.args.case.now c.in_ok-scripted.scripted.items c.in_ok-back.back.workers.items
    (λ (s : Scripted g.row.A.Denot). s.tracee) (λ (s : Scripted g.row.A.Denot). s.machine)
    (λ (w : TracerWithPieces g.row.A.Denot). w.tracer) (λ (w : TracerWithPieces g.row.A.Denot). w.kept.pieces.items)
    (λ (w : TracerWithPieces g.row.A.Denot). w.kept.short) c.in-Ok.ends.tracees.items c.in-Ok.ends.tracers.items
    c.split_spare.new.tracers.items c.in_ok-spare.spare.items c.in_ok-back.back.tracees.items c.take_apart.new.tracers.items
    first (sym c.in-Ok.ends.tracees.ok.0 ∙ ok.1 ∙ ap length c.roster-roster.ensures.rows) second many c.in_ok-spare.ensures.all
    c.in_ok-scripted.ensures c.in_ok-back.ensures.back.tracees c.in_ok-back.ensures.back.workers c.in_ok-pieces.ensures.tracers
    c.roster-roster.ensures.case.roster c.in_ok-pieces.ensures.whole some
    (subst (λ rows. HasLostStop rows views (flat_map (λ (w : TracerWithPieces g.row.A.Denot). w.kept.pieces.items)
    c.in_ok-back.back.workers.items)) c.roster-roster.ensures.rows
    (subst (HasLostStop c.roster-roster.result.now views) c.in_ok-pieces.ensures.pieces
    (c.in_err-_tracer.ensures.lost (ap Err (sym told.2 ∙ is))))))
