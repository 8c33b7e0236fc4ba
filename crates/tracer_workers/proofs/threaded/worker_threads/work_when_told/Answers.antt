-- A worker without calls, or one that is told to leave, has done nothing; otherwise it has worked.
use Rattle.std.proofs.Common.{◌∙◌, ap}
use Rattle.tracer_workers.proofs.Threads.{done_worked, idle_worked}
use Rattle.tracer_workers.proofs.threaded.worker_threads.work_when_told.Goals as goal

pub returns-in-Err : goal.returns-in-Err
returns-in-Err g c =
    let is = c.idle.ensures.0 ∙ c.in-Err.ensures in
    idle_worked c.args.shared.now.config.now c.args.tracer c.idle.result.tracer c.idle.result.kept.pieces.items
    c.idle.result.kept.short (ap (λ e. e.table_id) is) (ap (λ e. e.view) is) c.requires.1 c.idle.ensures.1
    c.idle.ensures.2

pub returns-then-not-wait_for_go : goal.returns-then-not-wait_for_go
returns-then-not-wait_for_go g c =
    let left = c.idle-then-not-wait_for_go in
    idle_worked c.args.shared.now.config.now c.args.tracer left.result.tracer left.result.kept.pieces.items left.result.kept.short
    (ap (λ e. e.table_id) left.ensures.0 ∙ c.spend.ensures.0 ∙ ap (λ a. a.table_id) c.in-Ok.ensures)
    (ap (λ e. e.view) left.ensures.0 ∙ c.spend.ensures.1 ∙ ap (λ a. a.view) c.in-Ok.ensures) c.requires.1 left.ensures.1
    left.ensures.2

pub returns : goal.returns
returns g c =
    let run = c.run_worker-kept in
    done_worked c.args.shared.now.config.now c.args.tracer c.spend-2.result c.in-Ok.calls.view run.new.calls.view
    run.result.pieces.items run.result.short
    (c.spend-2.ensures.0 ∙ run.ensures.handle.0 ∙ ap (λ a. a.table_id) c.in-Ok.ensures)
    (ap (λ a. a.view) c.in-Ok.ensures) c.spend-2.ensures.1
    (record {
      same = run.ensures.handle.1;
      free = run.ensures.free;
      pieces = run.ensures.pieces;
      restarts = run.ensures.restarts;
    })
    run.ensures.over
