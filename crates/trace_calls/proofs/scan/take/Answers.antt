-- A claim has the record that was published; a row that could not be claimed is passed at a point of its own.
use Rattle.std.proofs.Common.{inl}
use Rattle.trace_calls.proofs.Keeping.{taken_content}
use Rattle.trace_calls.proofs.Points.{looked_in_vain, passed}
use Rattle.trace_calls.proofs.scan.take.Goals as goal

pub returns-in-Stop-clause-tried : goal.returns-in-Stop-clause-tried
returns-in-Stop-clause-tried g c =
    let t = c.in-Stop.ensures.taken in (
      c.requires.1,
      (t.0.0, t.0.1, inl t.0.2),
      t.1,
      t.2,
      taken_content c.args.tracer.now.view c.claim.new.tracer.view c.args.row c.in-Stop.claim.stop t.0,
    )

pub returns-in-Nothing-clause-tried : goal.returns-in-Nothing-clause-tried
returns-in-Nothing-clause-tried g c =
    let t = c.in-Nothing.ensures.taken in (
      looked_in_vain c.args.tracer.now.view c.claim.new.tracer.view c.args.row c.in-Nothing.shown t.0,
      passed c.args.request.deaths c.is_pending.result c.args.tracer.now.view c.claim.new.tracer.view c.args.row
          c.in-Nothing.shown t.0 t.1 c.is_pending.ensures,
    )
