-- A piece that was pushed is kept.
use Rattle.tracer_workers.proofs.WorkerThreads.{kept_more_by}
use Rattle.tracer_workers.proofs.worker_thread.KeptPieces.keep.Goals as goal

pub returns-in_default : goal.returns-in_default
returns-in_default g c = kept_more_by c.args.self.now.short c.args.self.now.pieces.items c.push.new.self.items c.args.piece c.requires c.in_default.ensures.items
