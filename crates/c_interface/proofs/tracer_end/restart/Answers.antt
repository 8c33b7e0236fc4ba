-- A restart claims nothing.
use Rattle.c_interface.proofs.Handles.{free_beside}
use Rattle.c_interface.proofs.tracer_end.restart.Goals as goal

pub returns-clause-others : goal.returns-clause-others
returns-clause-others c = λ other free.
    free_beside _ _ c.args.row _ _ c.requires.handle c.restart_row.ensures.answer other free
