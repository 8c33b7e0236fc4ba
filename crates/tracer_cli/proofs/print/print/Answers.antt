-- A beginning was written, as many bytes as the fault says.
use Rattle.tracer_cli.proofs.print.print.Goals as goal

pub returns-in-Err : goal.returns-in-Err
returns-in-Err g c = (c.in-Err.field-0.written, c.in-Err.ensures.within, c.in-Err.ensures.fault)
