-- A run that is whole is as long as it was asked for.
use Rattle.mem_views.proofs.Fronts.{viewed-new}
use Rattle.mem_views.proofs.cut.Cut.new.Goals as goal

pub returns : goal.returns
returns g c = viewed-new c.args.memory.now c.args.addr c.args.len c.args.end c.requires
