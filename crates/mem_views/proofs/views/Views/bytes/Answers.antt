-- The run is whole up to its end.
use Rattle.std.proofs.Common.{refl, ◌∙◌}
use Rattle.mem_views.proofs.Parts.{run-length, run_end-length}
use Rattle.mem_views.proofs.views.Views.bytes.Goals as goal

pub new-requires : goal.new-requires
new-requires g c =
    let m = c.self.inside.memory.now in
    let long = c.length_of_run.ensures m c.end_of_run-end.ensures in
    rw long (run_end-length m c.args.addr c.args.len)

pub returns : goal.returns
returns g c =
    let m = c.self.inside.memory.now in
    let long = c.length_of_run.ensures m c.end_of_run-end.ensures in
    rw (← c.self.view_is) (c.new.ensures ∙ rw (long, run-length m c.args.addr c.args.len, c.end_of_run-end.ensures) refl)
