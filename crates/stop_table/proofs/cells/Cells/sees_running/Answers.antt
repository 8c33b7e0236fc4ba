-- A row that is not fresh is born.
use Rattle.std.proofs.Common.{◌∙◌, ap, refl}
use Rattle.stop_history.specs.Word.{Word}
use Rattle.stop_table.proofs.Counting.{no_step}
use Rattle.stop_table.proofs.Tracees.{born_if_not_fresh}
use Rattle.stop_table.proofs.Walking.{stands_still}
use Rattle.stop_table.proofs.cells.Cells.sees_running.Goals as goal

pub returns : goal.returns
returns g c =
    let r = c.requires in record {
      seat = ((refl, refl), refl, stands_still c.args.seat.now.me.0 r.seat.2);
      born = born_if_not_fresh c.args.seat.now.me.0.roster c.args.seat.now.me.0.seen c.args.row r.seat.2
          (λ fresh. c.in_default.not-Fresh (ap (λ (w : Word). w.phase) c.seen.view_is ∙ r.seen ∙ fresh));
      once = no_step c.args.seat.now.me.0;
    }
