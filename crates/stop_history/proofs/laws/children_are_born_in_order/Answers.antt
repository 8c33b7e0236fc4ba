-- The law is a lemma on plain lists.
use Rattle.std.proofs.Common.{◌∙◌, ap}
use Rattle.stop_history.specs.Roster.{row_at}
use Rattle.stop_history.specs.State.{was_created}
use Rattle.stop_history.proofs.Births.{born_by_rank}
use Rattle.stop_history.proofs.laws.children_are_born_in_order.Goals as goal

pub returns : goal.returns
returns c = λ rows h roster legal row parent within of_parent.
    ap (λ o. was_created o (row_at rows row).tid h) of_parent
    ∙ born_by_rank rows roster h legal row parent within of_parent
