-- A row that creates its next child has room for one more.
use Rattle.std.proofs.Common.{◌∙◌, ap, sym}
use Rattle.stop_history.specs.History.{is_next_child}
use Rattle.stop_history.specs.Roster.{row_of}
use Rattle.stop_history.proofs.Children.{next_is_few}
use Rattle.stop_board.proofs.words.creates_next.Goals as goal

pub returns-in-Some-clause-few : goal.returns-in-Some-clause-few
returns-in-Some-clause-few g c = λ next child.
    next_is_few c.args.roster.now c.requires.roster c.args.at c.args.births c.requires.row c.in-Some.tid
    (ap (is_next_child c.args.roster.now c.args.at c.args.births)
    (sym (c.place_of-child.ensures.place ∙ ap (λ rows. row_of rows c.in-Some.tid) c.rows.ensures.rows))
    ∙ ap (λ births. is_next_child c.args.roster.now c.args.at births c.place_of-child.result) (sym c.from.ensures)
    ∙ sym c.is_next_child.ensures ∙ next)
