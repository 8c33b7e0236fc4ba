-- The folder has the pieces of the run, and nothing of them is lost.
use Rattle.std.proofs.Common.{◌∙◌, sym, ap, subst}
use Rattle.record_printer.specs.FolderAnswers.{lost, pieces_text}
use Rattle.tracer_workers.specs.Config.{show_of}
use Rattle.tracer_workers.specs.HistoryPieces.{pieces_of}
use Rattle.tracer_workers.specs.Scheduled.{Stands}
use Rattle.tracer_workers.proofs.Rounds.{if_ok}
use Rattle.tracer_workers.proofs.RunEnd.{whole_text}
use Rattle.tracer_workers.proofs.scheduled.run.Run.finish.Goals as goal

pub finish-requires : goal.finish-requires
finish-requires g c =
    let content = c.requires.0 in
    let h = c.requires.1 in
    let stands = subst (λ r. Stands content r h) (sym c.self.view_is) c.requires.2 in
    let whole = whole_text content _ h stands.0.known.roster stands.0 c.requires.3 in
    let came = pieces_of (show_of c.self.inside.config) content.rows h in
    (came, stands.0.folder, ap (λ rows. lost rows came) stands.0.folder_rows ∙ whole.none_lost)

pub returns : goal.returns
returns g c =
    rw (← c.self.view_is) (λ content h stands over.
    let whole = whole_text content _ h stands.0.known.roster stands.0 over in
    let came = pieces_of (show_of c.self.inside.config) content.rows h in
    if_ok c.finish.result
    (λ text is. is ∙ ap (λ rows. pieces_text rows came) stands.0.folder_rows ∙ whole.text)
    (c.finish.ensures came stands.0.folder))
