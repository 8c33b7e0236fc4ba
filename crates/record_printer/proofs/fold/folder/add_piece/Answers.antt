use Rattle.std.proofs.Common.{◌≡◌, ◌∙◌, sym}
use Rattle.std.proofs.lemmas.List.{get_or_default}
use Rattle.record_printer.proofs.Folders.{death_added, death_fault_same, keeps_at, none_if_ok, nowhere, on_ok}
use Rattle.record_printer.proofs.Folders.{on_ok_both}
use Rattle.record_printer.proofs.Folders.{ok_unless, set_back, stop_added, stop_fault_same, stranger_is, stranger_none}
use Rattle.record_printer.specs.Came.{stop_of}
use Rattle.record_printer.specs.FolderAnswers.{refusal}
use Rattle.record_printer.specs.Kept.{empty_row}
use Rattle.record_printer.specs.NoteOf.{note_of}
use Rattle.record_printer.specs.Piece.{Died, Stopped}
use Rattle.record_printer.proofs.fold.folder.add_piece.Goals as goal

pub returns-in_default-clause-refused : goal.returns-in_default-clause-refused
returns-in_default-clause-refused g c came stands why fault =
    let parts = c.into_parts-tid.result in
    let same = rw c.into_parts-tid.ensures at fault in
    stranger_is (refusal c.args.rows.now came _) why
    (nowhere c.args.rows.now came parts.0 parts.1 parts.2 (sym c.in_default.ensures.place)) same

pub returns-in_default-clause-accepted : goal.returns-in_default-clause-accepted
returns-in_default-clause-accepted g c came stands fault =
    let parts = c.into_parts-tid.result in
    let same = rw c.into_parts-tid.ensures at fault in
    stranger_none (refusal c.args.rows.now came _)
    (nowhere c.args.rows.now came parts.0 parts.1 parts.2 (sym c.in_default.ensures.place)) same

pub returns-in-Stop-clause-refused : goal.returns-in-Stop-clause-refused
returns-in-Stop-clause-refused g c came stands why fault =
    let tid = c.into_parts-tid.result.0 in
    let number = c.into_parts-tid.result.1 in
    let found = sym c.in-Some.ensures.place in
    let same = rw (c.into_parts-tid.ensures, c.in-Stop.is) at fault in
    let keeps = keeps_at c.args.rows.now c.args.kept.now came tid c.in-Some.row stands found in
    c.add_stop.ensures.refused (stop_of tid came) keeps.stops why
    (sym (stop_fault_same c.args.rows.now c.args.kept.now came tid c.in-Some.row number (note_of c.in-Stop.note)
    stands found) ∙ same)

pub returns-in-Stop-clause-accepted : goal.returns-in-Stop-clause-accepted
returns-in-Stop-clause-accepted g c came stands fault =
    let tid = c.into_parts-tid.result.0 in
    let number = c.into_parts-tid.result.1 in
    let found = sym c.in-Some.ensures.place in
    let same = rw (c.into_parts-tid.ensures, c.in-Stop.is) at fault in
    let keeps = keeps_at c.args.rows.now c.args.kept.now came tid c.in-Some.row stands found in
    c.add_stop.ensures.accepted (stop_of tid came) keeps.stops
    (sym (stop_fault_same c.args.rows.now c.args.kept.now came tid c.in-Some.row number (note_of c.in-Stop.note)
    stands found) ∙ same)

pub returns-in-Stop-clause-ok : goal.returns-in-Stop-clause-ok
returns-in-Stop-clause-ok g c came stands =
    let tid = c.into_parts-tid.result.0 in
    let number = c.into_parts-tid.result.1 in
    let note = note_of c.in-Stop.note in
    let found = sym c.in-Some.ensures.place in
    let keeps = keeps_at c.args.rows.now c.args.kept.now came tid c.in-Some.row stands found in
    let fault = stop_fault_same c.args.rows.now c.args.kept.now came tid c.in-Some.row number note stands found in
    let piece : c.args.piece ≡ Stopped tid number note = rw c.in-Stop.is at c.into_parts-tid.ensures in
    rw piece (on_ok_both c.add_stop.result c.add_stop.ensures.ok c.add_stop.ensures.positive (λ ok added positive.
    stop_added c.args.rows.now c.args.kept.now c.add_stop.new.kept came tid c.in-Some.row number note
    c.requires.roster stands found
    (none_if_ok (refusal c.args.rows.now came (Stopped tid number note)) c.add_stop.result
    (λ why is. c.add_stop.ensures.refused (stop_of tid came) keeps.stops why (sym fault ∙ is)) ok) positive added))

pub returns-in-Death-clause-refused : goal.returns-in-Death-clause-refused
returns-in-Death-clause-refused g c came stands why fault =
    let tid = c.into_parts-tid.result.0 in
    let number = c.into_parts-tid.result.1 in
    let found = sym c.in-Some.ensures.place in
    let inside = rw (← c.requires.paired) at c.in-Some.ensures.within in
    let same = rw (c.into_parts-tid.ensures, c.in-Death.is) at fault in
    let here = get_or_default c.args.kept.now c.in-Some.row c.index-kept-row.result empty_row inside in
    c.add_death.ensures.refused why (rw here
    (sym (death_fault_same c.args.rows.now c.args.kept.now came tid c.in-Some.row number c.in-Death.death stands
    found) ∙ same))

pub returns-in-Death-clause-accepted : goal.returns-in-Death-clause-accepted
returns-in-Death-clause-accepted g c came stands fault =
    let tid = c.into_parts-tid.result.0 in
    let number = c.into_parts-tid.result.1 in
    let found = sym c.in-Some.ensures.place in
    let inside = rw (← c.requires.paired) at c.in-Some.ensures.within in
    let same = rw (c.into_parts-tid.ensures, c.in-Death.is) at fault in
    let here = get_or_default c.args.kept.now c.in-Some.row c.index-kept-row.result empty_row inside in
    ok_unless c.add_death.result _ (c.add_death.ensures.accepted (rw here
    (sym (death_fault_same c.args.rows.now c.args.kept.now came tid c.in-Some.row number c.in-Death.death stands
    found) ∙ same)))

pub returns-in-Death-clause-ok : goal.returns-in-Death-clause-ok
returns-in-Death-clause-ok g c came stands =
    let tid = c.into_parts-tid.result.0 in
    let number = c.into_parts-tid.result.1 in
    let death = c.in-Death.death in
    let found = sym c.in-Some.ensures.place in
    let inside = rw (← c.requires.paired) at c.in-Some.ensures.within in
    let here = get_or_default c.args.kept.now c.in-Some.row c.index-kept-row.result empty_row inside in
    let fault = death_fault_same c.args.rows.now c.args.kept.now came tid c.in-Some.row number death stands found in
    let piece : c.args.piece ≡ Died tid number death = rw c.in-Death.is at c.into_parts-tid.ensures in
    rw piece (on_ok c.add_death.result (rw here at c.add_death.ensures.ok) (λ ok after.
    death_added c.args.rows.now c.args.kept.now came tid c.in-Some.row number death c.add_death.new.self
    c.requires.roster inside stands found
    (none_if_ok (refusal c.args.rows.now came (Died tid number death)) c.add_death.result
    (λ why is. c.add_death.ensures.refused why (rw here (sym fault ∙ is))) ok) after))

pub returns-in-Death-clause-err : goal.returns-in-Death-clause-err
returns-in-Death-clause-err g c =
    set_back c.args.kept.now c.in-Some.row c.index-kept-row.result c.add_death.new.self c.add_death.result
    c.add_death.ensures.err
