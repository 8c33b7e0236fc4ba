use Rattle.std.proofs.Common.{◌≡◌, ◌∙◌, sym, length}
use Rattle.record_printer.proofs.Finishing.{first_here, first_later, first_over, lost_here}
use Rattle.record_printer.proofs.Folders.{kept_read}
use Rattle.record_printer.specs.Came.{stop_of}
use Rattle.record_printer.specs.FolderAnswers.{lost_at}
use Rattle.stop_history.specs.Roster.{row_at}
use Rattle.record_printer.proofs.fold.folder.lost_in.Goals as goal

pub returns-then-is_some : goal.returns-then-is_some
returns-then-is_some g c came stands =
    let rows = c.args.rows.now in
    let kept = c.args.kept.now in
    let place = c.loop-place.place in
    let tid = (row_at rows place).tid in
    let within = c.loop-place-test.true in
    let read = kept_read kept place c.index-kept-place.result c.index-kept-place.is (rw c.requires.paired within) in
    let fault : c.lost_at-fault.result ≡ lost_at rows came place =
    (rw read at c.lost_at-fault.ensures) (stop_of tid came) (stands.each place within).stops
    ∙ lost_here rows kept came place stands within in
    sym (c.loop-place.invariant came stands
    ∙ first_here (lost_at rows came) place (length rows) within
    (rw (← fault) (sym c.is_some.ensures ∙ c.if-is_some.true))
    ∙ sym fault)

pub loop-place-preserved : goal.loop-place-preserved
loop-place-preserved g c came stands =
    let rows = c.args.rows.now in
    let kept = c.args.kept.now in
    let place = c.loop-place.place in
    let tid = (row_at rows place).tid in
    let within = c.loop-place-test.true in
    let read = kept_read kept place c.index-kept-place.result c.index-kept-place.is (rw c.requires.paired within) in
    let fault : c.lost_at-fault.result ≡ lost_at rows came place =
    (rw read at c.lost_at-fault.ensures) (stop_of tid came) (stands.each place within).stops
    ∙ lost_here rows kept came place stands within in
    c.loop-place.invariant came stands
    ∙ first_later (lost_at rows came) place (length rows) within
    (rw (← fault) (sym c.is_some.ensures ∙ c.if-is_some.false))

pub returns : goal.returns
returns g c came stands = sym (c.loop-place.invariant came stands
    ∙ first_over (lost_at c.args.rows.now came) c.loop-place.place (length c.args.rows.now) c.loop-place-test.false)
