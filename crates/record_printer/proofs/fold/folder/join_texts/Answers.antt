use Rattle.std.proofs.Common.{◌≡◌, ◌∙◌, ◌<◌, ◌++◌, ap, length, arith, take}
use Rattle.std.proofs.lemmas.List.{length-set, take_all}
use Rattle.std.specs.List.{flat_map}
use Rattle.record_printer.proofs.Early.{at_other}
use Rattle.record_printer.proofs.Finishing.{text_more, whole_row}
use Rattle.record_printer.proofs.Folders.{kept_read, kept_set}
use Rattle.record_printer.specs.Came.{stop_of}
use Rattle.record_printer.specs.FolderAnswers.{row_text}
use Rattle.record_printer.specs.Represents.{kept_at}
use Rattle.stop_history.specs.Roster.{row_at}
use Rattle.record_printer.proofs.fold.folder.join_texts.Goals as goal

pub loop-place-preserved : goal.loop-place-preserved
loop-place-preserved g c =
    let rows = c.args.rows.now in
    let all = c.args.kept.items in
    let kept = c.loop-place.kept.items in
    let place = c.loop-place.place in
    let row = row_at rows place in
    let within = c.loop-place-test.true in
    let inside : place < length kept = rw c.loop-place.invariant.len within in
    let is : c.replace-row.result ≡ kept_at all place =
    c.replace-row.ensures.value ∙ kept_read kept place c.index_mut.result.now c.index_mut.ensures.value inside
    ∙ c.loop-place.invariant.left place (omega arith) in
    record {
      text = λ came stands none.
          let keeps = stands.each place within in
          let made = (rw is at c.in_ok-into_text.ensures) (stop_of row.tid came) keeps.stops
          (λ ending ended. whole_row rows all came place ending stands none within ended) in
          rw (
            text_more rows came place within,
            c.in_ok-text.ensures,
            c.loop-place.invariant.text came stands none,
            ← keeps.ending,
          )
          (ap (λ t. flat_map (row_text came) (take place rows) ++ t) made);
      left = λ r later.
          kept_set kept place r c.replace-row.new.dest inside
          ∙ at_other place r c.replace-row.new.dest (kept_at kept r) (λ same. omega (arith, same, later))
          ∙ c.loop-place.invariant.left r (omega (arith, later));
      len = length-set kept place c.replace-row.new.dest ∙ c.loop-place.invariant.len;
    }

pub returns : goal.returns
returns g c came stands none =
    c.loop-place.invariant.text came stands none
    ∙ ap (flat_map (row_text came)) (take_all c.loop-place.place c.args.rows.now c.loop-place-test.false)
