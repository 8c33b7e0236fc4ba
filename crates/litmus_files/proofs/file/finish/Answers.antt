-- No repeat may be open after the last line.
use Rattle.std.proofs.Common.{◌≡◌, ◌∙◌, ◌<◌, Err, ap, arith, length, subst, sym}
use Rattle.std.specs.List.{All}
use Rattle.trace_script.specs.declared.cause.Cause.TheVariants.{NoEnd}
use Rattle.litmus_files.specs.declared.required.NumberedLine.{NumberedLine}
use Rattle.litmus_files.specs.LitmusDraft.{litmus_reading_of, names_kept}
use Rattle.litmus_files.proofs.LitmusFiles.{are_texts, content_is, is_open, length_kept, refused_at_end}
use Rattle.litmus_files.proofs.file.finish.Goals as goal

pub returns-then-is_some-clause-err : goal.returns-then-is_some-clause-err
returns-then-is_some-clause-err g c =
    let all = litmus_reading_of c.args.draft in
    refused_at_end c.args.text.now all c.requires.lines
    (is_open c.args.draft.times c.args.draft.body.items ∙ sym c.is_some.ensures ∙ c.if-is_some.true)
    ∙ ap (λ n. Err (record { line = n; cause = NoEnd })) (sym c.last_line.ensures)

pub returns-clause-ok : goal.returns-clause-ok
returns-clause-ok g c =
    let all = litmus_reading_of c.args.draft in
    content_is c.args.text.now all c.requires.lines
    (is_open c.args.draft.times c.args.draft.body.items ∙ sym c.is_some.ensures ∙ c.if-is_some.false)

pub returns-clause-range : goal.returns-clause-range
returns-clause-range g c =
    let draft = c.args.draft in
    let long : length (names_kept draft.names.items) ≡ length draft.names.items = length_kept draft.names.items in
    record {
      few = omega (arith, long, c.requires.range.few);
      names = are_texts draft.names.items c.requires.range.names;
      voices = c.requires.range.voices ∙ long;
      calls = c.requires.range.calls;
      threads = subst (λ n. All (λ (line : NumberedLine). line.line.thread < n) draft.lines.items) long
          c.requires.range.threads;
      forward = c.requires.range.forward;
    }
