-- Both traces are folded side by side.
use Rattle.std.proofs.Common.{Some, map, ◌∙◌, sym}
use Rattle.record_printer.specs.DeathLine.{death_text}
use Rattle.record_printer.specs.StopNote.{stop_note}
use Rattle.tracer_workers.specs.CaseText.{death_of}
use Rattle.tracer_workers.specs.Modes.{filtered_trace, plain_trace, shown_filter}
use Rattle.tracer_workers.proofs.TwoTraces.{same_script}
use Rattle.tracer_workers.proofs.laws.seccomp_changes_no_line.Goals as goal

pub returns-clause-lines : goal.returns-clause-lines
returns-clause-lines c = λ show tid ret_data options more other script agree.
    let plain = plain_trace tid options other script in
    let filtered = filtered_trace tid more (shown_filter show ret_data) script in
    c.lines_are_folded.ensures (map (stop_note show) plain.stops) (Some (death_text tid (death_of plain.ending)))
    ∙ (same_script show tid ret_data options more other agree script).lines
    ∙ sym (c.lines_are_folded.ensures (map (stop_note show) filtered.stops)
    (Some (death_text tid (death_of filtered.ending))))

pub returns-clause-children : goal.returns-clause-children
returns-clause-children c = λ show tid ret_data options more other script agree child.
    (same_script show tid ret_data options more other agree script).children child

pub returns-clause-ending : goal.returns-clause-ending
returns-clause-ending c = λ show tid ret_data options more other script agree.
    (same_script show tid ret_data options more other agree script).endings
