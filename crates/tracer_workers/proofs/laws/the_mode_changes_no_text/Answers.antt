-- By the law of scripts.
use Rattle.tracer_workers.proofs.ModeText.{mode_text}
use Rattle.tracer_workers.proofs.laws.the_mode_changes_no_text.Goals as goal

pub returns : goal.returns
returns c = λ config content.
    let law = c.seccomp_changes_no_line.ensures in
    mode_text (record { lines = law.lines; children = law.children }) config content
