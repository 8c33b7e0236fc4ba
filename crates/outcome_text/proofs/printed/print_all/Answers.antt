-- What is cut off at the end is cut off after all outcomes.
use Rattle.std.proofs.Common.{◌++◌, OnOk, length, refl, string_bytes, subst}
use Rattle.std.specs.Io.KnownBytes.{Appends}
use Rattle.stop_program.specs.Threads.{commands_in}
use Rattle.outcome_text.specs.Chosen.{chosen_of}
use Rattle.litmus_files.specs.LitmusDraft.{names_kept}
use Rattle.outcome_text.specs.OutcomeText.{allowed_line, chosen_text, counts_line, outcome_texts}
use Rattle.outcome_text.proofs.Printing.{cut_after, cut_first, whole_chosen, written_after}
use Rattle.outcome_text.proofs.TextOfParts.{cut_off_as, of_error}
use Rattle.outcome_text.proofs.printed.print_all.Goals as goal

pub returns-clause-ok : goal.returns-clause-ok
returns-clause-ok g c =
    let program = c.args.program.now in
    let commands = commands_in program.commands.now in
    let rows = program.rows.now in
    let names = names_kept program.names.now in
    let voices = program.voices.now in
    let told = c.places-places.result in
    let places = c.args.printed.now.explored.now.places in
    let found = chosen_of (length program.commands.now) commands c.args.printed.now.conditions.now
    c.args.printed.now.explored.now.runs in
    let count = c.args.printed.now.count in
    let start = g.W.Write.contents c.args.output.now in
    let last = g.W.Write.contents c.print_end.new.output in
    subst (λ t. OnOk c.print_end.result (Appends start last t))
    (whole_chosen rows names voices commands c.args.required told places count found c.places-places.ensures
    c.requires.counted)
    (written_after c.print_end.result start (g.W.Write.contents c.print_chosen.new.output) last
    (string_bytes c.args.printer.now.text) (outcome_texts rows names voices commands 1 count found)
    (string_bytes c.print_chosen.new.printer.text) (counts_line count told ++ allowed_line c.args.required)
    c.requires.begin c.in_ok-print_chosen.ensures.ok c.print_end.ensures.ok)

pub returns-clause-cut_off : goal.returns-clause-cut_off
returns-clause-cut_off g c =
    let program = c.args.program.now in
    let commands = commands_in program.commands.now in
    let rows = program.rows.now in
    let names = names_kept program.names.now in
    let voices = program.voices.now in
    let told = c.places-places.result in
    let places = c.args.printed.now.explored.now.places in
    let found = chosen_of (length program.commands.now) commands c.args.printed.now.conditions.now
    c.args.printed.now.explored.now.runs in
    let count = c.args.printed.now.count in
    let start = g.W.Write.contents c.args.output.now in
    let last = g.W.Write.contents c.print_end.new.output in
    cut_off_as c.print_end.result start last
    (outcome_texts rows names voices commands 1 count found ++ (counts_line count told ++ allowed_line c.args.required))
    (chosen_text rows names voices commands c.args.required places found)
    (whole_chosen rows names voices commands c.args.required told places count found c.places-places.ensures
    c.requires.counted)
    (cut_after c.print_end.result start (g.W.Write.contents c.print_chosen.new.output) last
    (string_bytes c.args.printer.now.text) (outcome_texts rows names voices commands 1 count found)
    (string_bytes c.print_chosen.new.printer.text) (counts_line count told ++ allowed_line c.args.required)
    c.requires.begin c.in_ok-print_chosen.ensures.ok c.print_end.ensures.cut_off)

pub returns-in_err-print_chosen-clause-cut_off : goal.returns-in_err-print_chosen-clause-cut_off
returns-in_err-print_chosen-clause-cut_off g c =
    let program = c.args.program.now in
    let commands = commands_in program.commands.now in
    let rows = program.rows.now in
    let names = names_kept program.names.now in
    let voices = program.voices.now in
    let places = c.args.printed.now.explored.now.places in
    let found = chosen_of (length program.commands.now) commands c.args.printed.now.conditions.now
    c.args.printed.now.explored.now.runs in
    let count = c.args.printed.now.count in
    let start = g.W.Write.contents c.args.output.now in
    let last = g.W.Write.contents c.print_chosen.new.output in
    cut_off_as c.from_residual.result start last
    (outcome_texts rows names voices commands 1 count found ++ (counts_line count places ++ allowed_line c.args.required))
    (chosen_text rows names voices commands c.args.required places found)
    (whole_chosen rows names voices commands c.args.required places places count found refl c.requires.counted)
    (of_error c.from_residual.result (cut_first start last (string_bytes c.args.printer.now.text)
    (outcome_texts rows names voices commands 1 count found) (counts_line count places ++ allowed_line c.args.required)
    c.requires.begin c.in_err-print_chosen.ensures.cut_off))
