use Rattle.std.proofs.Common.{arith, ap, sym, ◌≡◌, ◌+◌, ◌≤◌, Some, refl, option_map}
use Rattle.record_printer.proofs.Stops.{notes_behind_push, notes_len_push, some_more}
use Rattle.record_printer.specs.Early.{early_note}
use Rattle.record_printer.specs.NoteOf.{note_of}
use Rattle.record_printer.proofs.fold.chain.chain_from.Goals as goal

pub loop-before-preserved : goal.loop-before-preserved
loop-before-preserved g c =
    let number = c.loop-before.before + 1 in
    let first = c.args.done + 1 in
    let stops = early_note c.args.early.now in
    let there : stops number ≡ Some (note_of c.in-Some.note.now) = ap (option_map note_of)
    (sym c.in-Some.ensures.value) in
    let before = c.loop-before.invariant.forward in
    let forward : first ≤ number = omega (arith, before) in
    let longer = notes_len_push stops first number (note_of c.in-Some.note.now) forward there in
    let further = notes_behind_push stops first number (note_of c.in-Some.note.now) forward there in
    record {
      last = refl;
      forward = omega (arith, before);
      each = some_more stops first number (note_of c.in-Some.note.now) there c.loop-before.invariant.each;
      lines = rw longer (omega (arith, c.in_ok-with-in-Some.ensures.lines, c.loop-before.invariant.lines));
      behind = rw further (omega (arith, c.in_ok-with-in-Some.ensures.behind, c.loop-before.invariant.behind));
    }
