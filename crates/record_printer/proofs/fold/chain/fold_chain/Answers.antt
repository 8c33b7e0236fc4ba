-- The note of the number, if there is one, is the first of those that are left.
use Rattle.std.proofs.Common.{◌≡◌, ◌+◌, ◌<◌, ◌∙◌, None, Some, ap, sym, arith, option_map}
use Rattle.record_printer.proofs.Early.{note_gone, note_left}
use Rattle.record_printer.proofs.Stops.{less_room, notes_first}
use Rattle.record_printer.specs.Early.{early_note}
use Rattle.record_printer.specs.NoteOf.{note_of}
use Rattle.record_printer.proofs.fold.chain.fold_chain.Goals as goal
use Rattle.record_printer.proofs.fold.chain.fold_chain.Goals.{in-Some, in_default}

pub take-requires : goal.take-requires
take-requires g c =
    let number = c.loop-before.before + 1 in
    let stops = early_note c.args.early.now in
    let there : stops number ≡ Some (note_of c.in-Some.note) =
    sym (ap (option_map note_of) c.remove.ensures.value ∙ c.loop-before.invariant.left number (omega arith))
    ∙ ap (option_map note_of) c.in-Some.is in
    let later : number < c.args.last + 1 = omega (arith, c.loop-before-test.true) in
    let room = rw (notes_first stops number (c.args.last + 1) later, there) at
    c.loop-before.invariant.room in
    less_room c.loop-before.fold _ _ _ _ room (omega arith) (omega arith)

pub loop-before-preserved : goal.loop-before-preserved
loop-before-preserved g c =
    let number = c.loop-before.before + 1 in
    let stops = early_note c.args.early.now in
    let later : number < c.args.last + 1 = omega (arith, c.loop-before-test.true) in
    let first = notes_first stops number (c.args.last + 1) later in
    let removed : stops number ≡ option_map note_of c.remove.result =
    sym (ap (option_map note_of) c.remove.ensures.value ∙ c.loop-before.invariant.left number (omega arith)) in
    record {
      fold = elim c.match-remove.branch [
        | in-Some w ↦ let there : stops number ≡ Some (note_of w.in-Some.note) =
            removed ∙ ap (option_map note_of) w.in-Some.is in
            let folded = rw (first, there) at c.loop-before.invariant.fold in
            rw (w.fold-is, w.take.ensures.fold) folded
        | in_default w ↦ let none : stops number ≡ None = removed ∙ ap (option_map note_of) w.in_default.is in
            let folded = rw (first, none) at c.loop-before.invariant.fold in
            rw w.fold-is folded
      ];
      room = elim c.match-remove.branch [
        | in-Some w ↦ let there : stops number ≡ Some (note_of w.in-Some.note) =
            removed ∙ ap (option_map note_of) w.in-Some.is in
            let room = rw (first, there) at c.loop-before.invariant.room in
            rw w.fold-is (w.take.ensures.room _ _ room)
        | in_default w ↦ let none : stops number ≡ None = removed ∙ ap (option_map note_of) w.in_default.is in
            let room = rw (first, none) at c.loop-before.invariant.room in
            rw w.fold-is room
      ];
      gone = note_gone c.loop-before.early c.remove.new.self number c.remove.ensures.updates.0
          c.loop-before.invariant.gone;
      left = λ n above. note_left c.loop-before.early c.remove.new.self number c.remove.ensures.updates.0 n above
          ∙ c.loop-before.invariant.left n (omega (arith, above));
    }
