-- The notes of stops that came before their turn, as the program keeps them.
use Rattle.std.specs.Prelude.{ℕ, Option, List, map, option_map}
use Rattle.std.specs.BTreeMap.{BTreeMap}
use Rattle.std.specs.BTreeMap as tree
use Rattle.std.specs.Ordering.{nat_cmp}
use Rattle.record_printer.specs.Note.{Note}
use Rattle.record_printer.specs.NoteOf.{note_of}
use Rattle.record_printer.specs.declared.piece.note.Note.{Note as KeptNote}

-- the notes by their numbers
abbrev pub early_of : {Z : Type 0} → BTreeMap ℕ (KeptNote Z) → List (ℕ × Note)
early_of early = map (λ e. (e.0, note_of e.1)) early.entries

-- the note of a number
abbrev pub early_note : {Z : Type 0} → BTreeMap ℕ (KeptNote Z) → ℕ → Option Note
early_note early number = option_map note_of (tree.get nat_cmp early number)
