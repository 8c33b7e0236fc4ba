-- What was read of a case file so far, as the program keeps it, read as the definition's.
use Rattle.std.specs.Prelude.{map}
use Rattle.trace_script.specs.declared.case.draft.Draft.{Draft}
use Rattle.trace_script.specs.CaseFile.{Reading}
use Rattle.trace_script.specs.Kept.{script_of}

abbrev pub reading_of : {Z : Type 0} → Draft Z → Reading
reading_of draft =
    record {
      place = draft.place;
      rows = draft.rows;
      scripts = map script_of draft.scripts.items;
      script = script_of draft.block.script;
      late = draft.late.items;
    }
