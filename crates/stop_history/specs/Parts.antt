-- What the program keeps of a phase, as the layout's definition has it.
use Rattle.stop_history.specs.declared.word.layout.Parts.{Parts}
use Rattle.stop_history.specs.Layout.{PhaseFields, kept}

abbrev pub kept_in : Parts → PhaseFields
kept_in parts = kept parts.state parts.status parts.kind parts.signal parts.tracer
