-- What is known of a case is known of each of its scripts.
use Rattle.std.proofs.Common.{◌≡◌, ◌∙◌, ◌<◌, Some, ap, arith, length, map, refl, slice_get, subst}
use Rattle.std.specs.Option.{option_map}
use Rattle.std.proofs.lemmas.List.{length-map}
use Rattle.std.proofs.lemmas.Option.{slice_get-map, slice_get_read}
use Rattle.trace_script.specs.CaseFacts.{IsScript}
use Rattle.trace_script.specs.CaseFile.{CaseContent}
use Rattle.trace_script.specs.Kept.{script_of}
use Rattle.trace_script.proofs.Cases.{known}
use Rattle.trace_script.proofs.case.Case.script.Goals as goal

pub returns-clause-known : goal.returns-clause-known
returns-clause-known g c =
    let items = c.self.inside.scripts.items in
    let content : CaseContent = record { rows = c.self.inside.roster; scripts = map script_of items } in
    let rows : length c.self.inside.roster ≡ length c.args.self.now.rows =
    ap (λ (k : CaseContent). length k.rows) c.self.view_is in
    let each : length (map script_of items) ≡ length c.self.inside.roster = c.self.invariant.each in
    let within : c.args.row < length items = omega (arith, rows, each, length-map items script_of, c.requires) in
    let there : slice_get content.scripts c.args.row ≡ Some (script_of c.index.result.now) =
    slice_get-map script_of items c.args.row
    ∙ ap (option_map script_of)
    (slice_get_read items (length items) c.args.row c.index.result.now refl within c.index.ensures) in
    let Known : CaseContent → Type 0 = λ k. IsScript k.rows c.args.row (script_of c.index.result.now) in
    subst Known c.self.view_is (known content c.args.row (script_of c.index.result.now) c.self.invariant there)
