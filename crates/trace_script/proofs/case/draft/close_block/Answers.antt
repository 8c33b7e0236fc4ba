-- The script of the block is the last one.
use Rattle.std.proofs.Common.{◌≡◌, ◌∙◌, ◌++◌, ◌∷◌, [], List, Ok, ap, map, sym}
use Rattle.std.proofs.lemmas.List.{map-append}
use Rattle.trace_script.specs.declared.case.keyword.Place.TheVariants.{Outside}
use Rattle.trace_script.specs.CaseFile.{Reading, no_script}
use Rattle.trace_script.specs.Draft.{reading_of}
use Rattle.trace_script.specs.Kept.{script_of}
use Rattle.trace_script.specs.Script.{Script}
use Rattle.trace_script.proofs.case.draft.close_block.Goals as goal

pub returns-clause-line : goal.returns-clause-line
returns-clause-line g c =
    let old = reading_of c.args.draft.now in
    let reading : List Script → Script → Reading = λ scripts script.
    record { place = Outside; rows = old.rows; scripts = scripts; script = script; late = old.late } in
    let closed = c.replace-script.result.script in
    let same : script_of closed ≡ old.script =
    ap (λ b. script_of b.script) c.replace-script.ensures.value in
    let pushed = rw c.if-is_err.ensures.negation at c.push.ensures.items in
    let all : map script_of c.push.new.self.items ≡ old.scripts ++ old.script ∷ [] =
    ap (map script_of) pushed ∙ map-append script_of c.args.draft.now.scripts.items (closed ∷ [])
    ∙ ap (λ s. old.scripts ++ s ∷ []) same in
    let none : script_of c.replace-script.new.dest.script ≡ no_script =
    ap (λ b. script_of b.script) c.replace-script.ensures.after ∙ c.new_block.ensures.script in
    ap (λ s. Ok (reading (old.scripts ++ old.script ∷ []) s)) (sym none)
    ∙ ap (λ scripts. Ok (reading scripts (script_of c.replace-script.new.dest.script))) (sym all)
