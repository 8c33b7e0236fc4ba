-- A thread begins after the commands of those before it.
use Rattle.std.proofs.Common.{◌≡◌, ◌∙◌, ◌++◌, ◌∷◌, [], ℕ, Bor, List, Ok, Option, ap, arith, false, is_some, length, sym}
use Rattle.std.proofs.lemmas.List.{length-map, map-append}
use Rattle.std.specs.Option.{option_map}
use Rattle.litmus_files.specs.declared.draft.TheConstants.{MOST_THREADS}
use Rattle.litmus_files.specs.LitmusDraft.{litmus_reading_of, names_kept}
use Rattle.litmus_files.proofs.LitmusFiles.{is_open}
use Rattle.litmus_files.proofs.LitmusSteps.{room_for, thread_taken}
use Rattle.litmus_files.proofs.draft.take_thread.Goals as goal

pub returns : goal.returns
returns g c =
    let draft = c.args.draft.now in
    let old = litmus_reading_of draft in
    let said : Option (Bor (List ℕ)) → Option (List ℕ) = option_map (λ (name : Bor (List ℕ)). name.now) in
    let name = said c.args.name in
    let long : length old.names ≡ c.len.result =
    omega (arith, length-map draft.names.items said, draft.names.ok.0, c.len.ensures) in
    let closed : is_some old.repeat ≡ false =
    is_open draft.times draft.body.items ∙ sym c.is_some.ensures ∙ c.if-is_some.false in
    let pushed = rw c.if-is_err.ensures.negation at c.push.ensures.items in
    let names_are : names_kept c.push.new.self.items ≡ old.names ++ name ∷ [] =
    ap names_kept pushed ∙ map-append said draft.names.items (c.args.name ∷ []) in
    let voices_are = rw c.if-is_err-2.ensures.negation at c.push-2.ensures.items in
    let after : length draft.lines.items ≡ c.len-draft.result =
    omega (arith, draft.lines.ok.0, c.len-draft.ensures) in
    thread_taken old c.args.voice name (names_kept c.push.new.self.items) c.push-2.new.self.items
    (room_for (length old.names) c.len.result MOST_THREADS c.if-len.false long) closed names_are voices_are
    ∙ ap (λ n. Ok (record old {
      names = names_kept c.push.new.self.items;
      voices = c.push-2.new.self.items;
      before = n;
    })) after
