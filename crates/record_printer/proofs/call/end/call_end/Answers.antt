-- The result stands first, and the bytes that came out behind it.
use Rattle.std.proofs.Common.{◌≡◌, ◌++◌, ◌∙◌, [], None, Option, List, ℕ, ap, int_lt, length, pos, if◌then◌else◌}
use Rattle.std.specs.Bool.{then_some}
use Rattle.std.specs.Int.{w64, cast_signed}
use Rattle.std.specs.Option.{is_some, unwrap_or}
use Rattle.record_printer.proofs.CallParts.{end_is}
use Rattle.record_printer.specs.Numbers.{result_text}
use Rattle.record_printer.specs.StopNote.{kinds_of, out_at, out_bytes, out_place}
use Rattle.record_printer.proofs.call.end.call_end.Goals as goal

pub returns : goal.returns
returns g c =
    let content = c.args.stop.now in
    let limit = c.args.show.now.limit in
    let answer = cast_signed w64 content.regs.rax in
    let result = result_text answer in
    let regs : c.stop.inside.regs ≡ content.regs = ap (λ r. r.regs) c.stop.view_is in
    let number : c.nr-number.result ≡ content.regs.orig_rax = c.nr-number.ensures ∙ ap (λ r. r.orig_rax) regs in
    let kinds : c.kinds_of-kinds.result.now ≡ kinds_of content.regs.orig_rax =
    c.kinds_of-kinds.ensures ∙ ap kinds_of number in
    let place : c.out_place-place.result ≡ out_place (kinds_of content.regs.orig_rax) =
    c.out_place-place.ensures.place ∙ ap out_place kinds in
    let came : (if int_lt answer (pos 0) then None else
    out_at limit content c.kinds_of-kinds.result.now c.out_place-place.result) ≡ out_bytes limit content =
    ap (λ (o : Option (List ℕ)). if int_lt answer (pos 0) then None else o)
    (ap (λ k. out_at limit content k c.out_place-place.result) kinds
    ∙ ap (out_at limit content (kinds_of content.regs.orig_rax)) place) in
    let text : c.write_result.new.text.items ≡ result =
    c.in_ok-write_result.ensures ∙ ap (λ t. t ++ result_text (cast_signed w64 c.stop.inside.regs.rax))
    c.in_ok-text.ensures.items ∙ ap (λ r. result_text (cast_signed w64 r.rax)) regs in
    c.new.ensures
    ∙ end_is c.nr-number.result c.write_out_bytes.new.text.items result c.then_some.result (out_bytes limit content)
    (c.in_ok-is_whole.ensures.text ∙ ap (λ t. t ++ unwrap_or (if int_lt answer (pos 0) then None else
    out_at limit content c.kinds_of-kinds.result.now c.out_place-place.result) []) text
    ∙ ap (λ o. result ++ unwrap_or o []) came)
    (c.then_some.ensures ∙ ap (λ b. then_some b c.len-end.result) (c.in_ok-is_whole.ensures.whole ∙ ap is_some came)
    ∙ ap (then_some (is_some (out_bytes limit content))) (c.len-end.ensures ∙ c.write_result.new.text.ok.0 ∙ ap length text))
    ∙ ap (λ n. record { number = n; out = out_bytes limit content; result = result }) number
