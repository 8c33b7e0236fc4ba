-- The string is the front of the run before the first zero, or all of the run.
use Rattle.std.proofs.Common.{◌≡◌, ℕ, Some, None, List, length, position, sym, ap, ◌∙◌, arith}
use Rattle.trace_pages.specs.FlatMemory.{run, run_end}
use Rattle.mem_views.specs.declared.end.End.{End}
use Rattle.mem_views.specs.declared.end.End.TheVariants as ended
use Rattle.mem_views.specs.ByteView.{Cut, cut_before, cut_of, is_zero}
use Rattle.mem_views.proofs.Parts.{run-length, run-take, run_end-length, run_end-take}
use Rattle.mem_views.proofs.Places.{position_within}
use Rattle.mem_views.proofs.views.Views.c_string.Goals as goal

pub new-requires : goal.new-requires
new-requires g c =
    let bytes = run c.args.self.now c.args.addr c.args.limit in
    let found : position is_zero bytes ≡ Some c.in-Some.zero =
    ap (λ (cut : Cut). position is_zero cut.rest) (sym c.bytes-examined.ensures) ∙ sym c.place_of_zero.ensures
    ∙ c.in-Some.is in
    let inside = position_within is_zero bytes c.in-Some.zero found in
    rw c.self.view_is (run_end-take c.args.self.now c.args.addr c.args.limit c.in-Some.zero (omega arith))

pub new-requires-in-None : goal.new-requires-in-None
new-requires-in-None g c =
    let long : c.len-len.result ≡ length (run c.args.self.now c.args.addr c.args.limit) =
    c.len-len.ensures ∙ ap (λ (cut : Cut). cut.len) c.bytes-examined.ensures in
    rw (c.self.view_is, long) (run_end-length c.args.self.now c.args.addr c.args.limit)

pub returns-in-Some : goal.returns-in-Some
returns-in-Some g c =
    let m = c.args.self.now in
    let bytes = run m c.args.addr c.args.limit in
    let found : position is_zero bytes ≡ Some c.in-Some.zero =
    ap (λ (cut : Cut). position is_zero cut.rest) (sym c.bytes-examined.ensures) ∙ sym c.place_of_zero.ensures
    ∙ c.in-Some.is in
    let inside = position_within is_zero bytes c.in-Some.zero found in
    (rw c.self.view_is at c.new.ensures)
    ∙ ap (λ (xs : List ℕ). cut_of c.args.addr xs ended.Nul)
    (run-take m c.args.addr c.args.limit c.in-Some.zero (omega arith))
    ∙ sym (ap (cut_before c.args.addr bytes (run_end m c.args.addr c.args.limit)) found)

pub returns-in-None : goal.returns-in-None
returns-in-None g c =
    let m = c.args.self.now in
    let bytes = run m c.args.addr c.args.limit in
    let none : position is_zero bytes ≡ None =
    ap (λ (cut : Cut). position is_zero cut.rest) (sym c.bytes-examined.ensures) ∙ sym c.place_of_zero.ensures
    ∙ c.in-None.is in
    let long : c.len-len.result ≡ length bytes =
    c.len-len.ensures ∙ ap (λ (cut : Cut). cut.len) c.bytes-examined.ensures in
    let end = c.end_of_string.ensures (run_end m c.args.addr c.args.limit)
    (c.end-end.ensures ∙ ap (λ (cut : Cut). cut.end) c.bytes-examined.ensures) in
    (rw c.self.view_is at c.new-in-None.ensures)
    ∙ ap (λ (n : ℕ). cut_of c.args.addr (run m c.args.addr n) c.end_of_string.result) long
    ∙ ap (λ (xs : List ℕ). cut_of c.args.addr xs c.end_of_string.result) (run-length m c.args.addr c.args.limit)
    ∙ ap (λ (e : End). cut_of c.args.addr bytes e) end
    ∙ sym (ap (cut_before c.args.addr bytes (run_end m c.args.addr c.args.limit)) none)
