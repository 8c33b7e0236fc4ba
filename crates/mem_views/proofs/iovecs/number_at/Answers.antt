-- The pieces fill the bytes from the front.
use Rattle.std.proofs.Common.{◌≡◌, ◌+◌, ◌-◌, ◌++◌, ℕ, List, length, take, append_assoc, sym, ap, ◌∙◌, arith}
use Rattle.std.proofs.lemmas.List.{length-append}
use Rattle.std.proofs.lemmas.Slice.{take-put_mid}
use Rattle.trace_pages.specs.FlatMemory.{run}
use Rattle.trace_pages.proofs.Runs.{length-run-Full}
use Rattle.mem_views.specs.ByteView.{Cut}
use Rattle.mem_views.proofs.iovecs.number_at.Goals as goal

pub loop-piece-init : goal.loop-piece-init
loop-piece-init g c =
    let is : c.into_iter-piece-iterator.result.rest ≡ run c.args.memory.now c.args.at 8 =
    ap (λ (cut : Cut). cut.rest) (c.into_iter-piece-iterator.ensures.into_iter_gives ∙ c.new-piece-items.ensures) in
    record {
      room = omega (arith, ap length is, length-run-Full c.args.memory.now c.args.at 8 c.requires);
      bytes = is;
    }

pub loop-piece-preserved : goal.loop-piece-preserved
loop-piece-preserved g c =
    let piece = c.in-Some.piece.now in
    let rest = c.next.new.self.rest in
    let filled = c.loop-piece.filled in
    let bytes = c.loop-piece.bytes in
    let put = c.copy_from_slice.new.self in
    let front = c.in-Some.ensures.steps.front in
    let all = ap length front in
    let long = length-append piece rest in
    record {
      room = omega arith;
      bytes = ap (λ (xs : List ℕ). xs ++ rest) (take-put_mid filled (filled + length piece - filled) bytes put
          (filled + length piece) (omega (arith, ap length c.copy_from_slice.ensures.after)) (omega arith)
          ∙ ap (λ (xs : List ℕ). take filled bytes ++ xs) c.copy_from_slice.ensures.after)
          ∙ append_assoc (take filled bytes) piece rest ∙ ap (λ (xs : List ℕ). take filled bytes ++ xs) (sym front)
          ∙ c.loop-piece.invariant.bytes;
    }
