-- Each of three claims is in hand until it is resumed.
use Rattle.std.proofs.Common.{◌≡◌, ◌≢◌, ◌≤◌, ℕ, ◌∙◌, sym, subst, arith, rules}
use Rattle.trace_record.specs.Content.{Content}
use Rattle.stop_history.specs.Word.{Word}
use Rattle.stop_table.specs.Handle.{IsHolding}
use Rattle.stop_table.specs.View.{View}
use Rattle.thread_tests.proofs.cells.calls.three_claims_are_resumed_in_another_order.Goals as goal

at_row : (v : View) (row at : ℕ) (word : Word) (content : Content) → row ≡ at → IsHolding v at word content
    → IsHolding v row word content
at_row v row at word content same holding = subst (λ r. IsHolding v r word content) (sym same) holding

pub resume-requires : goal.resume-requires
resume-requires g c =
    let x = c.expect-one.result in
    let one : (x.row ≡ 1) × IsHolding c.claim-2.new.self.tracer.view 1 x.word x.stop = search rules in (
      at_row c.claim-3.new.self.tracer.view x.row 1 x.word x.stop one.0
          (c.claim-3.ensures.others 1 x.word x.stop (omega arith) one.1),
      omega arith,
    )

pub resume-requires-2 : goal.resume-requires-2
resume-requires-2 g c =
    let x = c.expect-one.result in
    let y = c.expect-two.result in
    let one : (x.row ≡ 1) × IsHolding c.claim-2.new.self.tracer.view 1 x.word x.stop = search rules in
    let two : (y.row ≡ 2) × IsHolding c.claim-3.new.self.tracer.view 2 y.word y.stop = search rules in (
      at_row c.resume.new.self.tracer.view y.row 2 y.word y.stop two.0
          (c.resume.ensures.others 2 y.word y.stop (omega (arith, one.0)) two.1),
      omega arith,
    )

pub resume-requires-3 : goal.resume-requires-3
resume-requires-3 g c =
    let x = c.expect-one.result in
    let y = c.expect-two.result in
    let z = c.expect-zero.result in
    let one : (x.row ≡ 1) × IsHolding c.claim-2.new.self.tracer.view 1 x.word x.stop = search rules in
    let two : (y.row ≡ 2) × IsHolding c.claim-3.new.self.tracer.view 2 y.word y.stop = search rules in
    let zero : (z.row ≡ 0) × IsHolding c.claim.new.self.tracer.view 0 z.word z.stop = search rules in
    let second = c.claim-2.ensures.others 0 z.word z.stop (omega arith) zero.1 in
    let third = c.claim-3.ensures.others 0 z.word z.stop (omega arith) second in
    let fourth = c.resume.ensures.others 0 z.word z.stop (omega (arith, one.0)) third in (
      at_row c.resume-2.new.self.tracer.view z.row 0 z.word z.stop zero.0
          (c.resume-2.ensures.others 0 z.word z.stop (omega (arith, two.0)) fourth),
      omega arith,
    )
