-- The bytes are written page by page, and nothing else.
use Rattle.std.proofs.Common.{◌≡◌, ◌+◌, ◌-◌, ◌≤◌, Ok, length, drop, take, arith}
use Rattle.std.proofs.lemmas.List.{length-drop, length-take-le}
use Rattle.trace_pages.specs.FlatMemory.{Full, run_end}
use Rattle.trace_pages.proofs.Runs.{byte_at-stored_more, run_end-Full, run_end-stored_before}
use Rattle.trace_pages.proofs.memory.Memory.write_run.Goals as goal

pub overflow_add-at : goal.overflow_add-at
overflow_add-at g c =
    record {
      fits = (run_end-Full c.args.self.now c.args.addr
          (length c.args.bytes.now) c.requires c.loop-done.done c.loop-done-test.true).0;
    }

pub unreachable-requires : goal.unreachable-requires
unreachable-requires g c =
    let rest : length (drop c.loop-done.done c.args.bytes.now) ≡ length c.args.bytes.now - c.loop-done.done =
    length-drop c.loop-done.done c.args.bytes.now in
    let within : c.loop-done.done + c.min-step.result ≤ length c.args.bytes.now = omega (arith, c.min-step.ensures) in
    let count : c.loop-done.done + c.min-step.result - c.loop-done.done ≡ c.min-step.result = omega arith in
    let long : length (take c.min-step.result (drop c.loop-done.done c.args.bytes.now)) ≡ c.min-step.result =
    length-take-le c.min-step.result _ (omega (arith, rest)) in
    let whole : run_end c.loop-done.self (c.args.addr + c.loop-done.done) c.min-step.result ≡ Full =
    run_end-stored_before c.args.self.now c.loop-done.self c.args.addr c.loop-done.done c.min-step.result
    c.args.bytes.now c.requires within (omega (arith, c.min-step.ensures, c.rest_of_page.ensures))
    c.loop-done.invariant.written in
    let answer = c.store_in_page.ensures.answer in
    let fault : c.store_in_page.result ≡ Ok tt = rw (count, long, whole) at answer in
    c.in_default.not-Ok tt fault

pub loop-done-preserved : goal.loop-done-preserved
loop-done-preserved g c =
    let within : c.loop-done.done + c.min-step.result ≤ length c.args.bytes.now = omega (arith, c.min-step.ensures) in
    let count : c.loop-done.done + c.min-step.result - c.loop-done.done ≡ c.min-step.result = omega arith in
    record {
      within = within;
      written = byte_at-stored_more c.args.self.now c.loop-done.self c.store_in_page.new.self c.args.addr
          c.loop-done.done c.min-step.result c.args.bytes.now
          within c.loop-done.invariant.written (rw count at c.in-Ok.ensures.ok);
    }
