-- The bytes that are stored determine the memory after them.
use Rattle.std.proofs.Common.{refl, ◌≡◌, ap, sym, ◌∙◌, length, Result, Ok, Err}
use Rattle.trace_pages.specs.FlatMemory.{FlatMemory, run_end, stored}
use Rattle.trace_pages.specs.Memory.{store_answer}
use Rattle.trace_pages.specs.declared.fault.Fault.{Fault}
use Rattle.trace_pages.proofs.Memories.{stored_is}
use Rattle.trace_record.specs.declared.stop.Stop.{Stop}
use Rattle.trace_regs.specs.declared.regs.Regs.{Regs}
use Rattle.trace_script.specs.Arrivals.{effect_by}
use Rattle.trace_script.specs.Kept.{fill_of}
use Rattle.trace_script.specs.StopTrace.{context, store_effect}
use Rattle.trace_script.specs.declared.setting.Setting.{Setting}
use Rattle.trace_script.specs.declared.step.effect.Effect.{Effect}
use Rattle.trace_script.specs.declared.step.effect.Effect.TheVariants as effect
use Rattle.trace_script.proofs.step.steps_run.store.Goals as goal
use Rattle.trace_script.proofs.step.steps_run.store.Goals.{in-Ok, in-Err}

whole : (s : Setting) (answer : Result (Unit {0}) Fault) (done : Unit {0}) (came : Effect) (r : Regs)
    (m n : FlatMemory) (at : Stop) → answer ≡ Ok done → came ≡ effect.GoesOn → n ≡ m
    → store_effect answer (context r m) ≡ effect_by s came at (context r n)
whole s answer done came r m n at is goes same = rw (is, goes, same) refl

faulted : (s : Setting) (answer : Result (Unit {0}) Fault) (fault : Fault) (came : Effect) (r : Regs)
    (m n : FlatMemory) (at : Stop) → answer ≡ Err fault → came ≡ effect.Faults fault.addr
    → store_effect answer (context r m) ≡ effect_by s came at (context r n)
faulted s answer fault came r m n at is faults = rw (is, faults) refl

pub returns-clause-effect : goal.returns-clause-effect
returns-clause-effect g c =
    let x = c.held.inside in
    let addr = c.args.fill.addr in
    let s = c.args.walk.now.setting.now in
    let bytes = (fill_of c.args.walk.now.filled.now c.args.fill).bytes in
    let memory = stored x.memory addr bytes in
    let answer = store_answer (run_end x.memory addr (length bytes)) in
    let answered : answer ≡ c.store.result =
    ap (λ b. store_answer (run_end x.memory addr (length b))) (sym {b = bytes} c.bytes.ensures)
    ∙ sym c.store.ensures.answer in
    elim c.match-store.branch [
      | in-Ok w ↦ rw (← c.held.view_is) (whole s answer tt c.match-store.result x.regs memory c.store.new.self x.stop
          (answered ∙ w.in-Ok.is) w.result-is
          (stored_is x.memory c.store.new.self addr c.bytes.result.now w.in-Ok.ensures.ok
          ∙ ap (stored x.memory addr) c.bytes.ensures))
      | in-Err w ↦ rw (← c.held.view_is) (faulted s answer w.in-Err.fault c.match-store.result x.regs memory
          c.store.new.self x.stop (answered ∙ w.in-Err.is) w.result-is)
    ]
