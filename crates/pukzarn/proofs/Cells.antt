-- Handles that are filled from the last one on, by the ends that new cells have left.
use Rattle.std.proofs.Common.{◌≡◌, ◌<◌, ◌≤◌, ◌+◌, ◌-◌, ◌∷◌, [], ℕ, List, Some, ◌∙◌, ap, sym, subst, arith}
use Rattle.std.proofs.Common.{length, set}
use Rattle.std.proofs.lemmas.List.{length-append, length-set}
use Rattle.std.specs.List.{slice_get}
use Rattle.atomic_table.specs.Seated.{TableId}
use Rattle.stop_history.specs.declared.roster.Row.{Row}
use Rattle.stop_table.specs.Opening.{AreTracees, AreTracers}
use Rattle.stop_table.specs.Tracee.{TraceeHandle}
use Rattle.stop_table.specs.Tracer.{TracerHandle}
use Rattle.trace_calls.specs.Handle.{tracer_of}
use Rattle.c_interface.proofs.Lists.{at_end, in_front}
use Rattle.c_interface.specs.Opening.{IsNewTracee, IsNewTracer}
use Rattle.c_interface.specs.declared.opened.Opened.{Opened}
use Rattle.pukzarn.specs.Call.{IsHandleClosed}
use Rattle.pukzarn.specs.Opening.{HoldsTracee, HoldsTracer, PutsTracee, PutsTracer}
use Rattle.pukzarn.specs.declared.handle.Handle.{Handle}
use Rattle.pukzarn.proofs.Filling.{put_back}

abbrev pub AreClosedBefore : (at : ℕ) → List Handle → Type 0
AreClosedBefore at handles = (k : ℕ) (x : Handle) → k < at → slice_get handles k ≡ Some x → IsHandleClosed x

-- so many are filled, from the last one on; b has the ends that are left of those of a
pub record TraceesLeft (a b : Opened) (handles : List Handle) (filled : ℕ) : Type 0 where
  pub left : length b.tracees.items + filled ≡ length handles
  pub roster : b.roster ≡ a.roster
  pub tracers : b.tracers.items ≡ a.tracers.items
  pub rest : (table : TableId) → AreTracees table a.roster a.tracees.items → AreTracees table a.roster b.tracees.items
  pub done : (table : TableId) → AreTracees table a.roster a.tracees.items → (k : ℕ) (x : Handle)
      → length b.tracees.items ≤ k → slice_get handles k ≡ Some x → HoldsTracee table a.roster k x

pub record TracersLeft (a b : Opened) (handles : List Handle) (filled : ℕ) : Type 0 where
  pub left : length b.tracers.items + filled ≡ length handles
  pub roster : b.roster ≡ a.roster
  pub rest : (table : TableId) → AreTracers table a.roster a.tracers.items → AreTracers table a.roster b.tracers.items
  pub done : (table : TableId) → AreTracers table a.roster a.tracers.items → (k : ℕ) (x : Handle)
      → length b.tracers.items ≤ k → slice_get handles k ≡ Some x → HoldsTracer table a.roster k x

pub tracee_put : (a b c : Opened) (handles : List Handle) (filled at : ℕ) (x : Handle) → TraceesLeft a b handles filled
    → PutsTracee b c x → filled < length handles → at ≡ length handles - 1 - filled
    → TraceesLeft a c (set handles at x) (filled + 1)
tracee_put a b c handles filled at x was puts low is =
    let end = puts.end in
    let gives = puts.gives in
    let count = length c.tracees.items in
    let long : length b.tracees.items ≡ count + 1 =
    ap length gives.last ∙ length-append c.tracees.items (end.tracee ∷ []) in
    let here : at ≡ count = omega (arith, long, was.left, is, low) in
    let last : slice_get b.tracees.items count ≡ Some end.tracee =
    ap (λ (l : List TraceeHandle). slice_get l count) gives.last ∙ at_end c.tracees.items end.tracee in
    record {
      left = omega (arith, long, was.left, length-set handles at x);
      roster = gives.roster ∙ was.roster;
      tracers = gives.tracers ∙ was.tracers;
      rest = λ table all k e at_k.
          was.rest table all k e (ap (λ (l : List TraceeHandle). slice_get l k) gives.last
          ∙ in_front c.tracees.items (end.tracee ∷ []) k e at_k);
      done = λ table all k v high.
          let holds : HoldsTracee table a.roster at x = record {
            end = end;
            held = puts.held;
            is_new = subst (λ (rows : List Row). IsNewTracee rows at end) was.roster
                (subst (λ (n : ℕ). IsNewTracee b.roster n end) (sym here) gives.is_new);
            same_table = ap (λ (t : TraceeHandle). t.table_id) (was.rest table all count end.tracee last);
          } in
          put_back (HoldsTracee table a.roster) handles at x holds
          (λ j w behind at_j. was.done table all j w (omega (arith, behind, here, long)) at_j) k v
          (omega (arith, high, here));
    }

pub tracer_put : (a b c : Opened) (handles : List Handle) (filled at : ℕ) (x : Handle) → TracersLeft a b handles filled
    → PutsTracer b c x → filled < length handles → at ≡ length handles - 1 - filled
    → TracersLeft a c (set handles at x) (filled + 1)
tracer_put a b c handles filled at x was puts low is =
    let end = puts.end in
    let gives = puts.gives in
    let count = length c.tracers.items in
    let long : length b.tracers.items ≡ count + 1 =
    ap length gives.last ∙ length-append c.tracers.items (tracer_of end.calls ∷ []) in
    let here : at ≡ count = omega (arith, long, was.left, is, low) in
    let last : slice_get b.tracers.items count ≡ Some (tracer_of end.calls) =
    ap (λ (l : List TracerHandle). slice_get l count) gives.last ∙ at_end c.tracers.items (tracer_of end.calls) in
    record {
      left = omega (arith, long, was.left, length-set handles at x);
      roster = gives.roster ∙ was.roster;
      rest = λ table all k e at_k.
          was.rest table all k e (ap (λ (l : List TracerHandle). slice_get l k) gives.last
          ∙ in_front c.tracers.items (tracer_of end.calls ∷ []) k e at_k);
      done = λ table all k v high.
          let holds : HoldsTracer table a.roster at x = record {
            end = end;
            held = puts.held;
            is_new = subst (λ (rows : List Row). IsNewTracer rows at end) was.roster
                (subst (λ (n : ℕ). IsNewTracer b.roster n end) (sym here) gives.is_new);
            same_table = ap (λ (t : TracerHandle). t.table_id) (was.rest table all count (tracer_of end.calls) last);
          } in
          put_back (HoldsTracer table a.roster) handles at x holds
          (λ j w behind at_j. was.done table all j w (omega (arith, behind, here, long)) at_j) k v
          (omega (arith, high, here));
    }
