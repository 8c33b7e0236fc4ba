-- The tracer that is given out is the last one left, and has seen nothing, so it has claimed nothing.
use Rattle.std.proofs.Common.{refl, ◌≡◌, ◌∷◌, ◌++◌, [], ◌∙◌, ap, sym, List, None, length, replicate, option_to_list}
use Rattle.std.specs.List.{slice_get}
use Rattle.stop_history.specs.declared.roster.Row.{Row}
use Rattle.stop_table.specs.Opening.{new_tracer}
use Rattle.stop_table.specs.Tracer.{TracerHandle, held_rows}
use Rattle.trace_calls.specs.Handle.{CallsHandle, handle_of, tracer_of}
use Rattle.c_interface.specs.Opened.{AreNewTracers}
use Rattle.c_interface.proofs.Lists.{at_end, in_front, none_pass}
use Rattle.c_interface.proofs.opened.Opened.next_tracer.Goals as goal

last_is_new : (rows : List Row) (items left : List TracerHandle) (e : TracerHandle) → AreNewTracers rows items
    → items ≡ left ++ e ∷ [] → e ≡ new_tracer e.table_id rows (length left)
last_is_new rows items left e are is = are (length left) e (ap (λ xs. slice_get xs (length left)) is ∙ at_end left e)

pub new-requires-clause-idle : goal.new-requires-clause-idle
new-requires-clause-idle c =
    let s = c.args.self.now in
    let left = c.pop.new.self.items in
    let is = last_is_new s.roster s.tracers.items left c.in-Some.tracer s.of_tracers c.in-Some.ensures.items in
    ap (λ (x : TracerHandle). held_rows x.view) is ∙ none_pass _ 0 (length s.roster) (λ k low high. refl)

pub invariant_of-self-in-Ok-1 : goal.invariant_of-self-in-Ok-1
invariant_of-self-in-Ok-1 c =
    let s = c.args.self.now in
    let left = c.pop.new.self.items in
    record {
      of_rows = s.of_rows;
      of_tracers = λ k e at. s.of_tracers k e
          (ap (λ xs. slice_get xs k) c.pop.ensures.items ∙ in_front left (option_to_list c.pop.result) k e at);
    }

pub returns-in-Ok : goal.returns-in-Ok
returns-in-Ok c =
    let s = c.args.self.now in
    let left = c.pop.new.self.items in
    let count = length s.roster in
    let made = c.in-Ok.ensures in
    let is = last_is_new s.roster s.tracers.items left c.in-Some.tracer s.of_tracers c.in-Some.ensures.items in
    let same = ap (λ (a : CallsHandle). a.table_id) made in
    record {
      last = c.in-Some.ensures.items ∙ ap (λ (x : TracerHandle). left ++ x ∷ []) (sym (ap tracer_of made));
      is_new = made ∙ ap (λ (x : TracerHandle). handle_of x (replicate count 0) (replicate count None))
          (is ∙ ap (λ id. new_tracer id s.roster (length left)) (sym same));
      roster = refl;
      tracees = refl;
    }
