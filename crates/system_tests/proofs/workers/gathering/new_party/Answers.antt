-- The handles are of one table and have seen nothing, so no row is claimed.
use Rattle.std.proofs.Common.{refl, ◌≡◌, ◌∷◌, [], ℕ, List, length, ◌∙◌, sym, ap}
use Rattle.std.specs.List.{filter, range_with_len, slice_get}
use Rattle.stop_history.specs.declared.roster.Row.{Row}
use Rattle.stop_table.specs.Opening.{new_tracee, new_tracer, new_view}
use Rattle.stop_table.specs.Tracee.{TraceeHandle}
use Rattle.stop_table.specs.Tracer.{TracerHandle, held_rows, is_held}
use Rattle.refusing_allocator.proofs.Lists.{found_last, in_front}
use Rattle.system_tests.proofs.workers.gathering.new_party.Goals as goal

-- no row is claimed by a tracer before any step
nothing_held : (rows : List Row) (number : ℕ) (numbers : List ℕ)
    → filter (is_held (new_view rows [] number (number ∷ []))) numbers ≡ []
nothing_held rows number [] = refl
nothing_held rows number (row ∷ numbers) = nothing_held rows number numbers

pub invariant_of-result : goal.invariant_of-result
invariant_of-result g c =
    let rows = c.in-Ok.roster in
    let opened = c.in-Ok-open.ensures.ok in
    let first = c.pop-3.new.self.items in
    let both = c.pop-2.new.self.items in
    let tracee : c.in-Some.tracee ≡ new_tracee opened.0 rows (length c.pop.new.self.items) =
    opened.3 (length c.pop.new.self.items) c.in-Some.tracee
    (found_last c.in-Ok-open.ends.tracees.items c.pop.new.self.items c.in-Some.tracee c.in-Some.ensures.items) in
    let idle : c.in-Some-pop.idle ≡ new_tracer opened.0 rows (length both) =
    opened.4 (length both) c.in-Some-pop.idle
    (found_last c.in-Ok-open.ends.tracers.items both c.in-Some-pop.idle c.in-Some-pop.ensures.items) in
    let tracer : c.in-Some-pop-2.tracer ≡ new_tracer opened.0 rows (length first) =
    opened.4 (length first) c.in-Some-pop-2.tracer
    (ap (λ list. slice_get list (length first)) c.in-Some-pop.ensures.items
    ∙ in_front both (c.in-Some-pop.idle ∷ []) (length first) c.in-Some-pop-2.tracer
    (found_last both first c.in-Some-pop-2.tracer c.in-Some-pop-2.ensures.items)) in
    let table = ap (λ (x : TracerHandle). x.table_id) tracer in
    let numbers = range_with_len 0 (length rows) in
    record {
      tracee_table = ap (λ (x : TraceeHandle). x.table_id) tracee ∙ sym table;
      idle_table = ap (λ (x : TracerHandle). x.table_id) idle ∙ sym table;
      tracee_roster = ap (λ (x : TraceeHandle). x.view.roster) tracee;
      tracer_roster = ap (λ (x : TracerHandle). x.view.roster) tracer;
      idle_roster = ap (λ (x : TracerHandle). x.view.roster) idle;
      rests = ap (λ (x : TraceeHandle). x.view.taken) tracee;
      free = ap (λ (x : TracerHandle). held_rows x.view) tracer ∙ nothing_held rows (length first) numbers;
      idles = ap (λ (x : TracerHandle). held_rows x.view) idle ∙ nothing_held rows (length both) numbers;
    }
