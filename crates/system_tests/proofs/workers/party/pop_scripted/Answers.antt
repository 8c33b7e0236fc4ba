-- The tracee is that of the last row of the list, and has seen nothing.
use Rattle.std.proofs.Common.{refl, ◌≡◌, ◌∷◌, [], length, ◌∙◌, ap, arith}
use Rattle.std.specs.List.{slice_get}
use Rattle.stop_table.specs.Opening.{new_tracee}
use Rattle.stop_table.specs.Tracee.{TraceeHandle}
use Rattle.tracer_workers.specs.Plan.{IsCasePlan, case_plan, opening_of}
use Rattle.tracer_workers.specs.Policy.{plain_policy}
use Rattle.tracer_workers.proofs.Threads.{to_start}
use Rattle.refusing_allocator.proofs.Lists.{found_last, in_front}
use Rattle.system_tests.proofs.workers.party.pop_scripted.Goals as goal

pub returns-in_default-new_machine-clause-cells : goal.returns-in_default-new_machine-clause-cells
returns-in_default-new_machine-clause-cells g c = λ id are k e at.
    are k e
    (ap (λ xs. slice_get xs k) c.in-Some.ensures.items
    ∙ in_front c.pop.new.self.items (c.in-Some.tracee ∷ []) k e at)

pub returns-clause-cells : goal.returns-clause-cells
returns-clause-cells g c = λ id are k e at.
    are k e
    (ap (λ xs. slice_get xs k) c.in-Some.ensures.items
    ∙ in_front c.pop.new.self.items (c.in-Some.tracee ∷ []) k e at)

pub returns-clause-runs : goal.returns-clause-runs
returns-clause-runs g c =
    let cells = c.requires.cells in
    let left = c.pop.new.self.items in
    let is : c.in-Some.tracee ≡ new_tracee cells.0 c.args.case.now.rows (length left) =
    cells.1 (length left) c.in-Some.tracee
    (found_last c.args.tracees.now.items left c.in-Some.tracee c.in-Some.ensures.items) in
    let row : c.len-row.result ≡ length left = omega (arith, c.len-row.ensures, c.pop.new.self.ok) in
    let plan = case_plan c.args.case.now c.args.options c.args.filter.now plain_policy in
    let known : IsCasePlan plan = record {
      content = c.args.case.now;
      options = c.args.options;
      filter = c.args.filter.now;
      is_case = c.roster.ensures.case;
      taken = c.requires.options;
      is_plan = refl;
    } in (
      ap (λ (t : TraceeHandle). t.view.taken) is,
      (
        plan,
        to_start plan cells.0 (length left) c.in-Some.tracee c.in-Ok.machine known is
            (c.in-Ok.ensures ∙ ap (opening_of plan) row),
      ),
    )

pub returns-clause-free : goal.returns-clause-free
returns-clause-free g c = λ id are.
    let left = c.pop.new.self.items in
    let is : c.in-Some.tracee ≡ new_tracee id c.args.case.now.rows (length left) =
    are (length left) c.in-Some.tracee
    (found_last c.args.tracees.now.items left c.in-Some.tracee c.in-Some.ensures.items) in
    record {
      table = ap (λ (t : TraceeHandle). t.table_id) is;
      roster = ap (λ (t : TraceeHandle). t.view.roster) is;
      idle = ap (λ (t : TraceeHandle). t.view.taken) is;
    }
