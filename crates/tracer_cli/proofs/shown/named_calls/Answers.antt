-- The next name is a call's, or the first unknown one.
use Rattle.std.proofs.Common.{◌≡◌, ◌∙◌, ◌<◌, [], ap, map, slice_index_or, subst, sym, take, rules, Bor, List, ℕ, Option, Some, None, Ok, IfSome}
use Rattle.trace_options.specs.Syscalls.{SyscallRow, syscall_named, syscall_row}
use Rattle.tracer_cli.specs.Shown.{NamesCalls, unknown_in}
use Rattle.tracer_cli.proofs.Names.{from_next, known_next, small, unknown_next, up_to_next}
use Rattle.tracer_cli.proofs.shown.named_calls.Goals as goal

pub add-requires : goal.add-requires
add-requires c =
    let name = (slice_index_or c.args.names.now c.loop-name.name-index (record { ref_ptr = (0, 0); now = [] })).now in
    let named : syscall_named name ≡ Some (syscall_row c.in-Some.call) = search rules in
    subst (λ (call : Option SyscallRow). IfSome call (λ found. found.number < 128)) named (small name)

pub returns-in-None : goal.returns-in-None
returns-in-None c =
    let names = map (λ (name : Bor (List ℕ)). name.now) c.args.names.now in
    let name = (slice_index_or c.args.names.now c.loop-name.name-index (record { ref_ptr = (0, 0); now = [] })).now in
    let none : syscall_named name ≡ None = search rules in
    ap unknown_in (from_next c.args.names.now c.loop-name.name-index _ c.loop-name-test.true)
    ∙ unknown_next (take c.loop-name.name-index names) name _ c.loop-name.invariant.0 none

pub loop-name-preserved : goal.loop-name-preserved
loop-name-preserved c =
    let names = map (λ (name : Bor (List ℕ)). name.now) c.args.names.now in
    let name = (slice_index_or c.args.names.now c.loop-name.name-index (record { ref_ptr = (0, 0); now = [] })).now in
    let named : syscall_named name ≡ Some (syscall_row c.in-Some.call) = search rules in
    subst (λ (l : List (List ℕ)). NamesCalls l (Ok c.add.new.self))
    (sym (up_to_next c.args.names.now c.loop-name.name-index _ c.loop-name-test.true))
    (known_next (take c.loop-name.name-index names) name (syscall_row c.in-Some.call) c.loop-name.calls c.add.new.self
    c.loop-name.invariant named c.add.ensures)
