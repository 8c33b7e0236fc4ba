-- A new caller keeps nothing, and counts 0 of each row.
use Rattle.std.proofs.Common.{◌≡◌, ◌∙◌, None, ap, length, replicate, subst, sym}
use Rattle.std.proofs.lemmas.List.{length-replicate}
use Rattle.trace_calls.specs.Handle.{KeepsClaims, handle_of, records_of}
use Rattle.trace_calls.proofs.Keeping.{no_records, nothing_yet}
use Rattle.trace_calls.proofs.calls.Calls.new.Goals as goal

pub invariant_of-result : goal.invariant_of-result
invariant_of-result g c =
    let rows : c.in-Ok.copy ≡ c.args.tracer.view.roster =
    c.in-Ok.ensures ∙ c.requires.roster in
    let long : c.len-count.result ≡ length c.args.tracer.view.roster =
    c.len-count.ensures ∙ ap length c.requires.roster in
    let back : c.len-count.result ≡ length c.in-Ok.copy = long ∙ sym (ap length rows) in
    let zeros : c.in-Ok-vec.counts.items ≡ replicate c.len-count.result 0 =
    c.in-Ok-vec.ensures.items_if_clones_equal (λ y same. same) in
    record {
      roster = rows;
      held_long = ap length c.in-Ok-nothing_held.ensures ∙ length-replicate _ _ ∙ back;
      counts_long = ap length zeros ∙ length-replicate _ _ ∙ back;
      claims = subst (KeepsClaims c.args.tracer.view) (sym c.in-Ok-nothing_held.ensures)
          (nothing_yet c.args.tracer.view c.len-count.result long c.requires.idle);
    }

pub returns : goal.returns
returns g c =
    let items : c.in-Ok-vec.counts.items ≡ replicate (length c.args.roster.now) 0 =
    c.in-Ok-vec.ensures.items_if_clones_equal (λ y same. same) ∙ ap (λ n. replicate n 0) c.len-count.ensures in
    let held : records_of c.in-Ok-nothing_held.held.items ≡ replicate (length c.args.roster.now) None =
    ap records_of (c.in-Ok-nothing_held.ensures ∙ ap (λ n. replicate n None) c.len-count.ensures)
    ∙ no_records _ (length c.args.roster.now) in
    λ i. handle_of c.args.tracer (items i) (held i)
