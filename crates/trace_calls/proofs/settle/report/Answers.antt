-- The raw status of a stop or a death has a wait status.
use Rattle.std.proofs.Common.{◌≡◌, ◌∙◌, ap, Some, inl, inr, subst, sym}
use Rattle.std.proofs.lemmas.Option.{get_or_from_slice_get}
use Rattle.trace_status.specs.WaitStatus.{Encodes}
use Rattle.trace_record.specs.Death.{death_wait_status}
use Rattle.trace_record.specs.Stop.{stop_wait_status}
use Rattle.stop_history.specs.declared.roster.Row.{Row}
use Rattle.stop_history.specs.Roster.{nobody, row_at}
use Rattle.trace_calls.proofs.Settled.{pid_of_death, pid_of_stop}
use Rattle.trace_calls.proofs.settle.report.Goals as goal

pub unreachable-requires : goal.unreachable-requires
unreachable-requires g c =
    let tid = c.row.result.tid in
    elim c.requires.1 [
      | inl s ↦
          c.in_default.not-Some (stop_wait_status tid s.0)
          (c.decode.ensures.each (stop_wait_status tid s.0) (pid_of_stop tid s.0)
          (subst (Encodes (stop_wait_status tid s.0)) s.2 (c.statuses_are_encoded.ensures.stops tid s.0 s.1)))
      | inr d ↦
          c.in_default.not-Some (death_wait_status tid d.0)
          (c.decode.ensures.each (death_wait_status tid d.0) (pid_of_death tid d.0)
          (subst (Encodes (death_wait_status tid d.0)) d.2 (c.statuses_are_encoded.ensures.deaths tid d.0 d.1)))
    ]

pub returns : goal.returns
returns g c =
    let row : row_at c.args.roster.now c.args.row ≡ c.row.result =
    get_or_from_slice_get c.args.roster.now c.args.row c.row.result nobody c.row.ensures in (
      c.in-Some.ensures.told.0 ∙ ap (λ (r : Row). Some r.tid) (sym row),
      c.in-Some.ensures.told.1,
    )
