-- A claim of a death that was seen.
use Rattle.std.proofs.Common.{◌∙◌, ap, arith, length, refl, subst, sym}
use mathlib.Core.Option.{none}
use Rattle.atomic_table.specs.Table.{step}
use Rattle.stop_history.specs.Layout.{raw_of}
use Rattle.stop_history.specs.Step.{claimed}
use Rattle.stop_history.specs.Word.{IsWord}
use Rattle.stop_table.specs.Place.{place}
use Rattle.stop_table.specs.Steps.{reaped}
use Rattle.stop_table.proofs.Exchanges.{reap_allowed}
use Rattle.stop_table.proofs.Telling.{key_step, other_word, reaped_seen, saw, shows_word}
use Rattle.stop_table.proofs.cells.Cells.try_reap.Goals as goal

pub compare_exchange-found-requires : goal.compare_exchange-found-requires
compare_exchange-found-requires g c =
    let r = c.requires in
    let wide = c.args.self.now.sized.0 in
    let long = ap length r.seat.0.1 in
    let at = c.place-at.ensures in (
      r.seat.0.0,
      omega arith,
      key_step reaped c.args.self.now.table.shared.key _ _ _ (place c.args.row) _ _ c.args.seat.now.me c.args.seat.now.me refl
          r.seat.0.1 at
          (reap_allowed c.args.seat.now.me _ _ c.args.row _ _ r.seen.0 c.args.seen r.seat.1 r.tracer.1
          (omega (arith, r.tracer.0, r.tracer.2)) (subst IsWord c.seen.view_is c.seen.invariant.1) r.seen.1 (c.seen.invariant.0 ∙ ap raw_of c.seen.view_is)
          (c.pack-new.ensures.bits ∙ ap raw_of (c.claimed.ensures ∙ ap (λ w. claimed w c.args.tracer) c.seen.view_is
          ∙ ap (claimed c.args.seen) (sym r.tracer.0)))),
    )

pub unpack_known-requires : goal.unpack_known-requires
unpack_known-requires g c =
    shows_word c.args.row c.args.seat.now.me _ _ c.requires.seat.1
    ((c.compare_exchange-found.ensures.2 c.args.row c.place-at.ensures).1 c.if-found-old.true)

pub returns-then-found-old-clause-reaped : goal.returns-then-found-old-clause-reaped
returns-then-found-old-clause-reaped g c = (
  saw c.args.row c.args.seat.now.me _ _ _ c.requires.seat.1
      ((c.compare_exchange-found.ensures.2 c.args.row c.place-at.ensures).1 c.if-found-old.true) c.unpack_known.ensures.0 c.unpack_known.ensures.1,
  other_word _ c.args.seen _ _ c.unpack_known.ensures.1 (c.seen.invariant.0 ∙ ap raw_of c.seen.view_is) c.if-found-old.true,
)

pub returns-clause-reaped : goal.returns-clause-reaped
returns-clause-reaped g c =
    reaped_seen (step 0 (place c.args.row) c.seen.inside.bits 0 none) c.args.row c.args.seat.now.me c.compare_exchange-found.new.seat.me _
    c.args.seen c.requires.seat.1 (c.compare_exchange-found.ensures.2 c.args.row c.place-at.ensures) c.if-found-old.false (subst IsWord c.seen.view_is c.seen.invariant.1)
    (c.seen.invariant.0 ∙ ap raw_of c.seen.view_is)
