-- A tracee's row ends.
use Rattle.std.proofs.Common.{◌∙◌, ◌∷◌, None, Some, ap, arith, length, refl, subst}
use mathlib.Core.Option.{none}
use Rattle.atomic_table.specs.Table.{rest, step}
use Rattle.stop_history.specs.Layout.{raw_of}
use Rattle.stop_history.specs.Step.{died}
use Rattle.stop_history.specs.Word.{IsWord}
use Rattle.stop_table.specs.Place.{place}
use Rattle.stop_table.specs.Steps.{Seated, exited}
use Rattle.stop_table.proofs.Allowed.{slot_is}
use Rattle.stop_table.proofs.Exchanges.{exit_allowed}
use Rattle.stop_table.proofs.Telling.{at_hand, did_exit, in_place, key_step}
use Rattle.stop_table.proofs.cells.Cells.put_exit.Goals as goal

-- the slot was out, with nothing in it
pub unreachable-requires : goal.unreachable-requires
unreachable-requires g c =
    c.in_default.not-None
    (slot_is c.args.seat.now.me.1 c.place-at.result (place c.args.row) c.exchange.result None (rest c.args.seat.now.me.1)
    (rest c.args.seat.now.me.1) c.exchange.ensures.2 c.requires.tracee.3)

pub compare_exchange-requires : goal.compare_exchange-requires
compare_exchange-requires g c =
    let r = c.requires in
    let wide = c.args.self.now.sized.0 in
    let long = ap length r.seat.0.1 in
    let at = c.place-at.ensures in
    let m : Seated = (c.args.seat.now.me.0, (place c.args.row, Some c.args.stop) ∷ rest c.args.seat.now.me.1) in (
      c.exchange.ensures.0 ∙ r.seat.0.0,
      omega arith,
      key_step exited c.args.self.now.table.shared.key _ _ _ (place c.args.row) _ _ m c.exchange.new.seat.me
          (c.exchange.ensures.3 ∙ in_place c.args.seat.now.me.0 (Some c.args.stop) (rest c.args.seat.now.me.1) at)
          r.seat.0.1 at
          (exit_allowed m _ _ c.args.row _ _ c.args.death c.args.stop r.seat.1 r.tracee.0 r.tracee.1 r.tracee.2
          (at_hand m.1 (rest c.args.seat.now.me.1) (place c.args.row) (Some c.args.stop) refl)
          r.death r.group
          (c.pack.ensures.bits ∙ ap raw_of r.word)
          (c.pack-new.ensures.bits ∙ ap raw_of (c.died.ensures ∙ ap (λ w. died w c.args.death) r.word))),
    )

pub returns : goal.returns
returns g c = (
  (c.compare_exchange.ensures.0 ∙ c.exchange.ensures.0, c.compare_exchange.ensures.1 ∙ c.exchange.ensures.1),
  did_exit (step 0 (place c.args.row) 0 c.pack-new.result none) c.args.row c.exchange.new.seat.me c.args.seat.now.me
      c.compare_exchange.new.seat.me c.args.death c.args.old c.args.stop
      (c.exchange.ensures.3
      ∙ in_place c.args.seat.now.me.0 (Some c.args.stop) (rest c.args.seat.now.me.1) c.place-at.ensures)
      (subst IsWord c.died.ensures c.pack-new.ensures.range) c.requires.word c.requires.death
      (c.pack-new.ensures.bits ∙ ap raw_of c.died.ensures) (c.compare_exchange.ensures.2 c.args.row c.place-at.ensures),
)
