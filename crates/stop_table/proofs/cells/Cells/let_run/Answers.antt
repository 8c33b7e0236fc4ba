-- A tracer resumes a row.
use Rattle.std.proofs.Common.{◌∙◌, ◌∷◌, None, Some, ap, arith, length, refl, subst}
use mathlib.Core.Option.{none}
use Rattle.atomic_table.specs.Table.{rest, step}
use Rattle.stop_history.specs.Layout.{raw_of}
use Rattle.stop_history.specs.Step.{restarted}
use Rattle.stop_history.specs.Word.{IsWord}
use Rattle.stop_table.specs.Place.{place}
use Rattle.stop_table.specs.Steps.{Seated, resumed}
use Rattle.stop_table.proofs.Allowed.{slot_is}
use Rattle.stop_table.proofs.Exchanges.{resume_allowed}
use Rattle.stop_table.proofs.Telling.{at_hand, did_run, held_phase, in_place, key_step}
use Rattle.stop_table.proofs.cells.Cells.let_run.Goals as goal

-- the slot was out, with nothing in it
pub unreachable-requires : goal.unreachable-requires
unreachable-requires g c =
    c.in_default.not-None
    (slot_is c.args.seat.now.me.1 c.place-at.result (place c.args.row) c.exchange.result None (rest c.args.seat.now.me.1)
    (rest c.args.seat.now.me.1) c.exchange.ensures.2 c.requires.held.slot)

pub compare_exchange-requires : goal.compare_exchange-requires
compare_exchange-requires g c =
    let r = c.requires in
    let wide = c.args.self.now.sized.0 in
    let long = ap length r.seat.0.1 in
    let at = c.place-at.ensures in
    let m : Seated = (c.args.seat.now.me.0, (place c.args.row, Some c.args.stop) ∷ rest c.args.seat.now.me.1) in (
      c.exchange.ensures.0 ∙ r.seat.0.0,
      omega arith,
      key_step resumed c.args.self.now.table.shared.key _ _ _ (place c.args.row) _ _ m c.exchange.new.seat.me
          (c.exchange.ensures.3 ∙ in_place c.args.seat.now.me.0 (Some c.args.stop) (rest c.args.seat.now.me.1) at)
          r.seat.0.1 at
          (resume_allowed m _ _ c.args.row _ _ c.args.how c.args.stop r.seat.1 r.tracer.0 r.tracer.1
          (held_phase c.args.seat.now.me c.args.row c.args.word c.args.stop r.held)
          (at_hand m.1 (rest c.args.seat.now.me.1) (place c.args.row) (Some c.args.stop) refl)
          r.held.is_content r.how
          (c.pack.ensures.bits ∙ ap raw_of r.held.is_word)
          (c.pack-new.ensures.bits ∙ ap raw_of (c.restarted.ensures ∙ ap (λ w. restarted w c.args.how) r.held.is_word))),
    )

pub returns : goal.returns
returns g c = (
  (c.compare_exchange.ensures.0 ∙ c.exchange.ensures.0, c.compare_exchange.ensures.1 ∙ c.exchange.ensures.1),
  did_run (step 0 (place c.args.row) 0 c.pack-new.result none) c.args.row c.exchange.new.seat.me c.args.seat.now.me
      c.compare_exchange.new.seat.me c.args.how c.args.word c.args.stop c.requires.seat.1
      c.requires.held (c.exchange.ensures.3
      ∙ in_place c.args.seat.now.me.0 (Some c.args.stop) (rest c.args.seat.now.me.1) c.place-at.ensures)
      (subst IsWord c.restarted.ensures c.pack-new.ensures.range)
      (c.pack-new.ensures.bits ∙ ap raw_of c.restarted.ensures) (c.compare_exchange.ensures.2 c.args.row c.place-at.ensures),
)
