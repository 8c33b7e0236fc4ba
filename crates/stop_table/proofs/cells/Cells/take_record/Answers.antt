-- A tracee takes its row up.
use Rattle.std.proofs.Common.{◌≡◌, ◌∙◌, ◌∷◌, None, Some, ap, arith, length, refl, sym}
use Rattle.atomic_table.specs.Table.{rest}
use Rattle.stop_history.specs.Change.{restart_in}
use Rattle.stop_history.specs.Change.{taken_up}
use Rattle.stop_history.specs.Layout.{raw_of}
use Rattle.stop_history.specs.Word.{Word}
use Rattle.stop_table.specs.Entry.{cell_after}
use Rattle.stop_table.specs.Place.{place}
use Rattle.stop_table.specs.Steps.{takes_up}
use Rattle.stop_table.proofs.Allowed.{slot_is}
use Rattle.stop_table.proofs.Exchanges.{take_up_allowed}
use Rattle.stop_table.proofs.Telling.{at_hand, in_place, key_step, took_up}
use Rattle.stop_table.proofs.cells.Cells.take_record.Goals as goal

pub compare_exchange-requires : goal.compare_exchange-requires
compare_exchange-requires g c =
    let r = c.requires in
    let wide = c.args.self.now.sized.0 in
    let long = ap length r.seat.0.1 in
    let at = c.place-at.ensures in (
      r.seat.0.0,
      omega arith,
      key_step takes_up c.args.self.now.table.shared.key _ _ _ (place c.args.row) _ _ c.args.seat.now.me
          c.args.seat.now.me refl
          r.seat.0.1 at
          (take_up_allowed c.args.seat.now.me _ _ c.args.row _ _ r.seen.1.0 r.seat.1 r.tracee.0 r.tracee.1 r.tracee.2
          (ap (λ (w : Word). restart_in w.phase) (sym r.seen.0) ∙ r.seen.1.1)
          (c.seen.invariant.0 ∙ ap raw_of (c.seen.view_is ∙ r.seen.0))
          (c.pack-new.ensures.bits ∙ ap raw_of (c.taken_up.ensures ∙ ap taken_up (c.seen.view_is ∙ r.seen.0)))),
    )

pub exchange-requires : goal.exchange-requires
exchange-requires g c =
    let told = c.compare_exchange.ensures.2 c.args.row c.place-at.ensures in (
      c.compare_exchange.ensures.0 ∙ c.requires.seat.0.0,
      (
        Some (cell_after c.args.seat.now.me.0.roster told.0 c.args.row).content,
        rw c.place-at.ensures (at_hand c.compare_exchange.new.seat.me.1 c.args.seat.now.me.1 (place c.args.row)
            (Some (cell_after c.args.seat.now.me.0.roster told.0 c.args.row).content) told.1),
      ),
    )

-- the slot had a record
pub unreachable-requires : goal.unreachable-requires
unreachable-requires g c =
    let told = c.compare_exchange.ensures.2 c.args.row c.place-at.ensures in
    let clash : None ≡ Some (cell_after c.args.seat.now.me.0.roster told.0 c.args.row).content =
    sym c.in_default.is
    ∙ slot_is c.compare_exchange.new.seat.me.1 c.place-at.result (place c.args.row) c.exchange.result
    (Some (cell_after c.args.seat.now.me.0.roster told.0 c.args.row).content)
    (rest c.compare_exchange.new.seat.me.1) c.args.seat.now.me.1 c.exchange.ensures.2 told.1 in cc

pub returns : goal.returns
returns g c = (
  (c.exchange.ensures.0 ∙ c.compare_exchange.ensures.0, c.exchange.ensures.1 ∙ c.compare_exchange.ensures.1),
  took_up c.args.row c.args.seat.now.me c.compare_exchange.new.seat.me c.exchange.new.seat.me c.in-Some.record
      (c.compare_exchange.ensures.2 c.args.row c.place-at.ensures)
      (c.exchange.ensures.2 ∙ (λ j. (c.place-at.ensures j, c.in-Some.is j) ∷ rest c.compare_exchange.new.seat.me.1))
      (c.exchange.ensures.3
      ∙ in_place c.compare_exchange.new.seat.me.0 None (rest c.compare_exchange.new.seat.me.1) c.place-at.ensures),
)
