-- A claim of a stop that was seen.
use Rattle.std.proofs.Common.{◌≡◌, ◌∙◌, ◌∷◌, None, Some, ap, arith, length, refl, subst, sym}
use mathlib.Core.Option.{none}
use Rattle.atomic_table.specs.Table.{rest, step}
use Rattle.stop_history.specs.Layout.{raw_of}
use Rattle.stop_history.specs.Step.{claimed}
use Rattle.stop_table.specs.Entry.{cell_after}
use Rattle.stop_history.specs.Word.{IsWord}
use Rattle.stop_table.specs.Place.{place}
use Rattle.stop_table.specs.Steps.{claims_stop}
use Rattle.stop_table.proofs.Allowed.{slot_is}
use Rattle.stop_table.proofs.Exchanges.{claim_allowed}
use Rattle.stop_table.proofs.Telling.{at_hand, in_place, key_step, other_word, saw, shows_word, took_out}
use Rattle.stop_table.proofs.cells.Cells.try_claim.Goals as goal

pub compare_exchange-found-requires : goal.compare_exchange-found-requires
compare_exchange-found-requires g c =
    let r = c.requires in
    let wide = c.args.self.now.sized.0 in
    let long = ap length r.seat.0.1 in
    let at = c.place-at.ensures in (
      r.seat.0.0,
      omega arith,
      key_step claims_stop c.args.self.now.table.shared.key _ _ _ (place c.args.row) _ _ c.args.seat.now.me
          c.args.seat.now.me refl
          r.seat.0.1 at
          (claim_allowed c.args.seat.now.me _ _ c.args.row _ _ r.seen.0 c.args.seen r.seat.1 r.tracer.1
          (omega (arith, r.tracer.0, r.tracer.2)) (subst IsWord c.seen.view_is c.seen.invariant.1) r.seen.1 (c.seen.invariant.0 ∙ ap raw_of c.seen.view_is)
          (c.pack-new.ensures.bits ∙ ap raw_of (c.claimed.ensures ∙ ap (λ w. claimed w c.args.tracer) c.seen.view_is
          ∙ ap (claimed c.args.seen) (sym r.tracer.0)))),
    )

pub unpack_known-requires : goal.unpack_known-requires
unpack_known-requires g c =
    shows_word c.args.row c.args.seat.now.me _ _ c.requires.seat.1
    ((c.compare_exchange-found.ensures.2 c.args.row c.place-at.ensures).1 c.if-found-old.true)

pub returns-then-found-old-clause-claimed : goal.returns-then-found-old-clause-claimed
returns-then-found-old-clause-claimed g c = (
  saw c.args.row c.args.seat.now.me _ _ _ c.requires.seat.1
      ((c.compare_exchange-found.ensures.2 c.args.row c.place-at.ensures).1 c.if-found-old.true) c.unpack_known.ensures.0 c.unpack_known.ensures.1,
  other_word _ c.args.seen _ _ c.unpack_known.ensures.1 (c.seen.invariant.0 ∙ ap raw_of c.seen.view_is) c.if-found-old.true,
)

pub exchange-requires : goal.exchange-requires
exchange-requires g c =
    let told = (c.compare_exchange-found.ensures.2 c.args.row c.place-at.ensures).0 c.if-found-old.false in (
      c.compare_exchange-found.ensures.0 ∙ c.requires.seat.0.0,
      (
        Some (cell_after c.args.seat.now.me.0.roster told.0 c.args.row).content,
        rw c.place-at.ensures (at_hand c.compare_exchange-found.new.seat.me.1 c.args.seat.now.me.1 (place c.args.row)
            (Some (cell_after c.args.seat.now.me.0.roster told.0 c.args.row).content) told.1),
      ),
    )

-- the slot had a record
pub unreachable-requires : goal.unreachable-requires
unreachable-requires g c =
    let told = (c.compare_exchange-found.ensures.2 c.args.row c.place-at.ensures).0 c.if-found-old.false in
    let clash : None ≡ Some (cell_after c.args.seat.now.me.0.roster told.0 c.args.row).content =
    sym c.in_default.is
    ∙ slot_is c.compare_exchange-found.new.seat.me.1 c.place-at.result (place c.args.row) c.exchange.result
    (Some (cell_after c.args.seat.now.me.0.roster told.0 c.args.row).content)
    (rest c.compare_exchange-found.new.seat.me.1) c.args.seat.now.me.1 c.exchange.ensures.2 told.1 in cc

pub returns-clause-claimed : goal.returns-clause-claimed
returns-clause-claimed g c =
    took_out (step 0 (place c.args.row) c.seen.inside.bits 0 none) c.args.row c.args.seat.now.me c.compare_exchange-found.new.seat.me
    c.exchange.new.seat.me c.compare_exchange-found.result c.args.seen c.in-Some.record c.requires.seat.1
    (c.compare_exchange-found.ensures.2 c.args.row c.place-at.ensures) c.if-found-old.false (subst IsWord c.seen.view_is c.seen.invariant.1) (c.seen.invariant.0 ∙ ap raw_of c.seen.view_is)
    (c.exchange.ensures.2
    ∙ (λ j. (c.place-at.ensures j, c.in-Some.is j) ∷ rest c.compare_exchange-found.new.seat.me.1))
    (c.exchange.ensures.3
    ∙ in_place c.compare_exchange-found.new.seat.me.0 None (rest c.compare_exchange-found.new.seat.me.1) c.place-at.ensures)
