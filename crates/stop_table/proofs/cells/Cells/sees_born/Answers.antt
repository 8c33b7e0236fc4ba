-- A look at a row's parent.
use Rattle.std.proofs.Common.{◌∙◌, Some, ap, sym}
use Rattle.std.specs.Prelude.{nat_lt}
use Rattle.stop_history.specs.Roster.{parent_of, rank_of}
use Rattle.stop_history.specs.Word.{Word}
use Rattle.stop_table.proofs.Counting.{looks_wider, saw_once}
use Rattle.stop_table.proofs.Walking.{one_look, parent_says, parent_there}
use Rattle.stop_table.proofs.cells.Cells.sees_born.Goals as goal

pub see-requires : goal.see-requires
see-requires g c =
    let r = c.requires in
    let rows = sym c.args.self.now.same ∙ sym r.0.1 in (
      r.0,
      parent_there c.args.seat.now.me.0.roster r.3 c.args.row c.in-Some.parent r.1
          (ap (λ rs. parent_of rs c.args.row) (sym rows) ∙ sym c.parent_place.ensures ∙ c.in-Some.is),
    )

pub returns-clause-seat : goal.returns-clause-seat
returns-clause-seat g c = (
  c.see.ensures.0,
  c.see.ensures.1.0,
  one_look c.args.seat.now.me c.see.new.seat.me c.in-Some.parent c.see.result c.see.ensures.1,
)

pub returns-clause-born : goal.returns-clause-born
returns-clause-born g c =
    let r = c.requires in
    let rows = sym c.args.self.now.same ∙ sym r.0.1 in
    parent_says c.args.seat.now.me c.see.new.seat.me c.args.row c.in-Some.parent c.see.result
    (nat_lt c.rank.result c.from.result) r.1
    (ap (λ rs. parent_of rs c.args.row) (sym rows) ∙ sym c.parent_place.ensures ∙ c.in-Some.is)
    c.see.ensures.1
    (ap (λ n. nat_lt n c.from.result) (c.rank.ensures ∙ ap (λ rs. rank_of rs c.args.row) rows)
    ∙ ap (nat_lt (rank_of c.args.seat.now.me.0.roster c.args.row))
    (c.from.ensures ∙ ap (λ (w : Word). w.births) c.births.view_is))

pub returns-clause-once : goal.returns-clause-once
returns-clause-once g c =
    let r = c.requires in
    let rows = sym c.args.self.now.same ∙ sym r.0.1 in
    let of_parent = ap (λ rs. parent_of rs c.args.row) (sym rows) ∙ sym c.parent_place.ensures ∙ c.in-Some.is in
    looks_wider c.args.seat.now.me.0 c.see.new.seat.me.0 (λ at same. of_parent ∙ ap Some (sym same))
    (saw_once c.args.seat.now.me c.see.new.seat.me c.in-Some.parent c.see.result c.see.ensures.1)
