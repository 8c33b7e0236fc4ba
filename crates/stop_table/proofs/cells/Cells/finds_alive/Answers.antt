-- The first row that holds a leader back, by looks at the rows in order.
use Rattle.std.proofs.Common.{◌≡◌, ◌≢◌, ◌∙◌, ◌<◌, ◌+◌, ap, arith, length, refl, subst, sym}
use Rattle.std.proofs.lemmas.List.{length-set}
use Rattle.stop_history.specs.Roster.{IsRoster, row_at}
use Rattle.stop_history.proofs.Rosters.{few_rows}
use Rattle.stop_table.specs.Entry.{Cell, cell_after}
use Rattle.stop_table.specs.Group.{AreCounted, IsBeside, IsResting}
use Rattle.stop_table.proofs.Counting.{no_step}
use Rattle.stop_table.proofs.Scanning.{beside_looked, counted_from, held_back, leader_stays, no_more_looked}
use Rattle.stop_table.proofs.Scanning.{none_more_counted, one_more_counted, one_more_looked, one_more_settled, settled_from}
use Rattle.stop_table.proofs.Walking.{looked_on, stands_still}
use Rattle.stop_table.proofs.cells.Cells.finds_alive.Goals as goal

pub loop-other-init : goal.loop-other-init
loop-other-init g c = record {
  seat = (refl, refl);
  slots = refl;
  looked = stands_still c.args.seat.now.me.0 c.requires.seat.2;
  settled = λ row low apart together. absurd (omega arith);
  whole = refl;
  counted = λ row low together. absurd (omega arith);
  once = no_step c.args.seat.now.me.0;
}

-- the leader itself, which knows how many children it has
pub loop-other-preserved-then-other-row : goal.loop-other-preserved-then-other-row
loop-other-preserved-then-other-row g c =
    let u = c.args.seat.now.me.0 in
    let v = c.loop-other.seat.me.0 in
    let r = c.requires.seat in
    let i = c.loop-other.invariant in
    let other = c.loop-other.other in
    let same = c.if-other-row.true in
    let rows = c.rows-rows.ensures.rows ∙ sym c.args.self.now.same ∙ sym r.0.1 in
    let long = ap length rows in
    let there : other < length u.roster = omega (arith, c.loop-other-test.true, long) in
    let own : c.args.own ≡ (cell_after u.roster v.seen other).births =
    c.requires.own
    ∙ ap (λ (cell : Cell). cell.births)
    (sym (leader_stays u v c.args.row c.requires.held.0 c.requires.held.1 i.looked))
    ∙ ap (λ row. (cell_after u.roster v.seen row).births) (sym same) in
    record {
      seat = i.seat;
      slots = i.slots;
      looked = i.looked;
      settled = one_more_settled u.roster r.3 c.args.row other v.seen there r.1 c.requires.leads i.settled
          (λ apart together. absurd (apart same));
      whole = length-set _ _ _ ∙ i.whole;
      counted = one_more_counted u.roster c.args.row other c.args.own c.loop-other.births v.seen
          (omega (arith, there, i.whole, few_rows u.roster r.3)) i.counted own;
      once = no_more_looked u.roster u v c.args.row other i.once;
    }

-- a row of another group
pub loop-other-preserved-then-rows-other : goal.loop-other-preserved-then-rows-other
loop-other-preserved-then-rows-other g c =
    let u = c.args.seat.now.me.0 in
    let v = c.loop-other.seat.me.0 in
    let r = c.requires.seat in
    let i = c.loop-other.invariant in
    let other = c.loop-other.other in
    let rows = c.rows-rows.ensures.rows ∙ sym c.args.self.now.same ∙ sym r.0.1 in
    let long = ap length rows in
    let there : other < length u.roster = omega (arith, c.loop-other-test.true, long) in
    let strange = subst (λ rs. (row_at rs other).tgid ≢ (row_at rs c.args.row).tgid) rows c.if-rows-other.true in
    record {
      seat = i.seat;
      slots = i.slots;
      looked = i.looked;
      settled = one_more_settled u.roster r.3 c.args.row other v.seen there r.1 c.requires.leads i.settled
          (λ apart together. absurd (strange together));
      whole = i.whole;
      counted = none_more_counted u.roster c.args.row other c.loop-other.births v.seen strange i.counted;
      once = no_more_looked u.roster u v c.args.row other i.once;
    }

-- another row of the group
pub sees_at_rest-requires : goal.sees_at_rest-requires
sees_at_rest-requires g c =
    let u = c.args.seat.now.me.0 in
    let r = c.requires.seat in
    let i = c.loop-other.invariant in
    let other = c.loop-other.other in
    let same = i.looked.grows.same.roster in
    let rows = c.rows-rows.ensures.rows ∙ sym c.args.self.now.same ∙ sym r.0.1 in
    let long = ap length rows in
    let longer = ap length same in
    let together = subst (λ rs. (row_at rs other).tgid ≡ (row_at rs c.args.row).tgid) rows c.if-rows-other.false in
    let beside : IsBeside u.roster c.args.row other = (c.requires.leads, c.if-other-row.false, together) in
    record {
      seat = (
        (i.seat.0 ∙ r.0.0, same ∙ r.0.1),
        omega (arith, r.1, longer),
        omega (arith, c.loop-other-test.true, long, longer),
        i.looked.grows.legal,
        subst IsRoster (sym same) r.3,
      );
      beside = subst (λ rs. IsBeside rs c.args.row other) (sym same) beside;
      births = subst (λ rs. AreCounted rs c.args.row other c.loop-other.births c.loop-other.seat.me.0.seen) (sym same)
          i.counted;
    }

pub returns-in_default : goal.returns-in_default
returns-in_default g c =
    let u = c.args.seat.now.me.0 in
    let v = c.loop-other.seat.me.0 in
    let w = c.sees_at_rest.new.seat.me.0 in
    let r = c.requires.seat in
    let i = c.loop-other.invariant in
    let e = c.in_default.ensures in
    let other = c.loop-other.other in
    let rows = c.rows-rows.ensures.rows ∙ sym c.args.self.now.same ∙ sym r.0.1 in
    let long = ap length rows in
    let there : other < length u.roster = omega (arith, c.loop-other-test.true, long) in
    let together = subst (λ rs. (row_at rs other).tgid ≡ (row_at rs c.args.row).tgid) rows c.if-rows-other.false in
    let beside : IsBeside u.roster c.args.row other = (c.requires.leads, c.if-other-row.false, together) in
    record {
      seat = (
        (e.seat.0.0 ∙ i.seat.0, e.seat.0.1 ∙ i.seat.1),
        e.seat.1 ∙ i.slots,
        looked_on u v w i.looked e.seat.2,
      );
      some = (
        there,
        held_back u v w c.args.row other r.3 c.requires.held.0 c.requires.held.1 c.requires.leads i.looked i.settled
            e.seat.2 e.none there c.if-other-row.false together,
      );
      none = tt;
      once = beside_looked u.roster u w c.args.row (other + 1)
          (one_more_looked u.roster u v w c.args.row other beside i.once e.once);
    }

pub loop-other-preserved : goal.loop-other-preserved
loop-other-preserved g c =
    let u = c.args.seat.now.me.0 in
    let v = c.loop-other.seat.me.0 in
    let w = c.sees_at_rest.new.seat.me.0 in
    let r = c.requires.seat in
    let i = c.loop-other.invariant in
    let e = c.in-Some.ensures in
    let other = c.loop-other.other in
    let same = i.looked.grows.same.roster in
    let rows = c.rows-rows.ensures.rows ∙ sym c.args.self.now.same ∙ sym r.0.1 in
    let long = ap length rows in
    let there : other < length u.roster = omega (arith, c.loop-other-test.true, long) in
    let together = subst (λ rs. (row_at rs other).tgid ≡ (row_at rs c.args.row).tgid) rows c.if-rows-other.false in
    let beside : IsBeside u.roster c.args.row other = (c.requires.leads, c.if-other-row.false, together) in
    let rest = subst (λ rs. IsResting rs other w.seen × (c.in-Some.count ≡ (cell_after rs w.seen other).births)) same
    e.some in
    record {
      seat = (e.seat.0.0 ∙ i.seat.0, e.seat.0.1 ∙ i.seat.1);
      slots = e.seat.1 ∙ i.slots;
      looked = looked_on u v w i.looked e.seat.2;
      settled = one_more_settled u.roster r.3 c.args.row other w.seen there r.1 c.requires.leads
          (settled_from u v w c.args.row c.requires.held.0 c.requires.held.1 i.looked e.seat.2 other i.settled)
          (λ apart also. rest.0);
      whole = length-set _ _ _ ∙ i.whole;
      counted = one_more_counted u.roster c.args.row other c.in-Some.count c.loop-other.births w.seen
          (omega (arith, there, i.whole, few_rows u.roster r.3))
          (counted_from u v w c.args.row other c.loop-other.births c.requires.held.0 c.requires.held.1 i.looked e.seat.2
          i.settled i.counted)
          rest.1;
      once = one_more_looked u.roster u v w c.args.row other beside i.once e.once;
    }

pub returns : goal.returns
returns g c =
    let u = c.args.seat.now.me.0 in
    let r = c.requires.seat in
    let i = c.loop-other.invariant in
    let rows = c.rows-rows.ensures.rows ∙ sym c.args.self.now.same ∙ sym r.0.1 in
    let long = ap length rows in
    record {
      seat = ((i.seat.0, i.seat.1), i.slots, i.looked);
      some = tt;
      none = λ row low apart together. i.settled row (omega (arith, low, long, c.loop-other-test.false)) apart together;
      once = beside_looked u.roster u c.loop-other.seat.me.0 c.args.row c.loop-other.other i.once;
    }
