-- Whether a row of a leader's group is alive, by its word.
use Rattle.std.proofs.Common.{◌≡◌, ◌∙◌, false, ap, arith, sym, true}
use Rattle.std.proofs.lemmas.Bool.{le-ltb, lt-ltb}
use Rattle.stop_history.specs.Roster.{parent_of, rank_of}
use Rattle.stop_history.specs.Word.{Word}
use Rattle.stop_history.proofs.Rosters.{few_rows}
use Rattle.stop_table.proofs.Counting.{no_step, saw_once}
use Rattle.stop_table.proofs.Scanning.{alive_or_rests, births_seen, born_as_counted, has_mother, mother_before}
use Rattle.stop_table.proofs.Scanning.{unborn_rests}
use Rattle.stop_table.proofs.Walking.{one_look}
use Rattle.stop_table.proofs.cells.Cells.sees_at_rest.Goals as goal

pub unreachable-requires : goal.unreachable-requires
unreachable-requires g c =
    let r = c.requires.seat in
    let rows = sym c.args.self.now.same ∙ sym r.0.1 in
    has_mother c.args.seat.now.me.0.roster r.4 c.args.row c.args.other r.1 r.2 c.requires.beside
    (ap (λ rs. parent_of rs c.args.other) (sym rows) ∙ sym c.parent_place.ensures ∙ c.in_default.is)

pub bounds-births-parent : goal.bounds-births-parent
bounds-births-parent g c =
    let r = c.requires.seat in
    let rows = sym c.args.self.now.same ∙ sym r.0.1 in
    let of_parent = ap (λ rs. parent_of rs c.args.other) (sym rows) ∙ sym c.parent_place.ensures ∙ c.in-Some.is in
    let before = (mother_before c.args.seat.now.me.0.roster r.4 c.args.row c.args.other r.1 r.2 c.requires.beside
    c.in-Some.parent of_parent).0 in
    omega (arith, before, r.2, few_rows c.args.seat.now.me.0.roster r.4)

pub returns-then-rank-from-clause-some : goal.returns-then-rank-from-clause-some
returns-then-rank-from-clause-some g c =
    let r = c.requires.seat in
    let rows = sym c.args.self.now.same ∙ sym r.0.1 in
    let of_parent = ap (λ rs. parent_of rs c.args.other) (sym rows) ∙ sym c.parent_place.ensures ∙ c.in-Some.is in
    let rank : c.rank.result ≡ rank_of c.args.seat.now.me.0.roster c.args.other =
    c.rank.ensures ∙ ap (λ rs. rank_of rs c.args.other) rows in
    unborn_rests c.args.seat.now.me.0.roster r.4 c.args.row c.args.other r.1 r.2 c.requires.beside
    c.args.seat.now.me.0.seen c.args.births.now c.in-Some.parent r.3 c.requires.births of_parent
    (le-ltb _ _ (omega (arith, rank, c.from.ensures, c.if-rank-from.true)))

pub returns-then-rank-from-clause-once : goal.returns-then-rank-from-clause-once
returns-then-rank-from-clause-once g c = no_step c.args.seat.now.me.0

pub returns-then-is_alive : goal.returns-then-is_alive
returns-then-is_alive g c =
    let r = c.requires.seat in
    let rows = sym c.args.self.now.same ∙ sym r.0.1 in
    let m = c.args.seat.now.me in
    let n = c.see-word.new.seat.me in
    let of_parent = ap (λ rs. parent_of rs c.args.other) (sym rows) ∙ sym c.parent_place.ensures ∙ c.in-Some.is in
    let rank : c.rank.result ≡ rank_of m.0.roster c.args.other =
    c.rank.ensures ∙ ap (λ rs. rank_of rs c.args.other) rows in
    let born = born_as_counted m.0.roster r.4 c.args.row c.args.other r.1 r.2 c.requires.beside m.0.seen
    c.args.births.now c.in-Some.parent r.3 c.requires.births of_parent
    ∙ lt-ltb _ _ (omega (arith, rank, c.from.ensures, c.if-rank-from.false)) in
    record {
      seat = (
        c.see-word.ensures.0,
        c.see-word.ensures.1.0,
        one_look m n c.args.other c.see-word.result c.see-word.ensures.1,
      );
      none = alive_or_rests m n c.args.other c.see-word.result r.2 born c.see-word.ensures.1 true
          (sym c.if-is_alive.true ∙ c.is_alive.ensures);
      some = tt;
      once = saw_once m n c.args.other c.see-word.result c.see-word.ensures.1;
    }

pub returns : goal.returns
returns g c =
    let r = c.requires.seat in
    let rows = sym c.args.self.now.same ∙ sym r.0.1 in
    let m = c.args.seat.now.me in
    let n = c.see-word.new.seat.me in
    let of_parent = ap (λ rs. parent_of rs c.args.other) (sym rows) ∙ sym c.parent_place.ensures ∙ c.in-Some.is in
    let rank : c.rank.result ≡ rank_of m.0.roster c.args.other =
    c.rank.ensures ∙ ap (λ rs. rank_of rs c.args.other) rows in
    let born = born_as_counted m.0.roster r.4 c.args.row c.args.other r.1 r.2 c.requires.beside m.0.seen
    c.args.births.now c.in-Some.parent r.3 c.requires.births of_parent
    ∙ lt-ltb _ _ (omega (arith, rank, c.from.ensures, c.if-rank-from.false)) in
    record {
      seat = (
        c.see-word.ensures.0,
        c.see-word.ensures.1.0,
        one_look m n c.args.other c.see-word.result c.see-word.ensures.1,
      );
      none = tt;
      some = (
        alive_or_rests m n c.args.other c.see-word.result r.2 born c.see-word.ensures.1 false
            (sym c.if-is_alive.false ∙ c.is_alive.ensures),
        ap (λ (w : Word). w.births) c.word.view_is
            ∙ births_seen m n c.args.other c.see-word.result c.see-word.ensures.1,
      );
      once = saw_once m n c.args.other c.see-word.result c.see-word.ensures.1;
    }
