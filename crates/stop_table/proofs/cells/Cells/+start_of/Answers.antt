-- Whether a row is born, by what its parent answers and a look at the parent.
use Rattle.std.proofs.Common.{◌≡◌, ◌∙◌, [], ap, arith, subst, sym}
use Rattle.std.proofs.lemmas.Bool.{le-ltb, lt-ltb}
use Rattle.stop_history.specs.Roster.{parent_of, rank_of}
use Rattle.stop_history.specs.Word.{Word}
use Rattle.stop_history.proofs.Rosters.{placed}
use Rattle.stop_table.specs.declared.start.Start.TheVariants as start
use Rattle.stop_table.specs.Start.{IsFinal, StartsAt}
use Rattle.stop_table.proofs.Counting.{no_step}
use Rattle.stop_table.proofs.Starting.{final_below, looked_above, looked_at_mother, root_starts, starts_below, starts_born}
use Rattle.stop_table.proofs.Starting.{starts_never, starts_not_yet, whole}
use Rattle.stop_table.proofs.Walking.{legal_after, parent_there}
use Rattle.stop_table.proofs.cells.Cells.+start_of.Goals as goal

pub returns-in_default-clause-answer : goal.returns-in_default-clause-answer
returns-in_default-clause-answer g t c =
    let r = c.requires in
    let rows = sym c.args.self.now.same ∙ sym r.0.1 in
    root_starts c.args.seat.now.me.0 c.args.row
    (ap (λ rs. parent_of rs c.args.row) (sym rows) ∙ sym c.parent_place.ensures ∙ c.in_default.is)

pub start_of-requires : goal.start_of-requires
start_of-requires g t c κs within =
    let r = c.requires in
    let rows = sym c.args.self.now.same ∙ sym r.0.1 in
    let of_parent = ap (λ rs. parent_of rs c.args.row) (sym rows) ∙ sym c.parent_place.ensures ∙ c.in-Some.is in
    let before = ((placed c.args.seat.now.me.0.roster r.3 c.args.row r.1).child c.in-Some.parent of_parent).0 in (
      omega (arith, before, c.decreases),
      (
        within,
        (r.0, parent_there c.args.seat.now.me.0.roster r.3 c.args.row c.in-Some.parent r.1 of_parent, r.2, r.3),
      ),
    )

pub returns-in-NotYet-clause-answer : goal.returns-in-NotYet-clause-answer
returns-in-NotYet-clause-answer g t c =
    let r = c.requires in
    let rows = sym c.args.self.now.same ∙ sym r.0.1 in
    let of_parent = ap (λ rs. parent_of rs c.args.row) (sym rows) ∙ sym c.parent_place.ensures ∙ c.in-Some.is in
    starts_below c.args.seat.now.me.0 c.start_of.new.seat.me.0 c.args.row c.in-Some.parent start.NotYet r.3
    (legal_after c.args.seat.now.me.0 c.start_of.new.seat.me.0 c.start_of.ensures.seat.2) r.1 of_parent (λ e. cc)
    (subst (StartsAt c.args.seat.now.me.0 c.start_of.new.seat.me.0 c.in-Some.parent) c.in-NotYet.is
    c.start_of.ensures.answer)

pub returns-in-Never-clause-answer : goal.returns-in-Never-clause-answer
returns-in-Never-clause-answer g t c =
    let r = c.requires in
    let rows = sym c.args.self.now.same ∙ sym r.0.1 in
    let of_parent = ap (λ rs. parent_of rs c.args.row) (sym rows) ∙ sym c.parent_place.ensures ∙ c.in-Some.is in
    starts_below c.args.seat.now.me.0 c.start_of.new.seat.me.0 c.args.row c.in-Some.parent start.Never r.3
    (legal_after c.args.seat.now.me.0 c.start_of.new.seat.me.0 c.start_of.ensures.seat.2) r.1 of_parent (λ e. cc)
    (subst (StartsAt c.args.seat.now.me.0 c.start_of.new.seat.me.0 c.in-Some.parent) c.in-Never.is
    c.start_of.ensures.answer)

pub returns-in-Never-clause-for_good : goal.returns-in-Never-clause-for_good
returns-in-Never-clause-for_good g t c =
    let r = c.requires in
    let rows = sym c.args.self.now.same ∙ sym r.0.1 in
    let of_parent = ap (λ rs. parent_of rs c.args.row) (sym rows) ∙ sym c.parent_place.ensures ∙ c.in-Some.is in
    final_below c.args.seat.now.me.0.roster c.start_of.new.seat.me.0.seen c.args.row c.in-Some.parent start.Never r.3 r.1
    of_parent (λ e. cc)
    (subst (IsFinal c.args.seat.now.me.0.roster c.start_of.new.seat.me.0.seen c.in-Some.parent) c.in-Never.is
    c.start_of.ensures.for_good)

pub returns-then-rank-from-clause-seat : goal.returns-then-rank-from-clause-seat
returns-then-rank-from-clause-seat g t c =
    let r = c.requires in
    let rows = sym c.args.self.now.same ∙ sym r.0.1 in
    let of_parent = ap (λ rs. parent_of rs c.args.row) (sym rows) ∙ sym c.parent_place.ensures ∙ c.in-Some.is in
    let here = parent_there c.args.seat.now.me.0.roster r.3 c.args.row c.in-Some.parent r.1 of_parent in
    let born = subst (IsFinal c.args.seat.now.me.0.roster c.start_of.new.seat.me.0.seen c.in-Some.parent) c.in-Born.is
    c.start_of.ensures.for_good [] in (
      (c.see-word.ensures.0.0 ∙ c.start_of.ensures.seat.0.0, c.see-word.ensures.0.1 ∙ c.start_of.ensures.seat.0.1),
      c.see-word.ensures.1.0 ∙ c.start_of.ensures.seat.1,
      whole c.args.seat.now.me.0 c.start_of.new.seat.me c.see-word.new.seat.me c.args.row c.in-Some.parent c.see-word.result
          c.start_of.ensures.seat.2 c.see-word.ensures.1 r.3 r.1 here of_parent born,
    )

pub returns-then-rank-from-clause-answer : goal.returns-then-rank-from-clause-answer
returns-then-rank-from-clause-answer g t c =
    let r = c.requires in
    let rows = sym c.args.self.now.same ∙ sym r.0.1 in
    let of_parent = ap (λ rs. parent_of rs c.args.row) (sym rows) ∙ sym c.parent_place.ensures ∙ c.in-Some.is in
    let here = parent_there c.args.seat.now.me.0.roster r.3 c.args.row c.in-Some.parent r.1 of_parent in
    let born = subst (IsFinal c.args.seat.now.me.0.roster c.start_of.new.seat.me.0.seen c.in-Some.parent) c.in-Born.is
    c.start_of.ensures.for_good [] in
    let rank : c.rank.result ≡ rank_of c.args.seat.now.me.0.roster c.args.row =
    c.rank.ensures ∙ ap (λ rs. rank_of rs c.args.row) rows in
    let births : c.from.result ≡ c.see-word.result.births =
    c.from.ensures ∙ ap (λ (w : Word). w.births) c.word.view_is in
    (starts_born c.args.seat.now.me.0 c.start_of.new.seat.me c.see-word.new.seat.me c.args.row c.in-Some.parent c.see-word.result
    c.start_of.ensures.seat.2 c.see-word.ensures.1 r.3 r.1 here of_parent born
    (lt-ltb _ _ (omega (arith, rank, births, c.if-rank-from.true)))).0

pub returns-then-rank-from-clause-for_good : goal.returns-then-rank-from-clause-for_good
returns-then-rank-from-clause-for_good g t c =
    let r = c.requires in
    let rows = sym c.args.self.now.same ∙ sym r.0.1 in
    let of_parent = ap (λ rs. parent_of rs c.args.row) (sym rows) ∙ sym c.parent_place.ensures ∙ c.in-Some.is in
    let here = parent_there c.args.seat.now.me.0.roster r.3 c.args.row c.in-Some.parent r.1 of_parent in
    let born = subst (IsFinal c.args.seat.now.me.0.roster c.start_of.new.seat.me.0.seen c.in-Some.parent) c.in-Born.is
    c.start_of.ensures.for_good [] in
    let rank : c.rank.result ≡ rank_of c.args.seat.now.me.0.roster c.args.row =
    c.rank.ensures ∙ ap (λ rs. rank_of rs c.args.row) rows in
    let births : c.from.result ≡ c.see-word.result.births =
    c.from.ensures ∙ ap (λ (w : Word). w.births) c.word.view_is in
    (starts_born c.args.seat.now.me.0 c.start_of.new.seat.me c.see-word.new.seat.me c.args.row c.in-Some.parent c.see-word.result
    c.start_of.ensures.seat.2 c.see-word.ensures.1 r.3 r.1 here of_parent born
    (lt-ltb _ _ (omega (arith, rank, births, c.if-rank-from.true)))).1

pub returns-then-is_alive-clause-seat : goal.returns-then-is_alive-clause-seat
returns-then-is_alive-clause-seat g t c =
    let r = c.requires in
    let rows = sym c.args.self.now.same ∙ sym r.0.1 in
    let of_parent = ap (λ rs. parent_of rs c.args.row) (sym rows) ∙ sym c.parent_place.ensures ∙ c.in-Some.is in
    let here = parent_there c.args.seat.now.me.0.roster r.3 c.args.row c.in-Some.parent r.1 of_parent in
    let born = subst (IsFinal c.args.seat.now.me.0.roster c.start_of.new.seat.me.0.seen c.in-Some.parent) c.in-Born.is
    c.start_of.ensures.for_good [] in (
      (c.see-word.ensures.0.0 ∙ c.start_of.ensures.seat.0.0, c.see-word.ensures.0.1 ∙ c.start_of.ensures.seat.0.1),
      c.see-word.ensures.1.0 ∙ c.start_of.ensures.seat.1,
      whole c.args.seat.now.me.0 c.start_of.new.seat.me c.see-word.new.seat.me c.args.row c.in-Some.parent c.see-word.result
          c.start_of.ensures.seat.2 c.see-word.ensures.1 r.3 r.1 here of_parent born,
    )

pub returns-then-is_alive-clause-answer : goal.returns-then-is_alive-clause-answer
returns-then-is_alive-clause-answer g t c =
    let r = c.requires in
    let rows = sym c.args.self.now.same ∙ sym r.0.1 in
    let of_parent = ap (λ rs. parent_of rs c.args.row) (sym rows) ∙ sym c.parent_place.ensures ∙ c.in-Some.is in
    let here = parent_there c.args.seat.now.me.0.roster r.3 c.args.row c.in-Some.parent r.1 of_parent in
    let born = subst (IsFinal c.args.seat.now.me.0.roster c.start_of.new.seat.me.0.seen c.in-Some.parent) c.in-Born.is
    c.start_of.ensures.for_good [] in
    let rank : c.rank.result ≡ rank_of c.args.seat.now.me.0.roster c.args.row =
    c.rank.ensures ∙ ap (λ rs. rank_of rs c.args.row) rows in
    let births : c.from.result ≡ c.see-word.result.births =
    c.from.ensures ∙ ap (λ (w : Word). w.births) c.word.view_is in
    starts_not_yet c.args.seat.now.me.0 c.start_of.new.seat.me c.see-word.new.seat.me c.args.row c.in-Some.parent c.see-word.result
    c.start_of.ensures.seat.2 c.see-word.ensures.1 r.3 r.1 here of_parent born
    (le-ltb _ _ (omega (arith, rank, births, c.if-rank-from.false))) (sym c.is_alive.ensures ∙ c.if-is_alive.true)

pub returns-else-is_alive-clause-seat : goal.returns-else-is_alive-clause-seat
returns-else-is_alive-clause-seat g t c =
    let r = c.requires in
    let rows = sym c.args.self.now.same ∙ sym r.0.1 in
    let of_parent = ap (λ rs. parent_of rs c.args.row) (sym rows) ∙ sym c.parent_place.ensures ∙ c.in-Some.is in
    let here = parent_there c.args.seat.now.me.0.roster r.3 c.args.row c.in-Some.parent r.1 of_parent in
    let born = subst (IsFinal c.args.seat.now.me.0.roster c.start_of.new.seat.me.0.seen c.in-Some.parent) c.in-Born.is
    c.start_of.ensures.for_good [] in (
      (c.see-word.ensures.0.0 ∙ c.start_of.ensures.seat.0.0, c.see-word.ensures.0.1 ∙ c.start_of.ensures.seat.0.1),
      c.see-word.ensures.1.0 ∙ c.start_of.ensures.seat.1,
      whole c.args.seat.now.me.0 c.start_of.new.seat.me c.see-word.new.seat.me c.args.row c.in-Some.parent c.see-word.result
          c.start_of.ensures.seat.2 c.see-word.ensures.1 r.3 r.1 here of_parent born,
    )

pub returns-else-is_alive-clause-answer : goal.returns-else-is_alive-clause-answer
returns-else-is_alive-clause-answer g t c =
    let r = c.requires in
    let rows = sym c.args.self.now.same ∙ sym r.0.1 in
    let of_parent = ap (λ rs. parent_of rs c.args.row) (sym rows) ∙ sym c.parent_place.ensures ∙ c.in-Some.is in
    let here = parent_there c.args.seat.now.me.0.roster r.3 c.args.row c.in-Some.parent r.1 of_parent in
    let born = subst (IsFinal c.args.seat.now.me.0.roster c.start_of.new.seat.me.0.seen c.in-Some.parent) c.in-Born.is
    c.start_of.ensures.for_good [] in
    let rank : c.rank.result ≡ rank_of c.args.seat.now.me.0.roster c.args.row =
    c.rank.ensures ∙ ap (λ rs. rank_of rs c.args.row) rows in
    let births : c.from.result ≡ c.see-word.result.births =
    c.from.ensures ∙ ap (λ (w : Word). w.births) c.word.view_is in
    (starts_never c.args.seat.now.me.0 c.start_of.new.seat.me c.see-word.new.seat.me c.args.row c.in-Some.parent c.see-word.result
    c.start_of.ensures.seat.2 c.see-word.ensures.1 r.3 r.1 here of_parent born
    (le-ltb _ _ (omega (arith, rank, births, c.if-rank-from.false))) (sym c.is_alive.ensures ∙ c.if-is_alive.false)).0

pub returns-else-is_alive-clause-for_good : goal.returns-else-is_alive-clause-for_good
returns-else-is_alive-clause-for_good g t c =
    let r = c.requires in
    let rows = sym c.args.self.now.same ∙ sym r.0.1 in
    let of_parent = ap (λ rs. parent_of rs c.args.row) (sym rows) ∙ sym c.parent_place.ensures ∙ c.in-Some.is in
    let here = parent_there c.args.seat.now.me.0.roster r.3 c.args.row c.in-Some.parent r.1 of_parent in
    let born = subst (IsFinal c.args.seat.now.me.0.roster c.start_of.new.seat.me.0.seen c.in-Some.parent) c.in-Born.is
    c.start_of.ensures.for_good [] in
    let rank : c.rank.result ≡ rank_of c.args.seat.now.me.0.roster c.args.row =
    c.rank.ensures ∙ ap (λ rs. rank_of rs c.args.row) rows in
    let births : c.from.result ≡ c.see-word.result.births =
    c.from.ensures ∙ ap (λ (w : Word). w.births) c.word.view_is in
    (starts_never c.args.seat.now.me.0 c.start_of.new.seat.me c.see-word.new.seat.me c.args.row c.in-Some.parent c.see-word.result
    c.start_of.ensures.seat.2 c.see-word.ensures.1 r.3 r.1 here of_parent born
    (le-ltb _ _ (omega (arith, rank, births, c.if-rank-from.false))) (sym c.is_alive.ensures ∙ c.if-is_alive.false)).1

pub returns-in_default-clause-once : goal.returns-in_default-clause-once
returns-in_default-clause-once g t c = no_step c.args.seat.now.me.0

pub returns-in-NotYet-clause-once : goal.returns-in-NotYet-clause-once
returns-in-NotYet-clause-once g t c =
    let r = c.requires in
    let rows = sym c.args.self.now.same ∙ sym r.0.1 in
    let of_parent = ap (λ rs. parent_of rs c.args.row) (sym rows) ∙ sym c.parent_place.ensures ∙ c.in-Some.is in
    looked_above c.args.seat.now.me.0 c.start_of.new.seat.me.0 c.args.row c.in-Some.parent of_parent
    c.start_of.ensures.once

pub returns-in-Never-clause-once : goal.returns-in-Never-clause-once
returns-in-Never-clause-once g t c =
    let r = c.requires in
    let rows = sym c.args.self.now.same ∙ sym r.0.1 in
    let of_parent = ap (λ rs. parent_of rs c.args.row) (sym rows) ∙ sym c.parent_place.ensures ∙ c.in-Some.is in
    looked_above c.args.seat.now.me.0 c.start_of.new.seat.me.0 c.args.row c.in-Some.parent of_parent
    c.start_of.ensures.once

pub returns-then-rank-from-clause-once : goal.returns-then-rank-from-clause-once
returns-then-rank-from-clause-once g t c =
    let r = c.requires in
    let rows = sym c.args.self.now.same ∙ sym r.0.1 in
    let of_parent = ap (λ rs. parent_of rs c.args.row) (sym rows) ∙ sym c.parent_place.ensures ∙ c.in-Some.is in
    looked_at_mother c.args.seat.now.me.0 c.start_of.new.seat.me c.see-word.new.seat.me c.args.row c.in-Some.parent
    c.see-word.result r.3 r.1 of_parent c.start_of.ensures.once c.see-word.ensures.1

pub returns-then-is_alive-clause-once : goal.returns-then-is_alive-clause-once
returns-then-is_alive-clause-once g t c =
    let r = c.requires in
    let rows = sym c.args.self.now.same ∙ sym r.0.1 in
    let of_parent = ap (λ rs. parent_of rs c.args.row) (sym rows) ∙ sym c.parent_place.ensures ∙ c.in-Some.is in
    looked_at_mother c.args.seat.now.me.0 c.start_of.new.seat.me c.see-word.new.seat.me c.args.row c.in-Some.parent
    c.see-word.result r.3 r.1 of_parent c.start_of.ensures.once c.see-word.ensures.1

pub returns-else-is_alive-clause-once : goal.returns-else-is_alive-clause-once
returns-else-is_alive-clause-once g t c =
    let r = c.requires in
    let rows = sym c.args.self.now.same ∙ sym r.0.1 in
    let of_parent = ap (λ rs. parent_of rs c.args.row) (sym rows) ∙ sym c.parent_place.ensures ∙ c.in-Some.is in
    looked_at_mother c.args.seat.now.me.0 c.start_of.new.seat.me c.see-word.new.seat.me c.args.row c.in-Some.parent
    c.see-word.result r.3 r.1 of_parent c.start_of.ensures.once c.see-word.ensures.1
