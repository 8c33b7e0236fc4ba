-- The slots and the rows are turned as often.
use Rattle.std.proofs.Common.{◌≡◌, ◌<◌, ◌-◌, ◌∙◌, ◌++◌, ap, arith, drop, length, reverse, sym, take, vec_len}
use Rattle.std.proofs.lemmas.List.{append-nil, length-reverse}
use Rattle.stop_table.specs.Tracer.{emptied}
use Rattle.stop_table.proofs.Turning.{one_turn, turned_behind}
use Rattle.stop_table.proofs.held.Held.turn.Goals as goal

pub loop-init : goal.loop-init
loop-init g c = record {
  table_id = cc;
  id = cc;
  view = cc;
  slots = c.requires.slots ∙ ap emptied (sym (append-nil c.args.self.now));
}

pub loop-preserved : goal.loop-preserved
loop-preserved g c =
    let rows = c.args.self.now in
    let low : c.loop.counter < length rows = omega (arith, c.loop-test.true, c.requires.turns) in
    record {
      table_id = cc;
      id = cc;
      view = cc;
      slots = rw c.turn.ensures.2 (one_turn rows c.loop.counter _ low c.loop.invariant.slots);
    }

pub returns-clause-rows : goal.returns-clause-rows
returns-clause-rows g c =
    let rows = c.self.inside.rows.items in
    let turns = c.args.turns in
    let long : length (reverse rows) ≡ length c.args.self.now = ap length c.self.view_is in
    let wide : vec_len c.self.inside.rows - turns ≡ length rows - turns = omega (arith, c.self.inside.rows.ok.0) in
    ap reverse (c.rotate_right.ensures.items ∙ ap (λ n. drop n rows ++ take n rows) wide)
    ∙ turned_behind rows turns (omega (arith, c.requires.turns, long, length-reverse rows))
    ∙ ap (λ l. drop turns l ++ take turns l) c.self.view_is

pub returns-clause-slots : goal.returns-clause-slots
returns-clause-slots g c =
    let done : c.loop.counter ≡ c.args.turns = omega (arith, c.loop-test.false, c.loop.auto.counter-end) in
    c.loop.invariant.slots
    ∙ ap (λ n. emptied (drop n c.args.self.now ++ take n c.args.self.now)) done
    ∙ ap emptied (sym (returns-clause-rows g c))
