-- The rows are kept the other way round, so as many are before a row as stand behind its place.
use Rattle.std.proofs.Common.{◌≡◌, ◌<◌, ◌==◌, ◌-◌, ◌∙◌, ℕ, List, true, ap, arith, get_or, length, rules, subst, sym, tests}
use Rattle.std.proofs.lemmas.Iterator.{YieldsList-from_slice}
use Rattle.std.proofs.lemmas.Iterator.Search.{position_from_yields_List}
use Rattle.std.specs.List.{position}
use Rattle.stop_table.specs.View.{is_among}
use Rattle.stop_table.proofs.Turning.{among_reversed, has_place, placed}
use Rattle.stop_table.proofs.held.Held.before.Goals as goal

-- the row is among those held, so it has a place
pub unreachable-requires : goal.unreachable-requires
unreachable-requires g c =
    let rows = c.self.inside.rows.items in
    let found : c.position.result ≡ position (λ n. n == c.args.row) rows =
    position_from_yields_List (λ n. n == c.args.row) _ _ c.position.result c.position.ensures.ran
    (YieldsList-from_slice rows (c.iter.ensures.rest ∙ c.deref.ensures.value)) (λ x b q k. search (rules, tests)) in
    let among : is_among c.args.row rows ≡ true =
    sym (among_reversed c.args.row rows) ∙ ap (is_among c.args.row) c.self.view_is ∙ c.requires in
    has_place c.args.row rows among (sym found ∙ c.in_default.is)

pub returns : goal.returns
returns g c =
    let rows = c.self.inside.rows.items in
    let row = c.args.row in
    let found : c.position.result ≡ position (λ n. n == row) rows =
    position_from_yields_List (λ n. n == row) _ _ c.position.result c.position.ensures.ran
    (YieldsList-from_slice rows (c.iter.ensures.rest ∙ c.deref.ensures.value)) (λ x b q k. search (rules, tests)) in
    let there = placed row rows c.in-Some.place (sym found ∙ c.in-Some.is) in
    let same : length rows - 1 - c.in-Some.place ≡ c.len.result - 1 - c.in-Some.place =
    omega (arith, c.len.ensures, c.self.inside.rows.ok.0) in
    subst (λ n. (n < length c.args.self.now) × (get_or c.args.self.now n 0 ≡ row)) same
    (subst (λ (l : List ℕ). (length rows - 1 - c.in-Some.place < length l) × (get_or l (length rows - 1 - c.in-Some.place) 0 ≡ row))
    c.self.view_is there)
