-- The half that has the first one is halved again; a search for some of the requirements may have more places than the
-- budget.
use Rattle.std.proofs.Common.{◌≡◌, ◌∙◌, ◌≤◌, ◌-◌, Err, ap, arith, inr, refl, sym}
use Rattle.std.proofs.lemmas.Bool.{false≢true}
use Rattle.std.proofs.lemmas.Result.{err_from_is_err_and}
use Rattle.stop_explorer.specs.declared.error.ExploreError.TheVariants.{TooMany}
use Rattle.outcome_text.specs.Halving.{midway, whole}
use Rattle.outcome_text.specs.Searched.{CanMeet}
use Rattle.litmus_files.specs.LitmusDraft.{content_in}
use Rattle.outcome_text.proofs.Halving.{AllFew, asked_above, asked_below, lower_are_few, neighbours_are_few, still_ok}
use Rattle.outcome_text.proofs.Halving.{upper_are_few}
use Rattle.outcome_text.proofs.forbidden.+first_unmet.Goals as goal

pub first_unmet-requires : goal.first_unmet-requires
first_unmet-requires t c =
    let wide : 2 ≤ c.args.high - c.args.low = omega (arith, c.if-high-low-le1.false) in
    let can = c.in_ok-can_meet.ensures.met.0 c.if-branch.true in (
      omega (arith, c.decreases, wide),
      (
        c.requires.file,
        (
          c.requires.whole,
          (omega (arith, wide), (c.requires.within, (inr can, c.requires.unmet))),
        ),
      ),
    )

pub first_unmet-requires-else-branch : goal.first_unmet-requires-else-branch
first_unmet-requires-else-branch t c =
    let wide : 2 ≤ c.args.high - c.args.low = omega (arith, c.if-high-low-le1.false) in
    let cannot : CanMeet (content_in c.args.file.now) (midway c.args.low c.args.high) → ⊥ =
    λ can. false≢true (sym c.if-branch.false ∙ c.in_ok-can_meet.ensures.met.1 can) in (
      omega (arith, c.decreases, wide),
      (
        c.requires.file,
        (
          c.requires.whole,
          (omega (arith, wide), (omega (arith, c.requires.within, wide), (c.requires.met, cannot))),
        ),
      ),
    )

pub returns-in_err-can_meet-clause-too_many : goal.returns-in_err-can_meet-clause-too_many
returns-in_err-can_meet-clause-too_many t c = λ is.
    let failed = err_from_is_err_and c.from_residual.result c.from_residual.ensures.1 in
    let told : Err failed.0 ≡ Err TooMany = sym failed.1 ∙ is in
    let same : failed.0 ≡ TooMany = cc in
    let more = c.in_err-can_meet.ensures.too_many (ap Err (sym failed.2 ∙ same)) in
    let wide : 2 ≤ c.args.high - c.args.low = omega (arith, c.if-high-low-le1.false) in (
      midway c.args.low c.args.high,
      record {
        low = c.args.low;
        high = c.args.high;
        halved = whole;
        wide = wide;
        is_midway = refl;
        replies = more.0;
      },
      more.1,
    )

pub returns-then-high-low-le1-clause-few : goal.returns-then-high-low-le1-clause-few
returns-then-high-low-le1-clause-few t c =
    neighbours_are_few (content_in c.args.file.now) c.args.budget c.args.low c.args.high c.if-high-low-le1.true

pub returns-then-branch-clause-few : goal.returns-then-branch-clause-few
returns-then-branch-clause-few t c =
    let content = content_in c.args.file.now in
    let can = c.in_ok-can_meet.ensures.met.0 c.if-branch.true in
    still_ok c.first_unmet.result (AllFew content c.args.budget (midway c.args.low c.args.high) c.args.high)
    (AllFew content c.args.budget c.args.low c.args.high)
    (upper_are_few content c.args.budget c.args.low c.args.high can c.in_ok-can_meet.ensures.few)
    c.first_unmet.ensures.few

pub returns-then-branch-clause-too_many : goal.returns-then-branch-clause-too_many
returns-then-branch-clause-too_many t c = λ is.
    let can = c.in_ok-can_meet.ensures.met.0 c.if-branch.true in
    let more = c.first_unmet.ensures.too_many is in
    let wide : 2 ≤ c.args.high - c.args.low = omega (arith, c.if-high-low-le1.false) in (
      more.0,
      asked_above (content_in c.args.file.now) c.args.low c.args.high wide can more.0 more.1,
      more.2,
    )

pub returns-else-branch-clause-few : goal.returns-else-branch-clause-few
returns-else-branch-clause-few t c =
    let content = content_in c.args.file.now in
    let cannot : CanMeet content (midway c.args.low c.args.high) → ⊥ =
    λ can. false≢true (sym c.if-branch.false ∙ c.in_ok-can_meet.ensures.met.1 can) in
    still_ok c.first_unmet-else-branch.result
    (AllFew content c.args.budget c.args.low (midway c.args.low c.args.high))
    (AllFew content c.args.budget c.args.low c.args.high)
    (lower_are_few content c.args.budget c.args.low c.args.high cannot c.in_ok-can_meet.ensures.few)
    c.first_unmet-else-branch.ensures.few

pub returns-else-branch-clause-too_many : goal.returns-else-branch-clause-too_many
returns-else-branch-clause-too_many t c = λ is.
    let cannot : CanMeet (content_in c.args.file.now) (midway c.args.low c.args.high) → ⊥ =
    λ can. false≢true (sym c.if-branch.false ∙ c.in_ok-can_meet.ensures.met.1 can) in
    let more = c.first_unmet-else-branch.ensures.too_many is in
    let wide : 2 ≤ c.args.high - c.args.low = omega (arith, c.if-high-low-le1.false) in (
      more.0,
      asked_below (content_in c.args.file.now) c.args.low c.args.high wide cannot more.0 more.1,
      more.2,
    )
