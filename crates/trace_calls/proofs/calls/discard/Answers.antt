-- The last of the claims is none.
use Rattle.std.proofs.Common.{◌∙◌, ◌++◌, ◌∷◌, [], ap, is_some, sym}
use Rattle.std.specs.List.{list_any}
use Rattle.trace_calls.proofs.Places.{last_is_none}
use Rattle.trace_calls.proofs.calls.discard.Goals as goal

pub unreachable-requires : goal.unreachable-requires
unreachable-requires g c =
    last_is_none c.pop.new.self.items c.in-Some-last.field-0
    (ap (λ x. list_any is_some (c.pop.new.self.items ++ x ∷ [])) (sym c.in-Some-last.is)
    ∙ ap (list_any is_some) (sym c.in-Some.ensures.items) ∙ c.loop-last.invariant)
