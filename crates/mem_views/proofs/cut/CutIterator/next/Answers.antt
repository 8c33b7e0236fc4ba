-- A piece comes off the front.
use Rattle.std.proofs.Common.{◌+◌, ◌%◌, ◌^◌, length, refl, ap, ◌∙◌}
use Rattle.trace_pages.specs.FlatMemory.{run}
use Rattle.trace_pages.proofs.Runs.{run-none}
use Rattle.mem_views.proofs.Fronts.{next_gives, rest_whole, shorter}
use Rattle.mem_views.proofs.cut.CutIterator.next.Goals as goal

pub returns-then-self-eq0-clause-steps : goal.returns-then-self-eq0-clause-steps
returns-then-self-eq0-clause-steps g c = rw (← c.self.view_is) (
  ap (run c.self.inside.memory.now c.self.inside.at) c.if-self-eq0.true
      ∙ run-none c.self.inside.memory.now c.self.inside.at,
  refl,
)

pub invariant_of-self : goal.invariant_of-self
invariant_of-self g c =
    let piece = c.front_of_run-piece.result.now in
    rest_whole c.self.inside.memory.now c.self.inside.at c.self.inside.left c.self.inside.len
    ((c.self.inside.at + length piece) % 2 ^ 64) c.self.inside.end piece refl c.front_of_run-piece.ensures.run
    c.front_of_run-piece.ensures.full c.front_of_run-piece.ensures.some c.front_of_run-piece.ensures.within
    c.front_of_run-piece.ensures.in_page c.front_of_run-piece.ensures.page_end

pub returns-clause-steps : goal.returns-clause-steps
returns-clause-steps g c =
    let piece = c.front_of_run-piece.result.now in
    rw (← c.self.view_is)
    (next_gives c.self.inside.memory.now c.self.inside.at c.self.inside.left c.self.inside.len
    ((c.self.inside.at + length piece) % 2 ^ 64) c.self.inside.end piece refl c.front_of_run-piece.ensures.run
    c.front_of_run-piece.ensures.full c.front_of_run-piece.ensures.some c.front_of_run-piece.ensures.within
    c.front_of_run-piece.ensures.in_page c.front_of_run-piece.ensures.page_end)

pub returns-clause-goes : goal.returns-clause-goes
returns-clause-goes g c =
    let piece = c.front_of_run-piece.result.now in
    rw (← c.self.view_is)
    (record {
      on = λ f. (
        tt,
        f,
        shorter (next_gives c.self.inside.memory.now c.self.inside.at c.self.inside.left
            c.self.inside.len ((c.self.inside.at + length piece) % 2 ^ 64) c.self.inside.end piece refl
            c.front_of_run-piece.ensures.run c.front_of_run-piece.ensures.full c.front_of_run-piece.ensures.some
            c.front_of_run-piece.ensures.within c.front_of_run-piece.ensures.in_page
            c.front_of_run-piece.ensures.page_end),
      );
      keeps = tt;
      rests = λ f. tt;
    })
