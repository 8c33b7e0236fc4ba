-- The first zero of what is left, piece by piece.
use Rattle.std.proofs.Common.{length, sym, ap, ◌∙◌, arith}
use Rattle.std.specs.List.{position_from}
use Rattle.std.proofs.lemmas.List.{length-append}
use Rattle.mem_views.specs.ByteView.{is_zero}
use Rattle.mem_views.proofs.Places.{from_zero, in_piece, past_piece}
use Rattle.mem_views.proofs.views.place_of_zero.Goals as goal

pub returns-in-Some-zero_in : goal.returns-in-Some-zero_in
returns-in-Some-zero_in g c = sym (sym (from_zero is_zero c.args.cut.rest) ∙ c.loop-piece.invariant.place
    ∙ ap (position_from is_zero c.loop-piece.seen) c.in-Some.ensures.steps.front
    ∙ in_piece is_zero c.in-Some.piece.now c.next.new.self.rest c.loop-piece.seen c.in-Some-zero_in.place
    (sym c.zero_in.ensures ∙ c.in-Some-zero_in.is))

pub loop-piece-preserved : goal.loop-piece-preserved
loop-piece-preserved g c =
    let front = c.in-Some.ensures.steps.front in
    let all = ap length front in
    let long = length-append c.in-Some.piece.now c.next.new.self.rest in
    record {
      place = c.loop-piece.invariant.place ∙ ap (position_from is_zero c.loop-piece.seen) front
          ∙ past_piece is_zero c.in-Some.piece.now c.next.new.self.rest c.loop-piece.seen
          (sym c.zero_in.ensures ∙ c.in_default.is);
      room = omega arith;
    }

pub returns : goal.returns
returns g c = sym (sym (from_zero is_zero c.args.cut.rest) ∙ c.loop-piece.invariant.place
    ∙ ap (position_from is_zero c.loop-piece.seen) c.in-None.ensures.steps.0)
