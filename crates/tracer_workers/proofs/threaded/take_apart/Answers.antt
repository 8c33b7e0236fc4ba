-- All workers have been taken apart.
use Rattle.std.proofs.Common.{◌++◌, ◌∷◌, [], ◌∙◌, ◌≡◌, false, append_assoc, append-nil, map, sym, ap, subst}
use Rattle.std.specs.List.{All, flat_map}
use Rattle.std.proofs.lemmas.Iterator.Adapters.{YieldsList-from_vec}
use Rattle.std.proofs.lemmas.Iterator.Consumers.{YieldsList-end}
use Rattle.std.proofs.lemmas.List.{map-append, map-id}
use Rattle.std.proofs.lemmas.List.Concat.{flat_map-append}
use Rattle.std.proofs.lemmas.List.Elements.{All-push}
use Rattle.tracer_workers.proofs.threaded.take_apart.Goals as goal

pub loop-one-preserved : goal.loop-one-preserved
loop-one-preserved g c = record {
  tracers = c.in_ok-push.ensures.items
      ∙ ap (λ tracers. tracers ++ c.in-Some.one.tracer ∷ []) c.loop-one.invariant.tracers
      ∙ append_assoc c.args.tracers.now.items (map (λ w. w.tracer) c.loop-one.yielded) (c.in-Some.one.tracer ∷ [])
      ∙ ap (λ tracers. c.args.tracers.now.items ++ tracers)
      (sym (map-append (λ w. w.tracer) c.loop-one.yielded (c.in-Some.one ∷ [])));
  whole = All-push (λ w. w.kept.short ≡ false) c.loop-one.yielded c.in-Some.one c.loop-one.invariant.whole
      c.if-kept.false;
  pieces = c.in_ok-append.ensures.items
      ∙ ap (λ pieces. pieces ++ c.in-Some.one.kept.pieces.items) c.loop-one.invariant.pieces
      ∙ ap (λ pieces. flat_map (λ w. w.kept.pieces.items) c.loop-one.yielded ++ pieces)
      (sym (append-nil c.in-Some.one.kept.pieces.items))
      ∙ sym (flat_map-append (λ w. w.kept.pieces.items) c.loop-one.yielded (c.in-Some.one ∷ []));
}

pub returns-clause-tracers : goal.returns-clause-tracers
returns-clause-tracers g c =
    let begun = c.into_iter-one-iterator.ensures.into_iter_gives in
    let all = YieldsList-end
    (YieldsList-from_vec {s = c.into_iter-one-iterator.result} c.args.workers.items begun.0 (begun.1 ∙ c.args.workers.ok.0))
    c.loop-one.yielded c.loop-one.one-iterator c.loop-one.yielded_by c.next.result c.next.new.self c.in-None.is
    c.next.ensures.steps in
    c.loop-one.invariant.tracers
    ∙ ap (λ workers. c.args.tracers.now.items ++ map (λ w. w.tracer) workers) (sym (map-id c.loop-one.yielded) ∙ all.0)

pub returns-clause-pieces : goal.returns-clause-pieces
returns-clause-pieces g c =
    let begun = c.into_iter-one-iterator.ensures.into_iter_gives in
    let all = YieldsList-end
    (YieldsList-from_vec {s = c.into_iter-one-iterator.result} c.args.workers.items begun.0 (begun.1 ∙ c.args.workers.ok.0))
    c.loop-one.yielded c.loop-one.one-iterator c.loop-one.yielded_by c.next.result c.next.new.self c.in-None.is
    c.next.ensures.steps in
    c.loop-one.invariant.pieces
    ∙ ap (λ workers. flat_map (λ w. w.kept.pieces.items) workers) (sym (map-id c.loop-one.yielded) ∙ all.0)

pub returns-clause-whole : goal.returns-clause-whole
returns-clause-whole g c =
    let begun = c.into_iter-one-iterator.ensures.into_iter_gives in
    let all = YieldsList-end
    (YieldsList-from_vec {s = c.into_iter-one-iterator.result} c.args.workers.items begun.0 (begun.1 ∙ c.args.workers.ok.0))
    c.loop-one.yielded c.loop-one.one-iterator c.loop-one.yielded_by c.next.result c.next.new.self c.in-None.is
    c.next.ensures.steps in
    subst (All (λ w. w.kept.short ≡ false)) (sym (map-id c.loop-one.yielded) ∙ all.0) c.loop-one.invariant.whole
