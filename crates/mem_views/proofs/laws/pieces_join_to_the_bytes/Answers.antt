-- By induction on the pieces.
use Rattle.std.proofs.Common.{[], ◌∷◌, ◌++◌, ◌≡◌, ℕ, List, sym, ap, ◌∙◌}
use Rattle.std.specs.List.{flat_map}
use Rattle.mem_views.specs.ByteView.{ArePieces, Cut}
use Rattle.mem_views.proofs.laws.pieces_join_to_the_bytes.Goals as goal

joined : (pieces : List (List ℕ)) (cut : Cut) → ArePieces cut pieces → flat_map (λ piece. piece) pieces ≡ cut.rest
joined [] cut done = sym done
joined (piece ∷ pieces) cut more =
    ap (λ (bytes : List ℕ). piece ++ bytes) (joined pieces more.0 more.2) ∙ sym more.1.front

pub returns : goal.returns
returns c = λ cut pieces are. joined pieces cut are
