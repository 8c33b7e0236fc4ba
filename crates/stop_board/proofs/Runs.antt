-- Runs of a World: the turns so far and the turns left are one run.
use Rattle.std.proofs.Common.{refl, ◌≡◌, ◌++◌, ◌∷◌, [], ℕ, List, subst, append_assoc, append-nil, drop, drop-cons}
use Rattle.std.proofs.Common.{drop_of_length-le, get_or, length, add-one, ◌+◌, ◌<◌, ◌≤◌, ap, sym, ◌∙◌}
use Rattle.stop_board.specs.declared.world.action.Action.{Action}
use Rattle.stop_board.specs.declared.world.action.Reply.{Reply}
use Rattle.stop_history.specs.declared.roster.Row.{Row}
use Rattle.stop_board.specs.World.{AreReplies, Moment, Replies, moment_after_step, moment_after_run}

-- whatever the turns left reply, these replies and those are the replies of all turns, and come to the same moment
pub record IsSoFar (rows : List Row) (tracers : ℕ) (start : Moment) (turns : List (ℕ × Action)) (m : Moment)
    (left : List (ℕ × Action)) (replies : List Reply) : Type 0 where
  pub told : (rs : List Reply) → AreReplies rows tracers m left rs → AreReplies rows tracers start turns (replies ++ rs)
  pub come_to : (rs : List Reply)
      → moment_after_run rows tracers m left rs ≡ moment_after_run rows tracers start turns (replies ++ rs)

pub begins : (rows : List Row) (tracers : ℕ) (start : Moment) (turns : List (ℕ × Action))
    → IsSoFar rows tracers start turns start turns []
begins rows tracers start turns = record { told = λ rs are. are; come_to = λ rs. refl }

-- one more turn
pub one_more : (rows : List Row) (tracers : ℕ) (start : Moment) (turns : List (ℕ × Action)) (m : Moment) (i : ℕ)
    (d : ℕ × Action) (replies : List Reply) (r : Reply)
    → i < length turns → IsSoFar rows tracers start turns m (drop i turns) replies
    → Replies rows tracers m (get_or turns i d).0 (get_or turns i d).1 r
    → IsSoFar rows tracers start turns (moment_after_step rows tracers m (get_or turns i d).0 (get_or turns i d).1 r)
    (drop (i + 1) turns) (replies ++ r ∷ [])
unfolding AreReplies moment_after_run
one_more rows tracers start turns m i d replies r within so_far is =
    let turn = get_or turns i d in
    let cut : drop i turns ≡ turn ∷ drop (i + 1) turns = drop-cons turns i d within
    ∙ ap (λ k. turn ∷ drop k turns) (sym (add-one i)) in
    record {
      told = λ rs are.
          subst (AreReplies rows tracers start turns) (sym (append_assoc replies (r ∷ []) rs))
          (so_far.told (r ∷ rs) (subst (λ left. AreReplies rows tracers m left (r ∷ rs)) (sym cut) (is, are)));
      come_to = λ rs.
          ap (λ left. moment_after_run rows tracers m left (r ∷ rs)) (sym cut) ∙ so_far.come_to (r ∷ rs)
          ∙ ap (moment_after_run rows tracers start turns) (sym (append_assoc replies (r ∷ []) rs));
    }

-- no turn is left
pub all_told : (rows : List Row) (tracers : ℕ) (start : Moment) (turns : List (ℕ × Action)) (m : Moment) (i : ℕ)
    (replies : List Reply)
    → length turns ≤ i → IsSoFar rows tracers start turns m (drop i turns) replies
    → AreReplies rows tracers start turns replies
unfolding AreReplies
all_told rows tracers start turns m i replies past so_far =
    subst (AreReplies rows tracers start turns) (append-nil replies)
    (so_far.told [] (subst (λ left. AreReplies rows tracers m left []) (sym (drop_of_length-le turns past)) tt))

pub come_to : (rows : List Row) (tracers : ℕ) (start : Moment) (turns : List (ℕ × Action)) (m : Moment) (i : ℕ)
    (replies : List Reply)
    → length turns ≤ i → IsSoFar rows tracers start turns m (drop i turns) replies
    → m ≡ moment_after_run rows tracers start turns replies
unfolding moment_after_run
come_to rows tracers start turns m i replies past so_far =
    ap (λ left. moment_after_run rows tracers m left []) (sym (drop_of_length-le turns past)) ∙ so_far.come_to []
    ∙ ap (moment_after_run rows tracers start turns) (append-nil replies)
