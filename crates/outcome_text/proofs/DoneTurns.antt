-- A loop over turns that looks for the one that did a command: the next turn did it, or is gone by.
use Rattle.std.proofs.Common.{◌≡◌, ◌<◌, ◌≤◌, ◌+◌, ℕ, Bool, true, false, List, length, get_or, drop, slice_get, ◌∙◌, ap}
use Rattle.std.proofs.Common.{eqb}
use Rattle.std.proofs.lemmas.Bool.{eq-eqb, ne_eqb}
use Rattle.stop_program.specs.declared.command.ThreadCommand.{ThreadCommand}
use Rattle.stop_program.specs.declared.turn.Turn.{Turn}
use Rattle.stop_program.specs.Program.{Log, index_after, own_turns}
use Rattle.stop_program.specs.Replies.{done_from}
use Rattle.stop_program.proofs.OwnTurns.{own_here, own_not_here, own_over}
use Rattle.outcome_text.specs.Chosen.{was_done}

-- whether a command is among those that a thread's turns from here on do
abbrev pub is_left : List ThreadCommand → (at thread next : ℕ) → Log → Bool
is_left commands at thread next turns = was_done at (done_from commands next (own_turns thread turns))

pub done_here : (commands : List ThreadCommand) (at thread next : ℕ) (turns : Log) (i : ℕ) (d : Turn) → i < length turns
    → (get_or turns i d).thread ≡ thread → next ≡ at → is_left commands at thread next (drop i turns) ≡ true
unfolding done_from was_done
done_here commands at thread next turns i d within own is =
    let one : eqb next at ≡ true = eq-eqb next at is in
    ap (λ ts. was_done at (done_from commands next ts)) (own_here thread turns i d within own) ∙ rw one

pub done_later : (commands : List ThreadCommand) (at thread next : ℕ) (turns : Log) (i : ℕ) (d : Turn) → i < length turns
    → (get_or turns i d).thread ≡ thread → (next ≡ at → ⊥)
    → is_left commands at thread next (drop i turns)
    ≡ is_left commands at thread (index_after (slice_get commands next) next (get_or turns i d).answer) (drop (i + 1) turns)
unfolding done_from was_done
done_later commands at thread next turns i d within own apart =
    let other : eqb next at ≡ false = ne_eqb next at apart in
    ap (λ ts. was_done at (done_from commands next ts)) (own_here thread turns i d within own) ∙ rw other

pub done_not_here : (commands : List ThreadCommand) (at thread next : ℕ) (turns : Log) (i : ℕ) (d : Turn)
    → i < length turns → ((get_or turns i d).thread ≡ thread → ⊥)
    → is_left commands at thread next (drop i turns) ≡ is_left commands at thread next (drop (i + 1) turns)
done_not_here commands at thread next turns i d within other =
    ap (λ ts. was_done at (done_from commands next ts)) (own_not_here thread turns i d within other)

pub done_over : (commands : List ThreadCommand) (at thread next : ℕ) (turns : Log) (i : ℕ) → length turns ≤ i
    → is_left commands at thread next (drop i turns) ≡ false
unfolding done_from was_done
done_over commands at thread next turns i past =
    ap (λ ts. was_done at (done_from commands next ts)) (own_over thread turns i past)
