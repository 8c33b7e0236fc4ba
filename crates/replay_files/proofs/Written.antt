-- What was written, said in other words.
use Rattle.std.proofs.Common.{◌≡◌, ◌++◌, ◌∷◌, [], ℕ, List, OnOk, Result, subst, append_assoc, drop, drop-cons}
use Rattle.std.proofs.Common.{drop_of_length-le, get_or, length, add-one, append-nil, ◌+◌, ◌<◌, ◌≤◌, ap, sym, ◌∙◌}
use Rattle.stop_history.specs.Event.{History}
use Rattle.stop_board.specs.World.{Contents}
use Rattle.stop_board.specs.OneThread.{HasHistory}
use Rattle.stop_history.specs.declared.roster.Row.{Row}
use Rattle.replay_files.specs.declared.order.Order.{Order}
use Rattle.replay_files.specs.Replies.{history_after_command, replies, reply_text}

pub told : {T E : Type 0} (result : Result T E) (out old said text : List ℕ) → said ≡ text
    → OnOk result (out ≡ old ++ (said ++ 10 ∷ [])) → OnOk result (out ≡ old ++ (text ++ 10 ∷ []))
told {T} {E} result out old said text same wrote = let P : List ℕ → Type 0 =
    λ t. OnOk result (out ≡ old ++ (t ++ 10 ∷ [])) in subst P same wrote

-- one text after another is the one text of both
pub in_two : (old first second new : List ℕ) → new ≡ old ++ first ++ second → new ≡ old ++ (first ++ second)
in_two old first second new wrote = wrote ∙ append_assoc old first second

pub in_three : (old first second third new : List ℕ) → new ≡ old ++ first ++ second ++ third
    → new ≡ old ++ ((first ++ second) ++ third)
in_three old first second third new wrote = wrote ∙ simp append_assoc

-- a text and the rest of its line
pub in_line : (old first second feed between new : List ℕ) → between ≡ old ++ first → new ≡ between ++ (second ++ feed)
    → new ≡ old ++ ((first ++ second) ++ feed)
in_line old first second feed between new begun ended =
    ended ∙ ap (λ t. t ++ (second ++ feed)) begun ∙ simp append_assoc

pub in_five : (old first second third fourth fifth new : List ℕ)
    → new ≡ old ++ first ++ second ++ third ++ fourth ++ fifth
    → new ≡ old ++ (first ++ second ++ third ++ fourth ++ fifth)
in_five old first second third fourth fifth new wrote = wrote ∙ simp append_assoc

pub at_status_line : (old before number gap status between new : List ℕ)
    → between ≡ old ++ ((before ++ number) ++ gap) → new ≡ between ++ (status ++ 10 ∷ [])
    → new ≡ old ++ ((before ++ (number ++ (gap ++ status))) ++ 10 ∷ [])
at_status_line old before number gap status between new first second =
    second ∙ ap (λ t. t ++ (status ++ 10 ∷ [])) first ∙ simp append_assoc

pub has_history : (world : Contents) (h k : History) → h ≡ k → HasHistory world h → HasHistory world k
has_history world h k same at = (at.0, at.1, at.2 ∙ same)

-- one more reply
pub one_more : (rows : List Row) (h : History) (orders : List Order) (i : ℕ) (d : Order) (out new : List ℕ)
    → i < length orders
    → new ≡ out ++ (reply_text rows h (get_or orders i d).row (get_or orders i d).command ++ 10 ∷ [])
    → new ++ replies rows (history_after_command rows h (get_or orders i d).row (get_or orders i d).command)
    (drop (i + 1) orders) ≡ out ++ replies rows h (drop i orders)
unfolding replies
one_more rows h orders i d out new within wrote =
    let order : Order = get_or orders i d in
    let text : List ℕ = reply_text rows h order.row order.command in
    let rest : List ℕ = replies rows (history_after_command rows h order.row order.command) (drop (i + 1) orders) in
    let cut : drop i orders ≡ order ∷ drop (i + 1) orders = drop-cons orders i d within
    ∙ ap (λ k. order ∷ drop k orders) (sym (add-one i)) in
    ap (λ n. n ++ rest) wrote ∙ append_assoc out (text ++ 10 ∷ []) rest
    ∙ ap (λ t. out ++ t) (append_assoc text (10 ∷ []) rest)
    ∙ ap (λ os. out ++ replies rows h os) (sym cut)

pub none_left : (rows : List Row) (h : History) (orders : List Order) (i : ℕ) (out : List ℕ) → length orders ≤ i
    → out ++ replies rows h (drop i orders) ≡ out
unfolding replies
none_left rows h orders i out past = ap (λ os. out ++ replies rows h os) (drop_of_length-le orders past)
    ∙ append-nil out
