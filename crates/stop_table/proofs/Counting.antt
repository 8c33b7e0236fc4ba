-- How many steps a call takes, by those of its parts.
use Rattle.std.proofs.Common.{refl, ◌≡◌, ◌<◌, ◌∷◌, ◌==◌, ◌+◌, ◌&&◌, [], ℕ, Bool, Some, List, cond, not, length}
use Rattle.std.proofs.Common.{◌∙◌, sym, ap, inl, inr, subst, zero-add, arith, eq-eqb, ne_eqb}
use Rattle.std.specs.Prelude.{if◌then◌else◌}
use Rattle.std.proofs.lemmas.Bool.{cases_eq}
use Rattle.std.proofs.lemmas.List.Sums.{sum_by-cons}
use Rattle.stop_history.specs.declared.roster.Row.{Row}
use Rattle.stop_history.specs.Roster.{IsRoster, parent_of}
use Rattle.stop_history.specs.Word.{Word}
use Rattle.stop_history.proofs.Rosters.{placed}
use Rattle.stop_table.specs.Entry.{Entry}
use Rattle.stop_table.specs.Handle.{IsRowOrParent, LooksOnce, OnlyExchanges, StepsOnce, TriesOnce, UpByOne}
use Rattle.stop_table.specs.Seat.{Saw}
use Rattle.stop_table.specs.Steps.{Seated, Sees}
use Rattle.stop_table.specs.View.{Observation, View, a_look, an_exchange, exchanges_of, looks_at}

-- ---- one step

look_counts : (at row : ℕ) (h : List Entry) (os : List Observation)
    → looks_at at (a_look row h ∷ os) ≡ (if row == at then 1 else 0) + looks_at at os
unfolding looks_at
look_counts at row h os = sum_by-cons (λ (o : Observation). cond (o.is_look && o.row == at) 1 0) (a_look row h) os

look_is_none : (at row : ℕ) (h : List Entry) (os : List Observation)
    → exchanges_of at (a_look row h ∷ os) ≡ exchanges_of at os
unfolding exchanges_of
look_is_none at row h os =
    sum_by-cons (λ (o : Observation). cond (not o.is_look && o.row == at) 1 0) (a_look row h) os
    ∙ zero-add (exchanges_of at os)

exchange_counts : (at row : ℕ) (h : List Entry) (os : List Observation)
    → exchanges_of at (an_exchange row h ∷ os) ≡ (if row == at then 1 else 0) + exchanges_of at os
unfolding exchanges_of
exchange_counts at row h os =
    sum_by-cons (λ (o : Observation). cond (not o.is_look && o.row == at) 1 0) (an_exchange row h) os

exchange_is_none : (at row : ℕ) (h : List Entry) (os : List Observation)
    → looks_at at (an_exchange row h ∷ os) ≡ looks_at at os
unfolding looks_at
exchange_is_none at row h os =
    sum_by-cons (λ (o : Observation). cond (o.is_look && o.row == at) 1 0) (an_exchange row h) os
    ∙ zero-add (looks_at at os)

-- a step is the newest observation, with what is seen after it
pub newest : (v w : View) {step : List Entry → Observation} (h new : List Entry) (taken : Bool)
    → Sees v step h new taken w → w.observations ≡ step w.seen ∷ v.observations
newest v w {step} h new taken s =
    ap (λ (x : View). x.observations) s.view
    ∙ ap (λ g. step g ∷ v.observations) (sym (ap (λ (x : View). x.seen) s.view))

-- ---- counts

counts_one : (row at before after : ℕ) → after ≡ (if row == at then 1 else 0) + before → UpByOne (at ≡ row) before after
counts_one row at before after is =
    elim (cases_eq row at) [
      | inl same ↦
          let one : after ≡ 1 + before = is ∙ ap (λ b. (if b then 1 else 0) + before) (eq-eqb _ _ same) in
          inr (sym same, omega (arith, one))
      | inr other ↦
          let none : after ≡ 0 + before = is ∙ ap (λ b. (if b then 1 else 0) + before) (ne_eqb _ _ other) in
          inl (omega (arith, none))
    ]

-- two parts of a call count one thing at different rows
counts_both : {A B C : Type 0} (a b c : ℕ) → (A → C) → (B → C) → (A → B → ⊥) → UpByOne A a b → UpByOne B b c
    → UpByOne C a c
counts_both a b c left right apart (inl same) (inl none) = inl (none ∙ same)
counts_both a b c left right apart (inl same) (inr up) = inr (right up.0, up.1 ∙ ap (λ n. n + 1) same)
counts_both a b c left right apart (inr up) (inl none) = inr (left up.0, none ∙ up.1)
counts_both a b c left right apart (inr up) (inr again) = absurd (apart up.0 again.0)

-- ---- looks

-- a call that only looks makes no exchange
pub no_exchange : {Looks : ℕ → Type 0} (v w : View) → LooksOnce Looks v w → (at : ℕ)
    → exchanges_of at w.observations ≡ exchanges_of at v.observations
no_exchange v w once at = elim (once.exchanges at) [ inl same ↦ same | inr up ↦ absurd up.0 ]

pub no_step : {Looks : ℕ → Type 0} (v : View) → LooksOnce Looks v v
no_step v = record { looks = λ at. inl refl; exchanges = λ at. inl refl }

pub one_look_once : (v w : View) (row : ℕ) → w.observations ≡ a_look row w.seen ∷ v.observations
    → LooksOnce (λ at. at ≡ row) v w
one_look_once v w row is = record {
  looks = λ at. counts_one row at (looks_at at v.observations) (looks_at at w.observations)
      (ap (looks_at at) is ∙ look_counts at row w.seen v.observations);
  exchanges = λ at. inl (ap (exchanges_of at) is ∙ look_is_none at row w.seen v.observations);
}

pub saw_once : (m n : Seated) (row : ℕ) (word : Word) → Saw m n row word → LooksOnce (λ at. at ≡ row) m.0 n.0
saw_once m n row word s = one_look_once m.0 n.0 row (newest m.0 n.0 s.1 [] m.0.taken s.2)

pub looks_wider : {Less Looks : ℕ → Type 0} (v w : View) → ((at : ℕ) → Less at → Looks at) → LooksOnce Less v w
    → LooksOnce Looks v w
looks_wider v w wider once = record {
  looks = λ at. elim (once.looks at) [ inl same ↦ inl same | inr up ↦ inr (wider at up.0, up.1) ];
  exchanges = once.exchanges;
}

-- looks of two parts of a call, at different rows
pub looks_both : {First Second Looks : ℕ → Type 0} (u v w : View) → ((at : ℕ) → First at → Looks at)
    → ((at : ℕ) → Second at → Looks at) → ((at : ℕ) → First at → Second at → ⊥) → LooksOnce First u v
    → LooksOnce Second v w → LooksOnce Looks u w
looks_both u v w left right apart first second = record {
  looks = λ at. counts_both (looks_at at u.observations) (looks_at at v.observations) (looks_at at w.observations)
      (left at) (right at) (apart at) (first.looks at) (second.looks at);
  exchanges = λ at. inl (no_exchange v w second at ∙ no_exchange u v first at);
}

-- looks and then an exchange
pub then_exchanges : {Looks : ℕ → Type 0} (u v w : View) (row : ℕ) → LooksOnce Looks u v → OnlyExchanges v w row
    → StepsOnce Looks (λ at. at ≡ row) u w
then_exchanges {Looks} u v w row first step = record {
  looks = λ at.
      subst (UpByOne (Looks at) (looks_at at u.observations))
      (sym (ap (looks_at at) step ∙ exchange_is_none at row w.seen v.observations)) (first.looks at);
  exchanges = λ at. counts_one row at (exchanges_of at u.observations) (exchanges_of at w.observations)
      (ap (exchanges_of at) step ∙ exchange_counts at row w.seen v.observations
      ∙ ap (λ n. (if row == at then 1 else 0) + n) (no_exchange u v first at));
}

-- ---- one attempt at a row

-- a row is not its own parent
other_than_parent : (rows : List Row) → IsRoster rows → (row at : ℕ) → row < length rows → parent_of rows row ≡ Some at
    → at ≡ row → ⊥
other_than_parent rows roster row at there of_parent same =
    let before = ((placed rows roster row there).child at of_parent).0 in omega (arith, before, same)

-- a look at its parent, or none, and then one at its own word
pub looked_down : (u : View) (m n : Seated) (row : ℕ) (word : Word) → IsRoster u.roster → row < length u.roster
    → LooksOnce (λ at. parent_of u.roster row ≡ Some at) u m.0 → Saw m n row word
    → LooksOnce (IsRowOrParent u.roster row) u n.0
looked_down u m n row word roster there first s =
    looks_both u m.0 n.0 (λ at parents. inr parents) (λ at own. inl own)
    (λ at parents own. other_than_parent u.roster roster row at there parents own) first (saw_once m n row word s)

-- and the other way round
pub looked_up : (m n : Seated) (o : View) (row : ℕ) (word : Word) → IsRoster m.0.roster → row < length m.0.roster
    → Saw m n row word → LooksOnce (λ at. parent_of n.0.roster row ≡ Some at) n.0 o
    → LooksOnce (IsRowOrParent m.0.roster row) m.0 o
looked_up m n o row word roster there s second =
    let same : n.0.roster ≡ m.0.roster = ap (λ (x : View). x.roster) s.2.view in
    looks_both m.0 n.0 o (λ at own. inl own) (λ at parents. inr parents)
    (λ at own parents. other_than_parent m.0.roster roster row at there parents own) (saw_once m n row word s)
    (subst (λ rows. LooksOnce (λ at. parent_of rows row ≡ Some at) n.0 o) same second)

-- a look at its parent alone
pub looked_at_parent : (v w : View) (row : ℕ) → LooksOnce (λ at. parent_of v.roster row ≡ Some at) v w
    → LooksOnce (IsRowOrParent v.roster row) v w
looked_at_parent v w row once = looks_wider v w (λ at parents. inr parents) once

-- looks make up an attempt without an exchange
pub tries_by_looks : (v w : View) (row : ℕ) → LooksOnce (IsRowOrParent v.roster row) v w → TriesOnce v w row
tries_by_looks v w row once = record { looks = once.looks; exchanges = λ at. inl (no_exchange v w once at) }
