-- A seat that acts for several gives one of them away: the rule is kept, since each actor has one of the two views.
use Rattle.std.proofs.Common.{refl, ◌≡◌, ◌≢◌, ◌<◌, ◌∷◌, ◌++◌, ◌==◌, ◌⊎◌, [], ℕ, zero, suc, Bool, true}
use Rattle.std.proofs.Common.{false, List, Option, length, set, arith, ◌∙◌, sym, ap, subst, inl, inr}
use Rattle.std.proofs.lemmas.Bool.{cases_eq, eqb-true, false≢true, or_cases, or_left, or_right}
use Rattle.std.specs.List.{range_with_len}
use mathlib.Core.Option.{some, some-injective, some-ne-none}
use lib.ListN.{get_elem?}
use Rattle.atomic_table.specs.Table.{Splits, State as Table}
use Rattle.atomic_table.proofs.Lists.{at_last, at_longer, at_set, set_else, set_here}
use Rattle.trace_record.specs.Content.{Content}
use Rattle.stop_history.specs.declared.actor.Actor.{Actor}
use Rattle.stop_history.specs.declared.actor.Actor.TheVariants.{Tracee, Tracer}
use Rattle.stop_history.specs.declared.roster.Row.{Row}
use Rattle.stop_history.specs.Actor.{IsQuiet, actor_of}
use Rattle.stop_history.specs.Event.{History}
use Rattle.stop_table.specs.Entry.{Entry, history_of}
use Rattle.stop_table.specs.Opening.{first_row, first_tracer, later_rows, later_tracers, new_view, only, others_of}
use Rattle.stop_table.specs.Rule.{AllGoOn, IsViewOf, KeepsRule}
use Rattle.stop_table.specs.Steps.{Seated}
use Rattle.stop_table.specs.Tracer.{AreApart}
use Rattle.stop_table.specs.View.{View, actors_of, is_among}
use Rattle.stop_table.proofs.Numbers.{range_apart}

-- ---- the first of a list, and the others

only_inside : (numbers : List ℕ) (n : ℕ) → is_among n (only numbers) ≡ true → is_among n numbers ≡ true
only_inside [] n among = among
only_inside (x ∷ numbers) n among =
    elim (or_cases (n == x) false among) [
      | inl same ↦ or_left (n == x) (is_among n numbers) same
      | inr never ↦ absurd (false≢true never)
    ]

others_inside : (numbers : List ℕ) (n : ℕ) → is_among n (others_of numbers) ≡ true → is_among n numbers ≡ true
others_inside [] n among = among
others_inside (x ∷ numbers) n among = or_right (n == x) (is_among n numbers) among

first_or_other : (numbers : List ℕ) (n : ℕ) → is_among n numbers ≡ true
    → (is_among n (others_of numbers) ≡ true) ⊎ (is_among n (only numbers) ≡ true)
first_or_other [] n among = inl among
first_or_other (x ∷ numbers) n among =
    elim (or_cases (n == x) (is_among n numbers) among) [
      | inl same ↦ inr (or_left (n == x) false same)
      | inr other ↦ inl other
    ]

not_both : (numbers : List ℕ) (n : ℕ) → AreApart numbers → is_among n (others_of numbers) ≡ true
    → is_among n (only numbers) ≡ true → ⊥
not_both [] n apart other first = false≢true first
not_both (x ∷ numbers) n apart other first =
    elim (or_cases (n == x) false first) [
      | inl same ↦
          false≢true (sym apart.0 ∙ ap (λ m. is_among m numbers) (sym (eqb-true n x same)) ∙ other)
      | inr never ↦ false≢true never
    ]

-- ---- a view that is cut in two

-- Each actor of the view is one of either part, and of one alone; both parts have seen what it has.
record Cut (v left right : View) : Type 0 where
  inside_left : (a : Actor) → actors_of left a ≡ true → actors_of v a ≡ true
  inside_right : (a : Actor) → actors_of right a ≡ true → actors_of v a ≡ true
  apart : (a : Actor) → actors_of left a ≡ true → actors_of right a ≡ true → ⊥
  covered : (row : ℕ) → is_among row v.tracees ≡ true
      → (is_among row left.tracees ≡ true) ⊎ (is_among row right.tracees ≡ true)
  seen_left : left.seen ≡ v.seen
  seen_right : right.seen ≡ v.seen
  told_left : left.told ≡ []
  told_right : right.told ≡ []
  taken_left : left.taken ≡ v.taken
  taken_right : right.taken ≡ v.taken

false_inside : (a b : Bool) → (a ≡ true → b ≡ true) → b ≡ false → a ≡ false
false_inside true b inside is = absurd (false≢true (sym is ∙ inside refl))
false_inside false b inside is = refl

inside_quiet : (fewer actors : Actor → Bool) → ((a : Actor) → fewer a ≡ true → actors a ≡ true) → (h : History)
    → IsQuiet actors h → IsQuiet fewer h
inside_quiet fewer actors inside [] quiet = tt
inside_quiet fewer actors inside (e ∷ h) quiet = (
  false_inside (fewer (actor_of e)) (actors (actor_of e)) (inside (actor_of e)) quiet.0,
  inside_quiet fewer actors inside h quiet.1,
)

-- a part of a view that follows the history follows it too
part_follows : (h : List Entry) (taken : ℕ → Bool) (v part : View)
    → ((a : Actor) → actors_of part a ≡ true → actors_of v a ≡ true) → part.seen ≡ v.seen → part.told ≡ []
    → part.taken ≡ v.taken → IsViewOf h taken v → IsViewOf h taken part
part_follows h taken v part inside seen told is_taken follows = record {
  more = follows.more;
  goes_on = follows.goes_on ∙ ap (λ s. follows.more ++ s) (sym seen);
  quiet = inside_quiet (actors_of part) (actors_of v) inside (history_of follows.more) follows.quiet;
  knows = λ row among. follows.knows row (inside (Tracee row) among) ∙ sym is_taken;
  told = subst (λ ps. AllGoOn ps part.seen) (sym told) tt;
}

at_below : (vs : List View) (i : ℕ) (v : View) → get_elem? vs i ≡ some v → i < length vs
at_below [] i v at = absurd (some-ne-none v (sym at))
at_below (x ∷ vs) zero v at = omega arith
at_below (x ∷ vs) (suc i) v at = (let below = at_below vs i v at in omega arith)

at_end : (vs : List View) (last v : View) (i : ℕ) → get_elem? (vs ++ last ∷ []) i ≡ some v
    → (get_elem? vs i ≡ some v) ⊎ ((i ≡ length vs) × (last ≡ v))
at_end [] last v zero at = inr (refl, some-injective last v at)
at_end [] last v (suc i) at = absurd (some-ne-none v (sym at))
at_end (x ∷ vs) last v zero at = inl at
at_end (x ∷ vs) last v (suc i) at =
    elim (at_end vs last v i at) [
      | inl sooner ↦ inl sooner
      | inr here ↦ inr (ap suc here.0, here.1)
    ]

module _ (roster : List Row) (s : Table (Option Content) View) (kept : KeepsRule roster s) (id : ℕ)
    (v left right : View)
    (at : get_elem? s.views id ≡ some v) (cut : Cut v left right) where
  abbrev after : List View
  after = set s.views id left ++ right ∷ []

  -- the view at a place is the left part, another view that stands as it was, or the right part behind them
  abbrev Place : ℕ → View → Type 0
  Place i w =
      (((i ≡ id) × (left ≡ w)) ⊎ ((i ≢ id) × (get_elem? s.views i ≡ some w)))
      ⊎ ((i ≡ length (set s.views id left)) × (right ≡ w))

  place : (i : ℕ) (w : View) → get_elem? after i ≡ some w → Place i w
  place i w found =
      elim (at_end (set s.views id left) right w i found) [
        | inl sooner ↦ inl (at_set s.views id i left w sooner)
        | inr here ↦ inr here
      ]

  left_there : get_elem? after id ≡ some left
  left_there =
      at_longer (set s.views id left) (right ∷ []) id left (set_here s.views id left (at_below s.views id v at))

  right_there : get_elem? after (length (set s.views id left)) ≡ some right
  right_there = at_last (set s.views id left) right (length (set s.views id left)) refl

  other_there : (i : ℕ) (w : View) → i ≢ id → get_elem? s.views i ≡ some w → get_elem? after i ≡ some w
  other_there i w other found =
      at_longer (set s.views id left) (right ∷ []) i w (set_else s.views id i left other ∙ found)

  cut_follows : (i : ℕ) (w : View) → Place i w → IsViewOf kept.history kept.taken w
  cut_follows i w (inl (inl here)) =
      subst (IsViewOf kept.history kept.taken) here.1
      (part_follows kept.history kept.taken v left cut.inside_left cut.seen_left cut.told_left cut.taken_left
      (kept.follows id v at))
  cut_follows i w (inl (inr other)) = kept.follows i w other.1
  cut_follows i w (inr here) =
      subst (IsViewOf kept.history kept.taken) here.1
      (part_follows kept.history kept.taken v right cut.inside_right cut.seen_right cut.told_right cut.taken_right
      (kept.follows id v at))

  -- no other view acts for an actor of the one that is cut
  not_others : (i : ℕ) (w : View) (a : Actor) → i ≢ id → get_elem? s.views i ≡ some w → actors_of w a ≡ true
      → actors_of v a ≡ true → ⊥
  not_others i w a other found acts_w acts_v = other (kept.alone i id w v a found at acts_w acts_v)

  -- no two views act for one actor
  cut_alone : (i j : ℕ) (w x : View) (a : Actor) → Place i w → Place j x → actors_of w a ≡ true
      → actors_of x a ≡ true → i ≡ j
  cut_alone i j w x a (inl (inl p)) (inl (inl q)) acts_w acts_x = p.0 ∙ sym q.0
  cut_alone i j w x a (inl (inl p)) (inl (inr q)) acts_w acts_x =
      absurd (not_others j x a q.0 q.1 acts_x
      (cut.inside_left a (subst (λ u. actors_of u a ≡ true) (sym p.1) acts_w)))
  cut_alone i j w x a (inl (inl p)) (inr q) acts_w acts_x =
      absurd (cut.apart a (subst (λ u. actors_of u a ≡ true) (sym p.1) acts_w)
      (subst (λ u. actors_of u a ≡ true) (sym q.1) acts_x))
  cut_alone i j w x a (inl (inr p)) (inl (inl q)) acts_w acts_x =
      absurd (not_others i w a p.0 p.1 acts_w
      (cut.inside_left a (subst (λ u. actors_of u a ≡ true) (sym q.1) acts_x)))
  cut_alone i j w x a (inl (inr p)) (inl (inr q)) acts_w acts_x = kept.alone i j w x a p.1 q.1 acts_w acts_x
  cut_alone i j w x a (inl (inr p)) (inr q) acts_w acts_x =
      absurd (not_others i w a p.0 p.1 acts_w
      (cut.inside_right a (subst (λ u. actors_of u a ≡ true) (sym q.1) acts_x)))
  cut_alone i j w x a (inr p) (inl (inl q)) acts_w acts_x =
      absurd (cut.apart a (subst (λ u. actors_of u a ≡ true) (sym q.1) acts_x)
      (subst (λ u. actors_of u a ≡ true) (sym p.1) acts_w))
  cut_alone i j w x a (inr p) (inl (inr q)) acts_w acts_x =
      absurd (not_others j x a q.0 q.1 acts_x
      (cut.inside_right a (subst (λ u. actors_of u a ≡ true) (sym p.1) acts_w)))
  cut_alone i j w x a (inr p) (inr q) acts_w acts_x = p.0 ∙ sym q.0

  same_view : (i : ℕ) (w : View) → i ≡ id → get_elem? s.views i ≡ some w → w ≡ v
  same_view i w here found = some-injective w v (sym found ∙ ap (get_elem? s.views) here ∙ at)

  -- each tracee still has a view that acts for it
  cut_acted : (row : ℕ) → row < length roster
      → (i : ℕ) × (w : View) × (get_elem? after i ≡ some w) × (is_among row w.tracees ≡ true)
  cut_acted row low =
      let old = kept.acted row low in
      elim (cases_eq old.0 id) [
        | inl here ↦
            (let mine : is_among row v.tracees ≡ true =
            subst (λ w. is_among row w.tracees ≡ true) (same_view old.0 old.1 here old.2) old.3 in
            elim (cut.covered row mine) [
              | inl in_left ↦ (id, left, left_there, in_left)
              | inr in_right ↦ (length (set s.views id left), right, right_there, in_right)
            ])
        | inr other ↦ (old.0, old.1, other_there old.0 old.1 other old.2, old.3)
      ]

  abbrev IsSeen : Type 0
  IsSeen =
      (kept.history ≡ []) ⊎ ((i : ℕ) × (w : View) × (get_elem? after i ≡ some w) × (w.seen ≡ kept.history))

  cut_seen : IsSeen
  cut_seen =
      elim kept.seen [
        | inl none ↦ inl none
        | inr old ↦
            (elim (cases_eq old.0 id) [
              | inl here ↦
                  inr (
                    id,
                    left,
                    left_there,
                    cut.seen_left ∙ ap (λ w. w.seen) (sym (same_view old.0 old.1 here old.2)) ∙ old.3,
                  )
              | inr other ↦ inr (old.0, old.1, other_there old.0 old.1 other old.2, old.3)
            ])
      ]

  -- the rule holds with the two views in place of the one
  cut_kept : KeepsRule roster record { words = s.words; homes = s.homes; views = after }
  cut_kept = record {
    history = kept.history;
    taken = kept.taken;
    placed = kept.placed;
    legal = kept.legal;
    words_are = kept.words_are;
    further = kept.further;
    homes_are = kept.homes_are;
    up = kept.up;
    rows = λ row low. let old = kept.rows row low in record { word = old.word; home = old.home };
    follows = λ i w found. cut_follows i w (place i w found);
    alone = λ i j w x a found_w found_x. cut_alone i j w x a (place i w found_w) (place j x found_x);
    acted = cut_acted;
    seen = cut_seen;
  }

splits : (roster : List Row) (id : ℕ) (v left right : View) → Cut v left right
    → Splits (KeepsRule roster) id v left right
splits roster id v left right cut s kept at = cut_kept roster s kept id v left right at cut

-- ---- a row is given away, and a tracer

others_act : (v : View) (a : Actor) → actors_of (later_rows v) a ≡ true → actors_of v a ≡ true
others_act v (Tracee row) acts = others_inside v.tracees row acts
others_act v (Tracer tracer) acts = acts

first_acts : (v : View) (a : Actor) → actors_of (first_row v) a ≡ true → actors_of v a ≡ true
first_acts v (Tracee row) acts = only_inside v.tracees row acts
first_acts v (Tracer tracer) acts = absurd (false≢true acts)

rows_differ : (v : View) → AreApart v.tracees → (a : Actor) → actors_of (later_rows v) a ≡ true
    → actors_of (first_row v) a ≡ true → ⊥
rows_differ v apart (Tracee row) other first = not_both v.tracees row apart other first
rows_differ v apart (Tracer tracer) other first = false≢true first

row_cut : (v : View) → AreApart v.tracees → Cut v (later_rows v) (first_row v)
row_cut v apart = record {
  inside_left = others_act v;
  inside_right = first_acts v;
  apart = rows_differ v apart;
  covered = first_or_other v.tracees;
  seen_left = refl;
  seen_right = refl;
  told_left = refl;
  told_right = refl;
  taken_left = refl;
  taken_right = refl;
}

other_tracers_act : (v : View) (a : Actor) → actors_of (later_tracers v) a ≡ true → actors_of v a ≡ true
other_tracers_act v (Tracee row) acts = acts
other_tracers_act v (Tracer tracer) acts = others_inside v.tracers tracer acts

first_tracer_acts : (v : View) (a : Actor) → actors_of (first_tracer v) a ≡ true → actors_of v a ≡ true
first_tracer_acts v (Tracee row) acts = absurd (false≢true acts)
first_tracer_acts v (Tracer tracer) acts = only_inside v.tracers tracer acts

tracers_differ : (v : View) → AreApart v.tracers → (a : Actor) → actors_of (later_tracers v) a ≡ true
    → actors_of (first_tracer v) a ≡ true → ⊥
tracers_differ v apart (Tracee row) other first = false≢true first
tracers_differ v apart (Tracer tracer) other first = not_both v.tracers tracer apart other first

tracer_cut : (v : View) → AreApart v.tracers → Cut v (later_tracers v) (first_tracer v)
tracer_cut v apart = record {
  inside_left = other_tracers_act v;
  inside_right = first_tracer_acts v;
  apart = tracers_differ v apart;
  covered = λ row among. inl among;
  seen_left = refl;
  seen_right = refl;
  told_left = refl;
  told_right = refl;
  taken_left = refl;
  taken_right = refl;
}

-- the first row of a new seat is given away
pub splits_row : (roster rows : List Row) (id from count number : ℕ) (tracers : List ℕ) (m : Seated)
    → m ≡ (new_view rows (range_with_len from count) number tracers, [])
    → Splits (KeepsRule roster) id m.0 (later_rows m.0) (first_row m.0)
splits_row roster rows id from count number tracers m is =
    splits roster id m.0 (later_rows m.0) (first_row m.0)
    (row_cut m.0 (subst (λ (s : Seated). AreApart s.0.tracees) (sym is) (range_apart from count)))

-- the first tracer of a new seat is given away
pub splits_tracer : (roster rows : List Row) (id from count number : ℕ) (m : Seated)
    → m ≡ (new_view rows [] number (range_with_len from count), [])
    → Splits (KeepsRule roster) id m.0 (later_tracers m.0) (first_tracer m.0)
splits_tracer roster rows id from count number m is =
    splits roster id m.0 (later_tracers m.0) (first_tracer m.0)
    (tracer_cut m.0 (subst (λ (s : Seated). AreApart s.0.tracers) (sym is) (range_apart from count)))
