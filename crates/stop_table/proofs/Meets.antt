-- A handle takes in another: the table keeps its rule, and the comparison behind it tells that what either had seen is a
-- beginning of what is seen now.
use Rattle.std.proofs.Common.{refl, ◌≡◌, ◌≢◌, ◌<◌, ◌≤◌, ◌∷◌, ◌++◌, ◌⊎◌, ◌||◌, [], ℕ, Bool, true, false, List}
use Rattle.std.proofs.Common.{length, arith, ◌∙◌, sym, ap, inl, inr, subst, slice_set, cond, eq-eqb, ne_eqb, leb, eqb, ◌==◌, slice_index}
use Rattle.std.proofs.lemmas.Bool.{cases_Bool, cases_eq, leb-true, leb-false, or_cases, or_left, or_right}
use Rattle.std.proofs.lemmas.List.{append-nil, length-append}
use Rattle.std.proofs.lemmas.List.Folds.{list_any-append}
use mathlib.Core.Option.{none, some}
use lib.ListN.{get_elem?}
use Rattle.atomic_table.specs.Table.{Allows, Joins, keeps, step}
use Rattle.atomic_table.proofs.Lists.{at_set, set_else, set_here}
use Rattle.stop_history.specs.declared.actor.Actor.{Actor}
use Rattle.stop_history.specs.declared.actor.Actor.TheVariants.{Tracee, Tracer}
use Rattle.stop_history.specs.declared.roster.Row.{Row}
use Rattle.stop_history.specs.Actor.{IsQuiet, actor_of}
use Rattle.stop_table.specs.Entry.{AreLegal, Entry, GoesOn, history_of}
use Rattle.stop_history.specs.Roster.{IsRoster}
use Rattle.stop_table.specs.Place.{place}
use Rattle.stop_table.specs.Rule.{AllGoOn, IsViewOf, KeepsRule}
use Rattle.stop_table.specs.Seat.{Met}
use Rattle.stop_table.specs.Steps.{Seated, compared, longer, met, past, silent}
use Rattle.stop_table.specs.View.{View, actors_of, is_among, view_of_nobody}
use Rattle.stop_table.proofs.Entries.{goes_nowhere, legal_back, quiet_later, quiet_sooner}
use Rattle.stop_table.proofs.Moves.{St, at_lt, same_view}

-- ---- two ways to cut a list

abbrev rest_of : {X : Type 0} → List X → List X
rest_of [] = []
rest_of (x ∷ xs) = xs

abbrev first_or : {X : Type 0} → X → List X → X
first_or d [] = d
first_or d (x ∷ xs) = x

-- of two cuts of a list, the one with the longer end has the shorter front
cuts : {X : Type 0} (a b c d : List X) → a ++ b ≡ c ++ d → length d ≤ length b
    → (e : List X) × (c ≡ a ++ e) × (b ≡ e ++ d)
cuts [] b c d same long = (c, refl, same)
cuts (x ∷ a) b [] d same long =
    absurd (let size : length (x ∷ a ++ b) ≡ length d = ap length same in omega (arith, size, length-append a b))
cuts (x ∷ a) b (y ∷ c) d same long =
    let inner = cuts a b c d (ap rest_of same) long in
    let heads : y ≡ x = sym (ap (first_or x) same) in
    (inner.0, (λ k. heads k ∷ inner.1 k), inner.2)

-- ---- actors of both

among_both : (n : ℕ) (xs ys : List ℕ) → is_among n (xs ++ ys) ≡ (is_among n xs || is_among n ys)
among_both n xs ys = list_any-append (λ y. n == y) xs ys

pub acts_of_both : (v w : View) (a : Actor) → actors_of (met v w) a ≡ (actors_of v a || actors_of w a)
acts_of_both v w (Tracee row) = among_both row v.tracees w.tracees
acts_of_both v w (Tracer tracer) = among_both tracer v.tracers w.tracers

or_false : (a b : Bool) → a ≡ false → b ≡ false → (a || b) ≡ false
or_false a b first second = rw (first, second) refl

quiet_both : (v w : View) (h : List Entry) → IsQuiet (actors_of v) (history_of h) → IsQuiet (actors_of w) (history_of h)
    → IsQuiet (actors_of (met v w)) (history_of h)
quiet_both v w [] first second = tt
quiet_both v w (x ∷ h) first second = (
  acts_of_both v w (actor_of x.event)
      ∙ or_false (actors_of v (actor_of x.event)) (actors_of w (actor_of x.event)) first.0 second.0,
  quiet_both v w h first.1 second.1,
)

nobody_acts : (a : Actor) → actors_of view_of_nobody a ≡ false
nobody_acts (Tracee row) = refl
nobody_acts (Tracer tracer) = refl

quiet_nobody : (h : List Entry) → IsQuiet (actors_of view_of_nobody) (history_of h)
quiet_nobody [] = tt
quiet_nobody (x ∷ h) = (nobody_acts (actor_of x.event), quiet_nobody h)

-- ---- what both have seen

-- the shorter of two beginnings of one history is a beginning of the longer
one_in_other : (actors : Actor → Bool) (h a b more_a more_b : List Entry) → h ≡ more_a ++ a → h ≡ more_b ++ b
    → IsQuiet actors (history_of more_a) → length a ≤ length b
    → (GoesOn actors a b) × IsQuiet actors (history_of more_b)
one_in_other actors h a b more_a more_b at_a at_b quiet long =
    let cut = cuts more_b b more_a a (sym at_b ∙ at_a) long in
    let whole : IsQuiet actors (history_of (more_b ++ cut.0)) =
    subst (λ m. IsQuiet actors (history_of m)) cut.1 quiet in
    ((cut.0, cut.2, quiet_sooner actors more_b cut.0 whole), quiet_later actors more_b cut.0 whole)

record BothSeen (h : List Entry) (v w : View) : Type 0 where
  pub more : List Entry
  pub goes_on : h ≡ more ++ longer v.seen w.seen
  pub quiet : IsQuiet (actors_of (met v w)) (history_of more)
  pub left : GoesOn (actors_of v) v.seen (longer v.seen w.seen)
  pub right : GoesOn (actors_of w) w.seen (longer v.seen w.seen)

both_seen : (h : List Entry) (taken : ℕ → Bool) (v w : View) → IsViewOf h taken v → IsViewOf h taken w → BothSeen h v w
both_seen h taken v w f g =
    elim (cases_Bool (leb (length v.seen) (length w.seen))) [
      | inl less ↦
          (let shorter = one_in_other (actors_of v) h v.seen w.seen f.more g.more f.goes_on g.goes_on f.quiet
          (leb-true _ _ less) in
          let is : longer v.seen w.seen ≡ w.seen = ap (λ b. cond b w.seen v.seen) less in
          record {
            more = g.more;
            goes_on = g.goes_on ∙ ap (λ x. g.more ++ x) (sym is);
            quiet = quiet_both v w g.more shorter.1 g.quiet;
            left = subst (GoesOn (actors_of v) v.seen) (sym is) shorter.0;
            right = subst (GoesOn (actors_of w) w.seen) (sym is) (goes_nowhere (actors_of w) w.seen);
          })
      | inr more ↦
          (let shorter = one_in_other (actors_of w) h w.seen v.seen g.more f.more g.goes_on f.goes_on g.quiet
          (let less = leb-false _ _ more in omega arith) in
          let is : longer v.seen w.seen ≡ v.seen = ap (λ b. cond b w.seen v.seen) more in
          record {
            more = f.more;
            goes_on = f.goes_on ∙ ap (λ x. f.more ++ x) (sym is);
            quiet = quiet_both v w f.more f.quiet shorter.1;
            left = subst (GoesOn (actors_of v) v.seen) (sym is) (goes_nowhere (actors_of v) v.seen);
            right = subst (GoesOn (actors_of w) w.seen) (sym is) shorter.0;
          })
    ]

both_follow : (h : List Entry) (taken : ℕ → Bool) (v w : View) → IsViewOf h taken v → IsViewOf h taken w
    → v.taken ≡ false → w.taken ≡ false → IsViewOf h taken (met v w)
both_follow h taken v w f g idle_v idle_w =
    let b = both_seen h taken v w f g in
    record {
      more = b.more;
      goes_on = b.goes_on;
      quiet = b.quiet;
      knows = λ row among. elim
          (or_cases (is_among row v.tracees) (is_among row w.tracees)
          (sym (among_both row v.tracees w.tracees) ∙ among))
          [ inl first ↦ f.knows row first | inr second ↦ g.knows row second ∙ idle_w ∙ sym idle_v ];
      told = (b.left, (b.right, tt));
    }

nobody_follows : (h : List Entry) (taken : ℕ → Bool) → IsViewOf h taken view_of_nobody
nobody_follows h taken = record {
  more = h;
  goes_on = sym (append-nil h);
  quiet = quiet_nobody h;
  knows = λ row among. cc;
  told = tt;
}

-- a beginning that is as long as the history is the history
all_of_it : (h more seen : List Entry) → h ≡ more ++ seen → length h ≤ length seen → seen ≡ h
all_of_it h [] seen is long = sym is
all_of_it h (x ∷ more) seen is long =
    absurd (let size : length h ≡ length (x ∷ more ++ seen) = ap length is in
    omega (arith, size, length-append more seen))

longer_is_all : (h : List Entry) (v w : View) → BothSeen h v w → (v.seen ≡ h) ⊎ (w.seen ≡ h)
    → longer v.seen w.seen ≡ h
longer_is_all h v w b is =
    all_of_it h b.more (longer v.seen w.seen) b.goes_on
    (elim is [
      | inl first ↦
          (let size : length (longer v.seen w.seen) ≡ length (b.left.0 ++ v.seen) = ap length b.left.1 in
          let whole : length v.seen ≡ length h = ap length first in
          omega (arith, size, whole, length-append b.left.0 v.seen))
      | inr second ↦
          (let size : length (longer v.seen w.seen) ≡ length (b.right.0 ++ w.seen) = ap length b.right.1 in
          let whole : length w.seen ≡ length h = ap length second in
          omega (arith, size, whole, length-append b.right.0 w.seen))
    ])

-- ---- the rule after a meeting

module _ (roster : List Row) (s : St) (k : KeepsRule roster s) (id other : ℕ) (v w : View)
    (at : get_elem? s.views id ≡ some v) (apart : ¬ (other ≡ id)) (there : get_elem? s.views other ≡ some w)
    (idle_v : v.taken ≡ false) (idle_w : w.taken ≡ false) where
  abbrev one : List View
  one = slice_set s.views id (met v w)

  abbrev views : List View
  views = slice_set one other view_of_nobody

  -- where a view of the new table comes from
  view_after : (i : ℕ) (u : View) → get_elem? views i ≡ some u
      → ((i ≡ other) × (u ≡ view_of_nobody))
      ⊎ (((i ≡ id) × (u ≡ met v w)) ⊎ ((i ≢ other) × (i ≢ id) × (get_elem? s.views i ≡ some u)))
  view_after i u at_i =
      elim (at_set one other i view_of_nobody u at_i) [
        | inl spent ↦ inl (spent.0, sym spent.1)
        | inr rest ↦
            elim (at_set s.views id i (met v w) u rest.1) [
              | inl both ↦ inr (inl (both.0, sym both.1))
              | inr old ↦ inr (inr (rest.0, old.0, old.1))
            ]
      ]

  follows_after : (i : ℕ) (u : View) → get_elem? views i ≡ some u → IsViewOf k.history k.taken u
  follows_after i u at_i =
      elim (view_after i u at_i) [
        | inl spent ↦ subst (IsViewOf k.history k.taken) (sym spent.1) (nobody_follows k.history k.taken)
        | inr rest ↦
            elim rest [
              | inl both ↦
                  subst (IsViewOf k.history k.taken) (sym both.1)
                  (both_follow k.history k.taken v w (k.follows id v at) (k.follows other w there) idle_v idle_w)
              | inr old ↦ k.follows i u old.2
            ]
      ]

  -- the place to which the actors of a place went
  abbrev went : ℕ → ℕ
  went p = cond (eqb p other) id p

  origin : (i : ℕ) (u : View) (a : Actor) → get_elem? views i ≡ some u → actors_of u a ≡ true
      → (p : ℕ) × (x : View) × (get_elem? s.views p ≡ some x) × (actors_of x a ≡ true) × (i ≡ went p)
  origin i u a at_i acts =
      elim (view_after i u at_i) [
        | inl spent ↦
            (let clash : false ≡ true = sym (nobody_acts a) ∙ ap (λ (x : View). actors_of x a) (sym spent.1) ∙ acts in cc)
        | inr rest ↦
            elim rest [
              | inl both ↦
                  elim (or_cases (actors_of v a) (actors_of w a)
                  (sym (acts_of_both v w a) ∙ ap (λ (x : View). actors_of x a) (sym both.1) ∙ acts)) [
                    | inl first ↦ (id, v, at, first, both.0 ∙ rw (ne_eqb id other (λ e. apart (sym e))) refl)
                    | inr second ↦ (other, w, there, second, both.0 ∙ rw (eq-eqb other other refl) refl)
                  ]
              | inr old ↦ (i, u, old.2, acts, rw (ne_eqb i other old.0) refl)
            ]
      ]

  alone_after : (i j : ℕ) (u x : View) (a : Actor) → get_elem? views i ≡ some u → get_elem? views j ≡ some x
      → actors_of u a ≡ true → actors_of x a ≡ true → i ≡ j
  alone_after i j u x a at_i at_j acts_u acts_x =
      let p = origin i u a at_i acts_u in
      let q = origin j x a at_j acts_x in
      p.4 ∙ ap went (k.alone p.0 q.0 p.1 q.1 a p.2 q.2 p.3 q.3) ∙ sym q.4

  met_here : get_elem? views id ≡ some (met v w)
  met_here =
      set_else one other id view_of_nobody (λ e. apart (sym e)) ∙ set_here s.views id (met v w) (at_lt s.views id v at)

  acted_after : (row : ℕ) → row < length roster
      → (i : ℕ) × (u : View) × (get_elem? views i ≡ some u) × (is_among row u.tracees ≡ true)
  acted_after row within =
      let acted = k.acted row within in
      elim (cases_eq acted.0 other) [
        | inl second ↦
            (let is : acted.1 ≡ w =
            same_view s.views other acted.1 w (ap (get_elem? s.views) (sym second) ∙ acted.2) there in (
              id,
              met v w,
              met_here,
              among_both row v.tracees w.tracees
                  ∙ or_right (is_among row v.tracees) (is_among row w.tracees)
                  (ap (λ (x : View). is_among row x.tracees) (sym is) ∙ acted.3),
            ))
        | inr not_other ↦
            elim (cases_eq acted.0 id) [
              | inl first ↦
                  (let is : acted.1 ≡ v =
                  same_view s.views id acted.1 v (ap (get_elem? s.views) (sym first) ∙ acted.2) at in (
                    id,
                    met v w,
                    met_here,
                    among_both row v.tracees w.tracees
                        ∙ or_left (is_among row v.tracees) (is_among row w.tracees)
                        (ap (λ (x : View). is_among row x.tracees) (sym is) ∙ acted.3),
                  ))
              | inr not_id ↦ (
                acted.0,
                acted.1,
                set_else one other acted.0 view_of_nobody not_other
                    ∙ set_else s.views id acted.0 (met v w) not_id ∙ acted.2,
                acted.3,
              )
            ]
      ]

  seen_after : (k.history ≡ []) ⊎ ((i : ℕ) × (u : View) × (get_elem? views i ≡ some u) × (u.seen ≡ k.history))
  seen_after =
      let b = both_seen k.history k.taken v w (k.follows id v at) (k.follows other w there) in
      elim k.seen [
        | inl none_yet ↦ inl none_yet
        | inr one_has ↦
            elim (cases_eq one_has.0 other) [
              | inl second ↦
                  (let is : one_has.1 ≡ w =
                  same_view s.views other one_has.1 w (ap (get_elem? s.views) (sym second) ∙ one_has.2) there in
                  inr (
                    id,
                    met v w,
                    met_here,
                    longer_is_all k.history v w b (inr (ap (λ (x : View). x.seen) (sym is) ∙ one_has.3)),
                  ))
              | inr not_other ↦
                  elim (cases_eq one_has.0 id) [
                    | inl first ↦
                        (let is : one_has.1 ≡ v =
                        same_view s.views id one_has.1 v (ap (get_elem? s.views) (sym first) ∙ one_has.2) at in
                        inr (
                          id,
                          met v w,
                          met_here,
                          longer_is_all k.history v w b (inl (ap (λ (x : View). x.seen) (sym is) ∙ one_has.3)),
                        ))
                    | inr not_id ↦
                        inr (
                          one_has.0,
                          one_has.1,
                          set_else one other one_has.0 view_of_nobody not_other
                              ∙ set_else s.views id one_has.0 (met v w) not_id ∙ one_has.2,
                          one_has.3,
                        )
                  ]
            ]
      ]

  pub joined : KeepsRule roster (record { words = s.words; homes = s.homes; views = views })
  joined = record {
    history = k.history;
    taken = k.taken;
    placed = k.placed;
    legal = k.legal;
    words_are = k.words_are;
    further = k.further;
    homes_are = k.homes_are;
    up = k.up;
    rows = λ row within. record { word = (k.rows row within).word; home = (k.rows row within).home };
    follows = follows_after;
    alone = alone_after;
    acted = acted_after;
    seen = seen_after;
  }

pub joins : (roster : List Row) (id other : ℕ) (v w : View) → v.taken ≡ false → w.taken ≡ false
    → Joins (KeepsRule roster) id v other w (met v w) view_of_nobody
joins roster id other v w idle_v idle_w s k at apart there =
    joined roster s k id other v w at apart
    (sym (set_else s.views id other (met v w) apart) ∙ there) idle_v idle_w

-- ---- the comparison

put_again : (l : List ℕ) → slice_set l 0 (slice_index l 0) ≡ l
put_again [] = refl
put_again (x ∷ xs) = refl

module _ (roster : List Row) (s : St) (k : KeepsRule roster s) (id : ℕ) (v : View)
    (at : get_elem? s.views id ≡ some v) where
  abbrev quieted : List View
  quieted = slice_set s.views id (silent v)

  quiet_follows : (i : ℕ) (u : View) → get_elem? quieted i ≡ some u → IsViewOf k.history k.taken u
  quiet_follows i u at_i =
      elim (at_set s.views id i (silent v) u at_i) [
        | inl here ↦
            (let f = k.follows id v at in
            subst (IsViewOf k.history k.taken) here.1
            (record { more = f.more; goes_on = f.goes_on; quiet = f.quiet; knows = f.knows; told = tt }))
        | inr other ↦ k.follows i u other.1
      ]

  before : (i : ℕ) (u : View) → get_elem? quieted i ≡ some u
      → (x : View) × (get_elem? s.views i ≡ some x) × (actors_of u ≡ actors_of x)
  before i u at_i =
      elim (at_set s.views id i (silent v) u at_i) [
        | inl here ↦ (v, ap (get_elem? s.views) here.0 ∙ at, ap actors_of (sym here.1))
        | inr other ↦ (u, other.1, refl)
      ]

  quiet_acted : (row : ℕ) → row < length roster
      → (i : ℕ) × (u : View) × (get_elem? quieted i ≡ some u) × (is_among row u.tracees ≡ true)
  quiet_acted row within =
      let acted = k.acted row within in
      elim (cases_eq acted.0 id) [
        | inl same ↦ (
          id,
          silent v,
          set_here s.views id (silent v) (at_lt s.views id v at),
          ap (λ (x : View). is_among row x.tracees)
              (same_view s.views id v acted.1 at (ap (get_elem? s.views) (sym same) ∙ acted.2)) ∙ acted.3,
        )
        | inr other ↦ (acted.0, acted.1, set_else s.views id acted.0 (silent v) other ∙ acted.2, acted.3)
      ]

  quiet_seen : (k.history ≡ []) ⊎ ((i : ℕ) × (u : View) × (get_elem? quieted i ≡ some u) × (u.seen ≡ k.history))
  quiet_seen =
      elim k.seen [
        | inl none_yet ↦ inl none_yet
        | inr one_has ↦
            elim (cases_eq one_has.0 id) [
              | inl same ↦
                  inr (
                    id,
                    silent v,
                    set_here s.views id (silent v) (at_lt s.views id v at),
                    ap (λ (x : View). x.seen)
                        (same_view s.views id v one_has.1 at (ap (get_elem? s.views) (sym same) ∙ one_has.2)) ∙ one_has.3,
                  )
              | inr other ↦
                  inr (one_has.0, one_has.1, set_else s.views id one_has.0 (silent v) other ∙ one_has.2, one_has.3)
            ]
      ]

  quiet_kept : (words : List ℕ) → words ≡ s.words
      → KeepsRule roster (record { words = words; homes = s.homes; views = quieted })
  quiet_kept words same = record {
    history = k.history;
    taken = k.taken;
    placed = k.placed;
    legal = k.legal;
    words_are = ap length same ∙ k.words_are;
    further = ap (λ ws. slice_index ws (place (length roster))) same ∙ k.further;
    homes_are = k.homes_are;
    up = k.up;
    rows = λ row within. record {
      word = ap (λ ws. slice_index ws (place row)) same ∙ (k.rows row within).word;
      home = (k.rows row within).home;
    };
    follows = quiet_follows;
    alone = λ i j u x a at_u at_x mine_u mine_x.
        (let p = before i u at_u in let q = before j x at_x in
        k.alone i j p.0 q.0 a p.1 q.1 (ap (λ f. f a) (sym p.2) ∙ mine_u) (ap (λ f. f a) (sym q.2) ∙ mine_x));
    acted = quiet_acted;
    seen = quiet_seen;
  }

pub compares : (slots id : ℕ) (me : Seated)
    → Allows (KeepsRule me.0.roster) slots id me 0 (λ n. n) (compared (step slots 0 0 0 none) me)
compares slots id me s k sized at bounded =
    let f = k.follows id me.0 at in (
      silent me.0,
      keeps,
      tt,
      quiet_kept me.0.roster s k id me.0 at (slice_set s.words 0 (slice_index s.words 0)) (put_again s.words),
      (
        refl,
        f.told,
        k.placed,
        legal_back me.0.roster f.more me.0.seen (subst (AreLegal me.0.roster) f.goes_on k.legal),
      ),
    )

-- what the load after a meeting tells of it
pub met_tells : (m : Seated) (w : View) (j n : Seated) (found : ℕ) → j ≡ (met m.0 w, m.1)
    → compared (step 0 0 0 0 none) j found n → Met m w n
met_tells m w j n found joined_is play =
    let view : n.0 ≡ silent (met m.0 w) =
    ap (λ (x : Seated). x.0) play.0 ∙ ap (λ (x : Seated). silent x.0) joined_is in
    let seen : n.0.seen ≡ longer m.0.seen w.seen = ap (λ (x : View). x.seen) view in
    let told : AllGoOn (past m.0 ∷ past w ∷ []) (longer m.0.seen w.seen) =
    subst (λ (x : Seated). AllGoOn x.0.told x.0.seen) joined_is play.1 in
    record {
      slots = ap (λ (x : Seated). x.1) play.0 ∙ ap (λ (x : Seated). x.1) joined_is;
      view = view;
      left = subst (GoesOn (actors_of m.0) m.0.seen) (sym seen) told.0;
      right = subst (GoesOn (actors_of w) w.seen) (sym seen) told.1.0;
      placed = subst (λ (x : View). IsRoster x.roster) (sym (ap (λ (x : Seated). x.0) play.0)) play.2;
      legal = subst (λ (x : View). AreLegal x.roster x.seen) (sym (ap (λ (x : Seated). x.0) play.0)) play.3;
    }
