-- A step on one row's word keeps the rule. This is the one place where the rule is taken apart and put together again
-- for a step; each kind of step says what it leaves of the row (`Lands`) and of the handle's view (`Seen`).
use Rattle.std.proofs.Common.{refl, ◌≡◌, ◌≢◌, ◌<◌, ◌∷◌, ◌++◌, ◌⊎◌, [], ℕ, zero, suc, Bool, true, false, List, Option}
use Rattle.std.proofs.Common.{length, arith, ◌∙◌, sym, ap, inl, inr, subst, slice_set, slice_index}
use Rattle.std.proofs.Common.{get_or-set_same, get_or-set_other, length-set}
use Rattle.std.proofs.lemmas.Bool.{cases_eq}
use Rattle.std.proofs.lemmas.List.{append_assoc}
use mathlib.Core.Option as maybe
use mathlib.Core.Option.{some, some-injective, some-ne-none}
use lib.ListN.{get_elem?}
use Rattle.atomic_table.specs.Table.{State as Table}
use Rattle.atomic_table.proofs.Lists.{at_set, set_else, set_here}
use Rattle.trace_record.specs.Content.{Content}
use Rattle.stop_history.specs.declared.actor.Actor.{Actor}
use Rattle.stop_history.specs.declared.actor.Actor.TheVariants.{Tracee}
use Rattle.stop_history.specs.declared.roster.Row.{Row}
use Rattle.stop_history.specs.declared.state.State.TheVariants as state
use Rattle.stop_history.specs.Actor.{IsQuiet}
use Rattle.stop_history.specs.Layout.{raw_of}
use Rattle.stop_history.specs.State.{state_after}
use Rattle.stop_table.specs.Entry.{AreLegal, Entry, cell_after, history_of, word_of}
use Rattle.stop_table.specs.Rule.{AllGoOn, IsHome, IsViewOf, KeepsRule, RowKept}
use Rattle.stop_table.specs.Place.{place}
use Rattle.stop_table.specs.View.{View, actors_in, actors_of, is_among}
use Rattle.stop_table.proofs.Entries.{quiet_append}

-- ---- places

pub places_differ : (u t : ℕ) → u ≢ t → place u ≢ place t
places_differ u t other same = other (omega arith)

-- what is known of the row at a place
pub at_place : (P : ℕ → Type 0) (t : ℕ) → P t → (row : ℕ) → place t ≡ place row → P row
at_place P t known row same = (let is : t ≡ row = omega arith in subst P is known)

-- ---- what a step leaves

abbrev pub St : Type 0
St = Table (Option Content) View

abbrev pub Homes : Type 0
Homes = List (maybe.Option (Option Content))

-- what a step leaves of the row t, whose word becomes n: the new entries, who is taken up next, the slots
pub record Lands (roster : List Row) (s : St) (history : List Entry) (taken next : ℕ → Bool) (t n : ℕ)
    (new : List Entry) (homes : Homes) : Type 0 where
  pub legal : AreLegal roster (new ++ history)
  pub cells : (u : ℕ) → u ≢ t → cell_after roster (new ++ history) u ≡ cell_after roster history u
  pub others : (u : ℕ) → u ≢ t → next u ≡ taken u
  pub word : n ≡ raw_of (word_of (next t) (cell_after roster (new ++ history) t))
  pub home : IsHome (next t) (cell_after roster (new ++ history) t) (get_elem? homes (place t))
  pub up : (u : ℕ) → next u ≡ true → state_after roster (history_of (new ++ history)) u ≡ state.Running
  pub as_long : length homes ≡ length s.homes
  pub other_homes : (u : ℕ) → u ≢ t → get_elem? homes (place u) ≡ get_elem? s.homes (place u)

-- what a step leaves of the view v of the handle that makes it
pub record Seen (history : List Entry) (taken next : ℕ → Bool) (t : ℕ) (new : List Entry) (v w : View) : Type 0 where
  pub tracees : w.tracees ≡ v.tracees
  pub tracers : w.tracers ≡ v.tracers
  pub seen : w.seen ≡ new ++ history
  pub told : w.told ≡ []
  pub knows : (u : ℕ) → is_among u v.tracees ≡ true → next u ≡ w.taken
  pub mine : (u : View) → ((a : Actor) → actors_of v a ≡ true → actors_of u a ≡ false)
      → IsQuiet (actors_of u) (history_of new)
  pub flag : (next t ≡ taken t) ⊎ (is_among t v.tracees ≡ true)

pub not_both : (b : Bool) → (b ≡ true → ⊥) → b ≡ false
not_both true never = absurd (never refl)
not_both false never = refl

pub same_view : (views : List View) (i : ℕ) (v w : View) → get_elem? views i ≡ some v → get_elem? views i ≡ some w
    → v ≡ w
same_view views i v w at_v at_w = some-injective v w (sym at_v ∙ at_w)

pub at_lt : {A : Type 0} (l : List A) (i : ℕ) (a : A) → get_elem? l i ≡ some a → i < length l
at_lt [] i a e = absurd (some-ne-none a (sym e))
at_lt (x ∷ xs) zero a e = omega arith
at_lt (x ∷ xs) (suc i) a e = let before = at_lt xs i a e in omega arith

module _ (roster : List Row) (s : St) (k : KeepsRule roster s) (id t n : ℕ) (v w : View) (new : List Entry)
    (next : ℕ → Bool) (homes : Homes) where
  abbrev after : St
  after = record { words = slice_set s.words (place t) n; homes = homes; views = slice_set s.views id w }

  -- the actors of another view are not those of this one
  apart : get_elem? s.views id ≡ some v → (i : ℕ) (u : View) → i ≢ id → get_elem? s.views i ≡ some u
      → (a : Actor) → actors_of v a ≡ true → actors_of u a ≡ false
  apart at i u other there a mine =
      not_both (actors_of u a) (λ theirs. other (sym (k.alone id i v u a at there mine theirs)))

  row_after : t < length roster → Lands roster s k.history k.taken next t n new homes → (row : ℕ) → row < length roster
      → RowKept roster after (new ++ k.history) next row
  row_after there l row within =
      elim (cases_eq row t) [
        | inl same ↦ record {
          word = ap (λ r. slice_index (slice_set s.words (place t) n) (place r)) same
              ∙ get_or-set_same s.words (place t) n 0 (let long = k.words_are in omega arith)
              ∙ l.word
              ∙ ap (λ r. raw_of (word_of (next r) (cell_after roster (new ++ k.history) r))) (sym same);
          home = subst (λ r. IsHome (next r) (cell_after roster (new ++ k.history) r) (get_elem? homes (place r))) (sym same)
              l.home;
        }
        | inr other ↦ record {
          word = get_or-set_other s.words (place t) (place row) n 0 (places_differ row t other)
              ∙ (k.rows row within).word
              ∙ ap (λ b. raw_of (word_of b (cell_after roster k.history row))) (sym (l.others row other))
              ∙ ap (λ c. raw_of (word_of (next row) c)) (sym (l.cells row other));
          home = subst (λ b. IsHome b (cell_after roster (new ++ k.history) row) (get_elem? homes (place row)))
              (sym (l.others row other))
              (subst (λ c. IsHome (k.taken row) c (get_elem? homes (place row))) (sym (l.cells row other))
              (subst (IsHome (k.taken row) (cell_after roster k.history row)) (sym (l.other_homes row other))
              (k.rows row within).home));
        }
      ]

  follows_after : get_elem? s.views id ≡ some v → Lands roster s k.history k.taken next t n new homes
      → Seen k.history k.taken next t new v w
      → (i : ℕ) (u : View) → get_elem? (slice_set s.views id w) i ≡ some u → IsViewOf (new ++ k.history) next u
  follows_after at l m i u there =
      elim (at_set s.views id i w u there) [
        | inl here ↦ subst (IsViewOf (new ++ k.history) next) here.1 (record {
          more = [];
          goes_on = sym m.seen;
          quiet = tt;
          knows = λ row mine. m.knows row (ap (is_among row) (sym m.tracees) ∙ mine);
          told = subst (λ told. AllGoOn told w.seen) (sym m.told) tt;
        })
        | inr other ↦
            (let f = k.follows i u other.1 in
            let quiet = m.mine u (apart at i u other.0 other.1) in
            record {
              more = new ++ f.more;
              goes_on = ap (λ x. new ++ x) f.goes_on ∙ sym (append_assoc new f.more u.seen);
              quiet = quiet_append (actors_of u) new f.more quiet f.quiet;
              knows = λ row mine. elim (cases_eq row t) [
                | inl same ↦ elim m.flag [
                  | inl still ↦ ap next same ∙ still ∙ ap k.taken (sym same) ∙ f.knows row mine
                  | inr own ↦
                      (let clash : false ≡ true =
                      sym (apart at i u other.0 other.1 (Tracee t) own) ∙ ap (λ r. is_among r u.tracees) (sym same) ∙ mine
                      in cc)
                ]
                | inr others ↦ l.others row others ∙ f.knows row mine
              ];
              told = f.told;
            })
      ]

  -- each view of the new table acts for those for whom the view in its place acted before
  was : get_elem? s.views id ≡ some v → Seen k.history k.taken next t new v w
      → (i : ℕ) (u : View) → get_elem? (slice_set s.views id w) i ≡ some u
      → (old : View) × (get_elem? s.views i ≡ some old) × (actors_of u ≡ actors_of old)
  was at m i u there =
      elim (at_set s.views id i w u there) [
        | inl here ↦ (
          v,
          ap (get_elem? s.views) here.0 ∙ at,
          ap actors_of (sym here.1) ∙ (λ j. actors_in (m.tracees j) (m.tracers j)),
        )
        | inr other ↦ (u, other.1, refl)
      ]

  alone_after : get_elem? s.views id ≡ some v → Seen k.history k.taken next t new v w
      → (i j : ℕ) (u x : View) (a : Actor) → get_elem? (slice_set s.views id w) i ≡ some u
      → get_elem? (slice_set s.views id w) j ≡ some x → actors_of u a ≡ true → actors_of x a ≡ true → i ≡ j
  alone_after at m i j u x a at_u at_x mine_u mine_x =
      let p = was at m i u at_u in
      let q = was at m j x at_x in
      k.alone i j p.0 q.0 a p.1 q.1 (ap (λ f. f a) (sym p.2) ∙ mine_u) (ap (λ f. f a) (sym q.2) ∙ mine_x)

  acted_after : get_elem? s.views id ≡ some v → id < length s.views → Seen k.history k.taken next t new v w
      → (row : ℕ) → row < length roster
      → (i : ℕ) × (u : View) × (get_elem? (slice_set s.views id w) i ≡ some u) × (is_among row u.tracees ≡ true)
  acted_after at there m row within =
      let acted = k.acted row within in
      elim (cases_eq acted.0 id) [
        | inl same ↦ (
          id,
          w,
          set_here s.views id w there,
          ap (is_among row) (m.tracees ∙ ap (λ (x : View). x.tracees)
              (same_view s.views id v acted.1 at (ap (get_elem? s.views) (sym same) ∙ acted.2))) ∙ acted.3,
        )
        | inr other ↦ (acted.0, acted.1, set_else s.views id acted.0 w other ∙ acted.2, acted.3)
      ]

  pub moves : t < length roster → get_elem? s.views id ≡ some v → Lands roster s k.history k.taken next t n new homes
      → Seen k.history k.taken next t new v w → KeepsRule roster after
  moves there at l m =
      let within = at_lt s.views id v at in
      record {
        history = new ++ k.history;
        taken = next;
        placed = k.placed;
        legal = l.legal;
        words_are = length-set s.words (place t) n ∙ k.words_are;
        further = get_or-set_other s.words (place t) (place (length roster)) n 0 (λ same. omega arith) ∙ k.further;
        homes_are = l.as_long ∙ k.homes_are;
        up = l.up;
        rows = row_after there l;
        follows = follows_after at l m;
        alone = alone_after at m;
        acted = acted_after at within m;
        seen = inr (id, w, set_here s.views id w within, m.seen);
      }
