-- Each event of a handle's own actors is made by one of its calls; a handle that acts for all made all events.
use Rattle.std.proofs.Common.{refl, ◌≡◌, ◌≤◌, ◌∷◌, ◌++◌, [], ℕ, suc, zero, Bool, true, false, List, Some, filter}
use Rattle.std.proofs.Common.{length, length-append, slice_get, ◌∙◌, sym, ap, subst, arith, inl, inr}
use Rattle.std.proofs.lemmas.Bool.{or_parts}
use Rattle.std.proofs.lemmas.Option.{same_Some}
use Rattle.stop_history.specs.declared.actor.Actor.{Actor}
use Rattle.stop_history.specs.Actor.{IsQuiet, actor_of}
use Rattle.stop_history.specs.Event as event
use Rattle.stop_history.specs.Event.{Event, History}
use Rattle.stop_history.specs.History.{Fits}
use Rattle.stop_history.specs.Ranges.{IsInRange}
use Rattle.stop_history.proofs.States.{fits_within}
use Rattle.stop_table.specs.Calls.{ActsForAll, HasCalled, IsMadeBy, IsMadeByOne, IsOneCall}
use Rattle.stop_table.specs.Entry.{AreLegal, Begins, Entry, GoesOn, history_of}
use Rattle.stop_table.specs.Handle.{EndsWith, Meets, own_events}
use Rattle.stop_table.specs.View.{View, actors_of}
use Rattle.stop_table.proofs.Entries.{goes_on}
use Rattle.stop_table.proofs.Own.{actors_of_both, same_actors}

-- ---- the calls of a handle

-- an entry of the actors of a set is not among those of others
past_others : (actors : Actor → Bool) (more older before : List Entry) (x : Entry) → IsQuiet actors (history_of more)
    → actors (actor_of x.event) ≡ true → Begins (x ∷ before) (more ++ older) → Begins (x ∷ before) older
past_others actors [] older before x quiet own begins = begins
past_others actors (y ∷ more) older before x quiet own ([], is) =
    let same : y ≡ x = cc in
    let other : actors (actor_of x.event) ≡ false =
    subst (λ (z : Entry). actors (actor_of z.event) ≡ false) same quiet.0 in
    cc
past_others actors (y ∷ more) older before x quiet own (z ∷ lead, is) =
    let rest : more ++ older ≡ lead ++ x ∷ before = cc in
    past_others actors more older before x quiet.1 own (lead, rest)

past_on : (actors : Actor → Bool) (sooner h before : List Entry) (x : Entry) → GoesOn actors sooner h
    → actors (actor_of x.event) ≡ true → Begins (x ∷ before) h → Begins (x ∷ before) sooner
past_on actors sooner h before x on own begins =
    past_others actors on.0 sooner before x on.2 own (subst (Begins (x ∷ before)) on.1 begins)

one_later : (last v : View) (earlier : List View) (before : List Entry) (x : Entry) (at : ℕ)
    → IsMadeBy v earlier before x at → IsMadeBy last (v ∷ earlier) before x (suc at)
one_later last v earlier before x at made =
    record { v = made.v; w = made.w; is_before = made.is_before; is_after = made.is_after; ends = made.ends }

one_sooner : (last v : View) (earlier : List View) (before : List Entry) (x : Entry) (at : ℕ)
    → IsMadeBy last (v ∷ earlier) before x (suc at) → IsMadeBy v earlier before x at
one_sooner last v earlier before x at made =
    record { v = made.v; w = made.w; is_before = made.is_before; is_after = made.is_after; ends = made.ends }

made_at_all : (last : View) (earlier : List View) → HasCalled last earlier → (before : List Entry) (x : Entry)
    → actors_of last (actor_of x.event) ≡ true → Begins (x ∷ before) last.seen
    → (at : ℕ) × IsMadeBy last earlier before x at
made_at_all last [] none before x own begins =
    let long = sym (ap length none) ∙ ap length begins.1 ∙ length-append begins.0 (x ∷ before) in
    absurd (omega (arith, long))
made_at_all last (v ∷ earlier) (inl grows, calls) before x own begins =
    let act : actors_of v (actor_of x.event) ≡ true =
    ap (λ actors. actors (actor_of x.event)) (sym (same_actors v last grows.same)) ∙ own in
    let made = made_at_all v earlier calls before x act
    (past_on (actors_of v) v.seen last.seen before x grows.goes_on act begins) in
    (suc made.0, one_later last v earlier before x made.0 made.1)
made_at_all last (v ∷ earlier) (inr (sooner, y, ends, mine), calls) before x own ([], is) =
    let both : y ∷ sooner ≡ x ∷ before = sym ends.seen ∙ is in
    let entry : y ≡ x = cc in
    let history : sooner ≡ before = cc in (
      0,
      record {
        v = v;
        w = last;
        is_before = refl;
        is_after = refl;
        ends = subst (λ (z : Entry). EndsWith v last before z) entry
            (subst (λ (k : List Entry). EndsWith v last k y) history ends);
      },
    )
made_at_all last (v ∷ earlier) (inr (sooner, y, ends, mine), calls) before x own (z ∷ lead, is) =
    let both : y ∷ sooner ≡ z ∷ (lead ++ x ∷ before) = sym ends.seen ∙ is in
    let rest : sooner ≡ lead ++ x ∷ before = cc in
    let act : actors_of v (actor_of x.event) ≡ true =
    ap (λ actors. actors (actor_of x.event)) (sym (same_actors v last ends.same)) ∙ own in
    let made = made_at_all v earlier calls before x act
    (past_on (actors_of v) v.seen sooner before x ends.goes_on act (lead, rest)) in
    (suc made.0, one_later last v earlier before x made.0 made.1)

longer_on : (actors : Actor → Bool) (sooner later : List Entry) → GoesOn actors sooner later
    → length sooner ≤ length later
longer_on actors sooner later on = let long = ap length on.1 ∙ length-append on.0 sooner in omega (arith, long)

call_longer : (v w : View) → IsOneCall v w → length v.seen ≤ length w.seen
call_longer v w (inl grows) = longer_on (actors_of v) v.seen w.seen grows.goes_on
call_longer v w (inr (before, x, ends, mine)) =
    let fits = longer_on (actors_of v) v.seen before ends.goes_on in
    let long = ap length ends.seen in omega (arith, fits, long)

-- an earlier view has seen no more events than a later one
earlier_shorter : (last : View) (earlier : List View) → HasCalled last earlier → (i : ℕ) (w : View)
    → slice_get (last ∷ earlier) i ≡ Some w → length w.seen ≤ length last.seen
earlier_shorter last earlier calls zero w is =
    let same : length last.seen ≡ length w.seen = ap (λ u. length u.seen) (same_Some last w is) in omega (arith, same)
earlier_shorter last [] calls (suc i) w is = cc
earlier_shorter last (v ∷ earlier) calls (suc i) w is =
    let rest = earlier_shorter v earlier calls.1 i w is in
    let one = call_longer v last calls.0 in omega (arith, rest, one)

-- after the call that makes an entry more is seen than after all earlier ones
not_sooner : (last v : View) (earlier : List View) (before : List Entry) (x : Entry) (at : ℕ)
    → HasCalled last (v ∷ earlier) → IsMadeBy last (v ∷ earlier) before x 0
    → IsMadeBy last (v ∷ earlier) before x (suc at) → ⊥
not_sooner last v earlier before x at calls first second =
    let start : length first.v.seen ≡ length v.seen =
    ap (λ u. length u.seen) (sym (same_Some v first.v first.is_before)) in
    let room = longer_on (actors_of first.v) first.v.seen before first.ends.goes_on in
    let long = ap length second.ends.seen in
    let less = earlier_shorter v earlier calls.1 at second.w second.is_after in
    absurd (omega (arith, start, room, long, less))

made_alone : (last : View) (earlier : List View) → HasCalled last earlier → (before : List Entry) (x : Entry) (i j : ℕ)
    → IsMadeBy last earlier before x i → IsMadeBy last earlier before x j → i ≡ j
made_alone last [] calls before x i j first second = let none = first.is_before in cc
made_alone last (v ∷ earlier) calls before x zero zero first second = refl
made_alone last (v ∷ earlier) calls before x zero (suc j) first second =
    absurd (not_sooner last v earlier before x j calls first second)
made_alone last (v ∷ earlier) calls before x (suc i) zero first second =
    absurd (not_sooner last v earlier before x i calls second first)
made_alone last (v ∷ earlier) calls before x (suc i) (suc j) first second =
    ap suc (made_alone v earlier calls.1 before x i j (one_sooner last v earlier before x i first)
    (one_sooner last v earlier before x j second))

pub made_by_one : (last : View) (earlier : List View) → HasCalled last earlier → (h : List Entry)
    → GoesOn (actors_of last) last.seen h → (before : List Entry) (x : Entry) → Begins (x ∷ before) h
    → actors_of last (actor_of x.event) ≡ true → IsMadeByOne last earlier before x
made_by_one last earlier calls h on before x begins own =
    let made = made_at_all last earlier calls before x own
    (past_on (actors_of last) last.seen h before x on own begins) in
    record {
      at = made.0;
      makes = made.1;
      alone = λ other also. made_alone last earlier calls before x other made.0 also made.1;
    }

-- ---- handles that met

quiet_fewer : (actors fewer : Actor → Bool) → ((a : Actor) → actors a ≡ false → fewer a ≡ false) → (h : History)
    → IsQuiet actors h → IsQuiet fewer h
quiet_fewer actors fewer less [] quiet = tt
quiet_fewer actors fewer less (e ∷ h) quiet =
    (less (actor_of e) quiet.0, quiet_fewer actors fewer less h quiet.1)

pub both_go_on : (v w u : View) → Meets v w u → (h : List Entry) → GoesOn (actors_of u) u.seen h
    → GoesOn (actors_of v) v.seen h × GoesOn (actors_of w) w.seen h
both_go_on v w u met h on =
    let neither : (a : Actor) → actors_of u a ≡ false → (actors_of v a ≡ false) × (actors_of w a ≡ false) =
    λ a none. or_parts (actors_of v a) (actors_of w a) (sym (actors_of_both v w u met a) ∙ none) in
    let left = quiet_fewer (actors_of u) (actors_of v) (λ a none. (neither a none).0) (history_of on.0) on.2 in
    let right = quiet_fewer (actors_of u) (actors_of w) (λ a none. (neither a none).1) (history_of on.0) on.2 in (
      goes_on (actors_of v) v.seen u.seen h met.left (on.0, on.1, left),
      goes_on (actors_of w) w.seen u.seen h met.right (on.0, on.1, right),
    )

-- ---- a handle that acts for all

acts_for : (v : View) → ActsForAll v → (k : History) (e : Event) → Fits v.roster k e → IsInRange e
    → actors_of v (actor_of e) ≡ true
acts_for v all k (event.Publish row number stop) fits range =
    all.tracees row (fits_within v.roster k (event.Publish row number stop) fits)
acts_for v all k (event.Claim row number tracer) fits range = all.tracers tracer range
acts_for v all k (event.Resume row number how tracer) fits range = all.tracers tracer range.1
acts_for v all k (event.Exit row death) fits range =
    all.tracees row (fits_within v.roster k (event.Exit row death) fits)

all_of : (v : View) → ActsForAll v → (h : List Entry) → AreLegal v.roster h
    → filter (λ x. actors_of v (actor_of x.event)) h ≡ h
all_of v all [] legal = refl
all_of v all (x ∷ h) legal =
    let own = acts_for v all (history_of h) x.event legal.0.0 legal.0.1 in
    rw own (ap (λ k. x ∷ k) (all_of v all h legal.1))

pub all_own : (v : View) → ActsForAll v → AreLegal v.roster v.seen → own_events v ≡ v.seen
all_own v all legal = all_of v all v.seen legal
