-- What clap makes of the shortest words of a replay, of a run and of an exploration, of those that show a text, and of
-- words that contradict each other.
use Rattle.std.proofs.Common.{refl, ◌≡◌, ◌∙◌, ◌∷◌, [], ℕ, Bool, true, false, List, Option, Some, None, ap, codes, lit<}
use Rattle.std.proofs.Common.{lit≤, subst, sym, Bor, IsFalse, IsTrue, ⊎_elim}
use Rattle.std.specs.Prelude.{option_map}
use Rattle.clap.specs.Words.{IsAmong}
use Rattle.clap.specs.declared.error.kind.ErrorKind.{ErrorKind}
use Rattle.clap.specs.declared.error.kind.ErrorKind.TheVariants.{DisplayHelp, DisplayVersion}
use Rattle.clap.proofs.OnLiterals.{clap_on_literals}
use Rattle.tracer_cli.specs.declared.arguments.RunOptions.{RunOptions}
use Rattle.tracer_cli.specs.declared.arguments.ExploreOptions.{ExploreOptions}
use Rattle.tracer_cli.specs.declared.arguments.Listing.{Listing}
use Rattle.tracer_cli.specs.declared.arguments.Listing.TheVariants as listing
use Rattle.tracer_cli.specs.Arguments.{AreExploreOptionsOf, AreOptionsOf, AskExplore, AskReplay, AskRun, AskText, Contradict}
use Rattle.tracer_cli.specs.Arguments.{IsExploredWhole, IsFollowed, listing_of, shows_text}

pub asks_replay : (name : List ℕ) → AskReplay (name ∷ codes "replay" ∷ [])
unfolding clap_on_literals
asks_replay name = (refl, refl, refl, refl)

pub asks_run : (name : List ℕ) → AskRun (name ∷ codes "run" ∷ codes "-f" ∷ [])
unfolding clap_on_literals
asks_run name = (refl, refl, refl)

no_names : (names : Option (Bor (List ℕ))) → option_map (λ list. list.now) names ≡ None → names ≡ None
no_names None none = refl
no_names (Some list) none = cc

pub is_followed : (name : List ℕ) (options : RunOptions) → AreOptionsOf (name ∷ codes "run" ∷ codes "-f" ∷ []) options
    → IsFollowed options
unfolding clap_on_literals
is_followed name options are = record {
  follow = are.follow.0 refl;
  seccomp = are.seccomp.1 refl;
  workers = are.workers ((lit< tt, (lit< tt, tt)), lit< tt, lit≤ tt, lit≤ tt);
  limit = are.limit ((lit< tt, (lit< tt, (lit< tt, tt))), lit< tt, lit≤ tt, lit≤ tt);
  names = no_names options.names are.names;
}

no_clash : (ends : Bool) (outcome : Option ℕ) → ends ≡ false → listing_of ends outcome ≡ None → ⊥
no_clash false None is clash = let none : Some listing.Outcomes ≡ None = clash in cc
no_clash false (Some number) is clash = let none : Some (listing.Replay number) ≡ None = clash in cc
no_clash true outcome is clash = let wrong : true ≡ false = is in cc

pub asks_explore : (name : List ℕ) → AskExplore (name ∷ codes "explore" ∷ [])
unfolding clap_on_literals
asks_explore name = (refl, refl, refl, (λ both. no_clash both.ends both.outcome (both.asked.flag.1 refl) both.clash), refl)

all_listed : (ends : Bool) (outcome : Option ℕ) (of : Listing) → ends ≡ false → outcome ≡ None
    → listing_of ends outcome ≡ Some of → of ≡ listing.Outcomes
all_listed ends outcome of no_ends none is =
    let same : Some listing.Outcomes ≡ Some of = sym (ap (λ e. listing_of e outcome) no_ends ∙ ap (listing_of false) none) ∙ is in
    cc

pub is_explored_whole : (name : List ℕ) (options : ExploreOptions)
    → AreExploreOptionsOf (name ∷ codes "explore" ∷ []) options → IsExploredWhole options
unfolding clap_on_literals
is_explored_whole name options are = record {
  budget = are.budget (
    (lit< tt, (lit< tt, (lit< tt, (lit< tt, (lit< tt, (lit< tt, (lit< tt, (lit< tt, tt)))))))),
    lit< tt,
    lit≤ tt,
    lit≤ tt,
  );
  listing = all_listed are.ends are.outcome options.listing (are.asked.flag.1 refl) are.asked.number are.listing;
}

-- ---- words that ask for none of these

-- where a kind is the only one, and its text is shown, none is reported
shown_alone : (only of : ErrorKind) → IsTrue (shows_text only) → IsAmong of (only ∷ []) → IsFalse (shows_text of) → ⊥
shown_alone only of shown among reported =
    ⊎_elim (λ same. let here : IsFalse (shows_text only) = subst (λ k. IsFalse (shows_text k)) same reported in cc)
    (λ none. none) among

pub asks_help : (name : List ℕ) → AskText (name ∷ codes "--help" ∷ [])
unfolding clap_on_literals
asks_help name = (
  λ none. let is : DisplayHelp ∷ [] ≡ [] = none in cc,
  λ fault. shown_alone DisplayHelp fault.0 refl fault.1 fault.2,
)

pub asks_version : (name : List ℕ) → AskText (name ∷ codes "--version" ∷ [])
unfolding clap_on_literals
asks_version name = (
  λ none. let is : DisplayVersion ∷ [] ≡ [] = none in cc,
  λ fault. shown_alone DisplayVersion fault.0 refl fault.1 fault.2,
)

both_asked : (ends : Bool) (outcome : Option ℕ) (of : Listing) → ends ≡ true → outcome ≡ Some 1
    → listing_of ends outcome ≡ Some of → ⊥
both_asked ends outcome of set one is =
    let none : None ≡ Some of = sym (ap (λ e. listing_of e outcome) set ∙ ap (listing_of true) one) ∙ is in cc

pub contradicts : (name : List ℕ)
    → Contradict (name ∷ codes "explore" ∷ codes "--ends" ∷ codes "--replay" ∷ codes "1" ∷ [])
unfolding clap_on_literals
contradicts name = (
  refl,
  refl,
  refl,
  λ named. both_asked named.1.ends named.1.outcome named.0.listing (named.1.asked.flag.0 refl)
      (named.1.asked.number ((lit< tt, (lit< tt, tt)), lit< tt, lit≤ tt, lit≤ tt)) named.1.listing,
)
