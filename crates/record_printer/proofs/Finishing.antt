-- What a folder answers when all pieces were added.
use Rattle.std.proofs.Common.{◌≡◌, ◌+◌, ◌-◌, ◌<◌, ◌≤◌, ◌∷◌, [], ◌++◌, ◌||◌, ℕ, zero, suc, Bool, List, Option, Some}
use Rattle.std.proofs.Common.{None}
use Rattle.std.proofs.Common.{refl, sym, ap, ◌∙◌, length, take, arith, true, false, is_some, append-nil}
use Rattle.std.proofs.Common.{append_assoc, nat_lt, inl, inr}
use Rattle.std.proofs.lemmas.List.{take_more}
use Rattle.std.proofs.lemmas.Bool.{cases_eq}
use Rattle.std.specs.List.{flat_map, range_with_len}
use Rattle.record_printer.proofs.Options.{or_true}
use Rattle.record_printer.specs.Came.{stop_of}
use Rattle.record_printer.specs.FolderAnswers.{first_row_fault, lost, lost_at, lost_if, or_next}
use Rattle.record_printer.specs.FolderAnswers.{row_text}
use Rattle.record_printer.specs.Kept.{Kept, has_any}
use Rattle.record_printer.specs.Piece.{Piece}
use Rattle.record_printer.specs.Represents.{Represents, kept_at}
use Rattle.record_printer.specs.RowAnswers.{missing_in}
use Rattle.record_printer.specs.declared.fold.ending.Ending.{Ending}
use Rattle.record_printer.specs.declared.fold.error.FoldError.{FoldError}
use Rattle.stop_history.specs.Roster.{is_root, nobody, row_at}
use Rattle.stop_history.specs.declared.roster.Row.{Row}

or_some : (fault next : Option FoldError) → is_some fault ≡ true → or_next fault next ≡ fault
or_some None next some = cc
or_some (Some fault) next some = refl

or_none : (fault next : Option FoldError) → is_some fault ≡ false → or_next fault next ≡ next
or_none None next none = refl
or_none (Some fault) next none = cc

or_both : (fault next : Option FoldError) → or_next fault next ≡ None → (fault ≡ None) × (next ≡ None)
or_both None next none = (refl, none)
or_both (Some fault) next none = cc

not_lost : (root named : Bool) (place : ℕ) (missing : Option ℕ)
    → lost_if (root || (named || true)) place missing ≡ None → missing ≡ None
not_lost true named place None none = refl
not_lost false true place None none = refl
not_lost false false place None none = refl
not_lost true named place (Some number) none = cc
not_lost false true place (Some number) none = cc
not_lost false false place (Some number) none = cc

flat_map_push : {X A : Type 0} (f : X → List A) (xs : List X) (x : X)
    → flat_map f (xs ++ x ∷ []) ≡ flat_map f xs ++ f x
flat_map_push f [] x = append-nil (f x)
flat_map_push f (y ∷ xs) x = ap (λ t. f y ++ t) (flat_map_push f xs x) ∙ sym (append_assoc (f y) (flat_map f xs) (f x))

-- ---- the first row that has lost something

pub first_here : (fault : ℕ → Option FoldError) (place count : ℕ) → place < count → is_some (fault place) ≡ true
    → first_row_fault fault (range_with_len place (count - place)) ≡ fault place
first_here fault place count before some =
    let e : count - place ≡ suc (count - (place + 1)) = omega arith in
    rw e (or_some (fault place) (first_row_fault fault (range_with_len (place + 1) (count - (place + 1)))) some)

pub first_later : (fault : ℕ → Option FoldError) (place count : ℕ) → place < count → is_some (fault place) ≡ false
    → first_row_fault fault (range_with_len place (count - place))
    ≡ first_row_fault fault (range_with_len (place + 1) (count - (place + 1)))
first_later fault place count before none =
    let e : count - place ≡ suc (count - (place + 1)) = omega arith in
    rw e (or_none (fault place) (first_row_fault fault (range_with_len (place + 1) (count - (place + 1)))) none)

pub first_over : (fault : ℕ → Option FoldError) (place count : ℕ) → count ≤ place
    → first_row_fault fault (range_with_len place (count - place)) ≡ None
first_over fault place count over = let e : count - place ≡ 0 = omega (arith, over) in rw e refl

none_each : (fault : ℕ → Option FoldError) (from count place : ℕ)
    → first_row_fault fault (range_with_len from count) ≡ None
    → from ≤ place → place < from + count → fault place ≡ None
none_each fault from zero place none low high = absurd (omega (arith, low, high))
none_each fault from (suc count) place none low high =
    let both = or_both (fault from) (first_row_fault fault (range_with_len (from + 1) count)) none in
    elim (cases_eq from place) [
      | inl same ↦ rw (← same) both.0
      | inr apart ↦ none_each fault (from + 1) count place both.1 (omega (arith, low, apart)) (omega (arith, high))
    ]

-- what is lost of a row that is kept
pub lost_here : (rows : List Row) (kept : List Kept) (came : List Piece) (place : ℕ)
    → Represents (record { rows = rows; kept = kept }) came → place < length rows
    → lost_if (is_root (row_at rows place) || ((kept_at kept place).named || has_any (kept_at kept place))) place
    (missing_in (stop_of (row_at rows place).tid came) (kept_at kept place).ending (kept_at kept place).last)
    ≡ lost_at rows came place
lost_here rows kept came place stands within =
    let keeps = stands.each place within in
    rw (keeps.named, keeps.any, keeps.ending, keeps.last) refl

-- ---- the texts

-- a row that has died lacks no stop, where nothing is lost
pub whole_row : (rows : List Row) (kept : List Kept) (came : List Piece) (place : ℕ) (ending : Ending)
    → Represents (record { rows = rows; kept = kept }) came → lost rows came ≡ None → place < length rows
    → (kept_at kept place).ending ≡ Some ending
    → missing_in (stop_of (row_at rows place).tid came) (kept_at kept place).ending (kept_at kept place).last ≡ None
whole_row rows kept came place ending stands none within ended =
    let keeps = stands.each place within in
    let here = lost_here rows kept came place stands within
    ∙ none_each (lost_at rows came) 0 (length rows) place none (omega arith) (omega (arith, within)) in
    let any : has_any (kept_at kept place) ≡ true = rw ended (or_true (nat_lt 0 (kept_at kept place).last)) in
    not_lost (is_root (row_at rows place)) (kept_at kept place).named place
    (missing_in (stop_of (row_at rows place).tid came) (kept_at kept place).ending (kept_at kept place).last)
    (rw any at here)

pub text_more : (rows : List Row) (came : List Piece) (place : ℕ) → place < length rows
    → flat_map (row_text came) (take (place + 1) rows)
    ≡ flat_map (row_text came) (take place rows) ++ row_text came (row_at rows place)
text_more rows came place within =
    rw (take_more rows place nobody within, flat_map_push (row_text came) (take place rows) (row_at rows place)) refl
