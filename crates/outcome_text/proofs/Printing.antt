-- Texts that are collected and written part after part, and what of them is printed where a write fails.
use Rattle.std.proofs.Common.{◌≡◌, ◌∙◌, ◌<◌, ◌++◌, [], ℕ, Bool, List, Option, Result, Ok, Err, ap}
use Rattle.std.proofs.Common.{append_assoc, append-nil, arith, length, length-append, subst, sym}
use Rattle.std.proofs.KnownBytes.{Appends-nil}
use Rattle.std.specs.Io.KnownBytes.{Appends}
use Rattle.std.specs.Prelude.{IfErr, OnOk}
use Rattle.stop_history.specs.declared.roster.Row.{Row}
use Rattle.stop_program.specs.declared.command.ThreadCommand.{ThreadCommand}
use Rattle.stop_program.specs.declared.voice.Voice.{Voice}
use Rattle.stop_program.specs.Run.{EndedRun}
use Rattle.outcome_text.specs.CutOff.{IsCollected, IsCutOff}
use Rattle.outcome_text.specs.OutcomeText.{allowed_line, chosen_text, counts_line, outcome_texts}
use Rattle.outcome_text.proofs.TextOfParts.{appends_both, cut_in_part}

-- nothing of a text is written
pub nothing_of : (a : Option (List ℕ)) (text : List ℕ) → 0 < length text → IsCutOff a a text
nothing_of a text some = (0, some, Appends-nil a)

-- ---- part after part

-- of a text after one that was collected, some is written, some is collected, and the rest is left
abbrev pub IsSoFar : (before now : Option (List ℕ)) → (old all new rest : List ℕ) → Type 0
IsSoFar before now old all new rest =
    (written : List ℕ) × Appends before now written × (written ++ (new ++ rest) ≡ old ++ all)

module _ (a b c : Option (List ℕ)) (old all mid rest part more : List ℕ) (so_far : IsSoFar a b old all mid rest)
    (cut : rest ≡ part ++ more) where
  parts : so_far.0 ++ ((mid ++ part) ++ more) ≡ old ++ all
  parts =
      ap (λ t. so_far.0 ++ t) (append_assoc mid part more ∙ ap (λ t. mid ++ t) (sym cut)) ∙ so_far.2

  pub one_more : (new : List ℕ) → IsCollected b c mid part new → IsSoFar a c old all new more
  one_more new added = (
    so_far.0 ++ added.0,
    appends_both a b c so_far.0 added.0 so_far.1 added.1,
    append_assoc so_far.0 added.0 (new ++ more)
        ∙ ap (λ t. so_far.0 ++ t) (sym (append_assoc added.0 new more) ∙ ap (λ t. t ++ more) added.2) ∙ parts,
  )

  pub cut_there : IsCutOff b c (mid ++ part) → IsCutOff a c (old ++ all)
  cut_there off = cut_in_part so_far.0 (mid ++ part) more (old ++ all) a b c parts so_far.1 off

-- nothing of what is left is written
pub cut_before : (a b : Option (List ℕ)) (old all new rest : List ℕ) → IsSoFar a b old all new rest → 0 < length rest
    → IsCutOff a b (old ++ all)
cut_before a b old all new rest so_far some =
    let whole = ap (λ t. so_far.0 ++ t) (append-nil (new ++ rest)) ∙ so_far.2 in
    cut_in_part so_far.0 (new ++ rest) [] (old ++ all) a b b whole so_far.1
    (nothing_of b (new ++ rest) (omega (arith, length-append new rest, some)))

-- the same of what is equal
pub so_far_as : (a b c : Option (List ℕ)) (old all new same rest left : List ℕ) → c ≡ b → same ≡ new → left ≡ rest
    → IsSoFar a b old all new rest → IsSoFar a c old all same left
so_far_as a b c old all new same rest left output text texts so_far = (
  so_far.0,
  subst (λ o. Appends a o so_far.0) (sym output) so_far.1,
  ap (λ t. so_far.0 ++ t) (ap (λ t. t ++ left) text ∙ ap (λ t. new ++ t) texts) ∙ so_far.2,
)

pub at_last : (a b : Option (List ℕ)) (old all new rest : List ℕ) → IsSoFar a b old all new rest → rest ≡ []
    → IsCollected a b old all new
at_last a b old all new rest so_far none = (
  so_far.0,
  so_far.1,
  ap (λ t. so_far.0 ++ t) (sym (append-nil new) ∙ ap (λ t. new ++ t) (sym none)) ∙ so_far.2,
)

-- ---- a second text after it

-- a first text is written or is still in the buffer
whole_text : (a b : Option (List ℕ)) (old first mid second : List ℕ) → old ≡ []
    → (so_far : IsCollected a b old first mid) → so_far.0 ++ (mid ++ second) ≡ first ++ second
whole_text a b old first mid second none so_far =
    sym (append_assoc so_far.0 mid second) ∙ ap (λ t. t ++ second) (so_far.2 ∙ ap (λ o. o ++ first) none)

-- if the second one is cut off, the two together are
pub cut_after : {T E : Type 0} (result : Result T E) (a b c : Option (List ℕ)) (old first mid second : List ℕ)
    → old ≡ [] → IsCollected a b old first mid → IfErr result (λ _. IsCutOff b c (mid ++ second))
    → IfErr result (λ _. IsCutOff a c (first ++ second))
cut_after {T} {E} (Ok done) a b c old first mid second none so_far off = tt
cut_after {T} {E} (Err error) a b c old first mid second none so_far off =
    let whole = ap (λ t. so_far.0 ++ t) (append-nil (mid ++ second)) ∙ whole_text a b old first mid second none so_far in
    cut_in_part so_far.0 (mid ++ second) [] (first ++ second) a b c whole so_far.1 off

-- and if it is written, the two are
pub written_after : {T E : Type 0} (result : Result T E) (a b c : Option (List ℕ)) (old first mid second : List ℕ)
    → old ≡ [] → IsCollected a b old first mid → OnOk result (Appends b c (mid ++ second))
    → OnOk result (Appends a c (first ++ second))
written_after {T} {E} (Ok done) a b c old first mid second none so_far added =
    subst (Appends a c) (whole_text a b old first mid second none so_far)
    (appends_both a b c so_far.0 (mid ++ second) so_far.1 added)
written_after {T} {E} (Err error) a b c old first mid second none so_far added = tt

-- all outcomes that are chosen, and how many they and the places are
pub whole_chosen : (rows : List Row) (names : List (Option (List ℕ))) (voices : List Voice)
    (commands : ℕ → List ThreadCommand) (required : Bool) (told places count : ℕ) (found : List EndedRun)
    → told ≡ places → count ≡ length found
    → outcome_texts rows names voices commands 1 count found ++ (counts_line count told ++ allowed_line required)
    ≡ chosen_text rows names voices commands required places found
whole_chosen rows names voices commands required told places count found same counted =
    (λ i. outcome_texts rows names voices commands 1 (counted i) found
    ++ (counts_line (counted i) (same i) ++ allowed_line required))

-- ---- cut off in what is written first

pub cut_first : (a b : Option (List ℕ)) (old first second : List ℕ) → old ≡ [] → IsCutOff a b (old ++ first)
    → IsCutOff a b (first ++ second)
cut_first a b old first second none off =
    cut_in_part [] (old ++ first) second (first ++ second) a a b (ap (λ o. (o ++ first) ++ second) none)
    (Appends-nil a) off
