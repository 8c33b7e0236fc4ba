-- Pieces that a folder takes one by one, in the order of a list.
use Rattle.std.proofs.Common.{refl, ◌≡◌, ◌≢◌, ◌++◌, ◌∷◌, [], List, None, reverse, ◌∙◌, sym, ap, subst}
use Rattle.std.proofs.Common.{append_assoc, Option, Some, Result, Err}
use Rattle.std.proofs.lemmas.List.{reverse-append}
use Rattle.stop_history.specs.declared.roster.Row.{Row}
use Rattle.record_printer.specs.FolderAnswers.{refusal}
use Rattle.record_printer.specs.Piece.{Piece}
use Rattle.record_printer.specs.Represents.{AreTaken}
use Rattle.record_printer.specs.declared.fold.error.FoldError.{FoldError}
use Rattle.record_printer.specs.declared.fold.error.FoldError.TheVariants as fold_error
use Rattle.tracer_workers.specs.Gathering.{run_error_of}
use Rattle.tracer_workers.specs.declared.run_error.RunError.{RunError}
use Rattle.tracer_workers.specs.declared.run_error.RunError.TheVariants as run_error

-- ---- lists

pub reverse_push : (pieces : List Piece) (piece : Piece) → reverse (pieces ++ piece ∷ []) ≡ piece ∷ reverse pieces
reverse_push pieces piece = reverse-append pieces (piece ∷ [])

taken_rest : (rows : List Row) (newer came : List Piece) → AreTaken rows (newer ++ came) → AreTaken rows came
taken_rest rows [] came taken = taken
taken_rest rows (piece ∷ newer) came taken = taken_rest rows newer came taken.1

-- of pieces that are taken none is refused after those before it
pub none_refused : (rows : List Row) (before : List Piece) (piece : Piece) (after all : List Piece)
    → all ≡ before ++ piece ∷ after → AreTaken rows (reverse all) → refusal rows (reverse before) piece ≡ None
none_refused rows before piece after all is taken =
    let order : reverse all ≡ reverse after ++ (piece ∷ reverse before) =
    ap reverse is ∙ reverse-append before (piece ∷ after)
    ∙ ap (λ (xs : List Piece). xs ++ reverse before) (reverse-append (piece ∷ []) after)
    ∙ append_assoc (reverse after) (piece ∷ []) (reverse before) in
    (taken_rest rows (reverse after) (piece ∷ reverse before) (subst (AreTaken rows) order taken)).0

-- ---- how a refusal is told

pub not_memory : (fault : FoldError) (error : RunError) → error ≡ run_error_of fault → error ≡ run_error.Lost
    → fault ≢ fold_error.NoMemory
not_memory fault error is lost memory =
    let clash : run_error.Lost ≡ run_error.NoMemory = sym lost ∙ is ∙ ap run_error_of memory in cc

pub never_threads : (fault : FoldError) (error : RunError) → error ≡ run_error_of fault → error ≢ run_error.Threads
never_threads fold_error.NoMemory error is threads = cc
never_threads fold_error.Stranger error is threads = cc
never_threads fold_error.Twice error is threads = cc
never_threads (fold_error.Lost row number) error is threads = cc

pub same_error : {T E : Type 0} (result : Result T E) (a b : E) → result ≡ Err a → result ≡ Err b → a ≡ b
same_error result a b first second = cc

pub none_lost : {X : Type 0} (found : Option X) → ((x : X) → found ≡ Some x → ⊥) → found ≡ None
none_lost None clash = refl
none_lost (Some x) clash = absurd (clash x refl)
