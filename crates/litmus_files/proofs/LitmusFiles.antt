-- The content of a litmus file by what its lines say.
use Rattle.std.proofs.Common.{refl, ◌≡◌, ◌∙◌, ◌≤◌, ℕ, true, false, cond, List, Option, Some, None, Result, Ok, Err}
use Rattle.std.proofs.Common.{◌∷◌, [], Bor, IfSome, ap, arith, is_some, length, nat_le, subst, sym}
use Rattle.std.specs.Prelude.{IsUtf8}
use Rattle.std.proofs.lemmas.List.{length-map}
use Rattle.std.proofs.lemmas.List.Elements.{All-cons, All-head, All-nil, All-tail}
use Rattle.std.specs.Option.{option_map}
use Rattle.std.proofs.lemmas.Bool.Decides.{nat_tests}
use Rattle.text_lines.specs.Lines.{last_line, lines_of}
use Rattle.text_lines.specs.Ranges.{◌>>=◌}
use Rattle.trace_script.specs.Reading.{Refuses, most_bytes}
use Rattle.trace_script.specs.declared.cause.CaseError.{CaseError}
use Rattle.trace_script.specs.declared.cause.Cause.{Cause}
use Rattle.trace_script.specs.declared.cause.Cause.TheVariants.{NoEnd, NoMemory}
use Rattle.litmus_files.specs.declared.required.NumberedCommand.{NumberedCommand}
use Rattle.litmus_files.specs.LitmusDraft.{AreTexts, names_kept, repeat_kept}
use Rattle.litmus_files.specs.LitmusFile.{AreNames, LitmusContent, LitmusReading, OpenRepeat, content_unless_open, litmus_content_of}
use Rattle.litmus_files.specs.LitmusFile.{litmus_lines_after, litmus_lines_read, no_lines}

few_by : {A : Type 0} (n most : ℕ) (x y : A) → n ≤ most → cond (nat_le n most) x y ≡ x
few_by n most x y few = grind (arith, nat_tests)

pub few_bytes : (text : List ℕ) → length text ≤ most_bytes
    → litmus_lines_read text ≡ litmus_lines_after 1 no_lines (lines_of text)
few_bytes text few = few_by (length text) most_bytes (litmus_lines_after 1 no_lines (lines_of text)) _ few

-- a fault of a line refuses the file
refused_in : (text : List ℕ) (cause : Cause) (line : ℕ)
    → Refuses text cause line (litmus_lines_read text) (litmus_lines_read text)
    → Refuses text cause line (litmus_lines_read text) (litmus_content_of text)
refused_in text NoMemory line is = is
refused_in text cause line is = ap (λ r. r >>= λ all. content_unless_open (last_line text) all all.repeat) is

pub refused_by_line : (text : List ℕ) (cause : Cause) (line : ℕ) → length text ≤ most_bytes
    → Refuses text cause line (litmus_lines_after 1 no_lines (lines_of text))
    (litmus_lines_after 1 no_lines (lines_of text))
    → Refuses text cause line (litmus_lines_read text) (litmus_content_of text)
refused_by_line text cause line few is =
    let Refused : Result LitmusReading CaseError → Type 0 = λ lines. Refuses text cause line lines lines in
    refused_in text cause line (subst Refused (sym (few_bytes text few)) is)

-- ---- after the last line

pub is_open : (times : Option ℕ) (body : List NumberedCommand) → is_some (repeat_kept times body) ≡ is_some times
is_open None body = refl
is_open (Some times) body = refl

abbrev pub content_read : LitmusReading → LitmusContent
content_read all = record {
  rows = all.rows;
  names = all.names;
  voices = all.voices;
  lines = all.lines;
  requirements = all.requirements;
  conditions = all.conditions;
}

open_refused : (last : ℕ) (all : LitmusReading) (repeat : Option OpenRepeat) → is_some repeat ≡ true
    → content_unless_open last all repeat ≡ Err (record { line = last; cause = NoEnd })
open_refused last all None is = absurd (let clash : false ≡ true = is in cc)
open_refused last all (Some repeat) is = refl

closed_read : (last : ℕ) (all : LitmusReading) (repeat : Option OpenRepeat) → is_some repeat ≡ false
    → content_unless_open last all repeat ≡ Ok (content_read all)
closed_read last all None is = refl
closed_read last all (Some repeat) is = absurd (let clash : true ≡ false = is in cc)

pub refused_at_end : (text : List ℕ) (all : LitmusReading) → litmus_lines_read text ≡ Ok all
    → is_some all.repeat ≡ true → litmus_content_of text ≡ Err (record { line = last_line text; cause = NoEnd })
refused_at_end text all read is =
    ap (λ r. r >>= λ all. content_unless_open (last_line text) all all.repeat) read
    ∙ open_refused (last_line text) all all.repeat is

pub content_is : (text : List ℕ) (all : LitmusReading) → litmus_lines_read text ≡ Ok all → is_some all.repeat ≡ false
    → litmus_content_of text ≡ Ok (content_read all)
content_is text all read is =
    ap (λ r. r >>= λ all. content_unless_open (last_line text) all all.repeat) read
    ∙ closed_read (last_line text) all all.repeat is

-- ---- what is known of it

pub are_texts : (names : List (Option (Bor (List ℕ)))) → AreNames (names_kept names) → AreTexts names
are_texts [] are = All-nil (λ name. IfSome name (λ (bytes : Bor (List ℕ)). IsUtf8 bytes.now))
are_texts (None ∷ names) are =
    All-cons (λ name. IfSome name (λ (bytes : Bor (List ℕ)). IsUtf8 bytes.now)) None names tt
    (are_texts names (All-tail (λ name. IfSome name IsUtf8) None (names_kept names) are))
are_texts (Some name ∷ names) are =
    All-cons (λ name. IfSome name (λ (bytes : Bor (List ℕ)). IsUtf8 bytes.now)) (Some name) names
    (All-head (λ name. IfSome name IsUtf8) (Some name.now) (names_kept names) are)
    (are_texts names (All-tail (λ name. IfSome name IsUtf8) (Some name.now) (names_kept names) are))

pub length_kept : (names : List (Option (Bor (List ℕ)))) → length (names_kept names) ≡ length names
length_kept names = length-map names (option_map (λ (name : Bor (List ℕ)). name.now))
