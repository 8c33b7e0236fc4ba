-- What a line says may come where the line is.
use Rattle.std.proofs.Common.{refl, ◌≡◌, ◌∷◌, [], ℕ, Bool, true, false, List, length, cond, eqb, IfOk, ◌∙◌}
use Rattle.std.proofs.Common.{Result, Ok, Err, sym, slice_index}
use Rattle.text_lines.specs.declared.fault.LineFault.{LineFault}
use Rattle.text_lines.specs.declared.fault.LineFault.TheVariants.{UnknownWord}
use Rattle.text_lines.specs.Lines.{nth_word}
use Rattle.text_lines.specs.Ranges.{◌>>=◌}
use Rattle.trace_script.specs.declared.case.keyword.Keyword.{Keyword}
use Rattle.trace_script.specs.declared.case.keyword.Keyword.TheVariants as keyword
use Rattle.trace_script.specs.declared.case.keyword.Place.{Place}
use Rattle.trace_script.specs.declared.case.keyword.Place.TheVariants.{Loading, Outside, Stepping}
use Rattle.trace_script.specs.CaseLine.{only_word, Line, Part, call_of, data_part, does, exec_step, exit_step, fork_step, in_place}
use Rattle.trace_script.specs.CaseLine.{keyword_at, keyword_of, line_of, loads, may_come, page_part, case_rest_of, signal_of}
use Rattle.trace_script.specs.CaseLine.{start_part, thread_step}
use Rattle.trace_script.specs.CaseLine as line
use Rattle.trace_script.specs.RowWords.{row_of_words}
use Rattle.trace_script.specs.Script.{Step}

-- where a line of this kind may come
abbrev pub FitsAt : Place → Line → Type 0
FitsAt place line.Nothing = Unit {0}
FitsAt place (line.Opens row) = may_come place keyword.Tracee ≡ true
FitsAt place (line.Loads part) = may_come place keyword.Page ≡ true
FitsAt place (line.Does step) = may_come place keyword.Exit ≡ true
FitsAt place line.Closes = may_come place keyword.End ≡ true

-- where lines of one keyword may come, those of the other may
abbrev ComesWith : Keyword → Line → Type 0
ComesWith word said = (place : Place) → may_come place word ≡ true → FitsAt place said

said_by : {A : Type 0} (word : Keyword) (f : A → Line) → ((x : A) → ComesWith word (f x)) → (r : Result A LineFault)
    → IfOk (r >>= λ x. Ok (f x)) (ComesWith word)
said_by word f comes (Ok x) = comes x
said_by word f comes (Err fault) = tt

only_if : (word : Keyword) (test : Bool) (read : Result Line LineFault) → IfOk read (ComesWith word)
    → IfOk (cond test read (Err UnknownWord)) (ComesWith word)
only_if word true read is = is
only_if word false read is = tt

loads_part : (word : Keyword) → ((place : Place) → may_come place word ≡ true → may_come place keyword.Page ≡ true)
    → (read : Result Part LineFault) → IfOk (loads read) (ComesWith word)
loads_part word comes read = said_by word line.Loads (λ part. comes) read

does_step : (word : Keyword) → ((place : Place) → may_come place word ≡ true → may_come place keyword.Exit ≡ true)
    → (read : Result Step LineFault) → IfOk (does read) (ComesWith word)
does_step word comes read = said_by word line.Does (λ step. comes) read

data_comes : (place : Place) → may_come place keyword.Data ≡ true → may_come place keyword.Page ≡ true
data_comes Outside h = h
data_comes Loading h = refl
data_comes Stepping h = h

at_comes : (place : Place) → may_come place keyword.At ≡ true → may_come place keyword.Page ≡ true
at_comes Outside h = h
at_comes Loading h = refl
at_comes Stepping h = h

-- the other lines of a block, by a keyword that may come wherever a block is
abbrev InBlock : Keyword → Type 0
InBlock word = (place : Place) → may_come place word ≡ may_come place keyword.Exit

step_comes : (word : Keyword) → InBlock word → (place : Place) → may_come place word ≡ true
    → may_come place keyword.Exit ≡ true
step_comes word same place h = sym (same place) ∙ h

call_in : InBlock keyword.Call
call_in Outside = refl
call_in Loading = refl
call_in Stepping = refl

fork_in : InBlock keyword.Fork
fork_in Outside = refl
fork_in Loading = refl
fork_in Stepping = refl

thread_in : InBlock keyword.Thread
thread_in Outside = refl
thread_in Loading = refl
thread_in Stepping = refl

exec_in : InBlock keyword.Exec
exec_in Outside = refl
exec_in Loading = refl
exec_in Stepping = refl

signal_in : InBlock keyword.Signal
signal_in Outside = refl
signal_in Loading = refl
signal_in Stepping = refl

by_only : (word : Keyword) (lone : Result (List ℕ) LineFault) (read : List ℕ → Result Line LineFault)
    → ((w : List ℕ) → IfOk (read w) (ComesWith word)) → IfOk (lone >>= read) (ComesWith word)
by_only word (Ok w) read each = each w
by_only word (Err fault) read each = tt

rest_comes : (word : Keyword) (words : List (List ℕ)) → IfOk (case_rest_of word words) (ComesWith word)
rest_comes keyword.Tracee words =
    only_if keyword.Tracee (eqb (length words) 4) _
    (said_by keyword.Tracee line.Opens (λ row place h. h)
    (row_of_words (nth_word words 0) (nth_word words 1) (nth_word words 2) (nth_word words 3)))
rest_comes keyword.Page words =
    by_only keyword.Page (only_word words) _ (λ w. loads_part keyword.Page (λ place h. h) (page_part w))
rest_comes keyword.Data words =
    only_if keyword.Data (eqb (length words) 2) _
    (loads_part keyword.Data data_comes (data_part (nth_word words 0) (nth_word words 1)))
rest_comes keyword.At words =
    only_if keyword.At (eqb (length words) 2) _
    (loads_part keyword.At at_comes (start_part (nth_word words 0) (nth_word words 1)))
rest_comes keyword.Call words = does_step keyword.Call (step_comes keyword.Call call_in) (call_of words)
rest_comes keyword.Fork words =
    by_only keyword.Fork (only_word words) _
    (λ w. does_step keyword.Fork (step_comes keyword.Fork fork_in) (fork_step w))
rest_comes keyword.Thread words =
    by_only keyword.Thread (only_word words) _
    (λ w. does_step keyword.Thread (step_comes keyword.Thread thread_in) (thread_step w))
rest_comes keyword.Exec words =
    by_only keyword.Exec (only_word words) _
    (λ w. does_step keyword.Exec (step_comes keyword.Exec exec_in) (exec_step w))
rest_comes keyword.Signal words = does_step keyword.Signal (step_comes keyword.Signal signal_in) (signal_of words)
rest_comes keyword.Exit words =
    by_only keyword.Exit (only_word words) _ (λ w. does_step keyword.Exit (λ place h. h) (exit_step w))
rest_comes keyword.End words = only_if keyword.End (eqb (length words) 0) (Ok line.Closes) (λ place h. h)

comes_in : (place : Place) (word : Keyword) (read : Result Line LineFault) → IfOk read (ComesWith word)
    → may_come place word ≡ true → IfOk read (FitsAt place)
comes_in place word (Ok said) comes may = comes place may
comes_in place word (Err fault) comes may = tt

fits_by : (place : Place) (words : List (List ℕ)) (word : Keyword) (may : Bool) → may_come place word ≡ may
    → IfOk (cond may (Ok word) (Err UnknownWord) >>= λ w. case_rest_of w words) (FitsAt place)
fits_by place words word true may =
    comes_in place word (case_rest_of word words) (rest_comes word words) may
fits_by place words word false may = tt

fits_word : (place : Place) (words : List (List ℕ)) (word : Result Keyword LineFault)
    → IfOk ((word >>= in_place place) >>= λ w. case_rest_of w words) (FitsAt place)
fits_word place words (Ok word) = fits_by place words word (may_come place word) refl
fits_word place words (Err fault) = tt

fits_first : (place : Place) (first : List ℕ) (words : List (List ℕ)) (comment : Bool)
    → IfOk (cond comment (Ok line.Nothing) (keyword_at place first >>= λ w. case_rest_of w words)) (FitsAt place)
fits_first place first words true = tt
fits_first place first words false = fits_word place words (keyword_of first)

pub line_fits : (place : Place) (words : List (List ℕ)) → IfOk (line_of place words) (FitsAt place)
line_fits place [] = tt
line_fits place (first ∷ words) = fits_first place first words (eqb (slice_index first 0) 35)
