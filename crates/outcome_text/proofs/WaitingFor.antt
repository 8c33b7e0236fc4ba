-- The refusal that states decide is the one that a call gets at each history that leaves them.
use Rattle.std.proofs.Common.{refl, ◌≡◌, ◌∙◌, ◌⊎◌, ℕ, Bool, true, false, List, Option, Some, None, Ok, Err, Result}
use Rattle.std.proofs.Common.{◌+◌, ◌≤◌, ap, arith, inl, inr, le-ltb, length, nat_lt, not}
use Rattle.std.proofs.Common.{if◌then◌else◌, option_map, sym}
use Rattle.std.proofs.lemmas.Bool.{cases_lt}
use Rattle.std.proofs.lemmas.List.{get_or_past}
use Rattle.std.proofs.lemmas.List.FromFn.{get_or-map-range_with_len, length-map-range_with_len}
use Rattle.std.specs.List.{find, range_with_len}
use Rattle.std.specs.Result.{result_err}
use Rattle.stop_program.specs.BoardCall.{answer_to, claim_told, done_told, exit_group_answer, kill_answer, killed_told}
use Rattle.stop_program.specs.BoardCall.{look_told, publish_told}
use Rattle.stop_program.specs.Command.{is_lasting, is_lasting_refusal}
use Rattle.stop_program.specs.Run.{states_of}
use Rattle.stop_program.specs.declared.answer.Answer.{Answer}
use Rattle.stop_program.specs.declared.answer.Answer.TheVariants as answer
use Rattle.stop_program.specs.declared.board_call.BoardCall.{BoardCall}
use Rattle.stop_program.specs.declared.board_call.BoardCall.TheVariants as call
use Rattle.stop_history.specs.Event.{History}
use Rattle.stop_history.specs.History.{births_after, creates_next, holding_back, holds_back}
use Rattle.stop_history.specs.Roster.{is_leader, row_at}
use Rattle.stop_history.specs.Sequential.{and_then, claim_answer, exit_answer, next_number, resume_answer}
use Rattle.stop_history.specs.Sequential.{running_by}
use Rattle.stop_history.specs.State.{last_number, state_after}
use Rattle.stop_history.specs.declared.got.Got.{Got}
use Rattle.stop_history.specs.declared.limits.TheConstants.{LAST_NUMBER}
use Rattle.stop_history.specs.declared.refused.Refused.{Refused}
use Rattle.stop_history.specs.declared.refused.Refused.TheVariants as refused
use Rattle.stop_history.specs.declared.roster.Row.{Row}
use Rattle.stop_history.specs.declared.state.State.{State}
use Rattle.stop_history.specs.declared.state.State.TheVariants as state
use Rattle.outcome_text.specs.Waiting.{state_at, waiting_refusal}

-- ---- the states of all rows

-- past the last row there is none, also after a history
past_is_absent : (rows : List Row) (h : History) (row : ℕ) → length rows ≤ row → state_after rows h row ≡ state.Absent
past_is_absent rows h row past = rw (le-ltb row (length rows) past)

listed : (rows : List Row) (h : History) (row : ℕ)
    → state_at (states_of rows (state_after rows h)) row ≡ state_after rows h row
listed rows h row = elim (cases_lt row (length rows)) [
  | inl within ↦
      get_or-map-range_with_len (state_after rows h) 0 (length rows) row row state.Absent within (omega arith)
  | inr past ↦
      get_or_past (states_of rows (state_after rows h)) row state.Absent
      (omega (arith, length-map-range_with_len (state_after rows h) 0 (length rows)))
      ∙ sym (past_is_absent rows h row past)
]

all_listed : (rows : List Row) (h : History) → state_at (states_of rows (state_after rows h)) ≡ state_after rows h
all_listed rows h = λ i row. listed rows h row i

-- ---- the refusal of an answer

abbrev refusal_in : Answer → Option Refused
refusal_in (answer.Refused refusal) = Some refusal
refusal_in other = None

claim_refused : (reply : Result Got Refused) → refusal_in (claim_told reply) ≡ result_err reply
claim_refused (Ok got) = refl
claim_refused (Err refusal) = refl

look_refused : (reply : Result Got Refused) → refusal_in (look_told reply) ≡ result_err reply
look_refused (Ok got) = refl
look_refused (Err refusal) = refl

done_refused : (reply : Result (Unit {0}) Refused) → refusal_in (done_told reply) ≡ result_err reply
done_refused (Ok done) = refl
done_refused (Err refusal) = refl

killed_refused : (reply : Result Bool Refused) → refusal_in (killed_told reply) ≡ result_err reply
killed_refused (Ok true) = refl
killed_refused (Ok false) = refl
killed_refused (Err refusal) = refl

is_refused : (told : Answer) (refusal : Refused) → refusal_in told ≡ Some refusal → told ≡ answer.Refused refusal
is_refused (answer.Refused other) refusal is = cc
is_refused (answer.Number number) refusal is = cc
is_refused (answer.State at) refusal is = cc
is_refused (answer.Got got) refusal is = cc
is_refused (answer.Saw got) refusal is = cc
is_refused answer.Done refusal is = cc
is_refused answer.Dead refusal is = cc
is_refused answer.Nothing refusal is = cc
is_refused answer.NoChild refusal is = cc

-- ---- each call: its refusal is the one that is waited for, or it waits for none and has an answer that lasts

abbrev Agree : (waits : Option Refused) → Answer → Type 0
Agree waits told = (refusal_in told ≡ waits) ⊎ ((waits ≡ None) × (is_lasting told ≡ true))

number_lasts : (next room : Bool) (number : ℕ)
    → is_lasting (publish_told (if not next then Err refused.NotNext
    else if room then Ok (number + 1) else Err refused.Full)) ≡ true
number_lasts false room number = refl
number_lasts true true number = refl
number_lasts true false number = refl

publish_agrees : (reply : Result (Unit {0}) Refused) (number : Result ℕ Refused)
    → is_lasting (publish_told number) ≡ true → Agree (result_err reply) (publish_told (and_then reply number))
publish_agrees (Ok done) number lasts = inr (refl, lasts)
publish_agrees (Err refusal) number lasts = inl refl

agree : (rows : List Row) (h : History) (row : ℕ) (asked : BoardCall)
    → Agree (waiting_refusal rows (state_after rows h) row asked) (answer_to rows h row asked)
agree rows h row (call.Publish stop) =
    let next = creates_next rows row (births_after h row) stop in
    let number = last_number h row in
    publish_agrees (running_by (state_after rows h row)) (next_number next number)
    (number_lasts next (nat_lt number LAST_NUMBER) number)
agree rows h row call.State = inl refl
agree rows h row (call.Look tracer) = inl (look_refused (claim_answer rows h row tracer))
agree rows h row (call.Claim tracer) = inl (claim_refused (claim_answer rows h row tracer))
agree rows h row (call.Resume tracer how) = inl (done_refused (resume_answer rows h row tracer))
agree rows h row (call.Exit death) = inl (done_refused (exit_answer rows h row))
agree rows h row call.Kill = inl (killed_refused (kill_answer rows h row))
agree rows h row (call.ExitGroup code) = inl (done_refused (exit_group_answer rows h row))

-- so a refusal that may pass is waited for, and one that is waited for is got
waited_for : (waits : Option Refused) (told : Answer) (refusal : Refused) → Agree waits told
    → told ≡ answer.Refused refusal → is_lasting_refusal refusal ≡ false → waits ≡ Some refusal
waited_for waits told refusal (inl same) is passes = sym same ∙ ap refusal_in is
waited_for waits told refusal (inr lasts) is passes =
    let clash : true ≡ false = sym lasts.1 ∙ ap is_lasting is ∙ passes in cc

got_for : (waits : Option Refused) (told : Answer) (refusal : Refused) → Agree waits told → waits ≡ Some refusal
    → told ≡ answer.Refused refusal
got_for waits told refusal (inl same) is = is_refused told refusal (same ∙ is)
got_for waits told refusal (inr lasts) is = let clash : None ≡ Some refusal = sym lasts.0 ∙ is in cc

pub passing : (rows : List Row) (h : History) (row : ℕ) (asked : BoardCall) (refusal : Refused)
    → answer_to rows h row asked ≡ answer.Refused refusal → is_lasting_refusal refusal ≡ false
    → waiting_refusal rows (state_at (states_of rows (state_after rows h))) row asked ≡ Some refusal
passing rows h row asked refusal told passes =
    ap (λ (states : ℕ → State). waiting_refusal rows states row asked) (all_listed rows h)
    ∙ waited_for (waiting_refusal rows (state_after rows h) row asked) (answer_to rows h row asked) refusal
    (agree rows h row asked) told passes

pub refused_so : (rows : List Row) (h : History) (row : ℕ) (asked : BoardCall) (refusal : Refused)
    → waiting_refusal rows (state_at (states_of rows (state_after rows h))) row asked ≡ Some refusal
    → answer_to rows h row asked ≡ answer.Refused refusal
refused_so rows h row asked refusal waits =
    got_for (waiting_refusal rows (state_after rows h) row asked) (answer_to rows h row asked) refusal
    (agree rows h row asked)
    (sym (ap (λ (states : ℕ → State). waiting_refusal rows states row asked) (all_listed rows h)) ∙ waits)

-- ---- who holds a leader back

same_found : (found : Option ℕ) → option_map (λ x. x) found ≡ found
same_found None = refl
same_found (Some place) = refl

-- what a search for the row finds
pub found_back : (rows : List Row) (states : ℕ → State) (at : ℕ) (found : Option ℕ)
    → is_leader (row_at rows at) ≡ true
    → option_map (λ x. x) found ≡ find (holds_back rows states at) (range_with_len 0 (length rows))
    → found ≡ holding_back rows states at
found_back rows states at found leads is =
    sym (same_found found) ∙ is
    ∙ sym (ap (λ b. if b then find (holds_back rows states at) (range_with_len 0 (length rows)) else None) leads)
