-- What is left of steps at a place: the next act and what comes after it, or the steps after a step that is done.
use Rattle.std.proofs.Common.{refl, ◌≡◌, ◌≢◌, ◌+◌, ◌-◌, ◌<◌, ◌≤◌, ◌∷◌, ◌++◌, [], ℕ, zero, suc, List, length, drop}
use Rattle.std.proofs.Common.{get_or, arith, ap, cond, sym, ◌∙◌, Option, None, Some, IfSome, Result, Bool, true, false}
use Rattle.std.proofs.Common.{slice_set, take}
use Rattle.std.specs.Prelude.{option_map, slice_get}
use Rattle.std.proofs.Math.Seq.{take-append_seam}
use Rattle.std.proofs.lemmas.List.{drop-set, drop-set-lt}
use Rattle.std.proofs.lemmas.Option.{slice_get_within}
use Rattle.text_lines.specs.Ranges.{◌>>=◌}
use Rattle.trace_options.specs.declared.options.TheConstants.Options.{TRACEEXIT}
use Rattle.trace_pages.specs.FlatMemory.{FlatMemory}
use Rattle.trace_record.specs.declared.death.Death.{Death}
use Rattle.trace_record.specs.declared.resume.Resume.{Resume}
use Rattle.trace_record.specs.declared.stop.Stop.{Stop}
use Rattle.trace_script.specs.Arrivals.{act_outcome, effect_by, exit_outcome, next_outcome}
use Rattle.trace_script.specs.Kept.{step_of, steps_of}
use Rattle.trace_script.specs.Left.{acts_at, left_in, most_acts}
use Rattle.trace_script.specs.LookAhead.{look_at, look_over}
use Rattle.trace_script.specs.Script.{Image, Step}
use Rattle.trace_script.specs.Script as step
use Rattle.trace_script.specs.StepStops.{Act, acts_of, acts_of_steps, has_option}
use Rattle.trace_script.specs.StopTrace.{Context, StopsLast, Ends, Stopped, advance, effect_of, outcome_by}
use Rattle.trace_script.specs.declared.script.Step.{Step as KeptStep}
use Rattle.trace_script.specs.declared.setting.Setting.{Setting}
use Rattle.trace_script.specs.declared.step.effect.Effect.{Effect as KeptEffect}
use Rattle.trace_script.specs.declared.step.effect.Effect.TheVariants as kept
use Rattle.trace_script.specs.declared.step.found.Found.{Found}

-- ---- lists

pub get_later : {X : Type 0} (first : X) (xs : List X) (i : ℕ) → i ≢ 0
    → slice_get (first ∷ xs) i ≡ slice_get xs (i - 1)
get_later first xs zero later = absurd (later refl)
get_later first xs (suc i) later = let same : i ≡ suc i - 1 = omega arith in ap (slice_get xs) same

drop_next : {X : Type 0} (xs : List X) (i : ℕ) (x : X) → slice_get xs i ≡ Some x → drop i xs ≡ x ∷ drop (i + 1) xs
drop_next [] i x is = cc
drop_next (first ∷ xs) zero x is = let same : first ≡ x = cc in ap (λ y. y ∷ xs) same
drop_next (first ∷ xs) (suc i) x is =
    let next : suc i + 1 ≡ suc (i + 1) = omega arith in
    rw next (drop_next xs i x is)

drop_past : {X : Type 0} (xs : List X) (i : ℕ) → slice_get xs i ≡ None → drop i xs ≡ []
drop_past [] zero is = refl
drop_past [] (suc i) is = refl
drop_past (first ∷ xs) zero is = cc
drop_past (first ∷ xs) (suc i) is = drop_past xs i is

-- a list that was written over the front of another of its length
pub written_back : {X : Type 0} (new old : List X) (n : ℕ) → length new ≡ n
    → take n (new ++ drop (length new) old) ≡ new
written_back new old n long =
    ap (λ k. take k (new ++ drop (length new) old)) (sym long) ∙ take-append_seam new (drop (length new) old)

-- ---- the acts of a step

acts_few : (s : Setting) (step : Step) → length (acts_of s step) ≤ 7
acts_few s (step.Call nr arguments answer None) = omega arith
acts_few s (step.Call nr arguments answer (Some fill)) = omega arith
acts_few s (step.Fork child) = omega arith
acts_few s (step.Thread child) = omega arith
acts_few s (step.Exec path image) = omega arith
acts_few s (step.Signal signal true) = omega arith
acts_few s (step.Signal signal false) = omega arith
acts_few s (step.Exit status) = omega arith

-- an act and what it is in its step, by what the program says of both
abbrev pub IsAct : (said got : Option Act) → Type 0
IsAct said got = Some said ≡ option_map Some got

act_is : (said got : Option Act) → IsAct said got → (act : Act) × (said ≡ Some act) × (got ≡ Some act)
act_is said None is = cc
act_is said (Some act) is = let same : said ≡ Some act = cc in (act, same, refl)

no_act : (got : Option Act) → None ≡ option_map Some got → got ≡ None
no_act None is = refl
no_act (Some act) is = cc

pub within_acts : (s : Setting) (step : Step) (place : ℕ) (said : Option Act)
    → IsAct said (slice_get (acts_of s step) place) → place < most_acts
within_acts s step place said is =
    let found = act_is said (slice_get (acts_of s step) place) is in
    let within = slice_get_within (acts_of s step) place found.0 found.2 in
    let few = acts_few s step in
    omega (arith, within, few)

-- ---- an act that was done

-- after an exit no act is reached
exit_is_last : (s : Setting) (how : Resume) (b : Bool) (death : Death) (acts : List Act) (x : Context)
    → outcome_by (cond b (StopsLast death) (Ends death)) acts x (advance s how acts)
    ≡ outcome_by (cond b (StopsLast death) (Ends death)) [] x (advance s how [])
exit_is_last s how true death acts x = refl
exit_is_last s how false death acts x = refl

done_leads : (s : Setting) (how : Resume) (effect : KeptEffect) (stop : Stop) (x y : Context) (acts : List Act)
    → (effect ≡ kept.Stops → y ≡ x) → ((death : Death) → effect ≡ kept.Exits death → y ≡ x)
    → outcome_by (effect_by s effect stop y) acts x (advance s how acts) ≡ act_outcome s how effect acts stop y
done_leads s how kept.Stops stop x y acts stays exits = ap (λ z. Stopped acts stop z) (sym (stays refl))
done_leads s how kept.GoesOn stop x y acts stays exits = refl
done_leads s how (kept.Exits death) stop x y acts stays exits =
    exit_is_last s how (has_option s TRACEEXIT) death acts x
    ∙ ap (λ z. exit_outcome s how death z) (sym (exits death refl))
done_leads s how (kept.Faults address) stop x y acts stays exits = refl

-- ---- what is left

pub left_first : (s : Setting) (filled : List ℕ) (steps : List (KeptStep FlatMemory)) → left_in s filled steps 0
    ≡ acts_of_steps s (steps_of filled steps)
unfolding acts_of_steps
left_first s filled [] = refl
left_first s filled (step ∷ steps) = refl

left_at : (s : Setting) (filled : List ℕ) (steps : List (KeptStep FlatMemory)) (index : ℕ)
    (step : KeptStep FlatMemory) (place : ℕ)
    → index < length steps
    → left_in s filled (drop index steps) place
    ≡ acts_at s (step_of filled (get_or steps index step)) place ++ left_in s filled (drop (index + 1) steps) 0
left_at s filled [] index step place within = absurd (omega arith)
left_at s filled (first ∷ steps) zero step place within =
    ap (λ acts. acts_at s (step_of filled first) place ++ acts) (sym (left_first s filled steps))
left_at s filled (first ∷ steps) (suc index) step place within =
    let next : suc index + 1 ≡ suc (index + 1) = omega arith in
    rw next (left_at s filled steps index step place (omega arith))

next_left : (s : Setting) (filled : List ℕ) (steps : List (KeptStep FlatMemory)) (index : ℕ)
    (step : KeptStep FlatMemory) (place : ℕ)
    (act : Act) → index < length steps
    → slice_get (acts_of s (step_of filled (get_or steps index step))) place ≡ Some act
    → left_in s filled (drop index steps) place ≡ act ∷ left_in s filled (drop index steps) (place + 1)
next_left s filled steps index step place act within is =
    let rest = left_in s filled (drop (index + 1) steps) 0 in
    left_at s filled steps index step place within
    ∙ ap (λ acts. acts ++ rest) (drop_next (acts_of s (step_of filled (get_or steps index step))) place act is)
    ∙ ap (λ acts. act ∷ acts) (sym (left_at s filled steps index step (place + 1) within))

none_left : (s : Setting) (filled : List ℕ) (steps : List (KeptStep FlatMemory)) (index : ℕ)
    (step : KeptStep FlatMemory) (place : ℕ)
    → index < length steps
    → None ≡ option_map Some (slice_get (acts_of s (step_of filled (get_or steps index step))) place)
    → left_in s filled (drop index steps) place ≡ left_in s filled (drop (index + 1) steps) 0
none_left s filled steps index step place within is =
    left_at s filled steps index step place within
    ∙ ap (λ acts. acts ++ left_in s filled (drop (index + 1) steps) 0)
    (drop_past (acts_of s (step_of filled (get_or steps index step))) place
    (no_act (slice_get (acts_of s (step_of filled (get_or steps index step))) place) is))

-- a step that was changed while an act of it was done
set_left : (s : Setting) (filled : List ℕ) (steps : List (KeptStep FlatMemory)) (index : ℕ)
    (step new : KeptStep FlatMemory) (place : ℕ) → index < length steps
    → acts_at s (step_of filled new) place ≡ acts_at s (step_of filled (get_or steps index step)) place
    → left_in s filled (drop index (slice_set steps index new)) place ≡ left_in s filled (drop index steps) place
set_left s filled steps index step new place within same =
    ap (λ left. left_in s filled left place) (drop-set steps index new within)
    ∙ ap (λ acts. acts ++ acts_of_steps s (steps_of filled (drop (index + 1) steps))) same
    ∙ ap (λ acts. acts_at s (step_of filled (get_or steps index step)) place ++ acts)
    (sym (left_first s filled (drop (index + 1) steps)))
    ∙ sym (left_at s filled steps index step place within)

-- ---- the next act, looked at and done

pub look_next : (s : Setting) (how : Resume) (filled : List ℕ) (steps : List (KeptStep FlatMemory)) (index : ℕ)
    (step : KeptStep FlatMemory) (place : ℕ) (said : Option Act) (found : Result FlatMemory Found) (m : FlatMemory)
    → index < length steps → IsAct said (slice_get (acts_of s (step_of filled (get_or steps index step))) place)
    → IfSome said (λ act. found ≡ look_at s how act m)
    → look_over s how (left_in s filled (drop index steps) place) m
    ≡ (found >>= look_over s how (left_in s filled (drop index steps) (place + 1)))
look_next s how filled steps index step place said found m within is looked =
    let act = act_is said (slice_get (acts_of s (step_of filled (get_or steps index step))) place) is in
    let rest = left_in s filled (drop index steps) (place + 1) in
    let at : found ≡ look_at s how act.0 m = rw act.1 at looked in
    ap (λ acts. look_over s how acts m) (next_left s filled steps index step place act.0 within act.2)
    ∙ ap (λ l. l >>= look_over s how rest) (sym at)

pub look_none : (s : Setting) (how : Resume) (filled : List ℕ) (steps : List (KeptStep FlatMemory)) (index : ℕ)
    (step : KeptStep FlatMemory) (place : ℕ) (m : FlatMemory) → index < length steps
    → None ≡ option_map Some (slice_get (acts_of s (step_of filled (get_or steps index step))) place)
    → look_over s how (left_in s filled (drop index steps) place) m
    ≡ look_over s how (left_in s filled (drop (index + 1) steps) 0) m
look_none s how filled steps index step place m within is =
    ap (λ acts. look_over s how acts m) (none_left s filled steps index step place within is)

pub act_next : (s : Setting) (how : Resume) (filled : List ℕ) (steps : List (KeptStep FlatMemory)) (index : ℕ)
    (step new : KeptStep FlatMemory) (place : ℕ) (said : Option Act) (effect : KeptEffect) (stop : Stop) (x y : Context)
    → index < length steps → IsAct said (slice_get (acts_of s (step_of filled (get_or steps index step))) place)
    → IfSome said (λ act. effect_of s how act x ≡ effect_by s effect stop y) → (effect ≡ kept.Stops → y ≡ x)
    → ((death : Death) → effect ≡ kept.Exits death → y ≡ x)
    → ((p : ℕ) → said ≡ slice_get (acts_of s (step_of filled (get_or steps index step))) p
    → acts_at s (step_of filled new) (p + 1) ≡ acts_at s (step_of filled (get_or steps index step)) (p + 1))
    → advance s how (left_in s filled (drop index steps) place) x
    ≡ next_outcome s how (Some effect) (left_in s filled (drop index (slice_set steps index new)) (place + 1))
    (left_in s filled (drop (index + 1) (slice_set steps index new)) 0) stop y
act_next s how filled steps index step new place said effect stop x y within is done stays exits after =
    let act = act_is said (slice_get (acts_of s (step_of filled (get_or steps index step))) place) is in
    let rest = left_in s filled (drop index steps) (place + 1) in
    let at : effect_of s how act.0 x ≡ effect_by s effect stop y = rw act.1 at done in
    ap (λ acts. advance s how acts x) (next_left s filled steps index step place act.0 within act.2)
    ∙ ap (λ e. outcome_by e rest x (advance s how rest)) at
    ∙ done_leads s how effect stop x y rest stays exits
    ∙ ap (λ acts. act_outcome s how effect acts stop y)
    (sym (set_left s filled steps index step new (place + 1) within (after place (act.1 ∙ sym act.2))))

pub act_none : (s : Setting) (how : Resume) (filled : List ℕ) (steps : List (KeptStep FlatMemory)) (index : ℕ)
    (step new : KeptStep FlatMemory) (place : ℕ) (stop : Stop) (x : Context) → index < length steps
    → None ≡ option_map Some (slice_get (acts_of s (step_of filled (get_or steps index step))) place)
    → advance s how (left_in s filled (drop index steps) place) x
    ≡ next_outcome s how None (left_in s filled (drop index (slice_set steps index new)) (place + 1))
    (left_in s filled (drop (index + 1) (slice_set steps index new)) 0) stop x
act_none s how filled steps index step new place stop x within is =
    ap (λ acts. advance s how acts x) (none_left s filled steps index step place within is)
    ∙ ap (λ left. advance s how (left_in s filled left 0) x)
    (sym (drop-set-lt (index + 1) steps index new (omega arith)))
