-- The reply after a command's `=`, by its words and by the command: what the command is to be answered, or the first
-- fault in the order of causes. All words are tested (UnknownWord) before any number (BadNumber).
use Rattle.std.specs.Prelude.{◌==◌, ◌&&◌, ◌||◌, ◌-◌, ◌^◌, ◌∷◌, [], ℕ, Bool, false, List, length, codes, bytes_eq, Some}
use Rattle.std.specs.Prelude.{None, Option, Result, Ok, Err, if◌then◌else◌}
use Rattle.stop_history.specs.declared.limits.TheConstants.{LAST_NUMBER}
use Rattle.stop_history.specs.declared.refused.Refused.{Refused}
use Rattle.stop_history.specs.declared.refused.Refused.TheVariants as refused
use Rattle.stop_program.specs.declared.reply.WantedAnswer.{WantedAnswer}
use Rattle.stop_program.specs.declared.reply.WantedAnswer.TheVariants as answer
use Rattle.stop_program.specs.declared.reply.WantedGot.{WantedGot}
use Rattle.stop_program.specs.declared.reply.WantedGot.TheVariants as got
use Rattle.stop_program.specs.declared.reply.WantedState.{WantedState}
use Rattle.stop_program.specs.declared.reply.WantedState.TheVariants as state
use Rattle.text_lines.specs.declared.fault.LineFault.{LineFault}
use Rattle.text_lines.specs.declared.fault.LineFault.TheVariants.{UnknownWord}
use Rattle.text_lines.specs.Keywords.{value_beside}
use Rattle.text_lines.specs.Lines.{nth_word}
use Rattle.text_lines.specs.Ranges.{◌>>=◌, number_between}
use Rattle.trace_script.specs.RowWords.{id_of}
use Rattle.litmus_files.specs.declared.keyword.CommandKeyword.{CommandKeyword}
use Rattle.litmus_files.specs.declared.keyword.CommandKeyword.TheVariants as keyword
use Rattle.litmus_files.specs.declared.line.LitmusReply.{LitmusReply}
use Rattle.litmus_files.specs.declared.reply.GotWord.{GotWord}
use Rattle.litmus_files.specs.declared.reply.GotWord.TheVariants as got_word
use Rattle.replay_files.specs.declared.state_name.StateName.{StateName}
use Rattle.replay_files.specs.declared.state_name.StateName.TheVariants as name
use Rattle.replay_files.specs.Grammar.{tracer_number}
use Rattle.replay_files.specs.StateName.{state_names}

-- ---- words

-- in the place of a TID: whichever tracee has something, whichever of a group, and the one that the thread claimed last
abbrev pub is_any_word : List ℕ → Bool
is_any_word word = bytes_eq word (codes "any")

abbrev pub is_group_word : List ℕ → Bool
is_group_word word = bytes_eq word (codes "group")

abbrev pub is_it_word : List ℕ → Bool
is_it_word word = bytes_eq word (codes "it")

-- in the place of a number, or of the name of a refusal
abbrev pub is_star : List ℕ → Bool
is_star word = bytes_eq word (codes "*")

-- `named` is the word in the place of a command's TID. A command that takes any of several tracees is told which.
abbrev pub names_several : CommandKeyword → (named : List ℕ) → Bool
names_several keyword.Claim named = is_any_word named || is_group_word named
names_several keyword.Wait named = is_any_word named || is_group_word named
names_several keyword.Look named = is_any_word named || is_group_word named
names_several keyword.Peek named = is_any_word named || is_group_word named
names_several other named = false

-- what a claim can get
abbrev pub got_words : List (List ℕ × GotWord)
got_words = (codes "stop", got_word.Stop) ∷ (codes "ended", got_word.Ended) ∷ []

-- the refusals that a publish does not wait out
abbrev pub publish_refusals : List (List ℕ × Refused)
publish_refusals = (codes "NotNext", refused.NotNext) ∷ (codes "Full", refused.Full) ∷ []

-- the refusals of a claim or a look at once
abbrev pub claim_refusals : List (List ℕ × Refused)
claim_refusals = (codes "Unborn", refused.Unborn) ∷ (codes "NotWaitable", refused.NotWaitable) ∷ []

-- the refusals of a resume
abbrev pub resume_refusals : List (List ℕ × Refused)
resume_refusals =
    (codes "Unborn", refused.Unborn) ∷ (codes "NotClaimed", refused.NotClaimed) ∷ (codes "NotHolder", refused.NotHolder)
    ∷ []

-- ---- numbers

-- the number of a stop; 0 of a row that has made none
abbrev pub stop_number : List ℕ → Result ℕ LineFault
stop_number word = number_between 0 LAST_NUMBER word

-- a raw wait status
abbrev pub status_number : List ℕ → Result ℕ LineFault
status_number word = number_between 0 (2 ^ 32 - 1) word

-- `*` leaves open what is in its place
abbrev pub unless_star : {A : Type 0} → (word : List ℕ) → Result A LineFault → Result (Option A) LineFault
unless_star word read = if is_star word then Ok None else (read >>= λ a. Ok (Some a))

abbrev pub wanted_stop : List ℕ → Result (Option ℕ) LineFault
wanted_stop word = unless_star word (stop_number word)

abbrev pub wanted_status : List ℕ → Result (Option ℕ) LineFault
wanted_status word = unless_star word (status_number word)

abbrev pub wanted_tracer : List ℕ → Result (Option ℕ) LineFault
wanted_tracer word = unless_star word (tracer_number word)

-- ---- stops, deaths and states

abbrev pub got_with_numbers : GotWord → (number status : Option ℕ) → WantedGot
got_with_numbers got_word.Stop number status = got.Stop number status
got_with_numbers got_word.Ended number status = got.Ended number status

-- stop N STATUS, ended N STATUS
abbrev pub got_of_words : (name number status : List ℕ) → Result WantedGot LineFault
got_of_words name number status = do
  w ← value_beside got_words name
  n ← wanted_stop number
  s ← wanted_status status
  Ok (got_with_numbers w n s)

-- what a look sees is left there
abbrev pub got_told : CommandKeyword → WantedGot → WantedAnswer
got_told keyword.Look got = answer.Saw got
got_told keyword.Peek got = answer.Saw got
got_told other got = answer.Got got

-- a state that is one word
abbrev pub plain_state : StateName → Result WantedState LineFault
plain_state name.Unborn = Ok state.Unborn
plain_state name.Running = Ok state.Running
plain_state name.Reaped = Ok state.Reaped
plain_state other = Err UnknownWord

-- stopped N STATUS, claimed N TRACER, dead N STATUS
abbrev pub numbered_state : StateName → (number last : List ℕ) → Result WantedState LineFault
numbered_state name.Stopped number status =
    wanted_stop number >>= λ n. wanted_status status >>= λ s. Ok (state.Stopped n s)
numbered_state name.Claimed number tracer =
    wanted_stop number >>= λ n. wanted_tracer tracer >>= λ c. Ok (state.Claimed n c)
numbered_state name.Dead number status =
    wanted_stop number >>= λ n. wanted_status status >>= λ s. Ok (state.Dead n s)
numbered_state other number last = Err UnknownWord

-- the states of a replay
abbrev pub state_of_words : List (List ℕ) → Result WantedState LineFault
state_of_words words =
    if length words == 1 then (value_beside state_names (nth_word words 0) >>= plain_state)
    else if length words == 3
    then (value_beside state_names (nth_word words 0) >>= λ named.
    numbered_state named (nth_word words 1) (nth_word words 2))
    else Err UnknownWord

-- ---- what a command may be answered about a tracee

abbrev pub wanted_refusal : (refusals : List (List ℕ × Refused)) → List ℕ → Result (Option Refused) LineFault
wanted_refusal refusals word = unless_star word (value_beside refusals word)

-- refused NAME, refused *
abbrev pub refused_reply : (refusals : List (List ℕ × Refused)) → List (List ℕ) → Result WantedAnswer LineFault
refused_reply refusals words =
    if length words == 2 && bytes_eq (nth_word words 0) (codes "refused")
    then (wanted_refusal refusals (nth_word words 1) >>= λ refusal. Ok (answer.Refused refusal))
    else Err UnknownWord

-- published N, refused NotNext, refused Full, refused *
abbrev pub publish_reply : List (List ℕ) → Result WantedAnswer LineFault
publish_reply words =
    if length words == 2 && bytes_eq (nth_word words 0) (codes "published")
    then (wanted_stop (nth_word words 1) >>= λ n. Ok (answer.Number n))
    else refused_reply publish_refusals words

-- exited
abbrev pub exit_reply : List (List ℕ) → Result WantedAnswer LineFault
exit_reply words =
    if length words == 1 && bytes_eq (nth_word words 0) (codes "exited") then Ok answer.Done else Err UnknownWord

abbrev pub state_reply : List (List ℕ) → Result WantedAnswer LineFault
state_reply words = state_of_words words >>= λ s. Ok (answer.State s)

-- stop N STATUS, ended N STATUS
abbrev pub got_reply : CommandKeyword → List (List ℕ) → Result WantedAnswer LineFault
got_reply keyword words =
    if length words == 3
    then (got_of_words (nth_word words 0) (nth_word words 1) (nth_word words 2) >>= λ g. Ok (got_told keyword g))
    else Err UnknownWord

-- of a claim or a peek: these; of one for a TID also refused Unborn, refused NotWaitable, refused *
abbrev pub claim_row_reply : CommandKeyword → (named : List ℕ) → List (List ℕ) → Result WantedAnswer LineFault
claim_row_reply keyword named words =
    if length words == 3 then got_reply keyword words
    else if names_several keyword named then Err UnknownWord
    else refused_reply claim_refusals words

-- resumed, refused Unborn, refused NotClaimed, refused NotHolder, refused *
abbrev pub resume_reply : List (List ℕ) → Result WantedAnswer LineFault
resume_reply words =
    if length words == 1 && bytes_eq (nth_word words 0) (codes "resumed") then Ok answer.Done
    else refused_reply resume_refusals words

-- killed, dead
abbrev pub kill_reply : List (List ℕ) → Result WantedAnswer LineFault
kill_reply words =
    if length words == 1 && bytes_eq (nth_word words 0) (codes "killed") then Ok answer.Done
    else if length words == 1 && bytes_eq (nth_word words 0) (codes "dead") then Ok answer.Dead
    else Err UnknownWord

abbrev pub row_reply : CommandKeyword → (named : List ℕ) → List (List ℕ) → Result WantedAnswer LineFault
row_reply keyword.Publish named words = publish_reply words
row_reply keyword.Exit named words = exit_reply words
row_reply keyword.State named words = state_reply words
row_reply keyword.Claim named words = claim_row_reply keyword.Claim named words
row_reply keyword.Wait named words = got_reply keyword.Wait words
row_reply keyword.Look named words = got_reply keyword.Look words
row_reply keyword.Peek named words = claim_row_reply keyword.Peek named words
row_reply keyword.Resume named words = resume_reply words
row_reply keyword.Kill named words = kill_reply words
row_reply keyword.ExitGroup named words = exit_reply words

-- ---- what a command may be answered about no tracee

-- no child
abbrev pub no_child_reply : List (List ℕ) → Result WantedAnswer LineFault
no_child_reply words =
    if length words == 2 && (bytes_eq (nth_word words 0) (codes "no") && bytes_eq (nth_word words 1) (codes "child"))
    then Ok answer.NoChild
    else Err UnknownWord

abbrev pub nothing_reply : List (List ℕ) → Result WantedAnswer LineFault
nothing_reply words =
    if length words == 1 && bytes_eq (nth_word words 0) (codes "nothing") then Ok answer.Nothing else Err UnknownWord

-- of a claim or a peek for several tracees: nothing, no child
abbrev pub scan_reply : CommandKeyword → (named : List ℕ) → List (List ℕ) → Result WantedAnswer LineFault
scan_reply keyword named words =
    if names_several keyword named then (if length words == 1 then nothing_reply words else no_child_reply words)
    else Err UnknownWord

-- of a resume of `it`: nothing
abbrev pub none_reply : CommandKeyword → (named : List ℕ) → List (List ℕ) → Result WantedAnswer LineFault
none_reply keyword.Claim named words = scan_reply keyword.Claim named words
none_reply keyword.Wait named words = no_child_reply words
none_reply keyword.Look named words = no_child_reply words
none_reply keyword.Peek named words = scan_reply keyword.Peek named words
none_reply keyword.Resume named words = if is_it_word named then nothing_reply words else Err UnknownWord
none_reply other named words = Err UnknownWord

-- ---- the reply to each command

abbrev pub without_tid : Result WantedAnswer LineFault → Result LitmusReply LineFault
without_tid told = told >>= λ a. Ok (record { tid = None; answer = a })

abbrev pub tid_before : (tid : List ℕ) → Result WantedAnswer LineFault → Result LitmusReply LineFault
tid_before tid told = do
  a ← told
  t ← id_of tid
  Ok (record { tid = Some t; answer = a })

-- of several tracees a reply names the one that it is about
abbrev pub bare_reply : CommandKeyword → (named : List ℕ) → List (List ℕ) → Result WantedAnswer LineFault
bare_reply keyword named words = if names_several keyword named then Err UnknownWord else row_reply keyword named words

abbrev pub tid_reply : CommandKeyword → (named : List ℕ) → List (List ℕ) → Result LitmusReply LineFault
tid_reply keyword named [] = Err UnknownWord
tid_reply keyword named (tid ∷ words) = tid_before tid (row_reply keyword named words)

-- what is read, or something else where its words are not known
abbrev pub or_else : Result LitmusReply LineFault → Result LitmusReply LineFault → Result LitmusReply LineFault
or_else (Err UnknownWord) other = other
or_else read other = read

-- about no tracee; or about one, which its TID may name before it
abbrev pub reply_of_words : CommandKeyword → (named : List ℕ) → List (List ℕ) → Result LitmusReply LineFault
reply_of_words keyword named words =
    or_else (without_tid (none_reply keyword named words))
    (or_else (without_tid (bare_reply keyword named words)) (tid_reply keyword named words))
