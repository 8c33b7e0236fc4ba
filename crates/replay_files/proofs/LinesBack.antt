-- The words of each row and each command say that row and that command.
use Rattle.std.proofs.Common.{refl, ◌≡◌, ◌^◌, ◌-◌, ◌<◌, ◌≤◌, ℕ, Bool, true, false, List, Ok, arith, codes, decimal}
use Rattle.std.proofs.Common.{ap, sym, ◌∙◌, lit<}
use Rattle.trace_record.specs.declared.stop.Stop.{Stop}
use Rattle.trace_record.specs.declared.stop.Stop.TheVariants as stop
use Rattle.trace_record.specs.declared.resume.Kind.{Kind}
use Rattle.trace_record.specs.declared.resume.Kind.TheVariants as kind
use Rattle.trace_record.specs.declared.resume.Resume.{Resume}
use Rattle.trace_record.specs.declared.death.Death.TheVariants as death
use Rattle.stop_history.specs.declared.roster.Row.{Row}
use Rattle.stop_history.specs.Roster.{is_id}
use Rattle.stop_history.specs.declared.limits.TheConstants.{TRACERS}
use Rattle.replay_files.specs.declared.command.Command.{Command}
use Rattle.replay_files.specs.declared.command.Command.TheVariants as command
use Rattle.replay_files.specs.declared.grammar.Line.TheVariants as line
use Rattle.replay_files.specs.declared.grammar.Numbered.{Numbered}
use Rattle.replay_files.specs.declared.grammar.Numbered.TheVariants as numbered
use Rattle.replay_files.specs.Command.{IsCommand}
use Rattle.replay_files.specs.Grammar.{claim_line, exit_line, kind_of, numbered_stop, plain_stop, publish_numbered}
use Rattle.replay_files.specs.Grammar.{publish_ending, publish_plain}
use Rattle.replay_files.specs.Grammar.{replay_line_of, resume_line, state_line, stop_with_number, tracer_number}
use Rattle.text_lines.specs.Ranges.{◌>>=◌, number_between}
use Rattle.trace_options.specs.declared.signal.TheConstants.{LAST_SIGNAL}
use Rattle.replay_files.specs.Spelling.{IsSpelledCommand, command_words, kind_word, row_words}
use Rattle.text_lines.proofs.Decimals.{decimal_between}
use Rattle.text_lines.proofs.Spelled.{AreWords, is_word}
use Rattle.trace_script.specs.RowWords.{id_of}
use Rattle.trace_script.proofs.RowsBack.{HasRanges, id_read, id_word, row_are_words, row_read, up_to_last}

-- ---- rows

pub row_line_read : (row : Row) → HasRanges row → replay_line_of false (row_words row) ≡ Ok (line.Row row)
row_line_read row has = ap (λ r. r >>= λ row. Ok (line.Row row)) (row_read row has)

pub row_line_are_words : (row : Row) → HasRanges row → AreWords (row_words row)
row_line_are_words row has = (refl, row_are_words row has)

-- ---- commands

pub tracer_read : (c : ℕ) → c < TRACERS → tracer_number (decimal c) ≡ Ok c
tracer_read c some = decimal_between 0 (TRACERS - 1) c (omega arith) (omega arith) (lit< tt)

plain_said : (tid name : List ℕ) (t : ℕ) (s : Stop) → id_of tid ≡ Ok t → plain_stop name ≡ Ok s
    → publish_plain tid name ≡ Ok (line.Command t (command.Publish s))
plain_said tid name t s id is =
    ap (λ r. r >>= λ s. id_of tid >>= λ t. Ok (line.Command t (command.Publish s))) is
    ∙ ap (λ r. r >>= λ t. Ok (line.Command t (command.Publish s))) id

numbered_said : (tid name number : List ℕ) (w : Numbered) (t : ℕ) (s : Stop) → id_of tid ≡ Ok t
    → numbered_stop name ≡ Ok w → stop_with_number w number ≡ Ok s
    → publish_numbered tid name number ≡ Ok (line.Command t (command.Publish s))
numbered_said tid name number w t s id is says =
    ap (λ r. r >>= λ w. id_of tid >>= λ t. stop_with_number w number
    >>= λ s. Ok (line.Command t (command.Publish s))) is
    ∙ ap (λ r. r >>= λ t. stop_with_number w number >>= λ s. Ok (line.Command t (command.Publish s))) id
    ∙ ap (λ r. r >>= λ s. Ok (line.Command t (command.Publish s))) says

claim_said : (tid tracer : List ℕ) (t c : ℕ) → id_of tid ≡ Ok t → tracer_number tracer ≡ Ok c
    → claim_line tid tracer ≡ Ok (line.Command t (command.Claim c))
claim_said tid tracer t c id is =
    ap (λ r. r >>= λ t. tracer_number tracer >>= λ c. Ok (line.Command t (command.Claim c))) id
    ∙ ap (λ r. r >>= λ c. Ok (line.Command t (command.Claim c))) is

resume_said : (tid tracer name signal : List ℕ) (t c : ℕ) (how : Resume) → id_of tid ≡ Ok t
    → tracer_number tracer ≡ Ok c
    → kind_of name ≡ Ok how.kind → number_between 0 LAST_SIGNAL signal ≡ Ok how.signal
    → resume_line tid tracer name signal ≡ Ok (line.Command t (command.Resume c how))
resume_said tid tracer name signal t c how id is kind handed =
    ap (λ r. r >>= λ k. id_of tid >>= λ t. tracer_number tracer >>= λ c. number_between 0 LAST_SIGNAL signal >>= λ s. Ok
    (line.Command t (command.Resume c (record { kind = k; signal = s })))) kind
    ∙ ap (λ r. r >>= λ t. tracer_number tracer >>= λ c. number_between 0 LAST_SIGNAL signal >>= λ s. Ok
    (line.Command t (command.Resume c (record { kind = how.kind; signal = s })))) id
    ∙ ap (λ r. r >>= λ c. number_between 0 LAST_SIGNAL signal >>= λ s. Ok
    (line.Command t (command.Resume c (record { kind = how.kind; signal = s })))) is
    ∙ ap (λ r. r >>= λ s. Ok (line.Command t (command.Resume c (record { kind = how.kind; signal = s })))) handed

exited_said : (tid number : List ℕ) (t n : ℕ) → id_of tid ≡ Ok t → number_between 0 255 number ≡ Ok n
    → exit_line tid (codes "exited") number ≡ Ok (line.Command t (command.Exit (death.Exited n)))
exited_said tid number t n id is =
    ap (λ r. r >>= λ t. (number_between 0 255 number >>= λ n. Ok (death.Exited n)) >>= λ d. Ok
    (line.Command t (command.Exit d))) id
    ∙ ap (λ r. (r >>= λ n. Ok (death.Exited n)) >>= λ d. Ok (line.Command t (command.Exit d))) is

killed_said : (tid number : List ℕ) (t n : ℕ) → id_of tid ≡ Ok t → number_between 1 LAST_SIGNAL number ≡ Ok n
    → exit_line tid (codes "killed") number ≡ Ok (line.Command t (command.Exit (death.Signaled n false)))
killed_said tid number t n id is =
    ap (λ r. r >>= λ t. (number_between 1 LAST_SIGNAL number >>= λ n. Ok (death.Signaled n false)) >>= λ d. Ok
    (line.Command t (command.Exit d))) id
    ∙ ap (λ r. (r >>= λ n. Ok (death.Signaled n false)) >>= λ d. Ok (line.Command t (command.Exit d))) is

ending_exited_said : (tid number : List ℕ) (t n : ℕ) → id_of tid ≡ Ok t → number_between 0 255 number ≡ Ok n
    → publish_ending tid (codes "ending") (codes "exited") number
    ≡ Ok (line.Command t (command.Publish (stop.Ending (death.Exited n))))
ending_exited_said tid number t n id is =
    ap (λ r. r >>= λ t. (number_between 0 255 number >>= λ n. Ok (death.Exited n)) >>= λ d. Ok
    (line.Command t (command.Publish (stop.Ending d)))) id
    ∙ ap (λ r. (r >>= λ n. Ok (death.Exited n)) >>= λ d. Ok (line.Command t (command.Publish (stop.Ending d)))) is

ending_killed_said : (tid number : List ℕ) (t n : ℕ) → id_of tid ≡ Ok t → number_between 1 LAST_SIGNAL number ≡ Ok n
    → publish_ending tid (codes "ending") (codes "killed") number
    ≡ Ok (line.Command t (command.Publish (stop.Ending (death.Signaled n false))))
ending_killed_said tid number t n id is =
    ap (λ r. r >>= λ t. (number_between 1 LAST_SIGNAL number >>= λ n. Ok (death.Signaled n false)) >>= λ d. Ok
    (line.Command t (command.Publish (stop.Ending d)))) id
    ∙ ap (λ r. (r >>= λ n. Ok (death.Signaled n false)) >>= λ d. Ok
    (line.Command t (command.Publish (stop.Ending d)))) is

state_said : (tid : List ℕ) (t : ℕ) → id_of tid ≡ Ok t → state_line tid ≡ Ok (line.Command t command.State)
state_said tid t id = ap (λ r. r >>= λ t. Ok (line.Command t command.State)) id

pub kind_read : (k : Kind) → kind_of (kind_word k) ≡ Ok k
kind_read kind.Syscall = refl
kind_read kind.Cont = refl

pub kind_is_word : (k : Kind) → is_word (kind_word k) ≡ true
kind_is_word kind.Syscall = refl
kind_is_word kind.Cont = refl

id_stop : (w : ℕ → Stop) (n : ℕ) → is_id n ≡ true → (id_of (decimal n) >>= λ n. Ok (w n)) ≡ Ok (w n)
id_stop w n id = ap (λ r. r >>= λ n. Ok (w n)) (id_read n id)

range_stop : (w : ℕ → Stop) (low high n : ℕ) → low ≤ n → n ≤ high → high < 2 ^ 64
    → (number_between low high (decimal n) >>= λ n. Ok (w n)) ≡ Ok (w n)
range_stop w low high n least most small = ap (λ r. r >>= λ n. Ok (w n)) (decimal_between low high n least most small)

-- the words of a command say it
command_read : (tid : ℕ) (c : Command) → is_id tid ≡ true → IsCommand c → IsSpelledCommand c
    → replay_line_of false (command_words tid c) ≡ Ok (line.Command tid c)
command_read tid (command.Publish stop.Start) id range spelled =
    plain_said (decimal tid) (codes "start") tid stop.Start (id_read tid id) refl
command_read tid (command.Publish stop.Enter) id range spelled =
    plain_said (decimal tid) (codes "enter") tid stop.Enter (id_read tid id) refl
command_read tid (command.Publish stop.Exit) id range spelled =
    plain_said (decimal tid) (codes "exit") tid stop.Exit (id_read tid id) refl
command_read tid (command.Publish (stop.Seccomp n)) id range spelled =
    numbered_said (decimal tid) (codes "seccomp") (decimal n) numbered.Seccomp tid (stop.Seccomp n) (id_read tid id)
    refl (range_stop (λ n. stop.Seccomp n) 0 65535 n (omega arith) (omega arith) (lit< tt))
command_read tid (command.Publish (stop.Fork n)) id range spelled =
    numbered_said (decimal tid) (codes "fork") (decimal n) numbered.Fork tid (stop.Fork n) (id_read tid id) refl
    (id_stop (λ n. stop.Fork n) n spelled)
command_read tid (command.Publish (stop.Clone n)) id range spelled =
    numbered_said (decimal tid) (codes "clone") (decimal n) numbered.Clone tid (stop.Clone n) (id_read tid id) refl
    (id_stop (λ n. stop.Clone n) n spelled)
command_read tid (command.Publish (stop.Exec n)) id range spelled =
    numbered_said (decimal tid) (codes "exec") (decimal n) numbered.Exec tid (stop.Exec n) (id_read tid id) refl
    (id_stop (λ n. stop.Exec n) n spelled)
command_read tid (command.Publish (stop.Signal n)) id range spelled =
    numbered_said (decimal tid) (codes "signal") (decimal n) numbered.Signal tid (stop.Signal n) (id_read tid id) refl
    (range_stop (λ n. stop.Signal n) 1 LAST_SIGNAL n range.0 range.1 (lit< tt))
command_read tid (command.Publish (stop.Ending (death.Exited n))) id range spelled =
    ending_exited_said (decimal tid) (decimal n) tid n (id_read tid id)
    (decimal_between 0 255 n (omega arith) (omega arith) (lit< tt))
command_read tid (command.Publish (stop.Ending (death.Signaled n core))) id range spelled =
    ending_killed_said (decimal tid) (decimal n) tid n (id_read tid id)
    (decimal_between 1 LAST_SIGNAL n range.0 range.1 (lit< tt))
    ∙ ap (λ b. Ok (line.Command tid (command.Publish (stop.Ending (death.Signaled n b))))) (sym spelled)
command_read tid (command.Claim c) id range spelled =
    claim_said (decimal tid) (decimal c) tid c (id_read tid id) (tracer_read c spelled)
command_read tid (command.Resume c how) id range spelled =
    resume_said (decimal tid) (decimal c) (kind_word how.kind) (decimal how.signal) tid c how (id_read tid id)
    (tracer_read c spelled) (kind_read how.kind)
    (decimal_between 0 LAST_SIGNAL how.signal (omega arith) range (lit< tt))
command_read tid (command.Exit (death.Exited n)) id range spelled =
    exited_said (decimal tid) (decimal n) tid n (id_read tid id)
    (decimal_between 0 255 n (omega arith) (omega arith) (lit< tt))
command_read tid (command.Exit (death.Signaled n core)) id range spelled =
    killed_said (decimal tid) (decimal n) tid n (id_read tid id)
    (decimal_between 1 LAST_SIGNAL n range.0 range.1 (lit< tt))
    ∙ ap (λ b. Ok (line.Command tid (command.Exit (death.Signaled n b)))) (sym spelled)
command_read tid command.State id range spelled = state_said (decimal tid) tid (id_read tid id)

-- a command reads the same before and after the first of them
said_again : (tid : ℕ) (c : Command)
    → replay_line_of true (command_words tid c) ≡ replay_line_of false (command_words tid c)
said_again tid (command.Publish s) = refl
said_again tid (command.Claim c) = refl
said_again tid (command.Resume c how) = refl
said_again tid (command.Exit d) = refl
said_again tid command.State = refl

pub command_line_read : (begun : Bool) (tid : ℕ) (c : Command) → is_id tid ≡ true → IsCommand c → IsSpelledCommand c
    → replay_line_of begun (command_words tid c) ≡ Ok (line.Command tid c)
command_line_read true tid c id range spelled = said_again tid c ∙ command_read tid c id range spelled
command_line_read false tid c id range spelled = command_read tid c id range spelled

pub command_are_words : (tid : ℕ) (c : Command) → is_id tid ≡ true → IsCommand c → IsSpelledCommand c
    → AreWords (command_words tid c)
command_are_words tid (command.Publish stop.Start) id range spelled = (refl, (id_word tid id, (refl, tt)))
command_are_words tid (command.Publish stop.Enter) id range spelled = (refl, (id_word tid id, (refl, tt)))
command_are_words tid (command.Publish stop.Exit) id range spelled = (refl, (id_word tid id, (refl, tt)))
command_are_words tid (command.Publish (stop.Seccomp n)) id range spelled =
    (refl, (id_word tid id, (refl, (up_to_last n (omega arith), tt))))
command_are_words tid (command.Publish (stop.Fork n)) id range spelled =
    (refl, (id_word tid id, (refl, (id_word n spelled, tt))))
command_are_words tid (command.Publish (stop.Clone n)) id range spelled =
    (refl, (id_word tid id, (refl, (id_word n spelled, tt))))
command_are_words tid (command.Publish (stop.Exec n)) id range spelled =
    (refl, (id_word tid id, (refl, (id_word n spelled, tt))))
command_are_words tid (command.Publish (stop.Signal n)) id range spelled =
    (refl, (id_word tid id, (refl, (up_to_last n (omega arith), tt))))
command_are_words tid (command.Publish (stop.Ending (death.Exited n))) id range spelled =
    (refl, (id_word tid id, (refl, (refl, (up_to_last n (omega arith), tt)))))
command_are_words tid (command.Publish (stop.Ending (death.Signaled n core))) id range spelled =
    (refl, (id_word tid id, (refl, (refl, (up_to_last n (omega arith), tt)))))
command_are_words tid (command.Claim c) id range spelled = (refl, (id_word tid id, (up_to_last c (omega arith), tt)))
command_are_words tid (command.Resume c how) id range spelled = (
  refl,
  (
    id_word tid id,
    (up_to_last c (omega arith), (kind_is_word how.kind, (up_to_last how.signal (omega arith), tt))),
  ),
)
command_are_words tid (command.Exit (death.Exited n)) id range spelled =
    (refl, (id_word tid id, (refl, (up_to_last n (omega arith), tt))))
command_are_words tid (command.Exit (death.Signaled n core)) id range spelled =
    (refl, (id_word tid id, (refl, (up_to_last n (omega arith), tt))))
command_are_words tid command.State id range spelled = (refl, (id_word tid id, tt))
