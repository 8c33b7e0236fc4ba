-- Texts of turns: one turn more, the last one taken back, and what they are texts of.
use Rattle.std.proofs.Common.{refl, ◌≡◌, ◌++◌, ◌∷◌, [], ℕ, Bool, true, false, List, Option, Some, None}
use Rattle.std.proofs.Common.{◌<◌, ◌≤◌, ◌+◌, ◌-◌, length, get_or, take, slice_get, slice_set, codes, ◌∙◌, ap, sym, subst}
use Rattle.std.proofs.Common.{append_assoc, append-nil, arith, inl, inr, if◌then◌else◌}
use Rattle.std.proofs.lemmas.List.{length-append, length-set, length_push, map-append, set_past}
use Rattle.std.proofs.lemmas.Option.{same_Some, slice_get_within}
use Rattle.std.proofs.Math.Seq.{get_or-append_seam, take-append_seam}
use Rattle.std.proofs.lemmas.Bool.{cases_lt}
use Rattle.std.proofs.lemmas.Bool.Decides.{eqb_tells}
use Rattle.stop_history.specs.declared.roster.Row.{Row}
use Rattle.stop_history.specs.declared.state.State.{State}
use Rattle.stop_program.specs.declared.command.ThreadCommand.{ThreadCommand}
use Rattle.stop_program.specs.declared.turn.Turn.{Turn}
use Rattle.stop_program.specs.Program.{Log, command_after, index_after, index_from, own_turns}
use Rattle.stop_program.specs.Progress.{is_quiet}
use Rattle.stop_program.specs.Run.{EndedRun}
use Rattle.stop_program.proofs.Slices.{slice_last, slice_left}
use Rattle.stop_program.proofs.Logs.{own_none, own_one, progress_one}
use Rattle.outcome_text.proofs.SetLists.{get_set_other, set_there}
use Rattle.outcome_text.specs.declared.turn_texts.WrittenTurn.{WrittenTurn}
use Rattle.outcome_text.specs.AnswerText.{answer_text}
use Rattle.litmus_files.specs.CommandText.{command_text}
use Rattle.outcome_text.specs.KeptLines.{AreLinesKept}
use Rattle.outcome_text.specs.OutcomeText.{command_of_turn, done_line, name_at, order_lines, order_text, quiet_line}
use Rattle.outcome_text.specs.OutcomeText.{thread_head, thread_lines, thread_text, thread_word, told_lines, turn_line}
use Rattle.outcome_text.specs.OutcomeText.{waiting_line}
use Rattle.outcome_text.specs.TurnTexts.{AreBeforeTurns, AreWrittenTurns, AreTextsOf, EndsLine, IsWrittenTurn, TextSource, TextsOfTurns, ThreadText}
use Rattle.outcome_text.specs.TurnTexts.{closing_line, own_lines, thread_after_turn, thread_so_far, turns_written}

-- ---- one turn more

own_lines_one : (rows : List Row) (commands : List ThreadCommand) (at : ℕ) (turns : List Turn) (turn : Turn)
    → own_lines rows commands at (turns ++ turn ∷ [])
    ≡ own_lines rows commands at turns ++ done_line rows turn (slice_get commands (index_from commands at turns))
unfolding own_lines index_from
own_lines_one rows commands at [] turn = append-nil (done_line rows turn (slice_get commands at))
own_lines_one rows commands at (first ∷ turns) turn =
    let next = index_after (slice_get commands at) at first.answer in
    let line = done_line rows first (slice_get commands at) in
    ap (λ lines. line ++ lines) (own_lines_one rows commands next turns turn)
    ∙ sym (append_assoc line (own_lines rows commands next turns)
    (done_line rows turn (slice_get commands (index_from commands next turns))))

one_line : (head : List ℕ) (quiet : Bool) (lines line more : List ℕ) → more ≡ lines ++ line
    → head ++ (if quiet then [] else more) ≡ (head ++ (if quiet then [] else lines)) ++ (if quiet then [] else line)
one_line head true lines line more is = sym (append-nil (head ++ []))
one_line head false lines line more is = ap (λ t. head ++ t) is ∙ sym (append_assoc head lines line)

-- of a thread
pub thread_one : (t : TextSource) (thread : ℕ) (own : List Turn) (turn : Turn)
    → thread_so_far t thread (own ++ turn ∷ [])
    ≡ thread_after_turn (is_quiet t.voices thread) (t.commands thread) turn
    (done_line t.rows turn (slice_get (t.commands thread) (thread_so_far t thread own).next)) (thread_so_far t thread own)
thread_one t thread own turn =
    let commands = t.commands thread in
    let texts = one_line (thread_head (thread + 1) (name_at t.names thread)) (is_quiet t.voices thread)
    (own_lines t.rows commands 0 own) (done_line t.rows turn (slice_get commands (index_from commands 0 own)))
    (own_lines t.rows commands 0 (own ++ turn ∷ [])) (own_lines_one t.rows commands 0 own turn) in
    let nexts = ap (λ came. came.at) (progress_one false commands own turn) in
    λ i. record { text = texts i; next = nexts i }

order_lines_one : (rows : List Row) (names : List (Option (List ℕ))) (commands : ℕ → List ThreadCommand)
    (before turns : Log) (turn : Turn)
    → order_lines rows names commands before (turns ++ turn ∷ [])
    ≡ order_lines rows names commands before turns
    ++ turn_line rows (name_at names turn.thread) turn (command_of_turn commands (before ++ turns) turn)
unfolding order_lines
order_lines_one rows names commands before [] turn =
    append-nil (turn_line rows (name_at names turn.thread) turn (command_of_turn commands before turn))
    ∙ ap (λ log. turn_line rows (name_at names turn.thread) turn (command_of_turn commands log turn))
    (sym (append-nil before))
order_lines_one rows names commands before (first ∷ turns) turn =
    let after : Log = before ++ first ∷ [] in
    let line = turn_line rows (name_at names first.thread) first (command_of_turn commands before first) in
    let last : Log → List ℕ =
    λ log. turn_line rows (name_at names turn.thread) turn (command_of_turn commands log turn) in
    ap (λ lines. line ++ lines) (order_lines_one rows names commands after turns turn)
    ∙ ap (λ log. line ++ (order_lines rows names commands after turns ++ last log)) (append_assoc before (first ∷ []) turns)
    ∙ sym (append_assoc line (order_lines rows names commands after turns) (last (before ++ first ∷ turns)))

-- of the order
pub order_one : (t : TextSource) (turns : Log) (turn : Turn)
    → order_text t.rows t.names t.commands (turns ++ turn ∷ [])
    ≡ order_text t.rows t.names t.commands turns
    ++ turn_line t.rows (name_at t.names turn.thread) turn (command_of_turn t.commands turns turn)
order_one t turns turn =
    let lines = order_lines t.rows t.names t.commands [] turns in
    let line = turn_line t.rows (name_at t.names turn.thread) turn (command_of_turn t.commands turns turn) in
    ap (λ all. codes "order\n" ++ all) (order_lines_one t.rows t.names t.commands [] turns turn)
    ∙ sym (append_assoc (codes "order\n") lines line)

-- ---- kept turns

turns_one : (turns : List WrittenTurn) (kept : WrittenTurn)
    → turns_written (turns ++ kept ∷ []) ≡ turns_written turns ++ kept.turn ∷ []
turns_one turns kept = map-append (λ (told : WrittenTurn). told.turn) turns (kept ∷ [])

kept_one : (t : TextSource) (threads : ℕ) (before : Log) (turns : List WrittenTurn) (kept : WrittenTurn)
    → AreWrittenTurns t threads before turns → IsWrittenTurn t threads (before ++ turns_written turns) kept
    → AreWrittenTurns t threads before (turns ++ kept ∷ [])
unfolding AreWrittenTurns
kept_one t threads before [] kept are is =
    (subst (λ log. IsWrittenTurn t threads log kept) (append-nil before) is, tt)
kept_one t threads before (first ∷ turns) kept are is = (
  are.0,
  kept_one t threads (before ++ first.turn ∷ []) turns kept are.1
      (subst (λ log. IsWrittenTurn t threads log kept) (sym (append_assoc before (first.turn ∷ []) (turns_written turns))) is),
)

kept_last : (t : TextSource) (threads : ℕ) (before : Log) (turns : List WrittenTurn) (kept : WrittenTurn)
    → AreWrittenTurns t threads before (turns ++ kept ∷ [])
    → AreWrittenTurns t threads before turns × IsWrittenTurn t threads (before ++ turns_written turns) kept
unfolding AreWrittenTurns
kept_last t threads before [] kept are =
    (tt, subst (λ log. IsWrittenTurn t threads log kept) (sym (append-nil before)) are.0)
kept_last t threads before (first ∷ turns) kept are =
    let rest = kept_last t threads (before ++ first.turn ∷ []) turns kept are.1 in (
      (are.0, rest.0),
      subst (λ log. IsWrittenTurn t threads log kept) (append_assoc before (first.turn ∷ []) (turns_written turns))
          rest.1,
    )

-- ---- all texts

same_text : (quiet : Bool) (text : List ℕ) → text ≡ text ++ (if quiet then [] else [])
same_text true text = sym (append-nil text)
same_text false text = sym (append-nil text)

-- before any turn
pub thread_first : (t : TextSource) (thread : ℕ) (text : List ℕ) → text ≡ thread_head (thread + 1) (name_at t.names thread)
    → record { text = text; next = 0 } ≡ thread_so_far t thread []
unfolding own_lines index_from
thread_first t thread text is =
    let texts = is ∙ same_text (is_quiet t.voices thread) (thread_head (thread + 1) (name_at t.names thread)) in
    λ i. record { text = texts i; next = 0 }

pub first_more : (t : TextSource) (threads : List ThreadText) (first : ThreadText) → AreBeforeTurns t threads
    → first ≡ thread_so_far t (length threads) [] → AreBeforeTurns t (threads ++ first ∷ [])
first_more t threads first are is = λ thread within.
    elim (cases_lt thread (length threads)) [
      | inl less ↦ slice_left threads (first ∷ []) thread less ∙ are thread less
      | inr past ↦
          let last : length threads ≡ thread = omega (arith, past, within, length_push threads first) in
          subst (λ n. slice_get (threads ++ first ∷ []) n ≡ Some (thread_so_far t n [])) last
          (slice_last threads first ∙ ap Some is)
    ]

pub texts_none : (t : TextSource) (told : TextsOfTurns) → told.turns ≡ [] → AreBeforeTurns t told.threads
    → told.order ≡ codes "order\n" → length t.names ≤ length told.threads
    → ((thread : ℕ) → length told.threads ≤ thread → t.commands thread ≡ [])
    → AreLinesKept t.rows t.names t.commands told.lines → AreTextsOf t told
unfolding AreWrittenTurns order_lines
texts_none t told no_turns first order names others lines = record {
  turns = subst (AreWrittenTurns t (length told.threads) []) (sym no_turns) tt;
  threads = λ thread within.
      first thread within ∙ ap (λ turns. Some (thread_so_far t thread (own_turns thread (turns_written turns)))) (sym no_turns);
  order = order ∙ ap (λ turns. order_text t.rows t.names t.commands (turns_written turns)) (sym no_turns);
  names = names;
  others = others;
  lines = lines;
}

-- after a turn more
pub texts_more : (t : TextSource) (old new : TextsOfTurns) (kept : WrittenTurn) (owner : ThreadText) → AreTextsOf t old
    → new.turns ≡ old.turns ++ kept ∷ [] → new.threads ≡ slice_set old.threads kept.turn.thread owner
    → IsWrittenTurn t (length old.threads) (turns_written old.turns) kept
    → (kept.turn.thread < length old.threads
    → owner ≡ thread_so_far t kept.turn.thread (own_turns kept.turn.thread (turns_written old.turns) ++ kept.turn ∷ []))
    → new.order ≡ order_text t.rows t.names t.commands (turns_written old.turns ++ kept.turn ∷ [])
    → AreLinesKept t.rows t.names t.commands new.lines → AreTextsOf t new
texts_more t old new kept owner told turns_are threads_are is_kept own order_is lines =
    let log = turns_written old.turns in
    let more : turns_written new.turns ≡ log ++ kept.turn ∷ [] = ap turns_written turns_are ∙ turns_one old.turns kept in
    let count : length new.threads ≡ length old.threads =
    ap length threads_are ∙ length-set old.threads kept.turn.thread owner in
    record {
      turns = subst (λ n. AreWrittenTurns t n [] new.turns) (sym count)
          (subst (AreWrittenTurns t (length old.threads) []) (sym turns_are)
          (kept_one t (length old.threads) [] old.turns kept told.turns is_kept));
      threads = λ thread within.
          let there : thread < length old.threads = subst (λ n. thread < n) count within in
          ap (λ (l : List ThreadText). slice_get l thread) threads_are
          ∙ elim (eqb_tells kept.turn.thread thread) [
            | inl same ↦
                let there_too : kept.turn.thread < length old.threads =
                subst (λ n. n < length old.threads) (sym same.1) there in
                subst
                (λ n. slice_get (slice_set old.threads kept.turn.thread owner) n
                ≡ Some (thread_so_far t n (own_turns n (turns_written new.turns)))) same.1
                (set_there old.threads kept.turn.thread owner there_too
                ∙ ap Some (own there_too
                ∙ ap (thread_so_far t kept.turn.thread)
                (sym (ap (own_turns kept.turn.thread) more ∙ own_one kept.turn.thread log kept.turn refl))))
            | inr other ↦
                get_set_other old.threads kept.turn.thread thread owner (λ is. other.1 (sym is))
                ∙ told.threads thread there
                ∙ ap (λ turns. Some (thread_so_far t thread turns))
                (sym (ap (own_turns thread) more ∙ own_none thread log kept.turn other.1))
          ];
      order = order_is ∙ ap (order_text t.rows t.names t.commands) (sym more);
      names = subst (λ n. length t.names ≤ n) (sym count) told.names;
      others = λ thread past. told.others thread (subst (λ n. n ≤ thread) count past);
      lines = lines;
    }

-- of a thread that the program does not have
pub texts_past : (t : TextSource) (old new : TextsOfTurns) (kept : WrittenTurn) → AreTextsOf t old
    → new.turns ≡ old.turns ++ kept ∷ [] → new.threads ≡ old.threads → new.order ≡ old.order
    → kept.order_len ≡ length old.order → length old.threads ≤ kept.turn.thread → new.lines ≡ old.lines → AreTextsOf t new
texts_past t old new kept told turns_are threads_are order_is long past lines_are =
    let log = turns_written old.turns in
    let owner = kept.turn.thread in
    let any : ThreadText = record { text = []; next = 0 } in
    texts_more t old new kept any told turns_are
    (threads_are ∙ sym (set_past old.threads owner any past))
    (record {
      order = long ∙ ap length told.order;
      thread = λ within. absurd (omega (arith, within, past));
    })
    (λ within. absurd (omega (arith, within, past)))
    (order_is ∙ told.order ∙ sym (order_one t log kept.turn
    ∙ ap (λ did. order_text t.rows t.names t.commands log ++ turn_line t.rows (name_at t.names owner) kept.turn did)
    (ap (λ commands. slice_get commands (index_from (t.commands owner) 0 (own_turns owner log))) (told.others owner past))
    ∙ append-nil (order_text t.rows t.names t.commands log)))
    (subst (AreLinesKept t.rows t.names t.commands) (sym lines_are) told.lines)

-- a thread without a next command
pub thread_same : (quiet : Bool) (commands : List ThreadCommand) (turn : Turn) (told : ThreadText)
    → slice_get commands told.next ≡ None → told ≡ thread_after_turn quiet commands turn [] told
thread_same quiet commands turn told none =
    let texts = same_text quiet told.text in
    let nexts = ap (λ did. index_after did told.next turn.answer) (sym none) in
    λ i. record { text = texts i; next = nexts i }

-- of a thread that the program has, whose next command was this
pub texts_done : (t : TextSource) (old new : TextsOfTurns) (kept : WrittenTurn) (before after : ThreadText)
    (did : Option ThreadCommand) → AreTextsOf t old
    → new.turns ≡ old.turns ++ kept ∷ [] → new.threads ≡ slice_set old.threads kept.turn.thread after
    → slice_get old.threads kept.turn.thread ≡ Some before
    → kept.order_len ≡ length old.order → kept.text_len ≡ length before.text → kept.next ≡ before.next
    → did ≡ slice_get (t.commands kept.turn.thread) before.next
    → after ≡ thread_after_turn (is_quiet t.voices kept.turn.thread) (t.commands kept.turn.thread) kept.turn
    (done_line t.rows kept.turn did) before
    → new.order ≡ old.order ++ turn_line t.rows (name_at t.names kept.turn.thread) kept.turn did
    → AreLinesKept t.rows t.names t.commands new.lines → AreTextsOf t new
texts_done t old new kept before after did told turns_are threads_are before_is order_is text_is next_is did_is after_is
    new_order lines =
    let log = turns_written old.turns in
    let owner = kept.turn.thread in
    let own = own_turns owner log in
    let was : before ≡ thread_so_far t owner own = same_Some _ _ (sym before_is ∙ told.threads owner (slice_get_within old.threads owner before before_is)) in
    let done : did ≡ command_of_turn t.commands log kept.turn =
    did_is ∙ ap (λ (b : ThreadText). slice_get (t.commands owner) b.next) was in
    texts_more t old new kept after told turns_are threads_are
    (record {
      order = order_is ∙ ap length told.order;
      thread = λ less. (text_is ∙ ap (λ (b : ThreadText). length b.text) was, next_is ∙ ap (λ (b : ThreadText). b.next) was);
    })
    (λ less.
    after_is
    ∙ (λ i. thread_after_turn (is_quiet t.voices owner) (t.commands owner) kept.turn (done_line t.rows kept.turn (done i)) (was i))
    ∙ sym (thread_one t owner own kept.turn))
    (new_order
    ∙ (λ i. told.order i ++ turn_line t.rows (name_at t.names owner) kept.turn (done i))
    ∙ sym (order_one t log kept.turn))
    lines

-- with the last one taken back
pub texts_less : (t : TextSource) (old new : TextsOfTurns) (kept : WrittenTurn) (before : ThreadText) → AreTextsOf t old
    → old.turns ≡ new.turns ++ kept ∷ []
    → new.threads ≡ slice_set old.threads kept.turn.thread (record { text = take kept.text_len before.text; next = kept.next })
    → (kept.turn.thread < length old.threads → slice_get old.threads kept.turn.thread ≡ Some before)
    → new.order ≡ take kept.order_len old.order → new.lines ≡ old.lines → AreTextsOf t new
texts_less t old new kept before told turns_are threads_are is order_is lines_are =
    let log = turns_written new.turns in
    let more : turns_written old.turns ≡ log ++ kept.turn ∷ [] = ap turns_written turns_are ∙ turns_one new.turns kept in
    let kepts = kept_last t (length old.threads) [] new.turns kept
    (subst (AreWrittenTurns t (length old.threads) []) turns_are told.turns) in
    let owner = kept.turn.thread in
    let own = thread_so_far t owner (own_turns owner log) in
    let told_line = turn_line t.rows (name_at t.names owner) kept.turn (command_of_turn t.commands log kept.turn) in
    let cut_off : ThreadText = record { text = take kept.text_len before.text; next = kept.next } in
    let count : length new.threads ≡ length old.threads =
    ap length threads_are ∙ length-set old.threads owner cut_off in
    let same_text : owner < length old.threads → cut_off ≡ own = λ within.
    let was : before ≡ thread_after_turn (is_quiet t.voices owner) (t.commands owner) kept.turn
    (done_line t.rows kept.turn (slice_get (t.commands owner) own.next)) own =
    same_Some _ _ (sym (is within) ∙ told.threads owner within)
    ∙ ap (thread_so_far t owner) (ap (own_turns owner) more ∙ own_one owner log kept.turn refl)
    ∙ thread_one t owner (own_turns owner log) kept.turn in
    let line = if is_quiet t.voices owner then []
    else done_line t.rows kept.turn (slice_get (t.commands owner) own.next) in
    let lengths = kepts.1.thread within in
    let texts : take kept.text_len before.text ≡ own.text =
    (λ i. take (lengths.0 i) (was i).text) ∙ take-append_seam own.text line in
    λ i. record { text = texts i; next = lengths.1 i } in
    record {
      turns = subst (λ n. AreWrittenTurns t n [] new.turns) (sym count) kepts.0;
      threads = λ thread within.
          let there : thread < length old.threads = subst (λ n. thread < n) count within in
          ap (λ (l : List ThreadText). slice_get l thread) threads_are
          ∙ elim (eqb_tells owner thread) [
            | inl same ↦
                let there_too : owner < length old.threads =
                subst (λ n. n < length old.threads) (sym same.1) there in
                subst (λ n. slice_get (slice_set old.threads owner cut_off) n ≡ Some (thread_so_far t n (own_turns n log)))
                same.1 (set_there old.threads owner cut_off there_too ∙ ap Some (same_text there_too))
            | inr other ↦
                get_set_other old.threads owner thread cut_off (λ is. other.1 (sym is)) ∙ told.threads thread there
                ∙ ap (λ turns. Some (thread_so_far t thread turns))
                (ap (own_turns thread) more ∙ own_none thread log kept.turn other.1)
          ];
      order = order_is ∙ ap (take kept.order_len) (told.order ∙ ap (order_text t.rows t.names t.commands) more
          ∙ order_one t log kept.turn)
          ∙ ap (λ n. take n (order_text t.rows t.names t.commands log ++ told_line)) kepts.1.order
          ∙ take-append_seam (order_text t.rows t.names t.commands log) told_line;
      names = subst (λ n. length t.names ≤ n) (sym count) told.names;
      others = λ thread past. told.others thread (subst (λ n. n ≤ thread) count past);
      lines = subst (AreLinesKept t.rows t.names t.commands) (sym lines_are) told.lines;
    }

-- ---- lines end in a line feed

abbrev IsLines : List ℕ → Type 0
IsLines text = (front : List ℕ) × (text ≡ front ++ 10 ∷ [])

lines_as : (a b : List ℕ) → a ≡ b → IsLines a → IsLines b
lines_as a b same are = (are.0, sym same ∙ are.1)

no_more : (a : List ℕ) → IsLines a → IsLines (a ++ [])
no_more a are = lines_as a (a ++ []) (sym (append-nil a)) are

ends_line : (text rest : List ℕ) → IsLines text → EndsLine (text ++ rest) (length text)
ends_line text rest are =
    let front = are.0 in
    let whole : text ++ rest ≡ front ++ 10 ∷ rest =
    ap (λ t. t ++ rest) are.1 ∙ append_assoc front (10 ∷ []) rest in
    let last : length text - 1 ≡ length front =
    omega (arith, ap length are.1, length-append front (10 ∷ [])) in
    ap (λ n. get_or (text ++ rest) n 0) last ∙ ap (λ t. get_or t (length front) 0) whole
    ∙ get_or-append_seam front 10 rest 0

done_lines : (rows : List Row) (turn : Turn) (text : List ℕ) (did : Option ThreadCommand) → IsLines text
    → IsLines (text ++ done_line rows turn did)
done_lines rows turn text None are = no_more text are
done_lines rows turn text (Some command) are =
    (text ++ (command_text rows command ++ (codes ": " ++ answer_text rows command turn)), simp append_assoc)

named_lines : (rows : List Row) (name : Option (List ℕ)) (turn : Turn) (text : List ℕ) (did : Option ThreadCommand)
    → IsLines text → IsLines (text ++ turn_line rows name turn did)
named_lines rows name turn text None are = no_more text are
named_lines rows name turn text (Some command) are = (
  text ++ (thread_word (turn.thread + 1) name
      ++ (codes " " ++ (command_text rows command ++ (codes ": " ++ answer_text rows command turn)))),
  simp append_assoc,
)

own_lines_end : (rows : List Row) (commands : List ThreadCommand) (at : ℕ) (turns : List Turn) (text : List ℕ)
    → IsLines text → IsLines (text ++ own_lines rows commands at turns)
unfolding own_lines
own_lines_end rows commands at [] text are = no_more text are
own_lines_end rows commands at (turn ∷ turns) text are =
    let next = index_after (slice_get commands at) at turn.answer in
    let line = done_line rows turn (slice_get commands at) in
    lines_as ((text ++ line) ++ own_lines rows commands next turns) (text ++ (line ++ own_lines rows commands next turns))
    (append_assoc text line (own_lines rows commands next turns))
    (own_lines_end rows commands next turns (text ++ line) (done_lines rows turn text (slice_get commands at) are))

order_lines_end : (rows : List Row) (names : List (Option (List ℕ))) (commands : ℕ → List ThreadCommand)
    (before turns : Log) (text : List ℕ) → IsLines text → IsLines (text ++ order_lines rows names commands before turns)
unfolding order_lines
order_lines_end rows names commands before [] text are = no_more text are
order_lines_end rows names commands before (turn ∷ turns) text are =
    let line = turn_line rows (name_at names turn.thread) turn (command_of_turn commands before turn) in
    let rest = order_lines rows names commands (before ++ turn ∷ []) turns in
    lines_as ((text ++ line) ++ rest) (text ++ (line ++ rest)) (append_assoc text line rest)
    (order_lines_end rows names commands (before ++ turn ∷ []) turns (text ++ line)
    (named_lines rows (name_at names turn.thread) turn text (command_of_turn commands before turn) are))

lines_by_voice : (quiet : Bool) (head lines : List ℕ) → IsLines head → IsLines (head ++ lines)
    → IsLines (head ++ (if quiet then [] else lines))
lines_by_voice true head lines none some = no_more head none
lines_by_voice false head lines none some = some

thread_ends : (t : TextSource) (thread : ℕ) (own : List Turn) → IsLines (thread_so_far t thread own).text
thread_ends t thread own =
    let word = thread_word (thread + 1) (name_at t.names thread) in
    let head = thread_head (thread + 1) (name_at t.names thread) in
    let first : IsLines head = (codes "thread " ++ word, sym (append_assoc (codes "thread ") word (codes "\n"))) in
    lines_by_voice (is_quiet t.voices thread) head (own_lines t.rows (t.commands thread) 0 own) first
    (own_lines_end t.rows (t.commands thread) 0 own head first)

-- what the last turn added to the order, and to the text of its thread, is after a line
pub order_cut : (t : TextSource) (told : TextsOfTurns) (turns : List WrittenTurn) (kept : WrittenTurn) → AreTextsOf t told
    → told.turns ≡ turns ++ kept ∷ [] → EndsLine told.order kept.order_len
order_cut t told turns kept are turns_are =
    let log = turns_written turns in
    let line = turn_line t.rows (name_at t.names kept.turn.thread) kept.turn (command_of_turn t.commands log kept.turn) in
    let is_kept = (kept_last t (length told.threads) [] turns kept
    (subst (AreWrittenTurns t (length told.threads) []) turns_are are.turns)).1 in
    let before = order_text t.rows t.names t.commands log in
    let whole : told.order ≡ before ++ line =
    are.order ∙ ap (order_text t.rows t.names t.commands) (ap turns_written turns_are ∙ turns_one turns kept)
    ∙ order_one t log kept.turn in
    subst (λ n. EndsLine told.order n) (sym is_kept.order)
    (subst (λ text. EndsLine text (length before)) (sym whole)
    (ends_line before line (order_lines_end t.rows t.names t.commands [] log (codes "order\n") (codes "order", refl))))

pub thread_cut : (t : TextSource) (told : TextsOfTurns) (turns : List WrittenTurn) (kept : WrittenTurn) (owner : ThreadText)
    → AreTextsOf t told → told.turns ≡ turns ++ kept ∷ []
    → slice_get told.threads kept.turn.thread ≡ Some owner → EndsLine owner.text kept.text_len
thread_cut t told turns kept owner are turns_are is =
    let log = turns_written turns in
    let thread = kept.turn.thread in
    let within = slice_get_within told.threads thread owner is in
    let before = thread_so_far t thread (own_turns thread log) in
    let line = if is_quiet t.voices thread then [] else done_line t.rows kept.turn (slice_get (t.commands thread) before.next) in
    let is_kept = (kept_last t (length told.threads) [] turns kept
    (subst (AreWrittenTurns t (length told.threads) []) turns_are are.turns)).1 in
    let lengths = is_kept.thread within in
    let whole : owner.text ≡ before.text ++ line =
    ap (λ (o : ThreadText). o.text) (same_Some _ _ (sym is ∙ are.threads thread within)
    ∙ ap (thread_so_far t thread) (ap (own_turns thread) (ap turns_written turns_are ∙ turns_one turns kept)
    ∙ own_one thread log kept.turn refl) ∙ thread_one t thread (own_turns thread log) kept.turn) in
    subst (λ n. EndsLine owner.text n) (sym lengths.0)
    (subst (λ text. EndsLine text (length before.text)) (sym whole)
    (ends_line before.text line (thread_ends t thread (own_turns thread log))))

-- ---- what they are texts of

lines_to_the_end : (rows : List Row) (states : List State) (commands : List ThreadCommand) (at : ℕ) (turns : List Turn)
    → own_lines rows commands at turns ++ waiting_line rows states (slice_get commands (index_from commands at turns))
    ≡ thread_lines rows states commands at turns
unfolding own_lines index_from thread_lines
lines_to_the_end rows states commands at [] = refl
lines_to_the_end rows states commands at (turn ∷ turns) =
    let next = index_after (slice_get commands at) at turn.answer in
    let line = done_line rows turn (slice_get commands at) in
    append_assoc line (own_lines rows commands next turns)
    (waiting_line rows states (slice_get commands (index_from commands next turns)))
    ∙ ap (λ lines. line ++ lines) (lines_to_the_end rows states commands next turns)

by_voice : (t : TextSource) (thread : ℕ) (ending : EndedRun) (quiet : Bool) (head : List ℕ)
    → (head ++ (if quiet then [] else own_lines t.rows (t.commands thread) 0 (own_turns thread ending.turns)))
    ++ closing_line t.rows ending.states quiet (command_after (t.commands thread) (own_turns thread ending.turns))
    ≡ head ++ told_lines t.rows quiet (t.commands thread) ending thread
by_voice t thread ending true head =
    ap (λ text. text ++ quiet_line t.rows ending.states (command_after (t.commands thread) (own_turns thread ending.turns)))
    (append-nil head)
by_voice t thread ending false head =
    let own = own_turns thread ending.turns in
    let commands = t.commands thread in
    append_assoc head (own_lines t.rows commands 0 own) (waiting_line t.rows ending.states (command_after commands own))
    ∙ ap (λ text. head ++ text) (lines_to_the_end t.rows ending.states commands 0 own)

-- of a thread, with its last line
pub thread_whole : (t : TextSource) (thread : ℕ) (ending : EndedRun)
    → (thread_so_far t thread (own_turns thread ending.turns)).text
    ++ closing_line t.rows ending.states (is_quiet t.voices thread)
    (slice_get (t.commands thread) (thread_so_far t thread (own_turns thread ending.turns)).next)
    ≡ thread_text t.rows t.voices t.commands ending thread (name_at t.names thread)
thread_whole t thread ending =
    by_voice t thread ending (is_quiet t.voices thread) (thread_head (thread + 1) (name_at t.names thread))
