-- The text of a replay file: the replies to its commands from the empty history on, or the file's first fault.
use Rattle.std.specs.Prelude.{[], ℕ, List, Result, Ok, Err}
use Rattle.trace_script.specs.declared.cause.CaseError.{CaseError}
use Rattle.replay_files.specs.File.{ReplayContent, content_of}
use Rattle.replay_files.specs.Replies.{replies}

abbrev pub text_from : Result ReplayContent CaseError → Result (List ℕ) CaseError
text_from (Ok content) = Ok (replies content.rows [] content.orders)
text_from (Err error) = Err error

abbrev pub replay_of : List ℕ → Result (List ℕ) CaseError
replay_of text = text_from (content_of text)
