-- The line of a death (strace(1); wait(2), WIFEXITED, WIFSIGNALED and WCOREDUMP).
use Rattle.std.specs.Prelude.{◌++◌, ◌∷◌, [], ℕ, Bool, true, false, List, codes, decimal}
use Rattle.record_printer.specs.SignalText.{signal_text}
use Rattle.trace_record.specs.declared.death.Death.{Death}
use Rattle.trace_record.specs.declared.death.Death.TheVariants.{Exited, Signaled}

abbrev pub core_text : Bool → List ℕ
core_text true = codes " (core dumped)"
core_text false = []

abbrev pub end_text : Death → List ℕ
end_text (Exited code) = codes " +++ exited with " ++ decimal code
end_text (Signaled signal core) = codes " +++ killed by " ++ (signal_text signal ++ core_text core)

-- the line of the death of a thread, with a line feed
abbrev pub death_text : ℕ → Death → List ℕ
death_text tid death = decimal tid ++ (end_text death ++ (codes " +++" ++ 10 ∷ []))
