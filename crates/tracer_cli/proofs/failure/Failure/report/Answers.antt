-- What is written of a failure is its text.
use Rattle.std.proofs.Common.{◌≡◌, ◌∙◌, ◌++◌, ℕ, List, ap, codes}
use Rattle.outcome_text.proofs.TextOfParts.{cut_off_as, written_as}
use Rattle.tracer_cli.proofs.failure.Failure.report.Goals as goal

named : (said text name : List ℕ) → said ≡ codes "tracer: unknown call " ++ (text ++ codes "\n") → text ≡ name
    → said ≡ codes "tracer: unknown call " ++ (name ++ codes "\n")
named said text name is same = is ∙ ap (λ n. codes "tracer: unknown call " ++ (n ++ codes "\n")) same

pub returns-in-UnknownCall-clause-ok : goal.returns-in-UnknownCall-clause-ok
returns-in-UnknownCall-clause-ok g c =
    rw c.in-UnknownCall.is (written_as c.write_parts.result _ _ _ _
    (named _ _ _ c.in_five.ensures c.as_str-in-UnknownCall.ensures.value) c.write_parts.ensures.ok)

pub returns-in-UnknownCall-clause-cut_off : goal.returns-in-UnknownCall-clause-cut_off
returns-in-UnknownCall-clause-cut_off g c =
    rw c.in-UnknownCall.is (cut_off_as c.write_parts.result _ _ _ _
    (named _ _ _ c.in_five.ensures c.as_str-in-UnknownCall.ensures.value) c.write_parts.ensures.cut_off)

pub returns-in-NoText-clause-cut_off : goal.returns-in-NoText-clause-cut_off
returns-in-NoText-clause-cut_off g c = rw c.in-NoText.is c.write_part-in-NoText.ensures.cut_off

pub returns-in-CannotRead-clause-ok : goal.returns-in-CannotRead-clause-ok
returns-in-CannotRead-clause-ok g c = rw c.in-CannotRead.is c.write_part-in-CannotRead.ensures.ok

pub returns-in-CannotRead-clause-cut_off : goal.returns-in-CannotRead-clause-cut_off
returns-in-CannotRead-clause-cut_off g c = rw c.in-CannotRead.is c.write_part-in-CannotRead.ensures.cut_off

pub returns-in-CannotWrite-clause-ok : goal.returns-in-CannotWrite-clause-ok
returns-in-CannotWrite-clause-ok g c = rw c.in-CannotWrite.is c.write_part-in-CannotWrite.ensures.ok

pub returns-in-CannotWrite-clause-cut_off : goal.returns-in-CannotWrite-clause-cut_off
returns-in-CannotWrite-clause-cut_off g c = rw c.in-CannotWrite.is c.write_part-in-CannotWrite.ensures.cut_off

pub returns-in-LostStop-clause-ok : goal.returns-in-LostStop-clause-ok
returns-in-LostStop-clause-ok g c = rw c.in-LostStop.is c.write_part-in-LostStop.ensures.ok

pub returns-in-LostStop-clause-cut_off : goal.returns-in-LostStop-clause-cut_off
returns-in-LostStop-clause-cut_off g c = rw c.in-LostStop.is c.write_part-in-LostStop.ensures.cut_off

pub returns-in-NoThreads-clause-ok : goal.returns-in-NoThreads-clause-ok
returns-in-NoThreads-clause-ok g c = rw c.in-NoThreads.is c.write_part-in-NoThreads.ensures.ok

pub returns-in-NoThreads-clause-cut_off : goal.returns-in-NoThreads-clause-cut_off
returns-in-NoThreads-clause-cut_off g c = rw c.in-NoThreads.is c.write_part-in-NoThreads.ensures.cut_off

pub returns-in-TooManyPlaces-clause-ok : goal.returns-in-TooManyPlaces-clause-ok
returns-in-TooManyPlaces-clause-ok g c = rw c.in-TooManyPlaces.is c.write_part-in-TooManyPlaces.ensures.ok

pub returns-in-TooManyPlaces-clause-cut_off : goal.returns-in-TooManyPlaces-clause-cut_off
returns-in-TooManyPlaces-clause-cut_off g c = rw c.in-TooManyPlaces.is c.write_part-in-TooManyPlaces.ensures.cut_off
