-- Acts looked at before any of them is done: whether a store among them, on the way to the next stop or the death,
-- goes to an address that is not mapped. A store maps no address, so the look need not follow it; an exec makes it go
-- on with the new program's memory.
use Rattle.std.specs.Prelude.{◌==◌, ◌∷◌, [], ℕ, List, Option, Some, None, Result, Ok, Err, length, if◌then◌else◌}
use Rattle.text_lines.specs.Ranges.{◌>>=◌}
use Rattle.trace_pages.specs.FlatMemory.{FlatMemory, run_end}
use Rattle.trace_pages.specs.Memory.{store_answer}
use Rattle.trace_pages.specs.declared.fault.Fault.{Fault as Missing}
use Rattle.trace_record.specs.declared.resume.Resume.{Resume}
use Rattle.trace_script.specs.StepStops.{Act, Halts, Loads, Calls, Becomes, Stores, Answers, Delivers, Exits, Dies}
use Rattle.trace_script.specs.StepStops.{halts}
use Rattle.trace_script.specs.declared.setting.Setting.{Setting}
use Rattle.trace_script.specs.declared.step.found.Found.{Found}
use Rattle.trace_script.specs.declared.step.found.Found.TheVariants.{Fault, Halt}

-- a store: done, or its fault
abbrev pub fill_check : Result (Unit {0}) Missing → Result (Unit {0}) Found
fill_check (Ok done) = Ok done
fill_check (Err fault) = Err (Fault fault.addr)

-- one act: the memory with which to go on, or what is found
abbrev pub look_at : Setting → Resume → Act → FlatMemory → Result FlatMemory Found
look_at s how (Halts when at) memory = if halts s how when then Err Halt else Ok memory
look_at s how (Loads image) memory = Ok image.memory
look_at s how (Calls nr arguments) memory = Ok memory
look_at s how (Becomes image) memory = Ok image.memory
look_at s how (Stores fill) memory =
    fill_check (store_answer (run_end memory fill.address (length fill.bytes))) >>= λ done. Ok memory
look_at s how (Answers answer) memory = Ok memory
look_at s how Delivers memory = if how.signal == 0 then Ok memory else Err Halt
look_at s how (Exits death) memory = Err Halt
look_at s how (Dies death) memory = Err Halt

-- acts in a row
abbrev pub look_over : Setting → Resume → List Act → FlatMemory → Result FlatMemory Found
look_over s how [] memory = Ok memory
look_over s how (act ∷ acts) memory = look_at s how act memory >>= look_over s how acts

-- acts after what was found so far
abbrev pub look_on : Result FlatMemory Found → Setting → Resume → List Act → Result FlatMemory Found
look_on found s how acts = found >>= look_over s how acts

-- the address of the store that faults before the tracee stops, dies or comes to the end of the acts
abbrev pub fault_in : Result FlatMemory Found → Option ℕ
fault_in (Ok memory) = None
fault_in (Err Halt) = None
fault_in (Err (Fault address)) = Some address
