-- What a holder's writes leave of a record.
use Rattle.std.proofs.Common.{◌≡◌, ◌∙◌, ℕ, List, OnOk, Result, Ok, Err, length, refl, subst, sym}
use Rattle.trace_pages.specs.declared.fault.Fault.{Fault}
use Rattle.trace_pages.specs.FlatMemory.{Full, run_end}
use Rattle.trace_pages.proofs.Memories.{stored_same}
use Rattle.trace_record.specs.Content.{Content}
use Rattle.trace_regs.specs.declared.regs.Regs.{Regs}
use Rattle.stop_history.specs.Word.{Word}
use Rattle.stop_table.specs.Handle.{IsHolding}
use Rattle.stop_table.specs.View.{View}
use Rattle.stop_table.specs.Written.{IsWrittenOver, with_bytes, with_regs}

-- nothing was written
pub unwritten : (before after : Content) → after ≡ before → IsWrittenOver before after
unwritten before after same = subst (IsWrittenOver before) (sym same) (record {
  tid = refl;
  number = refl;
  stop = refl;
  addresses = λ address. refl;
})

pub regs_over : (before after : Content) (regs : Regs) → IsWrittenOver before after
    → IsWrittenOver before (with_regs after regs)
regs_over before after regs is =
    record { tid = is.tid; number = is.number; stop = is.stop; addresses = is.addresses }

pub bytes_over : (before after : Content) (address : ℕ) (bytes : List ℕ)
    → run_end after.memory address (length bytes) ≡ Full → IsWrittenOver before after
    → IsWrittenOver before (with_bytes after address bytes)
bytes_over before after address bytes whole is = record {
  tid = is.tid;
  number = is.number;
  stop = is.stop;
  addresses = λ at. stored_same after.memory address bytes whole at ∙ is.addresses at;
}

-- what a store that is done says, as its caller says it
pub done_by : (r : Result (Unit {0}) Fault) {P Q : Type 0} → (P → Q) → OnOk r P → OnOk r Q
done_by (Ok done) says is = says is
done_by (Err fault) says is = tt

-- ---- claims whose record was written to

pub regs_in_hand : (v : View) (row : ℕ) (word : Word) (content : Content) (regs : Regs)
    → IsHolding v row word content → IsHolding v row word (with_regs content regs)
regs_in_hand v row word content regs holding = record {
  is_phase = holding.is_phase;
  is_word = holding.is_word;
  is_content = regs_over _ content regs holding.is_content;
}

pub bytes_in_hand : (v : View) (row : ℕ) (word : Word) (content : Content) (address : ℕ) (bytes : List ℕ)
    → run_end content.memory address (length bytes) ≡ Full
    → IsHolding v row word content → IsHolding v row word (with_bytes content address bytes)
bytes_in_hand v row word content address bytes whole holding = record {
  is_phase = holding.is_phase;
  is_word = holding.is_word;
  is_content = bytes_over _ content address bytes whole holding.is_content;
}
