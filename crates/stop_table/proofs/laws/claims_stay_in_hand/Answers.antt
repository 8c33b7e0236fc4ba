-- A claimed row stays in the hand of its tracer, with its word and its record.
use Rattle.std.proofs.Common.{◌≡◌, ℕ, true, false, ◌∙◌, sym, subst, ap, refl, eq-eqb}
use Rattle.trace_record.specs.Content.{Content}
use Rattle.stop_history.specs.declared.phase.Phase.TheVariants as phase
use Rattle.stop_history.specs.Word.{Word}
use Rattle.stop_table.specs.Entry.{Cell, cell_after, word_of}
use Rattle.stop_table.specs.Handle.{IsHolding}
use Rattle.stop_table.specs.Tracer.{is_claimed_by, is_held}
use Rattle.stop_table.specs.View.{View}
use Rattle.stop_table.specs.Written.{IsWrittenOver}
use Rattle.stop_table.proofs.Own.{claim_stays, claim_stays_beside}
use Rattle.stop_table.proofs.laws.claims_stay_in_hand.Goals as goal

held : (v : View) (row : ℕ) (word : Word) (content : Content) → IsHolding v row word content → is_held v row ≡ true
held v row word content holding =
    ap (is_claimed_by v.number) (sym (ap (λ (w : Word). w.phase) holding.is_word) ∙ holding.is_phase)
    ∙ eq-eqb v.number v.number refl

still : (v w : View) (row : ℕ) (word : Word) (content : Content) → w.number ≡ v.number
    → cell_after w.roster w.seen row ≡ cell_after v.roster v.seen row
    → IsHolding v row word content → IsHolding w row word content
still v w row word content number same holding = record {
  is_phase = holding.is_phase ∙ ap phase.Claimed (sym number);
  is_word = holding.is_word ∙ ap (word_of false) (sym same);
  is_content = subst (λ (x : Cell). IsWrittenOver x.content content) (sym same) holding.is_content;
}

pub returns-clause-looks : goal.returns-clause-looks
returns-clause-looks c = λ v w row word content mine g holding.
    still v w row word content g.same.number (claim_stays v w mine g row (held v row word content holding)) holding

pub returns-clause-events : goal.returns-clause-events
returns-clause-events c = λ v w before x row word content mine e other holding.
    still v w row word content e.same.number
    (claim_stays_beside v w before x mine e row other (held v row word content holding)) holding
