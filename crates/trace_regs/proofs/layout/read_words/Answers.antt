-- Eight bytes are read as one register, little-endian.
use Rattle.std.proofs.Common.{◌≡◌, ◌+◌, ◌*◌, ◌-◌, ◌<◌, length, take, refl, arith, rules}
use Rattle.std.proofs.lemmas.List.{take_all}
use Rattle.std.proofs.lemmas.Grind.{common_steps}
use Rattle.trace_regs.proofs.Words.{read_more, zeros_fit}
use Rattle.trace_regs.proofs.layout.read_words.Goals as goal

pub loop-i-init : goal.loop-i-init
loop-i-init c = record { whole = refl; read = refl; fit = zeros_fit 27 }

pub loop-i-preserved : goal.loop-i-preserved
loop-i-preserved c = record {
  whole = search rules;
  fit = grind (arith, common_steps);
  read =
      let inside : c.loop-i.i < length c.loop-i.words = omega arith in
      let width : 8 * c.loop-i.i + 8 - 8 * c.loop-i.i ≡ 8 = omega arith in
      read_more c.loop-i.words c.args.bytes.now c.loop-i.i c.word_at.result inside
      (rw width at c.word_at.ensures) c.loop-i.invariant.read;
}

pub returns-clause-told : goal.returns-clause-told
returns-clause-told c =
    let end : c.loop-i.i ≡ 27 = omega arith in
    let words : take 27 c.loop-i.words ≡ c.loop-i.words = take_all 27 c.loop-i.words (omega arith) in
    let bytes : take 216 c.args.bytes.now
    ≡ c.args.bytes.now = take_all 216 c.args.bytes.now (omega (arith, c.told-bytes)) in
    rw (← words, ← bytes) (rw end at c.loop-i.invariant.read)
