-- Pair by pair the word is decoded.
use Rattle.std.proofs.Common.{◌*◌, arith}
use Rattle.hex.proofs.Pairs.{decode_done, decode_step}
use Rattle.trace_script.proofs.ByteWords.{even_word, pairs_are}
use Rattle.trace_script.proofs.case.image.decode_into.Goals as goal

pub loop-i-preserved : goal.loop-i-preserved
loop-i-preserved c =
    decode_step c.args.word.now c.loop-i.bytes c.loop-i.i c.byte_of.result
    (omega (arith, c.loop-i-test.true, c.requires.room, even_word c.args.word.now c.requires.word))
    (omega (arith, c.loop-i-test.true, c.loop-i.auto.bytes)) (c.byte_of.ensures (2 * c.loop-i.i)) c.loop-i.invariant

pub returns : goal.returns
returns c =
    pairs_are c.args.word.now c.loop-i.bytes c.requires.word
    (decode_done c.args.word.now c.loop-i.bytes c.loop-i.i (omega (arith, c.loop-i-test.false, c.loop-i.auto.bytes))
    (omega (arith, c.loop-i-test.false, c.requires.room, even_word c.args.word.now c.requires.word)) c.loop-i.invariant)
