-- Each register is the word at its place.
use Rattle.trace_regs.proofs.Words.{map-get_or}
use Rattle.trace_regs.proofs.regs.Regs.from_words.Goals as goal

pub returns : goal.returns
returns c = map-get_or c.args.words.now 27 c.told-words
