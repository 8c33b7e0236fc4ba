-- All words of a line are left.
use Rattle.text_lines.specs.Words.{words_left}
use Rattle.text_lines.proofs.Cuts.{all_words}
use Rattle.text_lines.proofs.words.Words.of.Goals as goal

pub returns : goal.returns
unfolding words_left
returns c = all_words c.args.line.now
