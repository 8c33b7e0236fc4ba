-- The law is a lemma: rows, then thread by thread, and command by command.
use Rattle.litmus_files.proofs.LitmusBack.{litmus_back}
use Rattle.litmus_files.proofs.laws.what_a_litmus_file_spells_is_read.Goals as goal

pub returns : goal.returns
returns c = litmus_back
