-- The law is a lemma: lines one by one, rows before commands.
use Rattle.replay_files.proofs.ReadBack.{read_back}
use Rattle.replay_files.proofs.laws.what_is_spelled_is_read.Goals as goal

pub returns : goal.returns
returns c = read_back
