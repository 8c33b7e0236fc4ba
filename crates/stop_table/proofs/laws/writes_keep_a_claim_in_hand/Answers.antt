-- A claim whose record its holder has written to is in the hand of its tracer as before.
use Rattle.stop_table.proofs.Written.{bytes_in_hand, regs_in_hand}
use Rattle.stop_table.proofs.laws.writes_keep_a_claim_in_hand.Goals as goal

pub returns-clause-regs : goal.returns-clause-regs
returns-clause-regs c = regs_in_hand

pub returns-clause-bytes : goal.returns-clause-bytes
returns-clause-bytes c = bytes_in_hand
