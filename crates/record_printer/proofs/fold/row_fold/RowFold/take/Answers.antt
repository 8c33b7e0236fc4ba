use Rattle.std.proofs.Common.{zero-add}
use Rattle.record_printer.proofs.fold.row_fold.RowFold.take.Goals as goal

pub returns-in-Enter-clause-room : goal.returns-in-Enter-clause-room
returns-in-Enter-clause-room g c lines behind room =
    c.start.ensures.room lines behind (rw (c.in-Enter.is, zero-add) at room)

pub returns-then-not-self-clause-room : goal.returns-then-not-self-clause-room
returns-then-not-self-clause-room g c lines behind room =
    c.start-then-not-self.ensures.room lines behind (rw (c.in-Seccomp.is, zero-add) at room)

pub returns-in-Exit-clause-room : goal.returns-in-Exit-clause-room
returns-in-Exit-clause-room g c lines behind room =
    c.end.ensures.room lines behind (rw (c.in-Exit.is, zero-add) at room)
