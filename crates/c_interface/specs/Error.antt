-- The errors that a call for C answers (errno(3)).
use Rattle.std.specs.Prelude.{ℕ, Result, Ok, Err}
use Rattle.stop_history.specs.declared.refused.Refused.{Refused}
use Rattle.stop_history.specs.declared.refused.Refused.TheVariants as refused
use Rattle.c_interface.specs.declared.error.Error.{Error}
use Rattle.c_interface.specs.declared.error.Error.TheVariants as error

-- the numbers of <asm-generic/errno-base.h> and <asm-generic/errno.h>
abbrev pub error_number : Error → ℕ
error_number error.EPERM = 1
error_number error.ESRCH = 3
error_number error.EIO = 5
error_number error.EBADF = 9
error_number error.ECHILD = 10
error_number error.EAGAIN = 11
error_number error.ENOMEM = 12
error_number error.EFAULT = 14
error_number error.EBUSY = 16
error_number error.EEXIST = 17
error_number error.EINVAL = 22
error_number error.ENOSPC = 28
error_number error.EOVERFLOW = 75
error_number error.EALREADY = 114

-- what a refusal of the board is for C
abbrev pub error_of : Refused → Error
error_of refused.NoRow = error.EINVAL
error_of refused.Unborn = error.ECHILD
error_of refused.NotRunning = error.EALREADY
error_of refused.NotTaken = error.EALREADY
error_of refused.NotNext = error.EINVAL
error_of refused.Full = error.EOVERFLOW
error_of refused.NotWaitable = error.EAGAIN
error_of refused.NotClaimed = error.ESRCH
error_of refused.NotHolder = error.EPERM
error_of (refused.GroupAlive row) = error.EBUSY

-- an answer of the board, with the error that its refusal is
abbrev pub answered : {T : Type 0} → Result T Refused → Result T Error
answered (Ok answer) = Ok answer
answered (Err refusal) = Err (error_of refusal)
