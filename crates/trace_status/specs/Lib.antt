pub mod SyscallInfo
pub mod WaitStatus
