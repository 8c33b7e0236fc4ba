pub mod Calls
pub mod ErrorNames
pub mod Event
pub mod Names
pub mod Options
pub mod SignalNames
pub mod Syscalls
pub mod WaitFlags
