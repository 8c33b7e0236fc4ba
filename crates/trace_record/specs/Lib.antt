pub mod Content
pub mod Death
pub mod Resume
pub mod Stop
pub use Rattle.trace_status.specs.WaitStatus
