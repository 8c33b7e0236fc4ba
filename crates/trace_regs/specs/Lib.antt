pub mod Outcome
pub mod Regs
