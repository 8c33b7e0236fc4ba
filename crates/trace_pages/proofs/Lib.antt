pub mod Among
mod Entries
mod Places
mod Counts
mod Changes
pub mod Runs
mod Buffers
pub mod Memories
