-- Other crates cite the modules that are `pub`. The others prove what this crate ensures.
pub mod Keeping
mod Places
mod Points
mod Rests
mod Retries
mod Scans
pub mod Settled
mod Told
mod Tries
pub mod Turns
