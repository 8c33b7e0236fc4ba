-- Other crates cite the modules that are `pub`. The others prove the laws of this crate.
pub mod AtomicSteps
pub mod Births
pub mod Children
mod Claims
pub mod Events
mod Families
pub mod Going
pub mod LegalWords
pub mod Longer
pub mod Over
mod Places
pub mod Rosters
pub mod Settled
pub mod Standing
pub mod States
pub mod Words
