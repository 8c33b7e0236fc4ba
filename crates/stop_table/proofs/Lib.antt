-- Other crates cite the modules that are `pub`. The others prove what this crate ensures.
mod Allowed
mod Alone
pub mod Answering
mod Births
mod Calls
pub mod Counting
mod Dealing
pub mod Entries
mod Exchanges
mod Groups
pub mod HeldRows
mod Meets
mod Moves
mod NewHandles
mod Numbers
mod OpeningTable
pub mod Own
mod Scanning
mod Starting
mod Telling
mod Tracees
mod Tracers
mod Turning
pub mod Walking
pub mod Written
