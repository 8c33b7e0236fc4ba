-- Other crates cite the modules that are `pub`. The others prove what this crate ensures.
mod Elements
pub mod Handles
mod HeldRecord
pub mod Lists
mod CallSets
