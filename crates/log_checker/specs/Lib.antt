pub mod CheckedLog
pub mod LoggedCall
pub mod LogOrder
pub mod Places
pub mod Search
pub mod StateKey
pub mod TurnAt
pub mod Verdict
