pub mod Command
pub mod File
pub mod Grammar
pub mod Replay
pub mod Replies
pub mod Spelling
pub mod StateName
