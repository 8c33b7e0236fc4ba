pub mod FlatMemory
pub mod Memory
pub mod Pages
