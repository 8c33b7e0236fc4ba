pub mod RawBoxes
pub mod Walks
