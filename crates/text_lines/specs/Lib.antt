pub mod Keywords
pub mod Lines
pub mod Numbers
pub mod Ranges
pub mod Words
