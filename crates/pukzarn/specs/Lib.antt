pub mod Call
pub mod Opening
pub mod Scripts
pub mod Slot
