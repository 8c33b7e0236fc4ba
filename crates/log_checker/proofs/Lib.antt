pub mod Dues
pub mod Keys
pub mod OneMore
pub mod Searching
pub mod States
pub mod Tried
