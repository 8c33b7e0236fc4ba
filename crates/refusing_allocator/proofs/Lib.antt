mod Counting
pub mod Lists
