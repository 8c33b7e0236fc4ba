pub mod Guesses
pub mod LinesBack
pub mod ReadBack
pub mod RowsSpelled
pub mod Tables
pub mod Written
