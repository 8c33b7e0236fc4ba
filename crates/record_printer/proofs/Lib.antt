pub mod Arrival
pub mod CallParts
pub mod Early
pub mod Finishing
mod FoldedLines
pub mod Folders
pub mod Following
pub mod HexDigits
mod Indices
pub mod Joined
pub mod KeptRows
pub mod Options
pub mod Pieces
mod PlacedLines
mod QuotedBack
pub mod RowLines
mod Starts
pub mod Stops
pub mod Writes
