pub mod CommandLines
pub mod Commands
pub mod ExploredFiles
pub mod Matches
pub mod Names
pub mod PlainWords
pub mod PrintsOutcomes
pub mod Runs
