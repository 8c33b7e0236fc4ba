pub mod Arguments
pub mod CaseText
pub mod CommandLine
pub mod Explored
pub mod Failure
pub mod Job
pub mod Run
pub mod Shown
