pub mod Refusals
pub mod Tree
pub mod Lifts
pub mod Runs
