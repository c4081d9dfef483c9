pub mod Finds
pub mod Halving
pub mod Turning
pub mod Runs
pub mod Lates
pub mod Fillings
pub mod Crowds
pub mod Walks
