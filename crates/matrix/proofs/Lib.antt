pub mod Searches
pub mod Matrices
