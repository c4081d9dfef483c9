pub mod Fines
pub mod Alike
pub mod Counts
pub mod Ranks
pub mod Rows
pub mod Whites
pub mod Greys
