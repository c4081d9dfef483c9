pub mod Limits
pub mod Jobs
pub mod Shown
pub mod Orders
pub mod Readings
pub mod WhiteTrees
pub mod GreyTrees
