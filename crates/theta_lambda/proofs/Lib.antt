pub mod Bests
pub mod Smalls
pub mod GreyTrees
pub mod Tellings
