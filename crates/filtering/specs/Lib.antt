pub mod Ends
pub mod Sets
pub mod Edges
pub mod Pairs
