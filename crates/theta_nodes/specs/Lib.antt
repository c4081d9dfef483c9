pub mod White
pub mod Grey
pub mod Leaves
