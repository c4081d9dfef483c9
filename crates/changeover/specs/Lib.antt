pub mod Rows
pub mod Table
pub mod Kinds
pub mod Rules
pub mod Setups
pub mod Laws
pub mod Leasts
