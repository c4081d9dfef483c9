pub mod Bytes
pub mod Records
pub mod Chains
pub mod Answers
