pub mod Chains
pub mod Leasts
pub mod Walks
pub mod Places
pub mod Tables
pub mod Exactly
