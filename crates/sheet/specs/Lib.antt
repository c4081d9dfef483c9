pub mod Asked
pub mod Accepting
pub mod Shown
pub mod Read
pub mod Texts
