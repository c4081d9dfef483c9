pub mod Chosen
pub mod Chosens
pub mod Names
pub mod Words
