pub mod Chosen
pub mod Writings
