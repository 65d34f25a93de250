pub mod Rings
pub mod Orders
pub mod Writings
