pub mod Keeps
pub mod Memory
pub mod Ordered
pub mod Places
pub mod Searching
