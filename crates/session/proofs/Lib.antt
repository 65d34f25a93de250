pub mod Links
pub mod Splitting
