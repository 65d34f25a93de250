pub mod Terms
pub mod Relations
pub mod Entries
pub mod Theorems
pub mod Examples
