pub mod Faults
pub mod Terms
pub mod Kept
pub mod Falling
pub mod Post
pub mod Lists
pub mod Search
