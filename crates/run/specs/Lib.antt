pub mod Faults
pub mod Pieces
pub mod Entries
pub mod Relations
pub mod Step
pub mod Calls
pub mod Dones
pub mod Post
