pub mod Counts
pub mod Faults
pub mod Declare
pub mod Presentations
