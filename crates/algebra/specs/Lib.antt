pub mod Calls
pub mod Decide
pub mod Faults
pub mod Meaning
pub mod Overlaps
pub mod Scans
pub mod Searching
pub mod Verdicts
