pub mod Inversions
pub mod Compare
pub mod Rows
pub mod Spelled
pub mod Growth
pub mod Terms
pub mod Faults
pub mod Laws
