pub mod Comparing
pub mod Bytes
pub mod Ending
pub mod Packing
pub mod Weighing
pub mod Steps
