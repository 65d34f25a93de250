pub mod Frames
pub mod Coefficients
pub mod Working
pub mod Machine
pub mod Stacks
pub mod Workbenches
pub mod Tails
pub mod Drafts
