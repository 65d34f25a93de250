pub mod Answering
pub mod Reading
pub mod Valuing
pub mod Stacking
pub mod Stepping
pub mod Running
pub mod Tailing
