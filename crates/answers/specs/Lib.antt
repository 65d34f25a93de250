pub mod Faults
pub mod Text
pub mod Answers
pub mod Laws
pub mod Examples
