pub mod Declaring
pub mod Keeping
pub mod Law
pub mod Relating
