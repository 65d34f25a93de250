pub mod Product
pub mod Laws
pub mod Ring
pub mod Model
pub mod Degrees
