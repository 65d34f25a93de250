pub mod Modulus
pub mod Ring
pub mod Model
