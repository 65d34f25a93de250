pub mod Letters
pub mod Orders
pub mod Models
pub mod Images
pub mod Weights
pub mod Laws
