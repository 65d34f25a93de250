pub mod State
pub mod History
pub mod Law
