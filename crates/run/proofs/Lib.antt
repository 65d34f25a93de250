pub mod Splice
pub mod Entering
pub mod Loading
pub mod Stepping
pub mod Running
pub mod Making
pub mod Calling
pub mod Standing
