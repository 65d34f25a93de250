pub mod Fits
pub mod State
pub mod Turns
pub mod Answers
pub mod Results
pub mod Transcript
