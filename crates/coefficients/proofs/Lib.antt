pub mod Reading
pub mod RoundTrips
pub mod Spelling
