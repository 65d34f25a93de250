pub mod Faults
pub mod Coding
pub mod Numerals
pub mod NumeralLaws
pub mod Numbering
pub mod RoundTrips
