pub mod Filling
pub mod Ranking
pub mod Rising
pub mod Casting
