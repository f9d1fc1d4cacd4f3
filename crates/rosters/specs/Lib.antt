pub mod Coded
pub mod Kept
pub mod Marks
pub mod Rosters
