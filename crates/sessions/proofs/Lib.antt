pub mod Covers
pub mod Runs
pub mod Tours
