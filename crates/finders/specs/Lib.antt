pub mod Finder
pub mod Found
pub mod Limits
pub mod Places
pub mod Refusals
