pub mod Bits
pub mod Gathering
pub mod Listed
pub mod Ranges
pub mod WordOrder
