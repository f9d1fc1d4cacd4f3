pub mod Cards
pub mod Forms
pub mod Lines
pub mod Refusals
pub mod Splits
