pub mod Beginnings
pub mod Cards
pub mod FormLaws
pub mod LineLaws
pub mod Lines
pub mod Splits
