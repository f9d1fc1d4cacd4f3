pub mod LentWords
pub mod Windows
