pub mod Coding
pub mod Counting
pub mod Filing
pub mod Sheets
