pub mod Boards
pub mod Lines
pub mod Metres
pub mod Orders
pub mod Refusals
