pub mod Boards
pub mod Edited
pub mod Moves
pub mod Standing
