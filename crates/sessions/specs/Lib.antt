pub mod Cover
pub mod FindAll
pub mod Tours
